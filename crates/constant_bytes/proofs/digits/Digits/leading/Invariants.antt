-- The digits passed are all zero, and those from here on have the rest of the run.
use Prim.Native.Nat.{◌+◌}
use mathlib.Core.Path.{◌≡◌}
use lib.ListN.{drop}
use Rattle.paper.specs.Bytes.{run}
use Rattle.constant_bytes.specs.Numerals.{digits_in, nought?}
use Rattle.constant_bytes.proofs.digits.Digits.leading.Given as goal

abbrev pub invariant-loop-i : goal.invariant-loop-i
invariant-loop-i l = run nought? (digits_in l.self.text.now l.self.numeral) ≡ l.i + run nought? (drop l.i (digits_in l.self.text.now l.self.numeral))
