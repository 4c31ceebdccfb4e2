-- `write_digits` meets its contract. The invariant: the digits passed stand in `out`.
use Prim.Native.Nat.{◌≤◌}
use mathlib.Core.Path.{◌≡◌}
use lib.Seq.{slice, sets}
use Rattle.constant_text.specs.Texts.{digits_here}
use Rattle.constant_text.proofs.texts.write_digits.Given as goal

abbrev pub invariant-loop-i : goal.invariant-loop-i
invariant-loop-i l = (l.from ≤ l.i) × (l.i ≤ l.to) × (l.out ≡ sets l.initial.out l.n (slice l.from l.i (digits_here l.six 0)))
