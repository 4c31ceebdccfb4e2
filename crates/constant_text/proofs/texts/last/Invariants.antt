-- Without useless zeros, the digits up to `end` are all.
use Prim.Native.Nat.{◌≤◌}
use mathlib.Core.Path.{◌≡◌}
use lib.ListN.{drop}
use lib.Seq.{slice}
use Rattle.paper.specs.Constants.{trimmed}
use Rattle.constant_text.specs.Texts.{digits_here}
use Rattle.constant_text.proofs.texts.last.Given as goal

abbrev pub invariant-loop-end : goal.invariant-loop-end
invariant-loop-end l = (l.point ≤ l.end) × (trimmed (slice l.point l.end (digits_here l.six 0)) ≡ trimmed (drop l.point (digits_here l.six 0)))
