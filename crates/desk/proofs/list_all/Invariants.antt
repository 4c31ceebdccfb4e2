-- `list_all` is safe and ends: the place of the next line grows, and is below 2 ^ 64.
use Rattle.std.proofs.Common.{◌≡◌, ◌-◌, length}
use Rattle.desk.proofs.list_all.Given as goal

abbrev pub invariant-loop-stored : goal.invariant-loop-stored
invariant-loop-stored g l = length l.out ≡ length l.initial.out

abbrev pub decreases-loop-stored : goal.decreases-loop-stored
decreases-loop-stored g l = 18446744073709551615 - l.at
