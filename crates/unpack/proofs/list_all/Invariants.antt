-- `list_all` is safe and ends: what is left of the store falls.
use Rattle.std.proofs.Common.{◌≡◌, length}
use Rattle.unpack.proofs.list_all.Given as goal

abbrev pub invariant-loop-rest : goal.invariant-loop-rest
invariant-loop-rest g l = length l.out ≡ length l.initial.out

abbrev pub decreases-loop-rest : goal.decreases-loop-rest
decreases-loop-rest g l = length l.rest
