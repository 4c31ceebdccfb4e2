-- The invariant: the walk over `rest`, from its offset on, comes to where the whole walk comes.
use mathlib.Core.Path.{◌≡◌}
use Prim.Native.Nat.{◌+◌, ◌-◌, ◌≤◌}
use lib.ListN.{length}
use Rattle.store.specs.Walks.{walked_on}
use Rattle.store.proofs.Walk.{walking, onward}
use Rattle.store.proofs.first_not_below.Given as goal

abbrev pub invariant-loop-size : goal.invariant-loop-size
invariant-loop-size l = (length l.rest ≤ length l.lines) × (l.count + length l.rest ≤ length l.lines) × (onward (length l.lines - length l.rest) l.count l.least l.number l.rest ≡ walked_on (walking l.begin l.initial.count l.initial.least) l.number l.lines)

abbrev pub decreases-loop-size : goal.decreases-loop-size
decreases-loop-size l = length l.rest
