use mathlib.Core.Path.{◌≡◌}
use Prim.Native.Nat.{◌+◌, ◌*◌, ◌-◌}
use lib.ListN.{length}
use Rattle.grammar.specs.Stack.{stack}
use Rattle.enter_item.specs.Says.{env_of}
use Rattle.enter_statement.specs.Moves.{Following}
use Rattle.enter_statement.proofs.follow.Given as goal

abbrev pub invariant-loop-p : goal.invariant-loop-p
invariant-loop-p l = (length l.frames ≡ length l.initial.frames) × Following (stack l.initial.frames l.wanted) (env_of l.text) l.initial.q l.initial.draft (stack l.frames l.depth) l.depth l.q l.draft

abbrev pub decreases-loop-p : goal.decreases-loop-p
decreases-loop-p l = l.depth + 9 * (length l.text.part.now - l.q.at)
