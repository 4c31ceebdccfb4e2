use Prim.Native.Nat.{◌-◌}
use lib.ListN.{length}
use Rattle.enter_item.specs.Says.{Answer, Mem, env_of, Asks}
use Rattle.enter_statements.specs.Lines.{Tells}
use Rattle.enter_statements.proofs.statements.Given as goal

abbrev pub invariant-loop-next : goal.invariant-loop-next
invariant-loop-next l =
    Asks (env_of l.text) l.p l.draft
    × ((n : Mem) (r : Answer) → Tells (env_of l.text) l.p l.draft n r → Tells (env_of l.text) l.initial.p l.initial.draft n r)

abbrev pub decreases-loop-next : goal.decreases-loop-next
decreases-loop-next l = length l.text.part.now - l.p.at
