use Rattle.std.proofs.Common.{arith}
use Rattle.names_numbered.specs.Standing.{start, start_within}
use Rattle.names_numbered.proofs.Walking.{start_more, start_end}
use Rattle.names_numbered.proofs.start_of.Goals as goal

pub overflow_add-from : goal.overflow_add-from
unfolding start
overflow_add-from c = omega (arith, start_more _ _ c.loop-name.invariant _ _ _ c.in-Some.ensures.steps.0 c.in-Some.ensures.steps.1, start_within c.args.number c.args.names.now, c.size-from.ensures, c.well_formed)

pub loop-name-preserved : goal.loop-name-preserved
loop-name-preserved c = rw c.size-from.ensures (start_more _ _ c.loop-name.invariant _ _ _ c.in-Some.ensures.steps.0 c.in-Some.ensures.steps.1)

pub returns : goal.returns
returns c = start_end _ _ c.loop-name.invariant (λ h. (c.in-None.ensures.steps h).0)
