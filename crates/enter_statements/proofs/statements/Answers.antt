use native.Mathlib.Omega.{arith}
use mathlib.Core.Path.{ap, ◌∙◌}
use Rattle.std.proofs.Common.{Ok}
use Rattle.std.proofs.lemmas.Result.{err_from_is_err_and}
use Rattle.enter_statements.specs.LineLaws.{tells_more, tells_done, tells_stop}
use Rattle.enter_statements.proofs.statements.Goals as goal

pub loop-next-smaller : goal.loop-next-smaller
loop-next-smaller c = let more = c.statement.ensures.more _ (c.in_ok-next.was ∙ ap Ok c.in-More.is) in omega (arith, more.ahead, more.asks.within)

pub loop-next-preserved : goal.loop-next-preserved
loop-next-preserved c = let more = c.statement.ensures.more _ (c.in_ok-next.was ∙ ap Ok c.in-More.is) in (more.asks, λ n r b. c.loop-next.invariant.1 n r (tells_more more b))

pub returns-in-Last : goal.returns-in-Last
returns-in-Last c = c.loop-next.invariant.1 _ _ (tells_done (c.statement.ensures.last _ (c.in_ok-next.was ∙ ap Ok c.in-Last.is)))

pub returns-in_err-next : goal.returns-in_err-next
returns-in_err-next c =
    let p = err_from_is_err_and c.from_residual.result c.from_residual.ensures.1 in
    rw (p.1, p.2) (c.loop-next.invariant.1 _ _ (tells_stop _ _ (c.statement.ensures.stop _ c.in_err-next.was)))
