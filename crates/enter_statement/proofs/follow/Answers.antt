use native.Mathlib.Omega.{arith}
use mathlib.Core.Path.{◌∙◌, ap}
use Rattle.std.proofs.Common.{Ok}
use Rattle.enter_statement.specs.Moves.{following_next}
use Rattle.enter_statement.proofs.follow.Goals as goal

pub loop-p-smaller : goal.loop-p-smaller
loop-p-smaller c = let on = c.advance.ensures.on _ _ (c.in_ok-p.was ∙ ap Ok c.in-On.is) in omega (arith, on.1, on.0.asks.within, c.loop-p.invariant.1.asks.within)

pub loop-p-preserved : goal.loop-p-preserved
loop-p-preserved c = let loop = c.loop-p in (c.advance.auto.frames ∙ loop.invariant.0, following_next loop.invariant.1 c.advance.ensures (c.in_ok-p.was ∙ ap Ok c.in-On.is))
