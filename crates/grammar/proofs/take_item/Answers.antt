use Rattle.std.proofs.Common.{refl, ◌∙◌, arith}
use Rattle.grammar.proofs.StackLaws.{down_left, down_refused, down_over, down_took}
use Rattle.grammar.proofs.take_item.Goals as goal

pub loop-at-init : goal.loop-at-init
loop-at-init c = (refl, refl)

pub returns-in-Took : goal.returns-in-Took
returns-in-Took c = let a = c.args in down_took a.frames.now a.depth a.class c.loop-at.at (omega arith) c.loop-at.auto.at c.loop-at.invariant.1 (rw c.loop-at.invariant.0 at (c.act_at.ensures.takes _ c.in-Took.is))

pub loop-at-preserved : goal.loop-at-preserved
loop-at-preserved c = let a = c.args in let left = c.act_at.ensures.leaves c.in-Left.is in (left.1 ∙ c.loop-at.invariant.0, down_left a.frames.now a.depth a.class c.loop-at.at (omega arith) c.loop-at.invariant.1 (rw c.loop-at.invariant.0 at left.0))

pub returns-in-Refused : goal.returns-in-Refused
returns-in-Refused c = let a = c.args in down_refused a.frames.now a.depth a.class c.loop-at.at (omega arith) c.loop-at.invariant.1 (rw c.loop-at.invariant.0 at (c.act_at.ensures.refuses c.in-Refused.is))

pub returns : goal.returns
returns c = let a = c.args in down_over a.frames.now a.depth a.class c.loop-at.at (omega arith) c.loop-at.invariant.1
