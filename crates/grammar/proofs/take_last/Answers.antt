use Rattle.std.proofs.Common.{refl, arith}
use Rattle.grammar.proofs.StackLaws.{down_over}
use Rattle.grammar.proofs.Common.{last_steps}
use Rattle.grammar.proofs.take_last.Goals as goal

pub returns-then-depth-eq0 : goal.returns-then-depth-eq0
returns-then-depth-eq0 c = let a = c.args in down_over a.frames.now a.depth a.class a.depth (omega arith) refl

pub returns-then-is_last : goal.returns-then-is_last
returns-then-is_last c = let a = c.args in last_steps a.frames.now a.depth a.class _ (omega arith) (c.is_last.ensures c.if-is_last.true)
