use Rattle.std.proofs.Common.{arith}
use Rattle.names_form.proofs.Walking.{ends_here, ends_later, ends_there}
use Rattle.names_form.proofs.table.first_size.Goals as goal

pub returns-then-b-ge128 : goal.returns-then-b-ge128
returns-then-b-ge128 c = (ends_here _ _ c.loop-i.invariant c.loop-i-test.true c.if-b-ge128.true, omega arith)

pub loop-i-preserved : goal.loop-i-preserved
loop-i-preserved c = ends_later _ _ c.loop-i.invariant c.loop-i-test.true c.if-b-ge128.false

pub returns : goal.returns
returns c = (ends_there _ _ c.loop-i.invariant (omega arith) (omega arith), omega arith)
