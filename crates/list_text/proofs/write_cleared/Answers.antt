use Rattle.list_text.proofs.TextLaws.{cleared_more, cleared_all}
use Rattle.list_text.proofs.write_cleared.Goals as goal

pub loop-i-preserved : goal.loop-i-preserved
loop-i-preserved c = let l = c.loop-i in let a = c.args in cleared_more a.out.now a.n a.src.now l.i c.clear.result l.out _ c.loop-i-test.true l.invariant c.clear.ensures c.put.ensures

pub returns : goal.returns
returns c = let a = c.args in cleared_all a.out.now a.n a.src.now c.loop-i.i c.loop-i.out c.loop-i-test.false c.loop-i.invariant
