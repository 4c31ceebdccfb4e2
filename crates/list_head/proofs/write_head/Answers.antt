use Rattle.paper.specs.Line.{line_number}
use Rattle.list_head.proofs.NumberLaws.{direct_head, stored_head}
use Rattle.list_head.proofs.write_head.Goals as goal

pub returns-then-direct : goal.returns-then-direct
returns-then-direct c = let a = c.args in direct_head a.direct (line_number a.line.now) a.out.now c.if-direct.true

pub returns : goal.returns
returns c =
    let a = c.args in
    stored_head a.direct (line_number a.line.now) _ _ _ c.if-direct.false c.write_head.ensures
