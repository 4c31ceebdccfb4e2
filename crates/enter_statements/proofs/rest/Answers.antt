use Rattle.enter_statements.specs.StatementLaws.{rest_raw, rest_other}
use Rattle.enter_statements.proofs.rest.Goals as goal

pub returns-then-found-eq-REMARK : goal.returns-then-found-eq-REMARK
returns-then-found-eq-REMARK c = let if1 = c.if-found-eq-REMARK.true in rest_raw _ if1 (c.requires.1.raw if1) c.raw.ensures

pub returns-else-found-eq-REMARK : goal.returns-else-found-eq-REMARK
returns-else-found-eq-REMARK c = rest_other _ c.if-found-eq-REMARK.false c.follow.ensures
