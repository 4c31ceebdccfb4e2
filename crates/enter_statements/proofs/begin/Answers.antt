use native.Mathlib.Omega.{arith}
use Rattle.enter_statements.specs.StatementLaws.{began_word, began_name}
use Rattle.enter_statements.proofs.begin.Goals as goal

pub returns-then-seen-lt-REMARK : goal.returns-then-seen-lt-REMARK
returns-then-seen-lt-REMARK c = let pre = c.requires in let class = pre.2 c.if-seen-lt-REMARK.true in began_name pre.0 pre.1.sees (omega (arith, class.0, pre.1.class)) (omega (arith, class.1, pre.1.class)) c.name_number-number.ensures c.put.ensures c.put-then-seen-lt-REMARK.ensures c.write_variable-size.ensures

pub returns-else-seen-lt-REMARK : goal.returns-else-seen-lt-REMARK
returns-else-seen-lt-REMARK c = let pre = c.requires in began_word pre.0 pre.1.sees (omega (arith, c.if-seen-lt-REMARK.false, pre.1.class)) pre.1.own c.put.ensures c.put-else-seen-lt-REMARK.ensures
