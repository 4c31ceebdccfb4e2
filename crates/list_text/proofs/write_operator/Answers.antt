use native.Mathlib.Omega.{arith}
use Rattle.list_text.proofs.TextLaws.{short_operator, sign_text, operator_words}
use mathlib.Core.Path.{ap}
use mathlib.Core.Bool.{not}
use Rattle.list_text.proofs.write_operator.Goals as goal

pub returns-then-not-is_word_operator : goal.returns-then-not-is_word_operator
returns-then-not-is_word_operator c = sign_text c.args.token c.args.names.now c.is_word_operator.ensures (ap not c.if-not-is_word_operator.true) (rw c.operator_part-part.ensures at c.write_spelling.ensures)

pub overflow_add-n-3 : goal.overflow_add-n-3
overflow_add-n-3 c = omega (arith, short_operator c.args.token c.args.names.now (rw c.operator_part-part.ensures at c.write_spelling-size.ensures))

pub overflow_add-result : goal.overflow_add-result
overflow_add-result c = omega (arith, short_operator c.args.token c.args.names.now (rw c.operator_part-part.ensures at c.write_spelling-size.ensures))

pub returns : goal.returns
returns c = operator_words c.args.token c.args.names.now c.is_word_operator.ensures (ap not c.if-not-is_word_operator.false) c.put.ensures (rw c.operator_part-part.ensures at c.write_spelling-size.ensures) c.put-2.ensures
