use native.Mathlib.Omega.{arith}
use Rattle.list_text.proofs.TextLaws.{short_statement, word_text}
use Rattle.list_text.proofs.write_word.Goals as goal

pub overflow_add-n : goal.overflow_add-n
overflow_add-n c = omega (arith, short_statement c.args.token c.args.names.now (rw c.statement_part.ensures at c.write_spelling-size.ensures))

pub overflow_add-result : goal.overflow_add-result
overflow_add-result c = omega (arith, short_statement c.args.token c.args.names.now (rw c.statement_part.ensures at c.write_spelling-size.ensures))

pub returns : goal.returns
returns c = word_text c.args.token c.args.names.now (rw c.statement_part.ensures at c.write_spelling-size.ensures) c.put.ensures
