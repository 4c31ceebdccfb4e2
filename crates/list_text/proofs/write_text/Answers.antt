use native.Mathlib.Omega.{arith}
use Rattle.list_text.proofs.TextLaws.{short_text, raw_text}
use Rattle.list_text.proofs.write_text.Goals as goal

pub overflow_add-n : goal.overflow_add-n
overflow_add-n c = omega (arith, short_text c.args.token c.write_word-word.ensures)

pub overflow_add-result : goal.overflow_add-result
overflow_add-result c = omega (arith, short_text c.args.token c.write_word-word.ensures)

pub returns : goal.returns
returns c = let a = c.args in raw_text a.token a.n a.at a.size c.write_word-word.result a.line.now c.requires.0 c.write_word-word.ensures c.copy.ensures
