use mathlib.Core.Path.{refl}
use Rattle.paper.specs.Bytes.{bytes}
use Rattle.paper.specs.Words.{statements, read_operators, functions, word}
use Rattle.tokens.specs.Tables.{fixed_words, end_to_end, read_words}
use Rattle.list_text.proofs.TextLaws.{spelled}
use Rattle.list_text.proofs.put_spelling.Goals as goal

pub returns : goal.returns
unfolding fixed_words end_to_end read_words statements read_operators functions word bytes
returns c = spelled c.spelling-text.ensures c.write_cleared.ensures refl
