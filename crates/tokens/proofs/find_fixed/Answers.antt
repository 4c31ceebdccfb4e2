use Rattle.paper.specs.Bytes.{bytes}
use Rattle.paper.specs.Words.{word, statements, read_operators, functions}
use Rattle.tokens.specs.Tables.{end_to_end, read_words, fixed_words}
use Rattle.tokens.proofs.find_fixed.Goals as goal

pub find-requires : goal.find-requires
unfolding fixed_words end_to_end read_words statements read_operators functions word bytes
find-requires c = c.requires

pub returns : goal.returns
unfolding fixed_words end_to_end read_words statements read_operators functions word bytes
returns c = c.find.ensures
