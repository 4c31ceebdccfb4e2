use Rattle.paper.specs.Bytes.{bytes, same}
use Rattle.paper.specs.Tokens.{found_or, read_as}
use Rattle.paper.specs.Words.{word, read_operators, functions, placed_operators, operators, find_word, word_of}
use Rattle.tokens.proofs.Keys.{at_key}
use Rattle.tokens.proofs.Classes.{read_else}
use Rattle.tokens.proofs.read_as.Goals as goal

pub returns-in-45 : goal.returns-in-45
unfolding read_as found_or find_word word_of operators read_operators functions placed_operators word bytes same
returns-in-45 c = at_key read_as 0x2d c.in-45.is

pub returns-in-46 : goal.returns-in-46
unfolding read_as found_or find_word word_of operators read_operators functions placed_operators word bytes same
returns-in-46 c = at_key read_as 0x2e c.in-46.is

pub returns-in-47 : goal.returns-in-47
unfolding read_as found_or find_word word_of operators read_operators functions placed_operators word bytes same
returns-in-47 c = at_key read_as 0x2f c.in-47.is

pub returns-in-48 : goal.returns-in-48
unfolding read_as found_or find_word word_of operators read_operators functions placed_operators word bytes same
returns-in-48 c = at_key read_as 0x30 c.in-48.is

pub returns-in-49 : goal.returns-in-49
unfolding read_as found_or find_word word_of operators read_operators functions placed_operators word bytes same
returns-in-49 c = at_key read_as 0x31 c.in-49.is

pub returns-in-50 : goal.returns-in-50
unfolding read_as found_or find_word word_of operators read_operators functions placed_operators word bytes same
returns-in-50 c = at_key read_as 0x32 c.in-50.is

pub returns-in-51 : goal.returns-in-51
unfolding read_as found_or find_word word_of operators read_operators functions placed_operators word bytes same
returns-in-51 c = at_key read_as 0x33 c.in-51.is

pub returns-in-52 : goal.returns-in-52
unfolding read_as found_or find_word word_of operators read_operators functions placed_operators word bytes same
returns-in-52 c = at_key read_as 0x34 c.in-52.is

pub returns-in-53 : goal.returns-in-53
unfolding read_as found_or find_word word_of operators read_operators functions placed_operators word bytes same
returns-in-53 c = at_key read_as 0x35 c.in-53.is

pub returns-in-54 : goal.returns-in-54
unfolding read_as found_or find_word word_of operators read_operators functions placed_operators word bytes same
returns-in-54 c = at_key read_as 0x36 c.in-54.is

pub returns-in-55 : goal.returns-in-55
unfolding read_as found_or find_word word_of operators read_operators functions placed_operators word bytes same
returns-in-55 c = at_key read_as 0x37 c.in-55.is

pub returns-in-56 : goal.returns-in-56
unfolding read_as found_or find_word word_of operators read_operators functions placed_operators word bytes same
returns-in-56 c = at_key read_as 0x38 c.in-56.is

pub returns-in-57 : goal.returns-in-57
unfolding read_as found_or find_word word_of operators read_operators functions placed_operators word bytes same
returns-in-57 c = at_key read_as 0x39 c.in-57.is

pub returns-in-58 : goal.returns-in-58
unfolding read_as found_or find_word word_of operators read_operators functions placed_operators word bytes same
returns-in-58 c = at_key read_as 0x3a c.in-58.is

pub returns-in-59 : goal.returns-in-59
unfolding read_as found_or find_word word_of operators read_operators functions placed_operators word bytes same
returns-in-59 c = at_key read_as 0x3b c.in-59.is

pub returns-in-60 : goal.returns-in-60
unfolding read_as found_or find_word word_of operators read_operators functions placed_operators word bytes same
returns-in-60 c = at_key read_as 0x3c c.in-60.is

pub returns-in_default : goal.returns-in_default
unfolding read_as found_or find_word word_of operators read_operators functions placed_operators word bytes same
returns-in_default c = read_else c.args.token c.in_default.in_default-own.rest
