use Rattle.paper.specs.Bytes.{bytes, same}
use Rattle.paper.specs.Words.{word, read_operators, functions, placed_operators, operators, find_word}
use Rattle.tokens.proofs.Symbols.{sign_at, no_sign}
use Rattle.tokens.specs.Tables.{token_found}
use Rattle.tokens.proofs.sign.Goals as goal

pub returns-in-44 : goal.returns-in-44
unfolding token_found find_word operators read_operators functions placed_operators word bytes same
returns-in-44 c = sign_at 44 c.in-44.is

pub returns-in-58 : goal.returns-in-58
unfolding token_found find_word operators read_operators functions placed_operators word bytes same
returns-in-58 c = sign_at 58 c.in-58.is

pub returns-in-59 : goal.returns-in-59
unfolding token_found find_word operators read_operators functions placed_operators word bytes same
returns-in-59 c = sign_at 59 c.in-59.is

pub returns-in-35 : goal.returns-in-35
unfolding token_found find_word operators read_operators functions placed_operators word bytes same
returns-in-35 c = sign_at 35 c.in-35.is

pub returns-in-60 : goal.returns-in-60
unfolding token_found find_word operators read_operators functions placed_operators word bytes same
returns-in-60 c = sign_at 60 c.in-60.is

pub returns-in-62 : goal.returns-in-62
unfolding token_found find_word operators read_operators functions placed_operators word bytes same
returns-in-62 c = sign_at 62 c.in-62.is

pub returns-in-61 : goal.returns-in-61
unfolding token_found find_word operators read_operators functions placed_operators word bytes same
returns-in-61 c = sign_at 61 c.in-61.is

pub returns-in-94 : goal.returns-in-94
unfolding token_found find_word operators read_operators functions placed_operators word bytes same
returns-in-94 c = sign_at 94 c.in-94.is

pub returns-in-42 : goal.returns-in-42
unfolding token_found find_word operators read_operators functions placed_operators word bytes same
returns-in-42 c = sign_at 42 c.in-42.is

pub returns-in-43 : goal.returns-in-43
unfolding token_found find_word operators read_operators functions placed_operators word bytes same
returns-in-43 c = sign_at 43 c.in-43.is

pub returns-in-45 : goal.returns-in-45
unfolding token_found find_word operators read_operators functions placed_operators word bytes same
returns-in-45 c = sign_at 45 c.in-45.is

pub returns-in-47 : goal.returns-in-47
unfolding token_found find_word operators read_operators functions placed_operators word bytes same
returns-in-47 c = sign_at 47 c.in-47.is

pub returns-in-40 : goal.returns-in-40
unfolding token_found find_word operators read_operators functions placed_operators word bytes same
returns-in-40 c = sign_at 40 c.in-40.is

pub returns-in-41 : goal.returns-in-41
unfolding token_found find_word operators read_operators functions placed_operators word bytes same
returns-in-41 c = sign_at 41 c.in-41.is

pub returns-in_default : goal.returns-in_default
unfolding token_found find_word operators read_operators functions placed_operators word bytes same
returns-in_default c = no_sign c.in_default.in_default-own.rest.0.0.0.0.0.0.0.0.0.0.0.0.0.1 c.in_default.in_default-own.rest.0.0.0.0.0.0.0.0.0.0.0.0.1 c.in_default.in_default-own.rest.0.0.0.0.0.0.0.0.0.0.0.1 c.in_default.in_default-own.rest.0.0.0.0.0.0.0.0.0.0.1 c.in_default.in_default-own.rest.0.0.0.0.0.0.0.0.0.1 c.in_default.in_default-own.rest.0.0.0.0.0.0.0.0.1 c.in_default.in_default-own.rest.0.0.0.0.0.0.0.1 c.in_default.in_default-own.rest.0.0.0.0.0.0.1 c.in_default.in_default-own.rest.0.0.0.0.0.1 c.in_default.in_default-own.rest.0.0.0.0.1 c.in_default.in_default-own.rest.0.0.0.1 c.in_default.in_default-own.rest.0.0.1 c.in_default.in_default-own.rest.0.1 c.in_default.in_default-own.rest.1
