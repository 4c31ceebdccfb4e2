use Rattle.paper.specs.Bytes.{bytes, letter?, same}
use Rattle.paper.specs.Words.{word, read_operators, functions, placed_operators, operators, find_word}
use Rattle.tokens.proofs.Symbols.{pair_at, less_alone, greater_alone, no_pair}
use Rattle.tokens.specs.Tables.{token_found, pair_found}
use Rattle.tokens.proofs.pair.Goals as goal

pub returns-in-61 : goal.returns-in-61
unfolding token_found pair_found find_word letter? operators read_operators functions placed_operators word bytes same
returns-in-61 c = pair_at 60 61 c.in-60.is c.in-61.is

pub returns-in-62-c : goal.returns-in-62-c
unfolding token_found pair_found find_word letter? operators read_operators functions placed_operators word bytes same
returns-in-62-c c = pair_at 60 62 c.in-60.is c.in-62-c.is

pub returns-in_default-c : goal.returns-in_default-c
unfolding token_found pair_found find_word letter? operators read_operators functions placed_operators word bytes same
returns-in_default-c c = less_alone c.in-60.is c.in_default-c.in_default-c-own.rest.0.1 c.in_default-c.in_default-c-own.rest.1

pub returns-in-61-c : goal.returns-in-61-c
unfolding token_found pair_found find_word letter? operators read_operators functions placed_operators word bytes same
returns-in-61-c c = pair_at 62 61 c.in-62.is c.in-61-c.is

pub returns-in_default-c-2 : goal.returns-in_default-c-2
unfolding token_found pair_found find_word letter? operators read_operators functions placed_operators word bytes same
returns-in_default-c-2 c = greater_alone c.in-62.is c.in_default-c-2.in_default-c-2-own.rest.1

pub returns-in_default : goal.returns-in_default
unfolding token_found pair_found find_word letter? operators read_operators functions placed_operators word bytes same
returns-in_default c = no_pair c.args.b c.args.c c.in_default.in_default-own.rest.0.1 c.in_default.in_default-own.rest.1
