use mathlib.Core.List.{[], ◌∷◌}
use Rattle.paper.specs.Bytes.{bytes, among, every}
use Rattle.paper.specs.Words.{word, read_operators, functions}
use Rattle.tokens.specs.Tables.{read_words, begins, first_word, token_found}
use Rattle.tokens.proofs.First.{first_at, no_byte, no_length}
use Rattle.tokens.proofs.tables.first_reserved.Goals as goal

pub returns-in-44 : goal.returns-in-44
unfolding token_found first_word begins read_words read_operators functions word bytes every among
returns-in-44 c = first_at read_words 1 44 c.in-1.is c.in-44.is

pub returns-in-58 : goal.returns-in-58
unfolding token_found first_word begins read_words read_operators functions word bytes every among
returns-in-58 c = first_at read_words 1 58 c.in-1.is c.in-58.is

pub returns-in-59 : goal.returns-in-59
unfolding token_found first_word begins read_words read_operators functions word bytes every among
returns-in-59 c = first_at read_words 1 59 c.in-1.is c.in-59.is

pub returns-in-35 : goal.returns-in-35
unfolding token_found first_word begins read_words read_operators functions word bytes every among
returns-in-35 c = first_at read_words 1 35 c.in-1.is c.in-35.is

pub returns-in-60 : goal.returns-in-60
unfolding token_found first_word begins read_words read_operators functions word bytes every among
returns-in-60 c = first_at read_words 1 60 c.in-1.is c.in-60.is

pub returns-in-62 : goal.returns-in-62
unfolding token_found first_word begins read_words read_operators functions word bytes every among
returns-in-62 c = first_at read_words 1 62 c.in-1.is c.in-62.is

pub returns-in-61 : goal.returns-in-61
unfolding token_found first_word begins read_words read_operators functions word bytes every among
returns-in-61 c = first_at read_words 1 61 c.in-1.is c.in-61.is

pub returns-in-94 : goal.returns-in-94
unfolding token_found first_word begins read_words read_operators functions word bytes every among
returns-in-94 c = first_at read_words 1 94 c.in-1.is c.in-94.is

pub returns-in-42 : goal.returns-in-42
unfolding token_found first_word begins read_words read_operators functions word bytes every among
returns-in-42 c = first_at read_words 1 42 c.in-1.is c.in-42.is

pub returns-in-43 : goal.returns-in-43
unfolding token_found first_word begins read_words read_operators functions word bytes every among
returns-in-43 c = first_at read_words 1 43 c.in-1.is c.in-43.is

pub returns-in-45 : goal.returns-in-45
unfolding token_found first_word begins read_words read_operators functions word bytes every among
returns-in-45 c = first_at read_words 1 45 c.in-1.is c.in-45.is

pub returns-in-47 : goal.returns-in-47
unfolding token_found first_word begins read_words read_operators functions word bytes every among
returns-in-47 c = first_at read_words 1 47 c.in-1.is c.in-47.is

pub returns-in-40 : goal.returns-in-40
unfolding token_found first_word begins read_words read_operators functions word bytes every among
returns-in-40 c = first_at read_words 1 40 c.in-1.is c.in-40.is

pub returns-in-41 : goal.returns-in-41
unfolding token_found first_word begins read_words read_operators functions word bytes every among
returns-in-41 c = first_at read_words 1 41 c.in-1.is c.in-41.is

pub returns-in_default-first : goal.returns-in_default-first
unfolding token_found first_word begins read_words read_operators functions word bytes every among
returns-in_default-first c = no_byte read_words 1 (41 ∷ 40 ∷ 47 ∷ 45 ∷ 43 ∷ 42 ∷ 94 ∷ 61 ∷ 62 ∷ 60 ∷ 35 ∷ 59 ∷ 58 ∷ 44 ∷ []) tt c.args.first c.in-1.is c.in_default-first.in_default-first-own.rest

pub returns-in-84 : goal.returns-in-84
unfolding token_found first_word begins read_words read_operators functions word bytes every among
returns-in-84 c = first_at read_words 2 84 c.in-2.is c.in-84.is

pub returns-in-60-first : goal.returns-in-60-first
unfolding token_found first_word begins read_words read_operators functions word bytes every among
returns-in-60-first c = first_at read_words 2 60 c.in-2.is c.in-60-first.is

pub returns-in-62-first : goal.returns-in-62-first
unfolding token_found first_word begins read_words read_operators functions word bytes every among
returns-in-62-first c = first_at read_words 2 62 c.in-2.is c.in-62-first.is

pub returns-in-79 : goal.returns-in-79
unfolding token_found first_word begins read_words read_operators functions word bytes every among
returns-in-79 c = first_at read_words 2 79 c.in-2.is c.in-79.is

pub returns-in_default-first-2 : goal.returns-in_default-first-2
unfolding token_found first_word begins read_words read_operators functions word bytes every among
returns-in_default-first-2 c = no_byte read_words 2 (79 ∷ 62 ∷ 60 ∷ 84 ∷ []) tt c.args.first c.in-2.is c.in_default-first-2.in_default-first-2-own.rest

pub returns-in-78 : goal.returns-in-78
unfolding token_found first_word begins read_words read_operators functions word bytes every among
returns-in-78 c = first_at read_words 3 78 c.in-3.is c.in-78.is

pub returns-in-65 : goal.returns-in-65
unfolding token_found first_word begins read_words read_operators functions word bytes every among
returns-in-65 c = first_at read_words 3 65 c.in-3.is c.in-65.is

pub returns-in-85 : goal.returns-in-85
unfolding token_found first_word begins read_words read_operators functions word bytes every among
returns-in-85 c = first_at read_words 3 85 c.in-3.is c.in-85.is

pub returns-in-86 : goal.returns-in-86
unfolding token_found first_word begins read_words read_operators functions word bytes every among
returns-in-86 c = first_at read_words 3 86 c.in-3.is c.in-86.is

pub returns-in-76 : goal.returns-in-76
unfolding token_found first_word begins read_words read_operators functions word bytes every among
returns-in-76 c = first_at read_words 3 76 c.in-3.is c.in-76.is

pub returns-in-67 : goal.returns-in-67
unfolding token_found first_word begins read_words read_operators functions word bytes every among
returns-in-67 c = first_at read_words 3 67 c.in-3.is c.in-67.is

pub returns-in-83 : goal.returns-in-83
unfolding token_found first_word begins read_words read_operators functions word bytes every among
returns-in-83 c = first_at read_words 3 83 c.in-3.is c.in-83.is

pub returns-in-82 : goal.returns-in-82
unfolding token_found first_word begins read_words read_operators functions word bytes every among
returns-in-82 c = first_at read_words 3 82 c.in-3.is c.in-82.is

pub returns-in-70 : goal.returns-in-70
unfolding token_found first_word begins read_words read_operators functions word bytes every among
returns-in-70 c = first_at read_words 3 70 c.in-3.is c.in-70.is

pub returns-in-69 : goal.returns-in-69
unfolding token_found first_word begins read_words read_operators functions word bytes every among
returns-in-69 c = first_at read_words 3 69 c.in-3.is c.in-69.is

pub returns-in-73 : goal.returns-in-73
unfolding token_found first_word begins read_words read_operators functions word bytes every among
returns-in-73 c = first_at read_words 3 73 c.in-3.is c.in-73.is

pub returns-in_default-first-3 : goal.returns-in_default-first-3
unfolding token_found first_word begins read_words read_operators functions word bytes every among
returns-in_default-first-3 c = no_byte read_words 3 (73 ∷ 69 ∷ 70 ∷ 82 ∷ 83 ∷ 67 ∷ 76 ∷ 86 ∷ 85 ∷ 65 ∷ 78 ∷ []) tt c.args.first c.in-3.is c.in_default-first-3.in_default-first-3-own.rest

pub returns-in-71 : goal.returns-in-71
unfolding token_found first_word begins read_words read_operators functions word bytes every among
returns-in-71 c = first_at read_words 4 71 c.in-4.is c.in-71.is

pub returns-in-83-first : goal.returns-in-83-first
unfolding token_found first_word begins read_words read_operators functions word bytes every among
returns-in-83-first c = first_at read_words 4 83 c.in-4.is c.in-83-first.is

pub returns-in-84-first : goal.returns-in-84-first
unfolding token_found first_word begins read_words read_operators functions word bytes every among
returns-in-84-first c = first_at read_words 4 84 c.in-4.is c.in-84-first.is

pub returns-in-67-first : goal.returns-in-67-first
unfolding token_found first_word begins read_words read_operators functions word bytes every among
returns-in-67-first c = first_at read_words 4 67 c.in-4.is c.in-67-first.is

pub returns-in-80 : goal.returns-in-80
unfolding token_found first_word begins read_words read_operators functions word bytes every among
returns-in-80 c = first_at read_words 4 80 c.in-4.is c.in-80.is

pub returns-in_default-first-4 : goal.returns-in_default-first-4
unfolding token_found first_word begins read_words read_operators functions word bytes every among
returns-in_default-first-4 c = no_byte read_words 4 (80 ∷ 67 ∷ 84 ∷ 83 ∷ 71 ∷ []) tt c.args.first c.in-4.is c.in_default-first-4.in_default-first-4-own.rest

pub returns-in-71-first : goal.returns-in-71-first
unfolding token_found first_word begins read_words read_operators functions word bytes every among
returns-in-71-first c = first_at read_words 5 71 c.in-5.is c.in-71-first.is

pub returns-in-83-first-2 : goal.returns-in-83-first-2
unfolding token_found first_word begins read_words read_operators functions word bytes every among
returns-in-83-first-2 c = first_at read_words 5 83 c.in-5.is c.in-83-first-2.is

pub returns-in-80-first : goal.returns-in-80-first
unfolding token_found first_word begins read_words read_operators functions word bytes every among
returns-in-80-first c = first_at read_words 5 80 c.in-5.is c.in-80-first.is

pub returns-in_default-first-5 : goal.returns-in_default-first-5
unfolding token_found first_word begins read_words read_operators functions word bytes every among
returns-in_default-first-5 c = no_byte read_words 5 (80 ∷ 83 ∷ 71 ∷ []) tt c.args.first c.in-5.is c.in_default-first-5.in_default-first-5-own.rest

pub returns-in-80-first-2 : goal.returns-in-80-first-2
unfolding token_found first_word begins read_words read_operators functions word bytes every among
returns-in-80-first-2 c = first_at read_words 6 80 c.in-6.is c.in-80-first-2.is

pub returns-in_default-first-6 : goal.returns-in_default-first-6
unfolding token_found first_word begins read_words read_operators functions word bytes every among
returns-in_default-first-6 c = no_byte read_words 6 (80 ∷ []) tt c.args.first c.in-6.is c.in_default-first-6.in_default-first-6-own.rest

pub returns-in_default : goal.returns-in_default
unfolding token_found first_word begins read_words read_operators functions word bytes every among
returns-in_default c = no_length read_words (6 ∷ 5 ∷ 4 ∷ 3 ∷ 2 ∷ 1 ∷ []) tt c.args.first c.args.size c.in_default.in_default-own.rest
