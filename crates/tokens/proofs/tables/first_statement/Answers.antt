use mathlib.Core.List.{[], ◌∷◌}
use Rattle.paper.specs.Bytes.{bytes, among, every}
use Rattle.paper.specs.Words.{word, statements}
use Rattle.tokens.specs.Tables.{begins, first_word, token_found}
use Rattle.tokens.proofs.First.{first_at, no_byte, no_length}
use Rattle.tokens.proofs.tables.first_statement.Goals as goal

pub returns-in-63 : goal.returns-in-63
unfolding token_found first_word begins statements word bytes every among
returns-in-63 c = first_at statements 1 63 c.in-1.is c.in-63.is

pub returns-in_default-first : goal.returns-in_default-first
unfolding token_found first_word begins statements word bytes every among
returns-in_default-first c = no_byte statements 1 (63 ∷ []) tt c.args.first c.in-1.is c.in_default-first.in_default-first-own.rest

pub returns-in-73 : goal.returns-in-73
unfolding token_found first_word begins statements word bytes every among
returns-in-73 c = first_at statements 2 73 c.in-2.is c.in-73.is

pub returns-in-79 : goal.returns-in-79
unfolding token_found first_word begins statements word bytes every among
returns-in-79 c = first_at statements 2 79 c.in-2.is c.in-79.is

pub returns-in_default-first-2 : goal.returns-in_default-first-2
unfolding token_found first_word begins statements word bytes every among
returns-in_default-first-2 c = no_byte statements 2 (79 ∷ 73 ∷ []) tt c.args.first c.in-2.is c.in_default-first-2.in_default-first-2-own.rest

pub returns-in-82 : goal.returns-in-82
unfolding token_found first_word begins statements word bytes every among
returns-in-82 c = first_at statements 3 82 c.in-3.is c.in-82.is

pub returns-in-76 : goal.returns-in-76
unfolding token_found first_word begins statements word bytes every among
returns-in-76 c = first_at statements 3 76 c.in-3.is c.in-76.is

pub returns-in-70 : goal.returns-in-70
unfolding token_found first_word begins statements word bytes every among
returns-in-70 c = first_at statements 3 70 c.in-3.is c.in-70.is

pub returns-in-66 : goal.returns-in-66
unfolding token_found first_word begins statements word bytes every among
returns-in-66 c = first_at statements 3 66 c.in-3.is c.in-66.is

pub returns-in-67 : goal.returns-in-67
unfolding token_found first_word begins statements word bytes every among
returns-in-67 c = first_at statements 3 67 c.in-3.is c.in-67.is

pub returns-in-68 : goal.returns-in-68
unfolding token_found first_word begins statements word bytes every among
returns-in-68 c = first_at statements 3 68 c.in-3.is c.in-68.is

pub returns-in-69 : goal.returns-in-69
unfolding token_found first_word begins statements word bytes every among
returns-in-69 c = first_at statements 3 69 c.in-3.is c.in-69.is

pub returns-in-78 : goal.returns-in-78
unfolding token_found first_word begins statements word bytes every among
returns-in-78 c = first_at statements 3 78 c.in-3.is c.in-78.is

pub returns-in-88 : goal.returns-in-88
unfolding token_found first_word begins statements word bytes every among
returns-in-88 c = first_at statements 3 88 c.in-3.is c.in-88.is

pub returns-in-80 : goal.returns-in-80
unfolding token_found first_word begins statements word bytes every among
returns-in-80 c = first_at statements 3 80 c.in-3.is c.in-80.is

pub returns-in-71 : goal.returns-in-71
unfolding token_found first_word begins statements word bytes every among
returns-in-71 c = first_at statements 3 71 c.in-3.is c.in-71.is

pub returns-in_default-first-3 : goal.returns-in_default-first-3
unfolding token_found first_word begins statements word bytes every among
returns-in_default-first-3 c = no_byte statements 3 (71 ∷ 80 ∷ 88 ∷ 78 ∷ 69 ∷ 68 ∷ 67 ∷ 66 ∷ 70 ∷ 76 ∷ 82 ∷ []) tt c.args.first c.in-3.is c.in_default-first-3.in_default-first-3-own.rest

pub returns-in-68-first : goal.returns-in-68-first
unfolding token_found first_word begins statements word bytes every among
returns-in-68-first c = first_at statements 4 68 c.in-4.is c.in-68-first.is

pub returns-in-76-first : goal.returns-in-76-first
unfolding token_found first_word begins statements word bytes every among
returns-in-76-first c = first_at statements 4 76 c.in-4.is c.in-76-first.is

pub returns-in-78-first : goal.returns-in-78-first
unfolding token_found first_word begins statements word bytes every among
returns-in-78-first c = first_at statements 4 78 c.in-4.is c.in-78-first.is

pub returns-in-71-first : goal.returns-in-71-first
unfolding token_found first_word begins statements word bytes every among
returns-in-71-first c = first_at statements 4 71 c.in-4.is c.in-71-first.is

pub returns-in-84 : goal.returns-in-84
unfolding token_found first_word begins statements word bytes every among
returns-in-84 c = first_at statements 4 84 c.in-4.is c.in-84.is

pub returns-in-67-first : goal.returns-in-67-first
unfolding token_found first_word begins statements word bytes every among
returns-in-67-first c = first_at statements 4 67 c.in-4.is c.in-67-first.is

pub returns-in-79-first : goal.returns-in-79-first
unfolding token_found first_word begins statements word bytes every among
returns-in-79-first c = first_at statements 4 79 c.in-4.is c.in-79-first.is

pub returns-in-83 : goal.returns-in-83
unfolding token_found first_word begins statements word bytes every among
returns-in-83 c = first_at statements 4 83 c.in-4.is c.in-83.is

pub returns-in-80-first : goal.returns-in-80-first
unfolding token_found first_word begins statements word bytes every among
returns-in-80-first c = first_at statements 4 80 c.in-4.is c.in-80-first.is

pub returns-in-82-first : goal.returns-in-82-first
unfolding token_found first_word begins statements word bytes every among
returns-in-82-first c = first_at statements 4 82 c.in-4.is c.in-82-first.is

pub returns-in_default-first-4 : goal.returns-in_default-first-4
unfolding token_found first_word begins statements word bytes every among
returns-in_default-first-4 c = no_byte statements 4 (82 ∷ 80 ∷ 83 ∷ 79 ∷ 67 ∷ 84 ∷ 71 ∷ 78 ∷ 76 ∷ 68 ∷ []) tt c.args.first c.in-4.is c.in_default-first-4.in_default-first-4-own.rest

pub returns-in-73-first : goal.returns-in-73-first
unfolding token_found first_word begins statements word bytes every among
returns-in-73-first c = first_at statements 5 73 c.in-5.is c.in-73-first.is

pub returns-in-67-first-2 : goal.returns-in-67-first-2
unfolding token_found first_word begins statements word bytes every among
returns-in-67-first-2 c = first_at statements 5 67 c.in-5.is c.in-67-first-2.is

pub returns-in-69-first : goal.returns-in-69-first
unfolding token_found first_word begins statements word bytes every among
returns-in-69-first c = first_at statements 5 69 c.in-5.is c.in-69-first.is

pub returns-in-71-first-2 : goal.returns-in-71-first-2
unfolding token_found first_word begins statements word bytes every among
returns-in-71-first-2 c = first_at statements 5 71 c.in-5.is c.in-71-first-2.is

pub returns-in-80-first-2 : goal.returns-in-80-first-2
unfolding token_found first_word begins statements word bytes every among
returns-in-80-first-2 c = first_at statements 5 80 c.in-5.is c.in-80-first-2.is

pub returns-in-83-first : goal.returns-in-83-first
unfolding token_found first_word begins statements word bytes every among
returns-in-83-first c = first_at statements 5 83 c.in-5.is c.in-83-first.is

pub returns-in_default-first-5 : goal.returns-in_default-first-5
unfolding token_found first_word begins statements word bytes every among
returns-in_default-first-5 c = no_byte statements 5 (83 ∷ 80 ∷ 71 ∷ 69 ∷ 67 ∷ 73 ∷ []) tt c.args.first c.in-5.is c.in_default-first-5.in_default-first-5-own.rest

pub returns-in-83-first-2 : goal.returns-in-83-first-2
unfolding token_found first_word begins statements word bytes every among
returns-in-83-first-2 c = first_at statements 6 83 c.in-6.is c.in-83-first-2.is

pub returns-in-82-first-2 : goal.returns-in-82-first-2
unfolding token_found first_word begins statements word bytes every among
returns-in-82-first-2 c = first_at statements 6 82 c.in-6.is c.in-82-first-2.is

pub returns-in-68-first-2 : goal.returns-in-68-first-2
unfolding token_found first_word begins statements word bytes every among
returns-in-68-first-2 c = first_at statements 6 68 c.in-6.is c.in-68-first-2.is

pub returns-in-76-first-2 : goal.returns-in-76-first-2
unfolding token_found first_word begins statements word bytes every among
returns-in-76-first-2 c = first_at statements 6 76 c.in-6.is c.in-76-first-2.is

pub returns-in_default-first-6 : goal.returns-in_default-first-6
unfolding token_found first_word begins statements word bytes every among
returns-in_default-first-6 c = no_byte statements 6 (76 ∷ 68 ∷ 82 ∷ 83 ∷ []) tt c.args.first c.in-6.is c.in_default-first-6.in_default-first-6-own.rest

pub returns-in-82-first-3 : goal.returns-in-82-first-3
unfolding token_found first_word begins statements word bytes every among
returns-in-82-first-3 c = first_at statements 7 82 c.in-7.is c.in-82-first-3.is

pub returns-in_default-first-7 : goal.returns-in_default-first-7
unfolding token_found first_word begins statements word bytes every among
returns-in_default-first-7 c = no_byte statements 7 (82 ∷ []) tt c.args.first c.in-7.is c.in_default-first-7.in_default-first-7-own.rest

pub returns-in-71-first-3 : goal.returns-in-71-first-3
unfolding token_found first_word begins statements word bytes every among
returns-in-71-first-3 c = first_at statements 8 71 c.in-8.is c.in-71-first-3.is

pub returns-in-80-first-3 : goal.returns-in-80-first-3
unfolding token_found first_word begins statements word bytes every among
returns-in-80-first-3 c = first_at statements 8 80 c.in-8.is c.in-80-first-3.is

pub returns-in-83-first-3 : goal.returns-in-83-first-3
unfolding token_found first_word begins statements word bytes every among
returns-in-83-first-3 c = first_at statements 8 83 c.in-8.is c.in-83-first-3.is

pub returns-in_default-first-8 : goal.returns-in_default-first-8
unfolding token_found first_word begins statements word bytes every among
returns-in_default-first-8 c = no_byte statements 8 (83 ∷ 80 ∷ 71 ∷ []) tt c.args.first c.in-8.is c.in_default-first-8.in_default-first-8-own.rest

pub returns-in_default : goal.returns-in_default
unfolding token_found first_word begins statements word bytes every among
returns-in_default c = no_length statements (8 ∷ 7 ∷ 6 ∷ 5 ∷ 4 ∷ 3 ∷ 2 ∷ 1 ∷ []) tt c.args.first c.args.size c.in_default.in_default-own.rest
