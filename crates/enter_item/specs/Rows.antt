-- The rows of the grammar that the readers of expressions are proved by.
use Rattle.std.specs.Prelude.{ℕ, ◌≡◌, refl, Bool, true, false, [], ◌∷◌, ◌++◌, eqb}
use Rattle.std.proofs.Common.{sym, subst, ne_eqb, eqb-true}
use Rattle.paper.specs.Bytes.{pick}
use Rattle.paper.specs.Classes.{number, quoted, numeric_variable, string_variable, array, open_sign, close_sign, comma, equals, comparison, plus_minus, not_word, string_function, function_of_string, function_of_number}
use Rattle.paper.specs.Frames.{want_operand, want_more_terms, want_array_open, want_second, want_close, want_function_open, want_string, want_substring, want_string_comparison}
use Rattle.paper.specs.Machine.{take, leave, refuse, row, at_row}
use Rattle.paper.specs.Grammar.{itself, for_strings, as_prefix, put, look}
use Rattle.paper.specs.Open.{all_Bytes, all_Machine, all_Grammar}
use Rattle.enter_item.specs.Tests.{compares?}
use Rattle.tokens.specs.Same.{no_bool}
use Rattle.enter_item.specs.TookLaws.{sign?}

pub operand_sign : look want_operand plus_minus ≡ take as_prefix (want_operand ∷ [])
unfolding all_Bytes all_Machine all_Grammar
operand_sign = refl

pub operand_not : look want_operand not_word ≡ take itself (want_operand ∷ [])
unfolding all_Bytes all_Machine all_Grammar
operand_not = refl

pub operand_number : look want_operand number ≡ take itself []
unfolding all_Bytes all_Machine all_Grammar
operand_number = refl

pub operand_numeric : look want_operand numeric_variable ≡ take itself []
unfolding all_Bytes all_Machine all_Grammar
operand_numeric = refl

pub operand_array : look want_operand array ≡ take itself (want_array_open ∷ want_operand ∷ want_more_terms ∷ want_second ∷ [])
unfolding all_Bytes all_Machine all_Grammar
operand_array = refl

pub operand_open : look want_operand open_sign ≡ take itself (want_operand ∷ want_more_terms ∷ want_close ∷ [])
unfolding all_Bytes all_Machine all_Grammar
operand_open = refl

pub operand_of_string : look want_operand function_of_string ≡ take itself (want_function_open ∷ want_string ∷ want_close ∷ [])
unfolding all_Bytes all_Machine all_Grammar
operand_of_string = refl

pub operand_of_number : look want_operand function_of_number ≡ take itself (want_function_open ∷ want_operand ∷ want_more_terms ∷ want_close ∷ [])
unfolding all_Bytes all_Machine all_Grammar
operand_of_number = refl

pub operand_quoted : look want_operand quoted ≡ take itself ([] ++ want_string_comparison ∷ [])
unfolding all_Bytes all_Machine all_Grammar
operand_quoted = refl

pub operand_string : look want_operand string_variable ≡ take itself ((want_substring ∷ []) ++ want_string_comparison ∷ [])
unfolding all_Bytes all_Machine all_Grammar
operand_string = refl

pub operand_function : look want_operand string_function ≡ take itself ((want_function_open ∷ want_operand ∷ want_more_terms ∷ want_close ∷ []) ++ want_string_comparison ∷ [])
unfolding all_Bytes all_Machine all_Grammar
operand_function = refl

pub string_quoted : look want_string quoted ≡ take itself []
unfolding all_Bytes all_Machine all_Grammar
string_quoted = refl

pub string_string : look want_string string_variable ≡ take itself (want_substring ∷ [])
unfolding all_Bytes all_Machine all_Grammar
string_string = refl

pub string_function_row : look want_string string_function ≡ take itself (want_function_open ∷ want_operand ∷ want_more_terms ∷ want_close ∷ [])
unfolding all_Bytes all_Machine all_Grammar
string_function_row = refl

pub close_row : look want_close close_sign ≡ take itself []
unfolding all_Bytes all_Machine all_Grammar
close_row = refl

pub function_open_row : look want_function_open open_sign ≡ take (put 0x3a) []
unfolding all_Bytes all_Machine all_Grammar
function_open_row = refl

pub array_open_row : look want_array_open open_sign ≡ take (put 0x38) []
unfolding all_Bytes all_Machine all_Grammar
array_open_row = refl

pub second_comma : look want_second comma ≡ take (put 0x3c) (want_operand ∷ want_more_terms ∷ want_close ∷ [])
unfolding all_Bytes all_Machine all_Grammar
second_comma = refl

pub second_close : look want_second close_sign ≡ take itself []
unfolding all_Bytes all_Machine all_Grammar
second_close = refl

pub substring_open : look want_substring open_sign ≡ take (put 0x37) (want_operand ∷ want_more_terms ∷ want_second ∷ [])
unfolding all_Bytes all_Machine all_Grammar
substring_open = refl

pub operand_else : (c : ℕ) → (c ≡ plus_minus → ⊥) → (c ≡ not_word → ⊥) → (c ≡ number → ⊥) → (c ≡ numeric_variable → ⊥) → (c ≡ array → ⊥) → (c ≡ open_sign → ⊥) → (c ≡ function_of_string → ⊥) → (c ≡ function_of_number → ⊥) → (c ≡ quoted → ⊥) → (c ≡ string_variable → ⊥) → (c ≡ string_function → ⊥) → look want_operand c ≡ refuse 4
unfolding all_Bytes all_Machine all_Grammar
operand_else c h0 h1 h2 h3 h4 h5 h6 h7 h8 h9 h10 = rw (ne_eqb c plus_minus h0, ne_eqb c not_word h1, ne_eqb c number h2, ne_eqb c numeric_variable h3, ne_eqb c array h4, ne_eqb c open_sign h5, ne_eqb c function_of_string h6, ne_eqb c function_of_number h7, ne_eqb c quoted h8, ne_eqb c string_variable h9, ne_eqb c string_function h10)

pub string_else : (c : ℕ) → (c ≡ quoted → ⊥) → (c ≡ string_variable → ⊥) → (c ≡ string_function → ⊥) → look want_string c ≡ refuse 4
unfolding all_Bytes all_Machine all_Grammar
string_else c h0 h1 h2 = rw (ne_eqb c quoted h0, ne_eqb c string_variable h1, ne_eqb c string_function h2)

pub close_else : (c : ℕ) → (c ≡ close_sign → ⊥) → look want_close c ≡ refuse 4
unfolding all_Bytes all_Machine all_Grammar
close_else c h0 = rw (ne_eqb c close_sign h0)

pub function_open_else : (c : ℕ) → (c ≡ open_sign → ⊥) → look want_function_open c ≡ refuse 4
unfolding all_Bytes all_Machine all_Grammar
function_open_else c h0 = rw (ne_eqb c open_sign h0)

pub array_open_else : (c : ℕ) → (c ≡ open_sign → ⊥) → look want_array_open c ≡ refuse 4
unfolding all_Bytes all_Machine all_Grammar
array_open_else c h0 = rw (ne_eqb c open_sign h0)

pub second_else : (c : ℕ) → (c ≡ comma → ⊥) → (c ≡ close_sign → ⊥) → look want_second c ≡ refuse 4
unfolding all_Bytes all_Machine all_Grammar
second_else c h0 h1 = rw (ne_eqb c comma h0, ne_eqb c close_sign h1)

pub substring_else : (c : ℕ) → (c ≡ open_sign → ⊥) → look want_substring c ≡ leave
unfolding all_Bytes all_Machine all_Grammar
substring_else c h0 = rw (ne_eqb c open_sign h0)

pub compare_row : (c : ℕ) → compares? c ≡ true → look want_string_comparison c ≡ take for_strings (want_string ∷ [])
unfolding all_Bytes all_Machine all_Grammar compares?
compare_row c h = go (eqb c comparison) (eqb c equals) h
  where
    go : (a b : Bool) → pick a true (pick b true false) ≡ true → at_row a (row want_string_comparison comparison for_strings (want_string ∷ [])) (at_row b (row want_string_comparison equals for_strings (want_string ∷ [])) (refuse 4)) ≡ take for_strings (want_string ∷ [])
    go true b z = refl
    go false true z = refl
    go false false z = no_bool z

pub compare_else : (c : ℕ) → compares? c ≡ false → look want_string_comparison c ≡ refuse 4
unfolding all_Bytes all_Machine all_Grammar compares?
compare_else c h = go (eqb c comparison) (eqb c equals) h
  where
    go : (a b : Bool) → pick a true (pick b true false) ≡ false → at_row a (row want_string_comparison comparison for_strings (want_string ∷ [])) (at_row b (row want_string_comparison equals for_strings (want_string ∷ [])) (refuse 4)) ≡ refuse 4
    go true b z = no_bool (sym z)
    go false true z = no_bool (sym z)
    go false false z = refl

-- a class is a sign if it is one that is
pub literal : (c d : ℕ) → sign? d ≡ true → eqb c d ≡ true → sign? c ≡ true
literal c d h e = subst (λ (x : ℕ). sign? x ≡ true) (sym (eqb-true c d e)) h

-- the operators that compare are signs
pub compares_sign : (c : ℕ) → compares? c ≡ true → sign? c ≡ true
unfolding compares?
compares_sign c h = go (eqb c comparison) (eqb c equals) refl refl h
  where
    go : (a b : Bool) → eqb c comparison ≡ a → eqb c equals ≡ b → pick a true (pick b true false) ≡ true → sign? c ≡ true
    go true b p q z = literal c comparison refl p
    go false true p q z = literal c equals refl q
    go false false p q z = no_bool z
