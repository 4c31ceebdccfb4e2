-- The bytes of tokens by what they are (document 02, §13): what the five kinds have of each.
use Rattle.std.specs.Prelude.{ℕ, suc, ◌+◌, ◌≡◌, Bool, true, false, length}
use native.Mathlib.Omega.{arith}
use Rattle.std.proofs.Math.Path.{refl}
use mathlib.Core.List.{List, [], ◌∷◌, ◌++◌}
use Rattle.std.proofs.Common.{length-append}
use Rattle.paper.specs.Bytes.{pick}
use Rattle.paper.specs.Tokens.{Token, statement, assigned, operator, variable, constant, string, raw, out_of_range, unreadable}
use Rattle.paper.specs.Line.{own_bytes, begins?, to_next, token_bytes}
use Rattle.paper.specs.Weigh.{share, shares, in_else, sum}

-- a sum over two lists, one after the other
pub sum_append : {A : Type 0} (f : A → ℕ) (xs ys : List A) → sum f (xs ++ ys) ≡ sum f xs + sum f ys
unfolding sum
sum_append f [] ys = omega arith
sum_append f (x ∷ xs) ys = omega (arith, sum_append f xs ys)

module _ (ns : List (List ℕ)) where
  -- the bytes of tokens that are in variables, in numbers, in strings and in raw text
  abbrev pub in_variables : List Token → ℕ
  in_variables ts = sum (λ t. (shares ns t).variables) ts

  abbrev pub in_numbers : List Token → ℕ
  in_numbers ts = sum (λ t. (shares ns t).numbers) ts

  abbrev pub in_strings : List Token → ℕ
  in_strings ts = sum (λ t. (shares ns t).strings) ts

  abbrev pub in_raw : List Token → ℕ
  in_raw ts = sum (λ t. (shares ns t).raw_text) ts

  -- the five kinds of bytes of a token are its own bytes, and the offset where a statement begins
  pub all_in : (t : Token) → (shares ns t).variables + (shares ns t).numbers + (shares ns t).strings + (shares ns t).raw_text + in_else t ≡ pick (begins? t) 1 0 + length (own_bytes ns t)
  unfolding share shares in_else own_bytes begins?
  all_in (statement k) = refl
  all_in (assigned n) = omega arith
  all_in (operator k) = refl
  all_in (variable n) = omega arith
  all_in (constant b) = omega arith
  all_in (string b) = omega arith
  all_in (raw b) = omega arith
  all_in out_of_range = refl
  all_in unreadable = refl
