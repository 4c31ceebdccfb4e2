-- A line's answer: an error line by its number, any other by whether it is well-formed.
use Prim.Native.Nat.{ℕ, ◌+◌, ◌-◌, ◌<◌, ◌≤◌}
use native.Mathlib.Omega.{arith}
use mathlib.Core.Path.{◌≡◌, refl, subst, sym, ap, ◌∙◌}
use mathlib.Core.Bool.{Bool, true, false, ◌&&◌, ◌||◌}
use mathlib.Core.List.{List, ◌++◌}
use lib.ListN.{length, length-append}
use borrow.Author.Tests.{lt-leb, le-leb}
use Rattle.paper.specs.Bytes.{pick, bytes}
use Rattle.paper.specs.Line.{line_number, lawful_number?}
use Rattle.paper.specs.WellFormed.{formed?}
use Rattle.paper.specs.Errors.{error_line?, error_text, listable?}
use Rattle.list_error.specs.ErrorLaws.{error_long, error_shown}
use Rattle.list_weigh.specs.declared.Weight.{Weight}
use Rattle.std.specs.Prelude.{Some, None}
use Rattle.list_weigh.specs.Weights.{plus, head_weight, formed_weight, error_weight, line_weight, weighing, Small}
use Rattle.list_weigh.proofs.Sums.{same_weight, formed_columns, error_columns}
use Rattle.list_weigh.proofs.Bounds.{head_small}

-- the weight of an error line, as the code has it
pub error_weighed : (l : List ℕ) (w : Weight) (k : ℕ) → error_line? l ≡ true → w ≡ head_weight l → k ≡ length (bytes "ERROR- " ++ error_text l)
    → (r : Weight) → r ≡ record { listing = w.listing + k; variables = w.variables; numbers = w.numbers; strings = w.strings; raw_text = length l - 6; others = 6 }
    → (r ≡ error_weight l) × Small (length l) r
unfolding error_weight plus bytes head_weight
error_weighed l w k t e f r g =
    let long = error_long l t in
    let shown = error_shown l t in
    let text : length (bytes "ERROR- " ++ error_text l) ≡ 7 + length (error_text l) = length-append (bytes "ERROR- ") (error_text l) in
    let size : length l - 6 ≡ length (error_text l) = omega arith in
    let is : r ≡ error_weight l = g ∙ rw (e, f) (same_weight refl refl refl refl (omega arith) refl) in
    let s = head_small l in
    (is, subst (Small (length l)) (sym is) (record { listing = omega (arith, s.listing); variables = omega arith; numbers = omega arith; strings = omega arith; raw_text = omega arith; others = omega arith }))

no_other : (a b : Bool) → a || (b && false) ≡ a
no_other true b = refl
no_other false true = refl
no_other false false = refl

number_decides : (a b : Bool) → (a && b) || (a && true) ≡ a
number_decides true true = refl
number_decides true false = refl
number_decides false b = refl

module _ (ns : List (List ℕ)) (l : List ℕ) where
  -- an error line is listed if it may have its number
  error_listed : true ≡ error_line? l → listable? lawful_number? ns l ≡ lawful_number? (line_number l)
  unfolding listable? formed?
  error_listed e = rw (← e, number_decides)

  -- any other if it is well-formed
  other_listed : false ≡ error_line? l → listable? lawful_number? ns l ≡ formed? lawful_number? ns l
  unfolding listable?
  other_listed e = rw (← e, no_other)

  answered : (b : Bool) → listable? lawful_number? ns l ≡ b → pick b (Some (line_weight ns l)) None ≡ weighing ns l
  unfolding weighing
  answered b e = ap (λ (x : Bool). pick x (Some (line_weight ns l)) None) (sym e)

  pub error_refused : true ≡ error_line? l → (n : ℕ) → n ≡ line_number l → 32767 < n → None ≡ weighing ns l
  unfolding lawful_number?
  error_refused e n f h = answered false (error_listed e ∙ lt-leb (line_number l) 32767 (omega arith))

  pub error_answered : true ≡ error_line? l → (n : ℕ) → n ≡ line_number l → n ≤ 32767 → (w : Weight) → w ≡ error_weight l → Some w ≡ weighing ns l
  unfolding lawful_number?
  error_answered e n f h w g = ap Some (g ∙ error_columns ns l e) ∙ answered true (error_listed e ∙ le-leb (line_number l) 32767 (omega arith))

  pub other_refused : false ≡ error_line? l → formed? lawful_number? ns l ≡ false → None ≡ weighing ns l
  other_refused e f = answered false (other_listed e ∙ f)

  pub other_answered : false ≡ error_line? l → formed? lawful_number? ns l ≡ true → (w : Weight) → w ≡ formed_weight ns l → Some w ≡ weighing ns l
  other_answered e f w g = ap Some (g ∙ formed_columns ns l e) ∙ answered true (other_listed e ∙ f)
