-- The digits of a number, put from the last one on.
use Prim.Native.Nat.{ℕ, zero, suc, ◌+◌, ◌-◌, ◌/◌, ◌%◌, ◌≤◌, ◌<◌}
use native.Mathlib.Omega.{arith}
use mathlib.Core.Path.{◌≡◌, refl, sym, ap, ap₂, ◌∙◌}
use mathlib.Core.List.{List, [], ◌∷◌, ◌++◌, append-nil, append_assoc}
use lib.ListN.{length, take, drop, set, drop_of_length-le, length-drop}
use lib.Seq.{sets, take_all}
use borrow.Author.Tests.{lt-ltb, le-ltb}
use Rattle.paper.specs.Listing.{decimal}
use Rattle.list_text.specs.Texts.{Writes}

drop_set : (l : List ℕ) (k v : ℕ) → k < length l → drop k (set l k v) ≡ v ∷ drop (suc k) l
drop_set [] k v h = absurd (omega arith)
drop_set (x ∷ xs) zero v h = refl
drop_set (x ∷ xs) (suc k) v h = drop_set xs k v (omega arith)

-- before a digit: those that are still to be put, and those that are
abbrev pub Left : ℕ → ℕ → ℕ → List ℕ → Type 0
Left number at rest digits = decimal at rest ++ drop at digits ≡ decimal 20 number

pub left_first : (number : ℕ) (digits : List ℕ) → length digits ≡ 20 → Left number 20 number digits
left_first number digits e = ap (λ (z : List ℕ). decimal 20 number ++ z) (drop_of_length-le digits {i = 20} (omega arith)) ∙ append-nil (decimal 20 number)

-- all digits that there is room for are put
pub left_none : (number at rest : ℕ) (digits : List ℕ) → at ≤ 0 → Left number at rest digits → drop 0 digits ≡ decimal 20 number
unfolding decimal
left_none number zero rest digits h e = e
left_none number (suc k) rest digits h e = absurd (omega arith)

module _ (number at rest v : ℕ) (digits new : List ℕ) (some : 0 < at) (fits : at ≤ length digits) (left : Left number at rest digits) (is : v ≡ 48 + rest % 10) (put : new ≡ set digits (at - 1) v) where
  one_more : drop (at - 1) new ≡ (48 + rest % 10) ∷ drop at digits
  one_more =
      let k : suc (at - 1) ≡ at = omega arith in
      ap (drop (at - 1)) put ∙ drop_set digits (at - 1) v (omega arith) ∙ ap₂ (λ (x i : ℕ). x ∷ drop i digits) is k

  -- the number's first digit
  pub left_last : rest < 10 → drop (at - 1) new ≡ decimal 20 number
  unfolding decimal
  left_last h =
      let k : at ≡ suc (at - 1) = omega arith in
      let d : rest % 10 ≡ rest = omega arith in
      one_more ∙ ap (λ (x : ℕ). (48 + x) ∷ drop at digits) d ∙ sym (ap (λ (i : ℕ). decimal i rest ++ drop at digits) k ∙ rw (lt-ltb rest 10 h)) ∙ left

  -- one before others
  pub left_more : 10 ≤ rest → Left number (at - 1) (rest / 10) new
  unfolding decimal
  left_more h =
      let k : at ≡ suc (at - 1) = omega arith in
      ap (λ (z : List ℕ). decimal (at - 1) (rest / 10) ++ z) one_more
      ∙ sym (append_assoc (decimal (at - 1) (rest / 10)) ((48 + rest % 10) ∷ []) (drop at digits))
      ∙ sym (ap (λ (i : ℕ). decimal i rest ++ drop at digits) k ∙ rw (le-ltb rest 10 h))
      ∙ left

-- the digits copied
pub number_written : (number at n : ℕ) (digits old new : List ℕ) → length digits ≡ 20 → at ≤ 20 → drop at digits ≡ decimal 20 number → new ≡ sets old n (take (20 - at) (drop at digits)) → Writes (decimal 20 number) n old (20 - at) new
number_written number at n digits old new e h d w =
    let all : take (20 - at) (drop at digits) ≡ drop at digits = take_all (20 - at) (drop at digits) (omega (arith, length-drop at digits)) in
    record { size = omega (arith, ap length d, length-drop at digits); bytes = w ∙ ap (sets old n) (all ∙ d) }
