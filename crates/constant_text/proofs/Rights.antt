-- Six bytes that are those of a constant, one answer for each test on the way.
use Prim.Native.Nat.{ℕ, suc, ◌+◌, ◌-◌, ◌/◌, ◌%◌, ◌≤◌, ◌<◌}
use native.Mathlib.Omega.{arith}
use mathlib.Core.Path.{◌≡◌, refl, sym, ap, ◌∙◌}
use mathlib.Core.Bool.{Bool, true, false, not, ◌&&◌, or-false, and_assoc}
use mathlib.Core.List.{List, [], ◌∷◌}
use lib.Dec.{leb, eqb}
use lib.ListN.{length, take, drop, get_or, replicate, length-take, length-drop}
use lib.Seq.{drop-drop, take-nil}
use borrow.Author.Tests.{ne_eqb, eqb-true, eqb-false, leb-true, leb-false}
use Rattle.paper.specs.Bytes.{pick, same, every}
use Rattle.paper.specs.Constants.{zero_bytes, decimal?, right_constant?}
use Rattle.constant_text.specs.Texts.{six_here, digits_most}
use Rattle.constant_text.specs.Laws.{here_six}

-- fewer than six
pub right_short : (s : List ℕ) (p : ℕ) → length s < p + 6 → false ≡ right_constant? (take 6 (drop p s))
unfolding right_constant?
right_short s p h = sym (rw (ne_eqb (length (take 6 (drop p s))) 6 (λ e. omega (arith, length-take 6 (drop p s), length-drop p s))))

-- ---- a first byte of zero

zero_go : (b : ℕ) (x y z : Bool) → leb (b / 16) 0 ≡ x → leb (b % 16) 0 ≡ y → eqb b 0 ≡ z → x && y ≡ z
zero_go b true true true e f g = refl
zero_go b true true false e f g = absurd (eqb-false b 0 g (omega (arith, leb-true (b / 16) 0 e, leb-true (b % 16) 0 f)))
zero_go b false y true e f g = absurd (clash (leb-false (b / 16) 0 e) (eqb-true b 0 g))
  where
    clash : 0 < b / 16 → b ≡ 0 → ⊥
    clash h z = omega arith
zero_go b false y false e f g = refl
zero_go b true false true e f g = absurd (clash (leb-false (b % 16) 0 f) (eqb-true b 0 g))
  where
    clash : 0 < b % 16 → b ≡ 0 → ⊥
    clash h z = omega arith
zero_go b true false false e f g = refl

both_zero : (b : ℕ) → digits_most 0 b ≡ eqb b 0
unfolding digits_most
both_zero b = zero_go b (leb (b / 16) 0) (leb (b % 16) 0) (eqb b 0) refl refl refl

and_same : (a b c : Bool) → b ≡ c → pick a b false ≡ a && c
and_same true b c e = e
and_same false b c e = refl

same_zeros : (xs : List ℕ) → same xs (replicate (length xs) 0) ≡ every (digits_most 0) xs
unfolding same every
same_zeros [] = refl
same_zeros (x ∷ xs) = and_same (eqb x 0) (same xs (replicate (length xs) 0)) (every (digits_most 0) xs) (same_zeros xs) ∙ ap (λ (b : Bool). b && every (digits_most 0) xs) (sym (both_zero x))

zero_six : (b b1 b2 b3 b4 b5 : ℕ) → b ≡ 0 → right_constant? (b ∷ b1 ∷ b2 ∷ b3 ∷ b4 ∷ b5 ∷ []) ≡ every (digits_most 0) (b1 ∷ b2 ∷ b3 ∷ b4 ∷ b5 ∷ [])
unfolding right_constant? zero_bytes same
zero_six b b1 b2 b3 b4 b5 e = rw (e) (or-false (same (b1 ∷ b2 ∷ b3 ∷ b4 ∷ b5 ∷ []) (0 ∷ 0 ∷ 0 ∷ 0 ∷ 0 ∷ [])) ∙ same_zeros (b1 ∷ b2 ∷ b3 ∷ b4 ∷ b5 ∷ []))

-- ---- another first byte

some_six : (b b1 b2 b3 b4 b5 : ℕ) → (b ≡ 0 → ⊥) → right_constant? (b ∷ b1 ∷ b2 ∷ b3 ∷ b4 ∷ b5 ∷ []) ≡ ((leb 15 b && leb b 112) && every (digits_most 9) (b1 ∷ b2 ∷ b3 ∷ b4 ∷ b5 ∷ [])) && not (eqb b1 0)
unfolding right_constant? zero_bytes same decimal? digits_most
some_six b b1 b2 b3 b4 b5 some = rw (ne_eqb b 0 some) (simp and_assoc)

-- ---- at a place

drop_take : (n : ℕ) (l : List ℕ) → drop 1 (take (suc n) l) ≡ take n (drop 1 l)
drop_take n [] = sym (take-nil n)
drop_take n (x ∷ l) = refl

module _ (s : List ℕ) (p : ℕ) (there : p + 6 ≤ length s) where
  -- the five bytes after the first, as the code takes them
  five_here : take (p + 6 - (p + 1)) (drop (p + 1) s) ≡ drop 1 (six_here s p)
  five_here =
      let k : p + 6 - (p + 1) ≡ 5 = omega arith in
      ap (λ (n : ℕ). take n (drop (p + 1) s)) k ∙ ap (λ (l : List ℕ). take 5 l) (sym (drop-drop 1 p s)) ∙ sym (drop_take 5 (drop p s)) ∙ ap (λ (l : List ℕ). drop 1 l) (sym (here_six s p there))

  whole : {r t : Bool} → right_constant? (six_here s p) ≡ t → r ≡ t → r ≡ right_constant? (take 6 (drop p s))
  whole e q = q ∙ sym e ∙ ap (λ (l : List ℕ). right_constant? l) (here_six s p there)

  pub right_zero : {r : Bool} → get_or s p 0 ≡ 0 → r ≡ every (digits_most 0) (take (p + 6 - (p + 1)) (drop (p + 1) s)) → r ≡ right_constant? (take 6 (drop p s))
  unfolding six_here
  right_zero z q = whole (zero_six (get_or s p 0) (get_or s (p + 1) 0) (get_or s (p + 2) 0) (get_or s (p + 3) 0) (get_or s (p + 4) 0) (get_or s (p + 5) 0) z) (q ∙ ap (λ (l : List ℕ). every (digits_most 0) l) five_here)

  pub right_some : {r d : Bool} → (get_or s p 0 ≡ 0 → ⊥) → d ≡ every (digits_most 9) (take (p + 6 - (p + 1)) (drop (p + 1) s)) → r ≡ ((leb 15 (get_or s p 0) && leb (get_or s p 0) 112) && d) && not (eqb (get_or s (p + 1) 0) 0)
      → r ≡ right_constant? (take 6 (drop p s))
  unfolding six_here
  right_some n e q =
      whole (some_six (get_or s p 0) (get_or s (p + 1) 0) (get_or s (p + 2) 0) (get_or s (p + 3) 0) (get_or s (p + 4) 0) (get_or s (p + 5) 0) n)
      (q ∙ ap (λ (d : Bool). ((leb 15 (get_or s p 0) && leb (get_or s p 0) 112) && d) && not (eqb (get_or s (p + 1) 0) 0)) (e ∙ ap (λ (l : List ℕ). every (digits_most 9) l) five_here))
