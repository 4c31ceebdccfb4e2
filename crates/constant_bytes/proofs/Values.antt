-- Digits as a whole number: leading zeros, the first digit, and the number that is left when low digits are cut.
use Prim.Native.Nat.{ℕ, zero, suc, ◌+◌, ◌-◌, ◌*◌, ◌/◌, ◌^◌, ◌≤◌, ◌<◌}
use native.Mathlib.Nat.{pow-suc, mul_assoc, mul-one, mul-le-mul_right, mul-add-div_right, div-eq_of_lt, add-zero, mul-div-mul_right}
use native.Mathlib.Omega.{arith}
use mathlib.Core.Path.{◌≡◌, refl, sym, ap, subst, ◌∙◌}
use mathlib.Core.Bool.{Bool, true, false, ◌&&◌}
use mathlib.Core.List.{List, [], ◌∷◌}
use lib.Dec.{leb, leb→le}
use lib.ListN.{length, drop, get_or}
use borrow.Author.Tests.{eqb-true, eqb-false}
use Rattle.laws.specs.Tests.{and_right, as_T}
use Rattle.laws.specs.Runs.{All}
use Rattle.paper.specs.Bytes.{pick, run, digit?}
use Rattle.paper.specs.Constants.{value}
use Rattle.constant_bytes.specs.Numerals.{nought?}
use Rattle.laws.specs.Constants.{ten_pos}

-- a digit is at most 9
pub digit_most : (x : ℕ) → digit? x ≡ true → x - 48 ≤ 9
unfolding digit?
digit_most x h = let m : x ≤ 57 = leb→le x 57 (and_right (leb 48 x) (leb x 57) (as_T (leb 48 x && leb x 57) h)) in omega arith

spread : (a y p v l r : ℕ) → l ≡ (a * 10 + y) * p + v → r ≡ (0 * 10 + y) * p + v → l ≡ a * (p * 10) + r
spread a y p v l r e f = omega arith

-- digits after a number
pub value_from : (a : ℕ) (xs : List ℕ) → value a xs ≡ a * 10 ^ length xs + value 0 xs
unfolding value
value_from a [] = omega arith
value_from a (x ∷ xs) =
    spread a (x - 48) (10 ^ length xs) (value 0 xs) (value (a * 10 + (x - 48)) xs) (value (0 * 10 + (x - 48)) xs) (value_from (a * 10 + (x - 48)) xs) (value_from (0 * 10 + (x - 48)) xs)
    ∙ ap (λ (p : ℕ). a * p + value (0 * 10 + (x - 48)) xs) (sym (pow-suc 10 (length xs)))

-- digits are below the next power of ten
pub value_below : (xs : List ℕ) → All digit? xs → value 0 xs < 10 ^ length xs
unfolding value
value_below [] a = omega arith
value_below (x ∷ xs) a =
    subst (λ (p : ℕ). value (0 * 10 + (x - 48)) xs < p) (sym (pow-suc 10 (length xs)))
    (below (x - 48) (10 ^ length xs) (value 0 xs) (value (0 * 10 + (x - 48)) xs) (digit_most x a.0) (value_below xs a.1) (value_from (0 * 10 + (x - 48)) xs))
  where
    below : (y p v w : ℕ) → y ≤ 9 → v < p → w ≡ (0 * 10 + y) * p + v → w < p * 10
    below y p v w h l e = omega (arith, mul-le-mul_right p h)

-- the first digit, not zero, has the highest power of ten
pub value_least : (x : ℕ) (xs : List ℕ) → (x - 48 ≡ 0 → ⊥) → 10 ^ length xs ≤ value 0 (x ∷ xs)
unfolding value
value_least x xs n = least (x - 48) (10 ^ length xs) (value 0 xs) (value (0 * 10 + (x - 48)) xs) n (value_from (0 * 10 + (x - 48)) xs)
  where
    least : (y p v w : ℕ) → (y ≡ 0 → ⊥) → w ≡ (0 * 10 + y) * p + v → p ≤ w
    least y p v w n e = let one : 1 ≤ y = omega arith in omega (arith, mul-le-mul_right p one)

-- noughts in front have no effect
skip_go : (x : ℕ) (xs : List ℕ) (b : Bool) → nought? x ≡ b → value 0 xs ≡ value 0 (drop (run nought? xs) xs)
    → value (0 * 10 + (x - 48)) xs ≡ value 0 (drop (pick b (suc (run nought? xs)) 0) (x ∷ xs))
unfolding value nought?
skip_go x xs true e ih = let n : 0 * 10 + (x - 48) ≡ 0 = omega (arith, eqb-true (x - 48) 0 e) in ap (λ (k : ℕ). value k xs) n ∙ ih
skip_go x xs false e ih = refl

pub value_skip : (xs : List ℕ) → value 0 xs ≡ value 0 (drop (run nought? xs) xs)
unfolding value run
value_skip [] = refl
value_skip (x ∷ xs) = skip_go x xs (nought? x) refl (value_skip xs)

-- what comes after the noughts is none
skipped_go : (x : ℕ) (xs : List ℕ) (b : Bool) → nought? x ≡ b → (run nought? xs < length xs → get_or xs (run nought? xs) 48 - 48 ≡ 0 → ⊥)
    → pick b (suc (run nought? xs)) 0 < suc (length xs) → get_or (x ∷ xs) (pick b (suc (run nought? xs)) 0) 48 - 48 ≡ 0 → ⊥
unfolding nought?
skipped_go x xs true e ih h z = ih (omega arith) z
skipped_go x xs false e ih h z = eqb-false (x - 48) 0 e z

pub skipped : (xs : List ℕ) → run nought? xs < length xs → get_or xs (run nought? xs) 48 - 48 ≡ 0 → ⊥
unfolding run
skipped [] h z = omega arith
skipped (x ∷ xs) h z = skipped_go x xs (nought? x) refl (skipped xs) h z

-- the first t digits after a, zeros where there are no more
unfoldable pub cut : ℕ → ℕ → List ℕ → ℕ
cut zero a xs = a
cut (suc t) a xs = cut t (a * 10 + (get_or xs 0 48 - 48)) (drop 1 xs)

cut_none : (a : ℕ) (xs : List ℕ) → All digit? xs → value a xs * 10 ^ 0 / 10 ^ length xs ≡ a
cut_none a xs d =
    let p : ℕ = 10 ^ length xs in
    ap (λ (n : ℕ). n / p) (mul-one (value a xs) ∙ value_from a xs)
    ∙ mul-add-div_right (ten_pos (length xs)) a (value 0 xs)
    ∙ ap (λ (n : ℕ). a + n) (div-eq_of_lt (value_below xs d))
    ∙ add-zero a

-- cutting is dividing
pub cut_is : (t a : ℕ) (xs : List ℕ) → All digit? xs → value a xs * 10 ^ t / 10 ^ length xs ≡ cut t a xs
unfolding cut value
cut_is zero a xs d = cut_none a xs d
cut_is (suc t) a [] d =
    ap (λ (n : ℕ). n / 10 ^ 0) (ap (λ (n : ℕ). a * n) (pow-suc 10 t) ∙ regroup a (10 ^ t)) ∙ cut_is t (a * 10 + 0) [] tt
  where
    regroup : (a p : ℕ) → a * (p * 10) ≡ (a * 10 + 0) * p
    regroup a p = omega arith
cut_is (suc t) a (x ∷ xs) d =
    let v : ℕ = value (a * 10 + (x - 48)) xs in
    ap (λ (n : ℕ). v * n / 10 ^ suc (length xs)) (pow-suc 10 t)
    ∙ ap (λ (n : ℕ). n / 10 ^ suc (length xs)) (sym (mul_assoc v (10 ^ t) 10))
    ∙ ap (λ (n : ℕ). v * 10 ^ t * 10 / n) (pow-suc 10 (length xs))
    ∙ mul-div-mul_right (v * 10 ^ t) (10 ^ length xs) (omega arith)
    ∙ cut_is t (a * 10 + (x - 48)) xs d.1
