-- The ten digits of six bytes as text: the digit at each place, and the digits that are left without useless zeros.
use Prim.Native.Nat.{ℕ, zero, suc, ◌+◌, ◌-◌, ◌*◌, ◌/◌, ◌%◌, ◌≤◌, ◌<◌}
use native.Mathlib.Numerals.{add-one}
use native.Mathlib.Omega.{arith}
use mathlib.Core.Path.{◌≡◌, refl, sym, ap, ◌∙◌}
use mathlib.Core.List.{List, [], ◌∷◌, ◌++◌}
use lib.ListN.{length, take, drop, get_or, length-take, drop_of_length-le}
use lib.Seq.{slice, take-suc, take_all, drop-append-le, length-take-le}
use borrow.Author.Tests.{ne_eqb}
use Rattle.paper.specs.Constants.{digits_of, put_digit, trimmed}
use Rattle.constant_text.specs.Texts.{six_here, digits_here, Trims}

-- ---- the digit at a place

high_digit : (bs : List ℕ) (k : ℕ) → get_or (digits_of bs) (2 * k) 48 ≡ 48 + get_or bs k 0 / 16
unfolding digits_of
high_digit [] k = refl
high_digit (b ∷ bs) zero = refl
high_digit (b ∷ bs) (suc k) = let e : 2 * suc k ≡ suc (suc (2 * k)) = omega arith in ap (λ (j : ℕ). get_or ((48 + b / 16) ∷ (48 + b % 16) ∷ digits_of bs) j 48) e ∙ high_digit bs k

low_digit : (bs : List ℕ) (k : ℕ) → get_or (digits_of bs) (2 * k + 1) 48 ≡ 48 + get_or bs k 0 % 16
unfolding digits_of
low_digit [] k = refl
low_digit (b ∷ bs) zero = refl
low_digit (b ∷ bs) (suc k) =
    let e : 2 * suc k + 1 ≡ suc (suc (2 * k + 1)) = omega arith in ap (λ (j : ℕ). get_or ((48 + b / 16) ∷ (48 + b % 16) ∷ digits_of bs) j 48) e ∙ low_digit bs k

here_byte : (s : List ℕ) (p k : ℕ) → k < 5 → get_or (drop 1 (six_here s p)) k 0 ≡ get_or s (p + 1 + k) 0
unfolding six_here
here_byte s p zero h = let e : p + 1 ≡ p + 1 + 0 = omega arith in ap (λ (j : ℕ). get_or s j 0) e
here_byte s p (suc zero) h = let e : p + 2 ≡ p + 1 + 1 = omega arith in ap (λ (j : ℕ). get_or s j 0) e
here_byte s p (suc (suc zero)) h = let e : p + 3 ≡ p + 1 + 2 = omega arith in ap (λ (j : ℕ). get_or s j 0) e
here_byte s p (suc (suc (suc zero))) h = let e : p + 4 ≡ p + 1 + 3 = omega arith in ap (λ (j : ℕ). get_or s j 0) e
here_byte s p (suc (suc (suc (suc zero)))) h = let e : p + 5 ≡ p + 1 + 4 = omega arith in ap (λ (j : ℕ). get_or s j 0) e
here_byte s p (suc (suc (suc (suc (suc k))))) h = absurd (omega arith)

-- at an even place the upper digit of a byte
pub digit_even : (s : List ℕ) (p i b : ℕ) → i < 10 → i % 2 ≡ 0 → b ≡ get_or s (p + 1 + i / 2) 0 → 48 + b / 16 ≡ get_or (digits_here s p) i 48
unfolding digits_here
digit_even s p i b h z e =
    let k : i ≡ 2 * (i / 2) = omega arith in
    sym (ap (λ (j : ℕ). get_or (digits_of (drop 1 (six_here s p))) j 48) k ∙ high_digit (drop 1 (six_here s p)) (i / 2) ∙ ap (λ (j : ℕ). 48 + j / 16) (here_byte s p (i / 2) (omega arith) ∙ sym e))

-- at an odd place the lower one
pub digit_odd : (s : List ℕ) (p i b : ℕ) → i < 10 → (i % 2 ≡ 0 → ⊥) → b ≡ get_or s (p + 1 + i / 2) 0 → 48 + b % 16 ≡ get_or (digits_here s p) i 48
unfolding digits_here
digit_odd s p i b h z e =
    let k : i ≡ 2 * (i / 2) + 1 = omega arith in
    sym (ap (λ (j : ℕ). get_or (digits_of (drop 1 (six_here s p))) j 48) k ∙ low_digit (drop 1 (six_here s p)) (i / 2) ∙ ap (λ (j : ℕ). 48 + j % 16) (here_byte s p (i / 2) (omega arith) ∙ sym e))

-- there are ten
pub ten_here : (s : List ℕ) (p : ℕ) → length (digits_here s p) ≡ 10
unfolding digits_here six_here digits_of
ten_here s p = refl

-- ---- digits from one place to another

-- one digit more at the end
pub slice_more : (ds : List ℕ) (p i : ℕ) → p ≤ i → i < length ds → slice p (i + 1) ds ≡ slice p i ds ++ (get_or ds i 48 ∷ [])
slice_more ds p i h l =
    rw (add-one, take-suc ds i 48 l) (drop-append-le p (take i ds) (get_or ds i 48 ∷ []) (omega (arith, length-take-le i ds (omega arith))))

slice_last : (ds : List ℕ) (p e : ℕ) → p < e → e ≤ length ds → slice p e ds ≡ slice p (e - 1) ds ++ (get_or ds (e - 1) 48 ∷ [])
slice_last ds p e h l = let k : e ≡ e - 1 + 1 = omega arith in ap (λ (j : ℕ). slice p j ds) k ∙ slice_more ds p (e - 1) (omega arith) (omega arith)

-- none
pub slice_none : (ds : List ℕ) (p e : ℕ) → e ≤ p → slice p e ds ≡ []
slice_none ds p e h = let k : length (take e ds) ≤ p = omega (arith, length-take e ds) in drop_of_length-le (take e ds) k

-- ---- useless zeros

trim_zero : (xs : List ℕ) → trimmed (xs ++ 48 ∷ []) ≡ trimmed xs
unfolding trimmed put_digit
trim_zero [] = refl
trim_zero (x ∷ xs) = ap (put_digit x) (trim_zero xs)

put_some : (x : ℕ) (xs : List ℕ) (d : ℕ) → put_digit x (xs ++ d ∷ []) ≡ x ∷ (xs ++ d ∷ [])
unfolding put_digit
put_some x [] d = refl
put_some x (y ∷ xs) d = refl

trim_keep : (xs : List ℕ) (d : ℕ) → (d ≡ 48 → ⊥) → trimmed (xs ++ d ∷ []) ≡ xs ++ d ∷ []
unfolding trimmed put_digit
trim_keep [] d n = rw (ne_eqb d 48 n)
trim_keep (x ∷ xs) d n = ap (put_digit x) (trim_keep xs d n) ∙ put_some x xs d

-- at first nothing is trimmed
pub trim_all : (ds : List ℕ) (p : ℕ) → length ds ≡ 10 → trimmed (slice p 10 ds) ≡ trimmed (drop p ds)
trim_all ds p l = ap (λ (xs : List ℕ). trimmed (drop p xs)) (take_all 10 ds (omega arith))

-- a zero at the end is trimmed
pub trim_one : (ds : List ℕ) (p e d : ℕ) → length ds ≡ 10 → p < e → e ≤ 10 → d ≡ get_or ds (e - 1) 48 → d ≡ 48 → trimmed (slice p e ds) ≡ trimmed (drop p ds) → trimmed (slice p (e - 1) ds) ≡ trimmed (drop p ds)
trim_one ds p e d l h t g z r =
    sym (trim_zero (slice p (e - 1) ds)) ∙ ap (λ (x : ℕ). trimmed (slice p (e - 1) ds ++ x ∷ [])) (sym z ∙ g) ∙ ap trimmed (sym (slice_last ds p e h (omega arith))) ∙ r

-- another digit stays
pub trim_stop : (ds : List ℕ) (p e d : ℕ) → length ds ≡ 10 → p < e → e ≤ 10 → d ≡ get_or ds (e - 1) 48 → (d ≡ 48 → ⊥) → trimmed (slice p e ds) ≡ trimmed (drop p ds) → Trims ds p e
trim_stop ds p e d l h t g n r =
    let k : slice p e ds ≡ slice p (e - 1) ds ++ (get_or ds (e - 1) 48 ∷ []) = slice_last ds p e h (omega arith) in
    record { least = omega arith; most = t; kept = k ∙ sym (trim_keep (slice p (e - 1) ds) (get_or ds (e - 1) 48) (λ z. n (g ∙ z))) ∙ ap trimmed (sym k) ∙ r }

-- none is left
pub trim_none : (ds : List ℕ) (p e : ℕ) → p ≤ e → e ≤ p → e ≤ 10 → trimmed (slice p e ds) ≡ trimmed (drop p ds) → Trims ds p e
unfolding trimmed
trim_none ds p e l h t r = record { least = l; most = t; kept = slice_none ds p e h ∙ ap trimmed (sym (slice_none ds p e h)) ∙ r }
