-- Where the digits of a numeral stand in its text.
use Prim.Native.Nat.{ℕ, zero, suc, ◌+◌, ◌-◌, ◌≤◌, ◌<◌}
use native.Mathlib.Omega.{arith}
use mathlib.Core.Path.{◌≡◌, refl, sym, ap, subst, ◌∙◌}
use mathlib.Core.Bool.{◌&&◌}
use mathlib.Core.List.{List, [], ◌∷◌, ◌++◌}
use lib.Dec.{leb, eqb, leb→le}
use lib.ListN.{length, take, drop, get_or, length-append, length-drop, get_or-append, get_or-eq_default}
use lib.Seq.{length-take-le, get_or-append-add, get_or-take, get_or-drop}
use borrow.Author.Tests.{eq-eqb, ne_eqb}
use Rattle.laws.specs.Tests.{and_left, as_T}
use Rattle.laws.specs.Runs.{All, all_every}
use Rattle.paper.specs.Bytes.{run, digit?, every}
use Rattle.buffers.specs.Runs.{run_on, run_off, run_past}
use Rattle.constant_bytes.specs.declared.Numeral.{Numeral}
use Rattle.constant_bytes.specs.Numerals.{Written, digits_in, digit_at, nought?}

-- inside a list what stands past its end does not matter
pub any_default : (l : List ℕ) (i a b : ℕ) → i < length l → get_or l i a ≡ get_or l i b
any_default [] i a b h = absurd (omega arith)
any_default (x ∷ l) zero a b h = refl
any_default (x ∷ l) (suc i) a b h = any_default l i a b (omega arith)

-- digits are bytes from 48 on
from_48 : (ds : List ℕ) (i : ℕ) → All digit? ds → 48 ≤ get_or ds i 48
unfolding digit?
from_48 [] i a = omega arith
from_48 (x ∷ ds) zero a = leb→le 48 x (and_left (leb 48 x) (leb x 57) (as_T (leb 48 x && leb x 57) a.0))
from_48 (x ∷ ds) (suc i) a = from_48 ds i a.1

module _ (s : List ℕ) (n : Numeral) (w : Written s n) where
  pub all_digits : All digit? (digits_in s n)
  all_digits = all_every digit? (digits_in s n) (as_T (every digit? (digits_in s n)) w.all_digits)

  whole_size : length (take n.whole s) ≡ n.whole
  whole_size = length-take-le n.whole s w.whole_there

  fraction_size : length (take n.fraction (drop (suc n.whole) s)) ≡ n.fraction
  fraction_size = length-take-le n.fraction (drop (suc n.whole) s) (subst (λ (k : ℕ). n.fraction ≤ k) (sym (length-drop (suc n.whole) s)) w.fraction_there)

  pub count : length (digits_in s n) ≡ n.whole + n.fraction
  unfolding digits_in
  count = omega (arith, length-append (take n.whole s) (take n.fraction (drop (suc n.whole) s)), whole_size, fraction_size)

  -- before the point
  whole_byte : (i : ℕ) → i < n.whole → get_or (digits_in s n) i 48 ≡ get_or s i 0
  unfolding digits_in
  whole_byte i h =
      get_or-append (take n.whole s) (take n.fraction (drop (suc n.whole) s)) 48 i (omega (arith, whole_size))
      ∙ get_or-take n.whole s i 48 h ∙ any_default s i 48 0 (omega (arith, w.whole_there))

  -- after it
  fraction_byte : (i : ℕ) → n.whole ≤ i → i - n.whole < n.fraction → get_or (digits_in s n) i 48 ≡ get_or s (i + 1) 0
  unfolding digits_in
  fraction_byte i h g =
      let j : ℕ = i - n.whole in
      let e : i ≡ length (take n.whole s) + j = omega (arith, whole_size) in
      let k : suc n.whole + j ≡ i + 1 = omega arith in
      ap (λ (x : ℕ). get_or (take n.whole s ++ take n.fraction (drop (suc n.whole) s)) x 48) e
      ∙ get_or-append-add (take n.whole s) (take n.fraction (drop (suc n.whole) s)) j 48
      ∙ get_or-take n.fraction (drop (suc n.whole) s) j 48 g
      ∙ get_or-drop (suc n.whole) s j 48
      ∙ ap (λ (x : ℕ). get_or s x 48) k
      ∙ any_default s (i + 1) 48 0 (omega (arith, w.fraction_there))

  pub whole_low : (i : ℕ) → i < n.whole → 48 ≤ get_or s i 0
  whole_low i h = subst (λ (k : ℕ). 48 ≤ k) (whole_byte i h) (from_48 (digits_in s n) i all_digits)

  pub fraction_low : (i : ℕ) → n.whole ≤ i → i - n.whole < n.fraction → 48 ≤ get_or s (i + 1) 0
  fraction_low i h g = subst (λ (k : ℕ). 48 ≤ k) (fraction_byte i h g) (from_48 (digits_in s n) i all_digits)

  pub whole_digit : (i : ℕ) → i < n.whole → get_or s i 0 - 48 ≡ digit_at (digits_in s n) i
  unfolding digit_at
  whole_digit i h = sym (ap (λ (k : ℕ). k - 48) (whole_byte i h))

  pub fraction_digit : (i : ℕ) → n.whole ≤ i → i - n.whole < n.fraction → get_or s (i + 1) 0 - 48 ≡ digit_at (digits_in s n) i
  unfolding digit_at
  fraction_digit i h g = sym (ap (λ (k : ℕ). k - 48) (fraction_byte i h g))

  pub past_digit : (i : ℕ) → n.whole ≤ i → n.fraction ≤ i - n.whole → 0 ≡ digit_at (digits_in s n) i
  unfolding digit_at
  past_digit i h g = let l : length (digits_in s n) ≤ i = omega (arith, count) in rw (get_or-eq_default (digits_in s n) 48 l)

-- ---- the run of noughts in front

nought_at : (ds : List ℕ) (i d : ℕ) → i < length ds → d ≡ digit_at ds i → nought? (get_or ds i 0) ≡ eqb d 0
unfolding nought? digit_at
nought_at ds i d h e = rw (any_default ds i 0 48 h, e)

-- one more nought
pub one_more : (ds : List ℕ) (i d : ℕ) → i < length ds → d ≡ digit_at ds i → d ≡ 0 → run nought? ds ≡ i + run nought? (drop i ds) → run nought? ds ≡ i + 1 + run nought? (drop (i + 1) ds)
one_more ds i d h e z r = let k : run nought? (drop i ds) ≡ suc (run nought? (drop (i + 1) ds)) = run_on nought? ds i h (nought_at ds i d h e ∙ eq-eqb d 0 z) in omega arith

-- a digit that is not nought ends them
pub no_more : (ds : List ℕ) (i d : ℕ) → i < length ds → d ≡ digit_at ds i → (d ≡ 0 → ⊥) → run nought? ds ≡ i + run nought? (drop i ds) → i ≡ run nought? ds
no_more ds i d h e z r = let k : run nought? (drop i ds) ≡ 0 = run_off nought? ds i h (nought_at ds i d h e ∙ ne_eqb d 0 z) in omega arith

-- and so does the end
pub all_noughts : (ds : List ℕ) (i : ℕ) → length ds ≤ i → run nought? ds ≡ i + run nought? (drop i ds) → i ≡ run nought? ds
all_noughts ds i h r = let k : run nought? (drop i ds) ≡ 0 = run_past nought? ds i h in omega arith
