-- The six bytes of a numeral by its digits: where the first digit that is not zero stands says the range and the exponent, and ten digits
-- from there on are the bytes.
use Prim.Native.Nat.{ℕ, zero, suc, ◌+◌, ◌-◌, ◌*◌, ◌/◌, ◌%◌, ◌^◌, ◌≤◌, ◌<◌}
use native.Mathlib.Nat.{pow-suc, mul-le-mul_left, mul-le-mul_right, le_trans, lt_of_lt_of_le, lt_of_le_of_lt, mul-lt-mul_of_pos_right, pow-le-pow_right, le-div_iff_mul-le, div-lt_iff_lt-mul, add-zero}
use native.Mathlib.Omega.{arith}
use mathlib.Core.Path.{◌≡◌, refl, sym, ap, subst, ◌∙◌}
use mathlib.Core.Bool.{Bool, true, false, and-false}
use mathlib.Core.List.{List, [], ◌∷◌}
use lib.Dec.{leb, eqb}
use lib.ListN.{length, drop, get_or, length-drop, drop_of_length-le}
use lib.Seq.{drop-cons, drop-drop, get_or-drop}
use borrow.Author.Tests.{lt-leb, le-leb, lt-ltb, le-ltb, ne_eqb, eqb-true, eqb-false}
use Rattle.laws.specs.Runs.{All, all_drop}
use Rattle.paper.specs.Bytes.{pick, run, digit?}
use Rattle.paper.specs.Constants.{value, in_range, zero_bytes, six, five, decimal_byte}
use Rattle.laws.specs.Constants.{pow_add, ten_pos, six_is, pairs_apart}
use Rattle.std.specs.Prelude.{Some, None}
use Rattle.constant_bytes.specs.Numerals.{digit_at, pair_at, nought?, bytes_with, six_from, six_if, six_of}
use Rattle.constant_bytes.proofs.Quotients.{quotient_is}
use Rattle.constant_bytes.proofs.Values.{digit_most, value_below, value_least, value_skip, skipped, cut, cut_is}

-- ---- digits at places

-- digits are at most 9
pub digit_at_most : (ds : List ℕ) (i : ℕ) → All digit? ds → digit_at ds i ≤ 9
unfolding digit_at
digit_at_most [] i a = omega arith
digit_at_most (x ∷ xs) zero a = digit_most x a.0
digit_at_most (x ∷ xs) (suc i) a = digit_at_most xs i a.1

-- two digits as a number
tens : List ℕ → ℕ → ℕ
tens ds i = digit_at ds i * 10 + digit_at ds (i + 1)

-- the first of the digits from a place on
cut_first : (t a i : ℕ) (ds : List ℕ) → cut (suc t) a (drop i ds) ≡ cut t (a * 10 + digit_at ds i) (drop (i + 1) ds)
unfolding cut digit_at
cut_first t a i ds = rw (drop-drop 1 i ds, get_or-drop i ds 0 48, add-zero i)

cut_pair : (t a i j : ℕ) (ds : List ℕ) → j ≡ i + 2 → cut (suc (suc t)) a (drop i ds) ≡ cut t (a * 100 + tens ds i) (drop j ds)
unfolding tens
cut_pair t a i j ds e =
    let p : i + 1 + 1 ≡ j = omega arith in
    let v : (a * 10 + digit_at ds i) * 10 + digit_at ds (i + 1) ≡ a * 100 + (digit_at ds i * 10 + digit_at ds (i + 1)) = omega arith in
    cut_first (suc t) a i ds ∙ cut_first t (a * 10 + digit_at ds i) (i + 1) ds ∙ ap (λ (k : ℕ). cut t ((a * 10 + digit_at ds i) * 10 + digit_at ds (i + 1)) (drop k ds)) p
    ∙ ap (λ (k : ℕ). cut t k (drop j ds)) v

-- eight digits after a
cut_eight : (a i : ℕ) (ds : List ℕ) → cut 8 a (drop i ds) ≡ (((a * 100 + tens ds i) * 100 + tens ds (i + 2)) * 100 + tens ds (i + 4)) * 100 + tens ds (i + 6)
unfolding cut
cut_eight a i ds =
    cut_pair 6 a i (i + 2) ds refl
    ∙ cut_pair 4 _ (i + 2) (i + 4) ds (omega arith)
    ∙ cut_pair 2 _ (i + 4) (i + 6) ds (omega arith)
    ∙ cut_pair 0 _ (i + 6) (i + 8) ds (omega arith)

-- ---- ten digits as five bytes

tens_most : (ds : List ℕ) (i : ℕ) → All digit? ds → tens ds i < 100
unfolding tens
tens_most ds i a = omega (arith, digit_at_most ds i a, digit_at_most ds (i + 1) a)

tens_byte : (ds : List ℕ) (i : ℕ) → All digit? ds → decimal_byte (tens ds i) ≡ pair_at ds i
unfolding tens pair_at decimal_byte
tens_byte ds i a = omega (arith, digit_at_most ds i a, digit_at_most ds (i + 1) a)

one_byte : (y : ℕ) → y ≤ 9 → decimal_byte y ≡ y
unfolding decimal_byte
one_byte y h = omega arith

-- a first pair, and eight digits from a place on
five_is : (m i q : ℕ) (ds : List ℕ) → All digit? ds → m < 100 → q ≡ cut 8 m (drop i ds) → five q ≡ decimal_byte m ∷ pair_at ds i ∷ pair_at ds (i + 2) ∷ pair_at ds (i + 4) ∷ pair_at ds (i + 6) ∷ []
unfolding five
five_is m i q ds a h e =
    let p = pairs_apart m (tens ds i) (tens ds (i + 2)) (tens ds (i + 4)) (tens ds (i + 6)) q h (tens_most ds i a) (tens_most ds (i + 2) a) (tens_most ds (i + 4) a) (tens_most ds (i + 6) a) (e ∙ cut_eight m i ds) in
    rw (p.0, p.1, p.2, p.3, p.4, tens_byte ds i a, tens_byte ds (i + 2) a, tens_byte ds (i + 4) a, tens_byte ds (i + 6) a)

-- ---- the range

-- what the first digit that is not zero says of a value: m is its power of ten
pub record Leads (m v : ℕ) : Type 0 where
  pub low : 10 ^ m ≤ v
  pub high : v < 10 ^ suc m

-- a place among the digits, with m digits after it
pub leads : (ds : List ℕ) (z m : ℕ) → All digit? ds → z ≡ run nought? ds → length ds ≡ z + suc m → Leads m (value 0 (drop z ds))
unfolding digit_at
leads ds z m a e l =
    let inside : z < length ds = omega arith in
    let split : drop z ds ≡ get_or ds z 48 ∷ drop (suc z) ds = drop-cons ds z 48 inside in
    let rest : length (drop (suc z) ds) ≡ m = length-drop (suc z) ds ∙ omega arith in
    let size : length (drop z ds) ≡ suc m = length-drop z ds ∙ omega arith in
    let n : get_or ds z 48 - 48 ≡ 0 → ⊥ = subst (λ (k : ℕ). k < length ds → get_or ds k 48 - 48 ≡ 0 → ⊥) (sym e) (skipped ds) inside in
    record {
      low = subst (λ (k : ℕ). 10 ^ k ≤ value 0 (drop z ds)) rest (subst (λ (r : List ℕ). 10 ^ length (drop (suc z) ds) ≤ value 0 r) (sym split) (value_least (get_or ds z 48) (drop (suc z) ds) n));
      high = subst (λ (k : ℕ). value 0 (drop z ds) < 10 ^ k) size (value_below (drop z ds) (all_drop digit? z ds a));
    }

leads_some : (m v : ℕ) → Leads m v → v ≡ 0 → ⊥
leads_some m v h e = omega (arith, ten_pos m, h.low)

-- v * 10 ^ k is below the power of ten after that of its first digit
below_next : (m v k b : ℕ) → Leads m v → suc m + k ≤ b → v * 10 ^ k < 10 ^ b
below_next m v k b h l =
    lt_of_lt_of_le (mul-lt-mul_of_pos_right h.high (ten_pos k)) (subst (λ (x : ℕ). x ≤ 10 ^ b) (pow_add 10 (suc m) k) (pow-le-pow_right (omega arith) l))

-- and at least the power of ten of its first digit
at_least : (m v k b : ℕ) → Leads m v → b ≤ m + k → 10 ^ b ≤ v * 10 ^ k
at_least m v k b h l =
    le_trans (subst (λ (x : ℕ). 10 ^ b ≤ x) (pow_add 10 m k) (pow-le-pow_right (omega arith) l)) (mul-le-mul_right (10 ^ k) h.low)

too_low : (v u d m : ℕ) → Leads m v → m + u + 98 < d → in_range v u d ≡ false
unfolding in_range
too_low v u d m h l = rw (ne_eqb v 0 (leads_some m v h), lt-leb (10 ^ d) (v * 10 ^ (u + 98)) (below_next m v (u + 98) d h (omega arith)))

too_high : (v u d m : ℕ) → Leads m v → 98 + d ≤ m + u → in_range v u d ≡ false
unfolding in_range
too_high v u d m h l = rw (ne_eqb v 0 (leads_some m v h), le-ltb (v * 10 ^ u) (10 ^ (98 + d)) (at_least m v u (98 + d) h (omega arith))) (and-false (leb (10 ^ d) (v * 10 ^ (u + 98))))

within : (v u d m : ℕ) → Leads m v → d ≤ m + u + 98 → m + u < 98 + d → in_range v u d ≡ true
unfolding in_range
within v u d m h l g =
    rw (ne_eqb v 0 (leads_some m v h), le-leb (10 ^ d) (v * 10 ^ (u + 98)) (at_least m v (u + 98) d h (omega arith)), lt-ltb (v * 10 ^ u) (10 ^ (98 + d)) (below_next m v u (98 + d) h (omega arith)))

-- ---- the bytes

-- nine digits, after a zero, or ten
quotient_low : (p v t : ℕ) → p ≤ v → 1000000000 ≤ t → 100000000 * (p * 10) ≤ v * t
quotient_low p v t h l = le_trans (omega arith) (mul-le-mul_left v l)

quotient_high : (p v t : ℕ) → v < p * 10 → t ≤ 10000000000 → v * t < 10000000000 * (p * 10)
quotient_high p v t h l = lt_of_le_of_lt (mul-le-mul_left v l) (omega arith)

-- the exponent, and the digits cut to t
six_cut : (w : List ℕ) (u d m t k : ℕ) → All digit? w → length w ≡ suc m → Leads m (value 0 w) → k ≤ 97 → u + 106 + suc m ≡ t + (d + 2 * k) → 1000000000 ≤ 10 ^ t → 10 ^ t ≤ 10000000000
    → six (value 0 w) u d ≡ (k + 15) ∷ five (cut t 0 w)
six_cut w u d m t k a l h hk e lo hi =
    let v : ℕ = value 0 w in
    let q : v * 10 ^ t / 10 ^ suc m ≡ cut t 0 w = subst (λ (n : ℕ). v * 10 ^ t / 10 ^ n ≡ cut t 0 w) l (cut_is t 0 w a) in
    let next : v < 10 ^ m * 10 = subst (λ (n : ℕ). v < n) (pow-suc 10 m) h.high in
    let low : 100000000 * 10 ^ suc m ≤ v * 10 ^ t = subst (λ (n : ℕ). 100000000 * n ≤ v * 10 ^ t) (sym (pow-suc 10 m)) (quotient_low (10 ^ m) v (10 ^ t) h.low lo) in
    let high : v * 10 ^ t < 10000000000 * 10 ^ suc m = subst (λ (n : ℕ). v * 10 ^ t < 10000000000 * n) (sym (pow-suc 10 m)) (quotient_high (10 ^ m) v (10 ^ t) next hi) in
    six_is v u d k (cut t 0 w) (le_trans (ten_pos m) h.low) hk (quotient_is v u d k (suc m) t e ∙ q)
    (subst (λ (n : ℕ). 100000000 ≤ n) q ((le-div_iff_mul-le (ten_pos (suc m))).1 low))
    (subst (λ (n : ℕ). n < 10000000000) q ((div-lt_iff_lt-mul (ten_pos (suc m))).1 high))

nothing : (y b : ℕ) → 0 * b + y ≡ y
nothing y b = omega arith

-- ---- the four outcomes, for digits with their first that is not zero at z, m digits after it

-- only zeros
pub six_zero : (ds : List ℕ) (u d : ℕ) → length ds ≤ run nought? ds → six_of (value 0 ds) u d ≡ Some zero_bytes
unfolding six_of six_if in_range six value
six_zero ds u d l = rw (value_skip ds, drop_of_length-le ds l)

module _ (ds : List ℕ) (z m u d : ℕ) (a : All digit? ds) (e : z ≡ run nought? ds) (l : length ds ≡ z + suc m) where
  skip : value 0 ds ≡ value 0 (drop z ds)
  skip = value_skip ds ∙ ap (λ (k : ℕ). value 0 (drop k ds)) (sym e)

  first : Leads m (value 0 (drop z ds))
  first = leads ds z m a e l

  pub six_low : m + u + 98 < d → six_of (value 0 ds) u d ≡ None
  unfolding six_of six_if
  six_low h = rw (skip, too_low (value 0 (drop z ds)) u d m first h)

  pub six_high : 98 + d ≤ m + u → six_of (value 0 ds) u d ≡ None
  unfolding six_of six_if
  six_high h = rw (skip, too_high (value 0 (drop z ds)) u d m first h)

  module _ (x : ℕ) (h : d ≤ m + u + 98) (g : m + u < 98 + d) (ex : x ≡ m + u + 98 - d) where
    size : length (drop z ds) ≡ suc m
    size = length-drop z ds ∙ omega arith

    even : x % 2 ≡ 0 → six_of (value 0 ds) u d ≡ Some (bytes_with (x / 2 + 15) (digit_at ds z) ds (z + 1))
    unfolding six_of six_if
    even r =
        rw (
          skip,
          within (value 0 (drop z ds)) u d m first h g,
          six_cut (drop z ds) u d m 9 (x / 2) (all_drop digit? z ds a) size first (omega arith) (omega arith) (omega arith) (omega arith),
          five_is (digit_at ds z) (z + 1) (cut 9 0 (drop z ds)) ds a (omega (arith, digit_at_most ds z a)) (cut_first 8 0 z ds ∙ ap (λ (k : ℕ). cut 8 k (drop (z + 1) ds)) (nothing (digit_at ds z) 10)),
          one_byte (digit_at ds z) (digit_at_most ds z a),
        )

    odd : x % 2 ≡ 1 → six_of (value 0 ds) u d ≡ Some (bytes_with (x / 2 + 15) (pair_at ds z) ds (z + 2))
    unfolding six_of six_if
    odd r =
        rw (
          skip,
          within (value 0 (drop z ds)) u d m first h g,
          six_cut (drop z ds) u d m 10 (x / 2) (all_drop digit? z ds a) size first (omega arith) (omega arith) (omega arith) (omega arith),
          five_is (tens ds z) (z + 2) (cut 10 0 (drop z ds)) ds a (tens_most ds z a) (cut_pair 8 0 z (z + 2) ds refl ∙ ap (λ (k : ℕ). cut 8 k (drop (z + 2) ds)) (nothing (tens ds z) 100)),
          tens_byte ds z a,
        )

    -- x is the power of ten of the first digit, and 98
    pub six_within : six_of (value 0 ds) u d ≡ Some (six_from ds z x)
    unfolding six_from
    six_within = go (eqb (x % 2) 0) refl
      where
        go : (b : Bool) → eqb (x % 2) 0 ≡ b → six_of (value 0 ds) u d ≡ Some (pick b (bytes_with (x / 2 + 15) (digit_at ds z) ds (z + 1)) (bytes_with (x / 2 + 15) (pair_at ds z) ds (z + 2)))
        go true r = even (eqb-true (x % 2) 0 r)
        go false r = let n : x % 2 ≡ 0 → ⊥ = eqb-false (x % 2) 0 r in odd (omega arith)
