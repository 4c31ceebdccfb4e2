-- Constants: powers of ten and of a hundred, and the exponent and ten digits that paper's six bytes have.
use Rattle.std.specs.Prelude.{ℕ, zero, suc, ◌+◌, ◌*◌, ◌/◌, ◌%◌, ◌^◌, ◌≤◌, ◌<◌, ◌≡◌, refl, List, ◌∷◌, T, eqb, length}
use Rattle.std.proofs.Common.{pow-suc, add-zero, add-suc, mul_assoc, mul-le-mul_left, le_trans, mul-one, le-div_iff_mul-le, div-lt_iff_lt-mul, arith, sym, ap, subst, ◌∙◌, eqb→eq, le-leb, ne_eqb}
use Rattle.std.proofs.Math.Nat.{pow-succ', pow-zero, one-le-pow, one-le-mul}
use Rattle.std.proofs.lemmas.Bool.{lt-leb}
use Rattle.paper.specs.Constants.{powers, six_at, six, five, right_constant?}
use Rattle.laws.specs.Tests.{and_left}

-- a power of a sum is a product
pub pow_add : (n a b : ℕ) → n ^ (a + b) ≡ n ^ a * n ^ b
pow_add n a zero = ap (λ (z : ℕ). n ^ z) (add-zero a) ∙ sym (mul-one (n ^ a)) ∙ ap (λ (z : ℕ). n ^ a * z) (sym (pow-zero n))
pow_add n a (suc b) =
    ap (λ (z : ℕ). n ^ z) (add-suc a b) ∙ pow-suc n (a + b) ∙ ap (λ (z : ℕ). z * n) (pow_add n a b) ∙ mul_assoc (n ^ a) (n ^ b) n ∙ ap (λ (z : ℕ). n ^ a * z) (sym (pow-suc n b))

-- a hundred is two tens
pub pow_twice : (k : ℕ) → 10 ^ (2 * k) ≡ 100 ^ k
pow_twice zero = refl
pow_twice (suc k) =
    let e : 2 * suc k ≡ 2 * k + 2 = omega arith in
    ap (λ (z : ℕ). 10 ^ z) e ∙ pow_add 10 (2 * k) 2 ∙ ap (λ (z : ℕ). z * 100) (pow_twice k) ∙ sym (pow-suc 100 k)

-- powers of ten are above zero
pub ten_pos : (k : ℕ) → zero < 10 ^ k
ten_pos k = one-le-pow k 10 (omega arith)

-- and powers of a hundred
pub hundred_pos : (k : ℕ) → zero < 100 ^ k
hundred_pos k = one-le-pow k 100 (omega arith)

first : (n m k : ℕ) → n * 100 * 100 ^ k ≤ m → n * 100 ≤ m
first n m k lo = le_trans (subst (λ (z : ℕ). z ≤ n * 100 * 100 ^ k) (mul-one (n * 100)) (mul-le-mul_left (n * 100) (hundred_pos k))) lo

-- the climb by hundreds stops at the only exponent that fits
powers_is : (f n m k : ℕ) → n * 100 ^ k ≤ m → m < n * 100 ^ suc k → k ≤ f → powers f n m ≡ k
unfolding powers
powers_is zero n m k lo hi h = omega arith
powers_is (suc f) n m zero lo hi h = rw (lt-leb (n * 100) m hi)
powers_is (suc f) n m (suc k) lo hi h =
    let lo' : n * 100 * 100 ^ k ≤ m = subst (λ (z : ℕ). z ≤ m) (ap (λ (z : ℕ). n * z) (pow-succ' 100 k) ∙ sym (mul_assoc n 100 (100 ^ k))) lo in
    let hi' : m < n * 100 * 100 ^ suc k = subst (λ (z : ℕ). m < z) (ap (λ (z : ℕ). n * z) (pow-succ' 100 (suc k)) ∙ sym (mul_assoc n 100 (100 ^ suc k))) hi in
    rw (le-leb (n * 100) m (first n m k lo')) (ap suc (powers_is f (n * 100) m k lo' hi' (omega arith)))

-- with the scale as a variable, so that no numeral of a hundred digits is met
scale_low : (x p b : ℕ) → 100000000 * b ≤ x * (p * 100000000) → b ≤ x * p
scale_low x p b h = omega arith

scale_high : (x p b : ℕ) → x * (p * 100000000) < 10000000000 * b → x * p < b * 100
scale_high x p b h = omega arith

-- the exponent and the digits of a constant, from its value cut to ten digits
pub six_is : (v u d k q : ℕ) → zero < v → k ≤ 97 → v * 10 ^ u * 100 ^ 53 / (10 ^ d * 100 ^ k) ≡ q → 100000000 ≤ q → q < 10000000000 → six v u d ≡ (k + 15) ∷ five q
unfolding six six_at
six_is v u d k q hv hk hq lo hi =
    let x : ℕ = v * 10 ^ u in
    let b : ℕ = 10 ^ d * 100 ^ k in
    let pos : zero < b = one-le-mul (ten_pos d) (hundred_pos k) in
    let below : b ≤ x * 100 ^ 49 = scale_low x (100 ^ 49) b ((le-div_iff_mul-le pos).0 (subst (λ (z : ℕ). 100000000 ≤ z) (sym hq) lo)) in
    let above : x * 100 ^ 49 < b * 100 = scale_high x (100 ^ 49) b ((div-lt_iff_lt-mul pos).0 (subst (λ (z : ℕ). z < 10000000000) (sym hq) hi)) in
    let found : powers 97 (10 ^ d) (x * 100 ^ 49) ≡ k =
    powers_is 97 (10 ^ d) (x * 100 ^ 49) k below (subst (λ (z : ℕ). x * 100 ^ 49 < z) (mul_assoc (10 ^ d) (100 ^ k) 100 ∙ ap (λ (z : ℕ). 10 ^ d * z) (sym (pow-suc 100 k))) above) hk in
    rw (ne_eqb v 0 (λ e. omega arith), found, hq)

-- five pairs below 100 come apart again
pub pairs_apart : (m1 m2 m3 m4 m5 q : ℕ) → m1 < 100 → m2 < 100 → m3 < 100 → m4 < 100 → m5 < 100 → q ≡ (((m1 * 100 + m2) * 100 + m3) * 100 + m4) * 100 + m5
    → (q / 100000000 % 100 ≡ m1) × (q / 1000000 % 100 ≡ m2) × (q / 10000 % 100 ≡ m3) × (q / 100 % 100 ≡ m4) × (q % 100 ≡ m5)
pairs_apart m1 m2 m3 m4 m5 q h1 h2 h3 h4 h5 e = (omega arith, omega arith, omega arith, omega arith, omega arith)

-- a right constant has six bytes
pub six_long : (b : List ℕ) → T (right_constant? b) → length b ≡ 6
unfolding right_constant?
six_long b t = eqb→eq (length b) 6 (and_left (eqb (length b) 6) _ t)
