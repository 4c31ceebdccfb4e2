-- What the six bytes of a value are, if the value is ten digits times a power of a hundred.
use Rattle.std.specs.Prelude.{ℕ, zero, suc, ◌+◌, ◌*◌, ◌^◌, ◌≤◌, ◌<◌, ◌≡◌, refl, ◌∷◌}
use Rattle.std.proofs.Common.{mul_assoc, mul-le-mul_left, mul-le-mul_right, mul-one, mul-lt-mul_of_pos_right, lt_of_mul-lt-mul_right, arith, sym, ap, subst, ◌∙◌, le-leb, ne_eqb, lt-ltb}
use Rattle.std.proofs.Math.Nat.{one-le-mul, div-eq_of_eq-mul_left, pow-le-pow_right}
use Rattle.paper.specs.Tokens.{constant}
use Rattle.paper.specs.Constants.{five, in_range, constant_of}
use Rattle.laws.specs.Constants.{pow_add, pow_twice, ten_pos, hundred_pos, six_is}

-- x * p98 * 10^8 is q * b, q at least 10^8, b at least d: so d is at most x * p98
range_lo : (x p q b d : ℕ) → x * (p * 100000000) ≡ q * b → 100000000 ≤ q → d ≤ b → d ≤ x * p
range_lo x p q b d e h l = omega (arith, mul-le-mul_right b h)

-- x * r is q * (d * k), q below t, k at most k97 and t * k97 is p * r: so x is below p * d
range_hi : (x r q d k k97 t p : ℕ) → x * r ≡ q * (d * k) → q < t → zero < d * k → k ≤ k97 → t * k97 ≡ p * r → x < p * d
range_hi x r q d k k97 t p e h pos l w =
    let one : q * (d * k) < t * (d * k) = mul-lt-mul_of_pos_right h pos in
    let two : t * (d * k) ≤ t * (d * k97) = mul-le-mul_left t (mul-le-mul_left d l) in
    let three : t * (d * k97) ≡ p * r * d = regroup t d k97 ∙ ap (λ (z : ℕ). z * d) w in
    let four : p * r * d ≡ p * d * r = omega arith in
    lt_of_mul-lt-mul_right r (omega (arith, e, one, two, three, four))
  where
    regroup : (a b c : ℕ) → a * (b * c) ≡ a * c * b
    regroup a b c = omega arith

-- u + 106 = z + d + 2 * k: the same value in two ways
scale : (v u d k z : ℕ) → u + 106 ≡ z + d + 2 * k → v * 10 ^ u * 100 ^ 53 ≡ v * 10 ^ z * (10 ^ d * 100 ^ k)
scale v u d k z e =
    mul_assoc v (10 ^ u) (100 ^ 53) ∙ ap (λ (n : ℕ). v * n) (sym (pow_add 10 u 106) ∙ ap (λ (n : ℕ). 10 ^ n) e ∙ pow_add 10 (z + d) (2 * k) ∙ ap (λ (n : ℕ). n * 10 ^ (2 * k)) (pow_add 10 z d))
    ∙ ap (λ (n : ℕ). v * (10 ^ z * 10 ^ d * n)) (pow_twice k)
    ∙ five_of v (10 ^ z) (10 ^ d) (100 ^ k)
  where
    five_of : (a b c x : ℕ) → a * (b * c * x) ≡ a * b * (c * x)
    five_of a b c x = omega arith

-- a value of ten digits q = v * 10 ^ z, in range, is the constant with these digits
pub constant_is : (v u d k z q : ℕ) → q ≡ v * 10 ^ z → u + 106 ≡ z + d + 2 * k → k ≤ 97 → 100000000 ≤ q → q < 10000000000 → constant_of v u d ≡ constant ((k + 15) ∷ five q)
unfolding constant_of in_range
constant_is v u d k z q eq eu hk lo hi =
    let b : ℕ = 10 ^ d * 100 ^ k in
    let pos : zero < b = one-le-mul (ten_pos d) (hundred_pos k) in
    let whole : v * 10 ^ u * 100 ^ 53 ≡ q * b = scale v u d k z eu ∙ ap (λ (n : ℕ). n * b) (sym eq) in
    let vpos : zero < v = positive v (10 ^ z) (subst (λ (n : ℕ). 1 ≤ n) eq (omega arith)) in
    let d≤b : 10 ^ d ≤ b = subst (λ (n : ℕ). n ≤ b) (mul-one (10 ^ d)) (mul-le-mul_left (10 ^ d) (hundred_pos k)) in
    let low : 10 ^ d ≤ v * 10 ^ (u + 98) =
    subst (λ (n : ℕ). 10 ^ d ≤ n) (mul_assoc v (10 ^ u) (10 ^ 98) ∙ ap (λ (n : ℕ). v * n) (sym (pow_add 10 u 98))) (range_lo (v * 10 ^ u) (10 ^ 98) q b (10 ^ d) whole lo d≤b) in
    let high : v * 10 ^ u < 10 ^ (98 + d) =
    subst (λ (n : ℕ). v * 10 ^ u < n) (sym (pow_add 10 98 d)) (range_hi (v * 10 ^ u) (100 ^ 53) q (10 ^ d) (100 ^ k) (100 ^ 97) 10000000000 (10 ^ 98) whole hi pos (pow-le-pow_right (omega arith) hk) refl) in
    rw (ne_eqb v 0 (λ e. omega arith), le-leb (10 ^ d) (v * 10 ^ (u + 98)) low, lt-ltb (v * 10 ^ u) (10 ^ (98 + d)) high, six_is v u d k q vpos hk (div-eq_of_eq-mul_left pos whole) lo hi)
  where
    positive : (a b : ℕ) → 1 ≤ a * b → zero < a
    positive zero b h = omega arith
    positive (suc a) b h = omega arith
