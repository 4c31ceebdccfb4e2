-- Quotients of powers of ten, and the ten digits that paper divides out.
use Prim.Native.Nat.{ℕ, ◌+◌, ◌*◌, ◌/◌, ◌^◌}
use native.Mathlib.Nat.{mul_assoc, mul-div-mul_right}
use native.Mathlib.Omega.{arith}
use mathlib.Core.Path.{◌≡◌, sym, ap, ◌∙◌}
use Rattle.laws.specs.Constants.{pow_add, pow_twice, ten_pos}

-- a quotient of powers of ten goes by their difference
pub same_quotient : (v a b c d : ℕ) → a + d ≡ c + b → v * 10 ^ a / 10 ^ b ≡ v * 10 ^ c / 10 ^ d
same_quotient v a b c d e =
    sym (mul-div-mul_right (v * 10 ^ a) (10 ^ b) (ten_pos d))
    ∙ ap (λ (n : ℕ). n / (10 ^ b * 10 ^ d)) (mul_assoc v (10 ^ a) (10 ^ d) ∙ ap (λ (n : ℕ). v * n) (sym (pow_add 10 a d) ∙ ap (λ (n : ℕ). 10 ^ n) e ∙ pow_add 10 c b) ∙ sym (mul_assoc v (10 ^ c) (10 ^ b)))
    ∙ ap (λ (n : ℕ). v * 10 ^ c * 10 ^ b / n) (swapped (10 ^ b) (10 ^ d))
    ∙ mul-div-mul_right (v * 10 ^ c) (10 ^ d) (ten_pos b)
  where
    swapped : (x y : ℕ) → x * y ≡ y * x
    swapped x y = omega arith

-- the ten digits that paper divides out, with powers of ten alone
pub quotient_is : (v u d k m t : ℕ) → u + 106 + m ≡ t + (d + 2 * k) → v * 10 ^ u * 100 ^ 53 / (10 ^ d * 100 ^ k) ≡ v * 10 ^ t / 10 ^ m
quotient_is v u d k m t e =
    ap (λ (n : ℕ). n / (10 ^ d * 100 ^ k)) (mul_assoc v (10 ^ u) (100 ^ 53) ∙ ap (λ (n : ℕ). v * n) (sym (pow_add 10 u 106)))
    ∙ ap (λ (n : ℕ). v * 10 ^ (u + 106) / n) (ap (λ (n : ℕ). 10 ^ d * n) (sym (pow_twice k)) ∙ sym (pow_add 10 d (2 * k)))
    ∙ same_quotient v (u + 106) (d + 2 * k) t m e
