-- The six bytes of a value in range are right.
use Rattle.std.specs.Prelude.{ℕ, zero, suc, ◌+◌, ◌*◌, ◌/◌, ◌%◌, ◌^◌, ◌≤◌, ◌<◌, ◌≡◌, refl, Bool, true, false, not, ◌&&◌, ◌||◌, List, ◌∷◌, T, leb, ltb, eqb}
use Rattle.std.proofs.Common.{pow-suc, mul_assoc, le-div_iff_mul-le, div-lt_iff_lt-mul, mul-lt-mul_of_pos_right, div-mul-le_self, arith, sym, ap, subst, ◌∙◌, leb→le, le→leb, ltb→lt, ne_eqb, leb-true, leb-false}
use Rattle.std.proofs.Math.Nat.{pow-succ', one-le-pow, one-le-mul, lt-div-mul-add}
use Rattle.paper.specs.Bytes.{pick, same, every}
use Rattle.paper.specs.Constants.{powers, six_at, six, five, in_range, zero_bytes, right_constant?, decimal?, decimal_byte}
use Rattle.laws.specs.Tests.{and_left, and_right, and_both}
use Rattle.laws.specs.Constants.{pow_add}
use Rattle.promises.specs.Terms.{CutTo}
use Rattle.grounds.specs.Lists.{or_right}

record Power (f n m k : ℕ) : Type 0 where
  pub low : n * 100 ^ k ≤ m
  pub high : m < n * 100 ^ suc k
  pub most : k ≤ f

power_more : (f n m k : ℕ) → Power f (n * 100) m k → Power (suc f) n m (suc k)
power_more f n m k p =
    let e : (z : ℕ) → n * 100 * 100 ^ z ≡ n * 100 ^ suc z = (λ z. mul_assoc n 100 (100 ^ z) ∙ ap (λ (y : ℕ). n * y) (sym (pow-succ' 100 z))) in
    record {
      low = subst (λ (z : ℕ). z ≤ m) (e k) p.low;
      high = subst (λ (z : ℕ). m < z) (e (suc k)) p.high;
      most = omega (arith, p.most);
    }

power_go : (f n m : ℕ) (b : Bool) → leb (n * 100) m ≡ b → n ≤ m → m < n * 100 ^ suc (suc f) → (n * 100 ≤ m → Power f (n * 100) m (powers f (n * 100) m)) → Power (suc f) n m (pick b (suc (powers f (n * 100) m)) 0)
power_go f n m true e l h ih = power_more f n m (powers f (n * 100) m) (ih (leb-true (n * 100) m e))
power_go f n m false e l h ih =
    let g : m < n * 100 = leb-false (n * 100) m e in
    record { low = omega arith; high = omega arith; most = omega arith }

powers_fit : (f n m : ℕ) → n ≤ m → m < n * 100 ^ suc f → Power f n m (powers f n m)
unfolding powers
powers_fit zero n m l h = record { low = omega arith; high = h; most = omega arith }
powers_fit (suc f) n m l h =
    power_go f n m (leb (n * 100) m) refl l h
    (λ g. powers_fit f (n * 100) m g (subst (λ (z : ℕ). m < z) (ap (λ (y : ℕ). n * y) (pow-succ' 100 (suc f)) ∙ sym (mul_assoc n 100 (100 ^ suc f))) h))

-- with the scale as a variable
quotient_lo : (x p b : ℕ) → b ≤ x * p → 100000000 * b ≤ x * (p * 100000000)
quotient_lo x p b h = omega arith

quotient_hi : (x p b : ℕ) → x * p < b * 100 → x * (p * 100000000) < 10000000000 * b
quotient_hi x p b h = omega arith

-- ten digits as five bytes: decimal, the first not zero
byte_decimal : (n : ℕ) → n < 100 → T (decimal? (decimal_byte n))
unfolding decimal? decimal_byte
byte_decimal n h =
    let a : (n / 10 * 16 + n % 10) / 16 ≤ 9 = omega arith in
    let b : (n / 10 * 16 + n % 10) % 16 ≤ 9 = omega arith in
    and_both (leb ((n / 10 * 16 + n % 10) / 16) 9) (leb ((n / 10 * 16 + n % 10) % 16) 9) (le→leb ((n / 10 * 16 + n % 10) / 16) 9 a) (le→leb ((n / 10 * 16 + n % 10) % 16) 9 b)

byte_some : (n : ℕ) → n < 100 → 1 ≤ n → T (not (eqb (decimal_byte n) 0))
unfolding decimal_byte
byte_some n h l = let e : eqb (n / 10 * 16 + n % 10) 0 ≡ false = ne_eqb (n / 10 * 16 + n % 10) 0 (λ z. omega arith) in subst (λ (z : Bool). T (not z)) (sym e) tt

five_right : (b q : ℕ) → 15 ≤ b → b ≤ 112 → 100000000 ≤ q → q < 10000000000 → T (right_constant? (b ∷ five q))
unfolding right_constant? five every
five_right b q lo hi l h =
    or_right (same (b ∷ five q) zero_bytes) (leb 15 b && (leb b 112 && (every decimal? (five q) && not (eqb (decimal_byte (q / 100 ^ 4 % 100)) 0))))
    (and_both (leb 15 b) _ (le→leb 15 b lo) (and_both (leb b 112) _ (le→leb b 112 hi)
    (and_both (every decimal? (five q)) _
    (and_both (decimal? (decimal_byte (q / 100 ^ 4 % 100))) _ (byte_decimal (q / 100 ^ 4 % 100) (omega arith))
    (and_both (decimal? (decimal_byte (q / 100 ^ 3 % 100))) _ (byte_decimal (q / 100 ^ 3 % 100) (omega arith))
    (and_both (decimal? (decimal_byte (q / 100 ^ 2 % 100))) _ (byte_decimal (q / 100 ^ 2 % 100) (omega arith))
    (and_both (decimal? (decimal_byte (q / 100 % 100))) _ (byte_decimal (q / 100 % 100) (omega arith))
    (and_both (decimal? (decimal_byte (q % 100))) _ (byte_decimal (q % 100) (omega arith)) tt)))))
    (byte_some (q / 100000000 % 100) (omega arith) (omega arith)))))

upper : (x p n c : ℕ) → x < c * n → 1 ≤ p → x * p < n * (c * p)
upper x p n c h g = subst (λ (z : ℕ). x * p < z) (regroup c n p) (mul-lt-mul_of_pos_right h g)
  where
    regroup : (a b c : ℕ) → a * b * c ≡ b * (a * c)
    regroup a b c = omega arith

-- a quotient is the greatest that fits
quotient : (x b : ℕ) → zero < b → x < (x / b + 1) * b
quotient x b h = omega (arith, lt-div-mul-add {a = x} {b = b} h)

-- a value in range that is not zero
cut_some : (v u d : ℕ) → zero < v → 10 ^ d ≤ v * 10 ^ (u + 98) → v * 10 ^ u < 10 ^ (98 + d) → CutTo v u d
unfolding six six_at
cut_some v u d pos lo hi =
    let x : ℕ = v * 10 ^ u in
    let n : ℕ = 10 ^ d in
    let m : ℕ = x * 100 ^ 49 in
    let lo' : n ≤ m = subst (λ (z : ℕ). n ≤ z) (ap (λ (z : ℕ). v * z) (pow_add 10 u 98) ∙ sym (mul_assoc v (10 ^ u) (10 ^ 98))) lo in
    let hi' : m < n * 100 ^ 98 = upper x (100 ^ 49) n (10 ^ 98) (subst (λ (z : ℕ). x < z) (pow_add 10 98 d) hi) (one-le-pow 49 100 (omega arith)) in
    let p : Power 97 n m (powers 97 n m) = powers_fit 97 n m lo' hi' in
    let k : ℕ = powers 97 n m in
    let b : ℕ = n * 100 ^ k in
    let bpos : zero < b = one-le-mul (one-le-pow d 10 (omega arith)) (one-le-pow k 100 (omega arith)) in
    record {
      k = k;
      q = x * 100 ^ 53 / b;
      bytes = rw (ne_eqb v 0 (λ e. omega arith));
      in_bounds = p.most;
      two_digits = (le-div_iff_mul-le bpos).1 (quotient_lo x (100 ^ 49) b p.low);
      ten_digits = (div-lt_iff_lt-mul bpos).1 (quotient_hi x (100 ^ 49) b (subst (λ (z : ℕ). m < z) (ap (λ (z : ℕ). n * z) (pow-suc 100 k) ∙ sym (mul_assoc n (100 ^ k) 100)) p.high));
      not_less = div-mul-le_self (x * 100 ^ 53) b;
      not_more = quotient (x * 100 ^ 53) b bpos;
    }

-- the six bytes of a value in range are its digits with the lower ones cut
pub cut : (v u d : ℕ) → zero < v → T (in_range v u d) → CutTo v u d
unfolding in_range
cut v u d pos t =
    let w : T (leb (10 ^ d) (v * 10 ^ (u + 98)) && ltb (v * 10 ^ u) (10 ^ (98 + d))) = subst (λ (z : Bool). T (z || (leb (10 ^ d) (v * 10 ^ (u + 98)) && ltb (v * 10 ^ u) (10 ^ (98 + d))))) (ne_eqb v 0 (λ e. omega arith)) t in
    cut_some v u d pos (leb→le (10 ^ d) (v * 10 ^ (u + 98)) (and_left (leb (10 ^ d) (v * 10 ^ (u + 98))) _ w)) (ltb→lt (v * 10 ^ u) (10 ^ (98 + d)) (and_right (leb (10 ^ d) (v * 10 ^ (u + 98))) _ w))

-- zero is six zero bytes
pub cut_zero : (u d : ℕ) → six 0 u d ≡ zero_bytes
unfolding six
cut_zero u d = refl

zero_right : T (right_constant? zero_bytes)
unfolding right_constant? zero_bytes same
zero_right = tt

-- the six bytes of a value in range are right
pub six_right : (v u d : ℕ) → T (in_range v u d) → T (right_constant? (six v u d))
six_right zero u d t = subst (λ (z : List ℕ). T (right_constant? z)) (sym (cut_zero u d)) zero_right
six_right (suc v) u d t =
    let c = cut (suc v) u d (omega arith) t in
    subst (λ (z : List ℕ). T (right_constant? z)) (sym c.bytes) (five_right (c.k + 15) c.q (omega arith) (omega (arith, c.in_bounds)) c.two_digits c.ten_digits)
