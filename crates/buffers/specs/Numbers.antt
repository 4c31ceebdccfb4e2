-- The number that decimal digits write, digit by digit.
use Rattle.std.specs.Prelude.{ℕ, ◌+◌, ◌-◌, ◌*◌, ◌≤◌, ◌<◌, min, ◌≡◌, refl, Bool, true, false, List, [], ◌∷◌, ltb, length, drop, get_or}
use Rattle.std.proofs.Common.{add-one, arith, sym, ◌∙◌, drop_of_length-le, drop-cons, ltb-true, ltb-false}
use Rattle.paper.specs.Constants.{value}

-- a number below 2 ^ 63, and 2 ^ 63 for any other
abbrev pub capped : ℕ → ℕ
capped n = min n 9223372036854775808

-- one digit more of a number that is capped once it is great
abbrev pub WithDigit : ℕ → ℕ → ℕ → Type 0
WithDigit n x r = (n ≤ 922337203685477580 → r ≡ n * 10 + (x - 48)) × (922337203685477580 < n → r ≡ 9223372036854775808)

grows : (a : ℕ) (xs : List ℕ) → a ≤ value a xs
unfolding value
grows a [] = omega arith
grows a (x ∷ xs) = omega (arith, grows (a * 10 + (x - 48)) xs)

one_more : (n x r : ℕ) (xs : List ℕ) → WithDigit n x r → capped (value r xs) ≡ capped (value n (x ∷ xs))
unfolding value
one_more n x r xs w = go (ltb 922337203685477580 n) refl
  where
    go : (b : Bool) → ltb 922337203685477580 n ≡ b → capped (value r xs) ≡ capped (value (n * 10 + (x - 48)) xs)
    go true e = let h = ltb-true 922337203685477580 n e in omega (arith, w.1 h, grows r xs, grows (n * 10 + (x - 48)) xs)
    go false e = rw (w.0 (ltb-false 922337203685477580 n e))

-- after one digit more, what is left of the digits still says the same as all of them
pub digit_on : (s : List ℕ) (i n r : ℕ) → i < length s → WithDigit n (get_or s i 0) r → capped (value n (drop i s)) ≡ capped (value 0 s) → capped (value r (drop (i + 1) s)) ≡ capped (value 0 s)
digit_on s i n r h w e = one_more n (get_or s i 0) r (drop (i + 1) s) w ∙ sym (rw (drop-cons s i 0 h, add-one)) ∙ e

-- after the last digit the number does
pub digits_end : (s : List ℕ) (i n : ℕ) → length s ≤ i → capped (value n (drop i s)) ≡ capped (value 0 s) → capped n ≡ capped (value 0 s)
unfolding value
digits_end s i n h e = rw (drop_of_length-le s h) at e
