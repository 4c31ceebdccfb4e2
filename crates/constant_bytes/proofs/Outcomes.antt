-- The outcomes of `six_bytes`, each from what the code has found on its way there.
use Prim.Native.Nat.{ℕ, suc, ◌+◌, ◌-◌, ◌≤◌, ◌<◌}
use native.Mathlib.Omega.{arith}
use mathlib.Core.Path.{◌≡◌, sym, ap, ◌∙◌}
use mathlib.Core.List.{List}
use lib.ListN.{length}
use Rattle.paper.specs.Bytes.{run}
use Rattle.constant_bytes.specs.declared.Numeral.{Numeral}
use Rattle.std.specs.Prelude.{Some, None}
use Rattle.paper.specs.Constants.{zero_bytes}
use Rattle.constant_bytes.specs.Numerals.{Written, digits_in, nought?, up, down, six_from, numeral_six}
use Rattle.constant_bytes.proofs.Places.{all_digits}
use Rattle.constant_bytes.proofs.TenDigits.{six_zero, six_low, six_high, six_within}

module _ (s : List ℕ) (n : Numeral) (w : Written s n) {z k : ℕ} (e : z ≡ run nought? (digits_in s n)) (all : k ≡ length (digits_in s n)) where
  -- only zeros
  pub numeral_zero : k ≤ z → Some zero_bytes ≡ numeral_six s n
  unfolding numeral_six
  numeral_zero h = sym (six_zero (digits_in s n) (up n) (down n) (omega arith))

  module _ (inside : z < k) {u d : ℕ} (eu : u ≡ up n) (ed : d ≡ down n) where
    after : length (digits_in s n) ≡ z + suc (k - 1 - z)
    after = omega arith

    -- below the range
    pub numeral_low : k - 1 - z + u + 98 < d → None ≡ numeral_six s n
    unfolding numeral_six
    numeral_low h = sym (six_low (digits_in s n) z (k - 1 - z) (up n) (down n) (all_digits s n w) e after (omega arith))

    -- above it
    pub numeral_high : 98 + d ≤ k - 1 - z + u → None ≡ numeral_six s n
    unfolding numeral_six
    numeral_high h = sym (six_high (digits_in s n) z (k - 1 - z) (up n) (down n) (all_digits s n w) e after (omega arith))

    -- within it
    pub numeral_within : {r : List ℕ} → d ≤ k - 1 - z + u + 98 → k - 1 - z + u < 98 + d → r ≡ six_from (digits_in s n) z (k - 1 - z + u + 98 - d) → Some r ≡ numeral_six s n
    unfolding numeral_six
    numeral_within h g q =
        ap Some q ∙ sym (six_within (digits_in s n) z (k - 1 - z) (up n) (down n) (all_digits s n w) e after (k - 1 - z + u + 98 - d) (omega arith) (omega arith) (omega arith))
