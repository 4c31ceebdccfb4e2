-- The number that a line of a kind has, told by its two bytes; and what stands at the front of a listing.
use Prim.Native.Nat.{ℕ, ◌+◌, ◌*◌, ◌<◌}
use native.Mathlib.Omega.{arith}
use mathlib.Core.Path.{◌≡◌, refl, sym, ◌∙◌}
use mathlib.Core.Bool.{Bool, true, false}
use mathlib.Core.List.{List}
use lib.Dec.{eqb, leb, ltb}
use lib.ListN.{get_or}
use borrow.Author.Tests.{lt-leb, le-leb, eq-eqb, ne_eqb, ltb-true, ltb-false, eqb-true, eqb-false}
use Rattle.paper.specs.Line.{line_number, lawful_number?, direct_number?}
use Rattle.list_text.specs.Texts.{Writes}
use Rattle.list_head.specs.Heads.{lawful_for, head_for}

module _ (direct : Bool) (l : List ℕ) (low : get_or l 0 0 < 256) where
  -- a stored line: the high byte decides
  pub stored_number : direct ≡ false → ltb (get_or l 1 0) 128 ≡ lawful_for direct (line_number l)
  unfolding lawful_number? line_number
  stored_number k = rw k (go (ltb (get_or l 1 0) 128) refl)
    where
      go : (b : Bool) → ltb (get_or l 1 0) 128 ≡ b → ltb (get_or l 1 0) 128 ≡ leb (get_or l 0 0 + 256 * get_or l 1 0) 32767
      go true e = e ∙ sym (le-leb (get_or l 0 0 + 256 * get_or l 1 0) 32767 (omega (arith, low, ltb-true (get_or l 1 0) 128 e)))
      go false e = e ∙ sym (lt-leb (get_or l 0 0 + 256 * get_or l 1 0) 32767 (omega (arith, ltb-false (get_or l 1 0) 128 e)))

  -- a direct line with the right high byte: the low byte decides
  pub direct_low : direct ≡ true → get_or l 1 0 ≡ 128 → eqb (get_or l 0 0) 0 ≡ lawful_for direct (line_number l)
  unfolding direct_number? line_number
  direct_low k h = rw k (go (eqb (get_or l 0 0) 0) refl)
    where
      go : (b : Bool) → eqb (get_or l 0 0) 0 ≡ b → eqb (get_or l 0 0) 0 ≡ eqb (get_or l 0 0 + 256 * get_or l 1 0) 32768
      go true e = e ∙ sym (eq-eqb (get_or l 0 0 + 256 * get_or l 1 0) 32768 (omega (arith, h, eqb-true (get_or l 0 0) 0 e)))
      go false e = e ∙ sym (ne_eqb (get_or l 0 0 + 256 * get_or l 1 0) 32768 (λ z. eqb-false (get_or l 0 0) 0 e (omega (arith, h, z))))

  -- with another high byte it has another number
  pub direct_high : direct ≡ true → (get_or l 1 0 ≡ 128 → ⊥) → eqb (get_or l 1 0) 128 ≡ lawful_for direct (line_number l)
  unfolding direct_number? line_number
  direct_high k h = rw k (ne_eqb (get_or l 1 0) 128 h ∙ sym (ne_eqb (get_or l 0 0 + 256 * get_or l 1 0) 32768 (λ z. h (omega (arith, low, z)))))

-- a direct line's listing begins with its first statement
pub direct_head : (direct : Bool) (n : ℕ) (out : List ℕ) → direct ≡ true → Writes (head_for direct n) 0 out 0 out
direct_head direct n out k = rw k (record { size = refl; bytes = refl })

-- a stored line's with its number
pub stored_head : (direct : Bool) (n : ℕ) (old new : List ℕ) (r : ℕ) → direct ≡ false → Writes (head_for false n) 0 old r new → Writes (head_for direct n) 0 old r new
stored_head direct n old new r k w = rw k w
