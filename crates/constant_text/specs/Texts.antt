-- Six bytes at a place of a list, and how their text is laid out.
use Rattle.std.specs.Prelude.{ℕ, ◌+◌, ◌-◌, ◌/◌, ◌%◌, ◌≤◌, ◌≡◌, Bool, ◌&&◌, Option, Some, None, List, [], ◌∷◌, ◌++◌, leb, ltb, length, drop, get_or}
use Rattle.std.proofs.lemmas.List.Edits.{sets}
use Rattle.std.proofs.Math.Seq.{slice}
use Rattle.paper.specs.Bytes.{pick}
use Rattle.paper.specs.Constants.{digits_of, trimmed, with_point, power_text}
use Rattle.constant_text.specs.declared.layout.Layout.{Layout}

-- the six bytes at a place, zeros past the end
unfoldable pub six_here : List ℕ → ℕ → List ℕ
six_here s p = get_or s p 0 ∷ get_or s (p + 1) 0 ∷ get_or s (p + 2) 0 ∷ get_or s (p + 3) 0 ∷ get_or s (p + 4) 0 ∷ get_or s (p + 5) 0 ∷ []

-- ---- what the helpers say

-- both digits of a byte are at most m
unfoldable pub digits_most : ℕ → ℕ → Bool
digits_most m b = leb (b / 16) m && leb (b % 16) m

-- the ten digits of the constant at a place, as text
unfoldable pub digits_here : List ℕ → ℕ → List ℕ
digits_here s p = digits_of (drop 1 (six_here s p))

-- digits before the point: at least a zero
unfoldable pub lead : List ℕ → List ℕ
lead [] = 48 ∷ []
lead (d ∷ ds) = d ∷ ds

-- the power of ten's text, if there is one
unfoldable pub power_part : Option ℕ → List ℕ
power_part (Some x) = power_text x
power_part None = []

-- ten digits laid out: those from a place to the point before it, those up to an end after it, and the power of ten
unfoldable pub laid_at : ℕ → ℕ → ℕ → Option ℕ → List ℕ → List ℕ
laid_at from point end power ds = (lead (slice from point ds) ++ with_point (slice point end ds)) ++ power_part power

-- as a layout says
unfoldable pub laid : Layout → List ℕ → List ℕ
laid x ds = laid_at x.from x.point x.end x.power ds

-- the digits from a place to the last that is no useless zero
pub record Trims (ds : List ℕ) (p r : ℕ) : Type 0 where
  pub least : p ≤ r
  pub most : r ≤ 10
  pub kept : slice p r ds ≡ trimmed (drop p ds)

-- a text is laid out so
pub record Shaped (ds text : List ℕ) (x : Layout) : Type 0 where
  pub text_is : text ≡ laid x ds

-- the length of digits from one place to another: `none` if there are none, else so many `more`
unfoldable pub part_size : ℕ → ℕ → ℕ → ℕ → ℕ
part_size from to none more = pick (ltb from to) (to - from + more) none

-- the length of the power of ten's text
unfoldable pub power_size : Option ℕ → ℕ
power_size (Some x) = 4
power_size None = 0

-- the length of what is laid out
unfoldable pub size_of : Layout → ℕ
size_of x = part_size x.from x.point 1 0 + part_size x.point x.end 0 1 + power_size x.power

-- bytes were written at a place, and the next place is told
pub record Wrote (n : ℕ) (old new bytes : List ℕ) (r : ℕ) : Type 0 where
  pub next : r ≡ n + length bytes
  pub wrote : new ≡ sets old n bytes
