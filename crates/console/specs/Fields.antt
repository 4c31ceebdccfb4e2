-- The bytes of a line and of a field of it, and the laws by which they are found.
use Rattle.std.specs.Prelude.{ℕ, ◌≤◌, ◌<◌, ◌≡◌, Bool, true, false, not, List, [], eqb, leb, length, take}
use Rattle.std.proofs.Common.{le-leb, eq-eqb, ne_eqb}
use Rattle.std.proofs.lemmas.Bool.{lt-leb}
use Rattle.paper.specs.Bytes.{pick}

-- a byte is not the mark that ends a field
unfoldable pub unmarked : ℕ → ℕ → Bool
unmarked mark b = not (eqb b mark)

-- the first n bytes of a buffer, and none where it has fewer
unfoldable pub all_or_none : ℕ → List ℕ → List ℕ
all_or_none n s = pick (leb n (length s)) (take n s) []

-- all where there are so many
pub kept_all : (n : ℕ) (s : List ℕ) → n ≤ length s → all_or_none n s ≡ take n s
unfolding all_or_none
kept_all n s h = rw (le-leb n (length s) h)

-- none where there are fewer
pub kept_none : (n : ℕ) (s : List ℕ) → length s < n → all_or_none n s ≡ take 0 s
unfolding all_or_none
kept_none n s h = rw (lt-leb n (length s) h)

-- the mark is not another byte
pub at_mark : (mark b : ℕ) → b ≡ mark → unmarked mark b ≡ false
unfolding unmarked
at_mark mark b e = rw (eq-eqb b mark e)

-- another byte is not the mark
pub off_mark : (mark b : ℕ) → (b ≡ mark → ⊥) → unmarked mark b ≡ true
unfolding unmarked
off_mark mark b d = rw (ne_eqb b mark d)
