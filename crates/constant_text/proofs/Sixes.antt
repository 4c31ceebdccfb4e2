-- The six bytes at a place.
use Prim.Native.Nat.{ℕ, ◌+◌, ◌≤◌}
use native.Mathlib.Omega.{arith}
use mathlib.Core.Path.{◌≡◌, ap, sym}
use mathlib.Core.List.{List, [], ◌∷◌}
use lib.ListN.{length, get_or-eq_default}
use Rattle.paper.specs.Constants.{constant_text}
use Rattle.constant_text.specs.Texts.{six_here}

-- past the end they are zeros
pub six_past : (s : List ℕ) (p : ℕ) → length s ≤ p → 0 ∷ 0 ∷ 0 ∷ 0 ∷ 0 ∷ 0 ∷ [] ≡ six_here s p
unfolding six_here
six_past s p h =
    let h1 : length s ≤ p + 1 = omega arith in
    let h2 : length s ≤ p + 2 = omega arith in
    let h3 : length s ≤ p + 3 = omega arith in
    let h4 : length s ≤ p + 4 = omega arith in
    let h5 : length s ≤ p + 5 = omega arith in
    sym (rw (get_or-eq_default s 0 h, get_or-eq_default s 0 h1, get_or-eq_default s 0 h2, get_or-eq_default s 0 h3, get_or-eq_default s 0 h4, get_or-eq_default s 0 h5))

-- where they were taken, they have the text of those at the place
pub same_text : {six : List ℕ} (s : List ℕ) (p : ℕ) → six ≡ six_here s p → constant_text (six_here six 0) ≡ constant_text (six_here s p)
unfolding six_here
same_text s p e = ap (λ (l : List ℕ). constant_text (six_here l 0)) e
