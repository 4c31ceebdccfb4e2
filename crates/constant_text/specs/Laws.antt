-- A law for callers: six bytes at a place.
use Rattle.std.specs.Prelude.{ℕ, ◌+◌, ◌≤◌, ◌<◌, ◌≡◌, refl, List, ◌∷◌, length, take, drop, get_or}
use Rattle.std.proofs.Common.{add-one, arith, sym, ap, ◌∙◌, drop-cons}
use Rattle.constant_text.specs.Texts.{six_here}

cons_at : (s : List ℕ) (p q : ℕ) → q ≡ p + 1 → p < length s → drop p s ≡ get_or s p 0 ∷ drop q s
cons_at s p q e h = drop-cons s p 0 h ∙ ap (λ (k : ℕ). get_or s p 0 ∷ drop k s) (sym (e ∙ add-one p))

-- where there are six bytes, they are those
pub here_six : (s : List ℕ) (p : ℕ) → p + 6 ≤ length s → six_here s p ≡ take 6 (drop p s)
unfolding six_here
here_six s p h =
    sym (rw (cons_at s p (p + 1) refl (omega arith), cons_at s (p + 1) (p + 2) (omega arith) (omega arith), cons_at s (p + 2) (p + 3) (omega arith) (omega arith), cons_at s (p + 3) (p + 4) (omega arith) (omega arith), cons_at s (p + 4) (p + 5) (omega arith) (omega arith), cons_at s (p + 5) (p + 6) (omega arith) (omega arith)))
