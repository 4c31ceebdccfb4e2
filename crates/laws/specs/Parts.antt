-- The part of a list behind a place: cut short, or with bytes written before it.
use Rattle.std.specs.Prelude.{ℕ, zero, suc, ◌+◌, ◌-◌, ◌≤◌, ◌≡◌, refl, List, [], ◌∷◌, length, take, drop, set}
use Rattle.std.proofs.Common.{arith, sym, ap, ◌∙◌, drop-set-lt}
use Rattle.std.proofs.lemmas.List.Edits.{sets}
use Rattle.std.proofs.Math.Seq.{take-nil}

pub drop_take : (s n : ℕ) (l : List ℕ) → drop s (take n l) ≡ take (n - s) (drop s l)
drop_take zero n l = let z : n ≡ n - 0 = omega arith in ap (λ (k : ℕ). take k l) z
drop_take (suc s) zero l = let z : zero ≡ zero - suc s = omega arith in ap (λ (k : ℕ). take k (drop (suc s) l)) z
drop_take (suc s) (suc n) [] = sym (take-nil (suc n - suc s))
drop_take (suc s) (suc n) (x ∷ l) = let z : n - s ≡ suc n - suc s = omega arith in drop_take s n l ∙ ap (λ (k : ℕ). take k (drop s l)) z

pub drop_sets : (n : ℕ) (l : List ℕ) (i : ℕ) (xs : List ℕ) → i + length xs ≤ n → drop n (sets l i xs) ≡ drop n l
drop_sets n l i [] h = refl
drop_sets n l i (x ∷ xs) h = drop_sets n (set l i x) (suc i) xs (omega arith) ∙ drop-set-lt n l i x (omega arith)
