-- A name from its bytes before its last and its last: less its `(`, and its kind.
use Rattle.std.specs.Prelude.{ℕ, ◌≡◌, refl, Bool, true, false, List, [], ◌∷◌, ◌++◌, eqb}
use Rattle.std.proofs.Common.{ap, ◌∙◌}
use Rattle.paper.specs.Bytes.{pick}
use Rattle.paper.specs.Tokens.{by_kind}
use Rattle.paper.specs.Names.{less_open}

-- less its `(`
pub bare_last : (front : List ℕ) (last : ℕ) → less_open (front ++ last ∷ []) ≡ pick (eqb last 40) front (front ++ last ∷ [])
unfolding less_open
bare_last [] last = refl
bare_last (x ∷ []) last = go (eqb last 40)
  where
    go : (t : Bool) → x ∷ pick t [] (last ∷ []) ≡ pick t (x ∷ []) (x ∷ last ∷ [])
    go true = refl
    go false = refl
bare_last (x ∷ y ∷ ys) last = ap (λ (l : List ℕ). x ∷ l) (bare_last (y ∷ ys) last) ∙ go (eqb last 40)
  where
    go : (t : Bool) → x ∷ pick t (y ∷ ys) (y ∷ ys ++ last ∷ []) ≡ pick t (x ∷ y ∷ ys) (x ∷ y ∷ ys ++ last ∷ [])
    go true = refl
    go false = refl

-- a name's kind is that of its last byte
pub kind_last : (xs : List ℕ) (x n s a : ℕ) → by_kind (xs ++ x ∷ []) n s a ≡ by_kind (x ∷ []) n s a
unfolding by_kind
kind_last [] x n s a = refl
kind_last (y ∷ []) x n s a = refl
kind_last (y ∷ z ∷ zs) x n s a = kind_last (z ∷ zs) x n s a
