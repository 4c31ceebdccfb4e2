-- The test of equal lists of bytes says that they are equal.
use Rattle.std.specs.Prelude.{ℕ, ◌≡◌, refl, Bool, true, false, ◌&&◌, eqb, List, [], ◌∷◌}
use lib.Pointwise.{pointwise}
use Rattle.std.proofs.Common.{arith, sym, ap, ◌∙◌, subst}
use Rattle.paper.specs.Bytes.{pick, same}
use Rattle.laws.specs.Names.{same_self, same_ne}

-- no test both passes and fails
pub no_bool : {A : Type 0} → false ≡ true → A
no_bool e = let z : ◌≡◌ {A = ℕ} 0 1 = cc in absurd (omega arith)

-- equal lists pass
pub same_of : {s t : List ℕ} → s ≡ t → same s t ≡ true
same_of {s} {t} e = subst (λ (x : List ℕ). same s x ≡ true) e (same_self s)

-- a test that passes just where two lists are equal
pub same_as : (r : Bool) (s t : List ℕ) → (r ≡ true → s ≡ t) → (s ≡ t → r ≡ true) → r ≡ same s t
same_as true s t f g = sym (same_of (f refl))
same_as false s t f g = sym (same_ne s t (λ e. no_bool (g e)))

both : (a b : Bool) → a && b ≡ pick a b false
both true b = refl
both false b = refl

-- the library's test of equal lists is that of bytes
pub pointwise_same : (s t : List ℕ) → pointwise eqb s t ≡ same s t
unfolding same
pointwise_same [] [] = refl
pointwise_same [] (y ∷ t) = refl
pointwise_same (x ∷ s) [] = refl
pointwise_same (x ∷ s) (y ∷ t) = ap (λ (b : Bool). eqb x y && b) (pointwise_same s t) ∙ both (eqb x y) (same s t)
