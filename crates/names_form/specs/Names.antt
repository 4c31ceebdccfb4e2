-- A name by its bytes, and the names that are still to come of some bytes.
use Rattle.std.specs.Prelude.{ℕ, ◌≡◌, refl, Bool, true, false, ◌&&◌, List, [], ◌∷◌, ◌++◌, eqb}
use lib.Pointwise.{pointwise}
use Rattle.paper.specs.Bytes.{pick, same}
use Rattle.paper.specs.Names.{names_in}
use Rattle.names_form.specs.declared.shape.Spelling.{Spelling}
use Rattle.names_form.specs.declared.table.Names.{Names}

-- a name's bytes
abbrev pub spelling : Spelling → List ℕ
spelling n = n.front.now ++ n.last ∷ []

-- the names that are still to come
abbrev pub coming : Names → List (List ℕ)
coming s = names_in s.rest.now

none_picked : (t : Bool) → false ≡ pick t false false
none_picked true = refl
none_picked false = refl

-- two names are the same where their bytes before the last are, and their last
pub same_parts : (a b : List ℕ) (x y : ℕ) → pointwise eqb a b && eqb x y ≡ same (a ++ x ∷ []) (b ++ y ∷ [])
unfolding same
same_parts [] [] x y = go (eqb x y)
  where
    go : (t : Bool) → t ≡ pick t true false
    go true = refl
    go false = refl
same_parts [] (w ∷ []) x y = none_picked (eqb x w)
same_parts [] (w ∷ v ∷ b) x y = none_picked (eqb x w)
same_parts (z ∷ []) [] x y = none_picked (eqb z y)
same_parts (z ∷ v ∷ a) [] x y = none_picked (eqb z y)
same_parts (z ∷ a) (w ∷ b) x y = go (eqb z w) (same_parts a b x y)
  where
    go : (t : Bool) → pointwise eqb a b && eqb x y ≡ same (a ++ x ∷ []) (b ++ y ∷ []) → (t && pointwise eqb a b) && eqb x y ≡ pick t (same (a ++ x ∷ []) (b ++ y ∷ [])) false
    go true e = e
    go false e = refl
