-- What the arms of a `match` that is a table say of it.
use Rattle.std.proofs.Common.{◌≡◌, ℕ, zero, suc, ◌+◌, ◌-◌, ◌≤◌, Bool, true, false, eqb, List, [], ◌∷◌, get_or, sym, refl, subst, add-zero, arith, eqb→eq}
use Rattle.paper.specs.Bytes.{pick}
use Rattle.laws.specs.Tests.{as_T}

-- a number is none of a list, whose last is first
abbrev pub NoneOf : List ℕ → ℕ → Type 0
NoneOf [] x = Unit {0}
NoneOf (k ∷ ks) x = NoneOf ks x × (x ≡ k → ⊥)

-- the places of a list, counted from k on, that have another number than d, the last place first, before others
unfoldable pub places : ℕ → ℕ → List ℕ → List ℕ → List ℕ
places k d [] others = others
places k d (x ∷ l) others = places (suc k) d l (pick (eqb x d) others (k ∷ others))

none_of_others : (k d : ℕ) (l others : List ℕ) (p : ℕ) → NoneOf (places k d l others) p → NoneOf others p
unfolding places
none_of_others k d [] others p n = n
none_of_others k d (x ∷ l) others p n = go (eqb x d) (none_of_others (suc k) d l (pick (eqb x d) others (k ∷ others)) p n)
  where
    go : (b : Bool) → NoneOf (pick b others (k ∷ others)) p → NoneOf others p
    go true m = m
    go false m = m.0

at_no_place : (k d : ℕ) (l others : List ℕ) (i : ℕ) → NoneOf (places k d l others) (k + i) → get_or l i d ≡ d
unfolding places
at_no_place k d [] others i n = refl
at_no_place k d (x ∷ l) others zero n = go (eqb x d) refl (none_of_others (suc k) d l (pick (eqb x d) others (k ∷ others)) (k + 0) n)
  where
    go : (b : Bool) → eqb x d ≡ b → NoneOf (pick b others (k ∷ others)) (k + 0) → x ≡ d
    go true e m = eqb→eq x d (as_T (eqb x d) e)
    go false e m = absurd (m.1 (add-zero k))
at_no_place k d (x ∷ l) others (suc i) n =
    let e : k + suc i ≡ suc k + i = omega arith in
    at_no_place (suc k) d l (pick (eqb x d) others (k ∷ others)) i (subst (NoneOf (places k d (x ∷ l) others)) e n)

-- a number from k on that is none of the places of a table, counted from k on
pub at_none_from : (k d : ℕ) (l : List ℕ) (x : ℕ) → k ≤ x → NoneOf (places k d l []) x → d ≡ get_or l (x - k) d
at_none_from k d l x h n = let e : x ≡ k + (x - k) = omega arith in sym (at_no_place k d l [] (x - k) (subst (NoneOf (places k d l [])) e n))

-- the same, counted from 0 on
pub at_none : (d : ℕ) (l : List ℕ) (x : ℕ) → NoneOf (places 0 d l []) x → d ≡ get_or l x d
at_none d l x n = let e : x ≡ 0 + x = omega arith in sym (at_no_place 0 d l [] x (subst (NoneOf (places 0 d l [])) e n))
