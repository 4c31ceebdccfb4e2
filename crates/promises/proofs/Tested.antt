-- The first condition that holds, found by a call's tests one after the other.
use Rattle.std.specs.Prelude.{ℕ, ◌<◌, ◌≡◌, refl, Bool, true, false, not, ◌&&◌, ◌||◌, ◌⊎◌, List, [], ◌∷◌, T, ltb}
use Rattle.std.proofs.Common.{arith, subst, sym, inl, inr, ⊎_elim, ltb→lt, ltb-true, ltb-false}
use Rattle.paper.specs.Bytes.{pick}
use Rattle.laws.specs.Tests.{and_left, and_right}
use Rattle.promises.specs.Terms.{FirstHolding, none_holds, this_holds, later_holds, NoneHolds, Exactly}

-- a list has one first condition that holds
one_first : {cs : List (ℕ × Type 0)} {j k : ℕ} → FirstHolding cs j → FirstHolding cs k → j ≡ k
one_first none_holds none_holds = refl
one_first (this_holds a) (this_holds b) = refl
one_first (this_holds a) (later_holds n g) = absurd (n a)
one_first (later_holds m f) (this_holds b) = absurd (m b)
one_first (later_holds m f) (later_holds n g) = one_first f g

-- every number of a list is a refusal's
abbrev pub refusals? : List (ℕ × Type 0) → Bool
refusals? [] = true
refusals? (c ∷ cs) = ltb 0 c.0 && refusals? cs

none_of : {cs : List (ℕ × Type 0)} {k : ℕ} → T (refusals? cs) → FirstHolding cs k → k ≡ 0 → NoneHolds cs
none_of r none_holds e = tt
none_of r (this_holds {k} c) e = let h = ltb→lt 0 k (and_left (ltb 0 k) _ r) in absurd (omega arith)
none_of r (later_holds {j} n f) e = (n, none_of (and_right (ltb 0 j) _ r) f e)

of_none : (cs : List (ℕ × Type 0)) → NoneHolds cs → FirstHolding cs 0
of_none [] n = none_holds
of_none (c ∷ cs) n = later_holds n.0 (of_none cs n.1)

-- a call that answers the first one's number answers each number exactly when it is that
pub exactly : (cs : List (ℕ × Type 0)) (n : ℕ) → T (refusals? cs) → FirstHolding cs n → Exactly cs n
exactly cs n r f = record {
  each = (λ k. ((λ e. subst (FirstHolding cs) e f), (λ g. one_first f g)));
  done = (none_of r f, (λ h. one_first f (of_none cs h)));
}

-- ---- tests

-- a test says whether a condition holds
abbrev pub Says : Bool → Type 0 → Type 0
Says b C = (b ≡ true → C) × (b ≡ false → C → ⊥)

-- one number is less than another
pub says_less : (a b : ℕ) → Says (ltb a b) (a < b)
says_less a b = ((λ e. ltb-true a b e), (λ e h. let k = ltb-false a b e in omega arith))

-- what a test asks is not so
pub says_not : {C : Type 0} (b : Bool) → (T b → C) → (C → T b) → Says (not b) (C → ⊥)
says_not true f g = ((λ e. absurd (subst T (sym e) tt)), (λ e n. n (f tt)))
says_not false f g = ((λ e. g), (λ e n. subst T e tt))

-- one of two is so
pub says_either : {C D : Type 0} (a b : Bool) → Says a C → Says b D → Says (a || b) (C ⊎ D)
says_either true b s t = ((λ e. inl (s.0 refl)), (λ e. absurd (subst T e tt)))
says_either false b s t = ((λ e. inr (t.0 e)), (λ e. ⊎_elim (s.1 refl) (t.1 e)))

-- a test that refuses, and those after it
pub tested : {A C : Type 0} {cs : List (ℕ × Type 0)} (number : A → ℕ) (b : Bool) (x y : A) → Says b C → (b ≡ false → FirstHolding cs (number y)) → FirstHolding ((number x, C) ∷ cs) (number (pick b x y))
tested number true x y s f = this_holds (s.0 refl)
tested number false x y s f = later_holds (s.1 refl) (f refl)

-- a test that lets pass, and those after it
pub passed : {A C : Type 0} {cs : List (ℕ × Type 0)} (number : A → ℕ) (b : Bool) (x y : A) → Says (not b) C → (T b → FirstHolding cs (number x)) → FirstHolding ((number y, C) ∷ cs) (number (pick b x y))
passed number true x y s f = later_holds (s.1 refl) (f tt)
passed number false x y s f = this_holds (s.0 refl)
