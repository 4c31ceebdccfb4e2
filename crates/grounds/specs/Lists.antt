-- Tests of which one passes or none, and tests over lists.
use Rattle.std.specs.Prelude.{ℕ, suc, ◌≡◌, refl, Bool, true, false, ◌&&◌, ◌||◌, ◌⊎◌, T, eqb, length}
use Rattle.std.proofs.Common.{arith, subst, sym, ◌∙◌, inl, inr, eq-eqb, ne_eqb}
use mathlib.Core.List.Memᴰ
use mathlib.Core.List.{List, [], ◌∷◌, ◌++◌, Memᴰ}
use Rattle.std.proofs.Math.Dec.{eqb-suc-suc}
use Rattle.paper.specs.Bytes.{pick, run, every}
use Rattle.laws.specs.Tests.{and_left, and_right, and_both, is_true, as_T}
use Rattle.laws.specs.Names.{every_append as passes_append}

-- one of two that passes
pub or_left : (a b : Bool) → T a → T (a || b)
or_left true b t = tt
or_left false b t = absurd t

-- or the other of two
pub or_right : (a b : Bool) → T b → T (a || b)
or_right true b t = tt
or_right false b t = t

-- if neither of two passes, the one does not, and the other does not
pub or_false_left : (a b : Bool) → a || b ≡ false → a ≡ false
or_false_left true b e = e
or_false_left false b e = refl

-- nor does the other
pub or_false_right : (a b : Bool) → a || b ≡ false → b ≡ false
or_false_right true b e = let z : ◌≡◌ {A = ℕ} 0 1 = cc in absurd (omega arith)
or_false_right false b e = e

-- a test of every entry of two lists passes at every entry of both end to end
pub every_append : {A : Type 0} (p : A → Bool) (xs ys : List A) → T (every p xs) → T (every p ys) → T (every p (xs ++ ys))
every_append p xs ys a b = as_T (every p (xs ++ ys)) (passes_append p xs ys (is_true (every p xs) a) (is_true (every p ys) b))

-- and the other way round
pub every_left : {A : Type 0} (p : A → Bool) (xs ys : List A) → T (every p (xs ++ ys)) → T (every p xs)
unfolding every
every_left p [] ys t = tt
every_left p (x ∷ xs) ys t = and_both (p x) (every p xs) (and_left (p x) (every p (xs ++ ys)) t) (every_left p xs ys (and_right (p x) (every p (xs ++ ys)) t))

-- and for the second list
pub every_right : {A : Type 0} (p : A → Bool) (xs ys : List A) → T (every p (xs ++ ys)) → T (every p ys)
unfolding every
every_right p [] ys t = t
every_right p (x ∷ xs) ys t = every_right p xs ys (and_right (p x) (every p (xs ++ ys)) t)

-- the longest run at the front is the whole list exactly if every entry passes
pub run_whole : (p : ℕ → Bool) (l : List ℕ) → eqb (run p l) (length l) ≡ every p l
unfolding run every
run_whole p [] = eq-eqb 0 0 refl
run_whole p (x ∷ l) = go (p x) (run_whole p l)
  where
    go : (b : Bool) → eqb (run p l) (length l) ≡ every p l → eqb (pick b (suc (run p l)) 0) (suc (length l)) ≡ (b && every p l)
    go true e = eqb-suc-suc (run p l) (length l) ∙ e
    go false e = ne_eqb 0 (suc (length l)) (λ h. omega arith)

-- each of a list of which all pass a test passes it
pub every_member : {A : Type 0} (p : A → Bool) (xs : List A) → T (every p xs) → (x : A) → Memᴰ x xs → T (p x)
unfolding every
every_member p [] t x m = absurd (Memᴰ.not-nil m)
every_member p (y ∷ ys) t x m = go (Memᴰ.cases_cons m) (every_member p ys (and_right (p y) (every p ys) t) x)
  where
    go : (x ≡ y) ⊎ Memᴰ x ys → (Memᴰ x ys → T (p x)) → T (p x)
    go (inl e) more = subst (λ z. T (p z)) (sym e) (and_left (p y) (every p ys) t)
    go (inr r) more = more r

-- of a list of which not all pass one does not
pub some_fails : {A : Type 0} (p : A → Bool) (xs : List A) → every p xs ≡ false → (x : A) × Memᴰ x xs × (p x ≡ false)
unfolding every
some_fails p [] e = absurd (subst T e tt)
some_fails {A = A} p (y ∷ ys) e = go (p y) refl e (some_fails p ys)
  where
    go : (b : Bool) → p y ≡ b → (b && every p ys) ≡ false → (every p ys ≡ false → (x : A) × Memᴰ x ys × (p x ≡ false)) → (x : A) × Memᴰ x (y ∷ ys) × (p x ≡ false)
    go true h f more = let r = more f in (r.0, Memᴰ.tail r.1, r.2)
    go false h f more = (y, Memᴰ.head refl, h)
