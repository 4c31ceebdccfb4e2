-- The arms of a `match` on a number: where it is an arm's key, and where it is no arm's.
use Prim.Native.Nat.{ℕ, zero, suc, ◌≤◌}
use native.Mathlib.Omega.{arith}
use mathlib.Core.Path.{◌≡◌, refl, sym, ap, subst}
use mathlib.Core.Bool.{Bool, true, false, ◌||◌}
use mathlib.Core.List.{List, [], ◌∷◌}
use lib.Dec.{T, eqb, ltb}
use borrow.Author.Tests.{ne_eqb, eqb-true, ltb-true, ltb-false}
use Rattle.paper.specs.Bytes.{among}
use Rattle.laws.specs.Tests.{is_true}
use Rattle.tokens.specs.Spellings.{below, below_at}

-- a function's value at the key
pub at_key : (f : ℕ → ℕ) (k : ℕ) {x : ℕ} → x ≡ k → f k ≡ f x
at_key f k e = sym (ap f e)

-- a number is none of the keys, the last arm's first
abbrev pub Rest : List ℕ → ℕ → Type 0
Rest [] x = Unit {0}
Rest (k ∷ ks) x = Rest ks x × (x ≡ k → ⊥)

pub no_keys : (x : ℕ) (ks : List ℕ) → Rest ks x → among x ks ≡ false
unfolding among
no_keys x [] r = refl
no_keys x (k ∷ ks) r = rw (ne_eqb x k r.1) (no_keys x ks r.0)

-- Past some keys one function is another: this is tested at each number below n, and known from n on.
pub otherwise : (f g : ℕ → ℕ) (ks : List ℕ) (n : ℕ) → T (below (λ t. among t ks || eqb (f t) (g t)) n) → ((t : ℕ) → n ≤ t → f t ≡ g t) → (t : ℕ) → Rest ks t → f t ≡ g t
otherwise f g ks n a past t r = go (ltb t n) refl
  where
    go : (b : Bool) → ltb t n ≡ b → f t ≡ g t
    go true e =
        eqb-true (f t) (g t)
        (is_true (eqb (f t) (g t))
        (subst (λ (b : Bool). T (b || eqb (f t) (g t))) (no_keys t ks r) (below_at (λ t. among t ks || eqb (f t) (g t)) n a t (ltb-true t n e))))
    go false e = past t (ltb-false t n e)

-- the keys of a `match` with an arm for each number below n
abbrev pub down : ℕ → List ℕ
down zero = []
down (suc n) = n ∷ down n

-- a number that is none of them is not below n
pub past_all : (n t : ℕ) → Rest (down n) t → n ≤ t
past_all zero t r = omega arith
past_all (suc n) t r = go (past_all n t r.0) (ltb n t) refl
  where
    go : n ≤ t → (b : Bool) → ltb n t ≡ b → suc n ≤ t
    go h true e = ltb-true n t e
    go h false e = absurd (r.1 (omega (arith, h, ltb-false n t e)))
