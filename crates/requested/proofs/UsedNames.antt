-- The names that the lines of a store use (document 02, §12): the test that is made of a name says what the definition says.
use Rattle.std.specs.Prelude.{ℕ, ◌≡◌, refl, Bool, true, not, ◌⊎◌, T}
use Rattle.std.proofs.Common.{subst, sym, ap}
use Rattle.std.proofs.Math.Bool.{false}
use Rattle.std.proofs.Math.Logic.{inl, inr}
use mathlib.Core.List.Memᴰ
use mathlib.Core.List.{List, [], ◌∷◌, Memᴰ}
use Rattle.paper.specs.Bytes.{pick, same}
use Rattle.paper.specs.Tokens.{Token, statement, assigned, operator, variable, constant, string, raw, out_of_range, unreadable}
use Rattle.paper.specs.Line.{line_tokens}
use Rattle.paper.specs.WellFormed.{WellFormed}
use Rattle.paper.specs.Errors.{error_line?}
use Rattle.paper.specs.Calls.{State, names_of, lines_of}
use Rattle.paper.specs.Collect.{some, uses?, line_uses?, used?, names_left}
use Rattle.laws.specs.Tests.{and_left, and_right, and_both, is_true, is_false, as_T, or_else}
use Rattle.laws.specs.Names.{same_self, same_eq}
use Rattle.promises.specs.Terms.{HoldsListable}
use Rattle.requested.specs.RequestTerms.{Uses, Those, none_left, one_stays, one_goes}
use Rattle.grounds.specs.Lists.{or_left, or_right}
use Rattle.grounds.proofs.RoundTrip.{decoded}
use Rattle.promises.proofs.ErrorLines.{never_both, formed_else}

-- ---- some entry of a list

-- an entry that passes
some_says : {A : Type 0} (p : A → Bool) (xs : List A) → T (some p xs) → (x : A) × Memᴰ x xs × T (p x)
unfolding some
some_says p [] t = absurd t
some_says p (x ∷ xs) t = or_else (p x) (some p xs) t (λ a. (x, Memᴰ.head refl, a)) (λ b. let r = some_says p xs b in (r.0, Memᴰ.tail r.1, r.2))

-- and the other way round
says_some : {A : Type 0} (p : A → Bool) (xs : List A) (x : A) → Memᴰ x xs → T (p x) → T (some p xs)
unfolding some
says_some p [] x m t = absurd (Memᴰ.not-nil m)
says_some {A = A} p (y ∷ ys) x m t = go (Memᴰ.cases_cons m) (λ r. says_some p ys x r t)
  where
    go : (x ≡ y) ⊎ Memᴰ x ys → (Memᴰ x ys → T (some p ys)) → T (some p (y ∷ ys))
    go (inl e) f = or_left (p y) (some p ys) (subst (λ (z : A). T (p z)) e t)
    go (inr r) f = or_right (p y) (some p ys) (f r)

-- ---- a token that is a variable

uses_says : (n : List ℕ) (t : Token) → T (uses? n t) → (variable n ≡ t) ⊎ (assigned n ≡ t)
unfolding uses?
uses_says n (statement k) h = absurd h
uses_says n (assigned m) h = inr (ap assigned (sym (same_eq m n (is_true (same m n) h))))
uses_says n (operator k) h = absurd h
uses_says n (variable m) h = inl (ap variable (sym (same_eq m n (is_true (same m n) h))))
uses_says n (constant b) h = absurd h
uses_says n (string b) h = absurd h
uses_says n (raw b) h = absurd h
uses_says n out_of_range h = absurd h
uses_says n unreadable h = absurd h

variable_uses : (n : List ℕ) → T (uses? n (variable n))
unfolding uses?
variable_uses n = as_T (same n n) (same_self n)

assigned_uses : (n : List ℕ) → T (uses? n (assigned n))
unfolding uses?
assigned_uses n = as_T (same n n) (same_self n)

-- ---- a name that a line uses

module _ (s : State) (all : HoldsListable s) (n : List ℕ) where
  abbrev ns : List (List ℕ)
  ns = names_of s

  -- the test says that it is used
  pub used_says : T (used? (names_of s) (lines_of s) n) → Uses s n
  unfolding used? line_uses?
  used_says t =
      let l = some_says (line_uses? ns n) (lines_of s) t in
      let plain : error_line? l.0 ≡ false = is_false (error_line? l.0) (and_left (not (error_line? l.0)) (some (uses? n) (line_tokens ns l.0)) l.2) in
      let w : WellFormed ns l.0 = formed_else ns l.0 plain (all l.0 l.1) in
      let u = some_says (uses? n) (line_tokens ns l.0) (and_right (not (error_line? l.0)) (some (uses? n) (line_tokens ns l.0)) l.2) in
      record { line = l.0; stored = l.1; formed = w; used = go w.tokens (subst (Memᴰ u.0) (decoded ns l.0 w) u.1) (uses_says n u.0 u.2) }
    where
      go : {t : Token} (ts : List Token) → Memᴰ t ts → (variable n ≡ t) ⊎ (assigned n ≡ t) → Memᴰ (variable n) ts ⊎ Memᴰ (assigned n) ts
      go ts m (inl e) = inl (subst (λ (z : Token). Memᴰ z ts) (sym e) m)
      go ts m (inr e) = inr (subst (λ (z : Token). Memᴰ z ts) (sym e) m)

-- and the other way round
pub says_used : (s : State) (n : List ℕ) → Uses s n → T (used? (names_of s) (lines_of s) n)
unfolding used? line_uses?
says_used s n u =
    let ns : List (List ℕ) = names_of s in
    let l : List ℕ = u.line in
    let w : WellFormed ns l = u.formed in
    says_some (line_uses? ns n) (lines_of s) l u.stored
    (and_both (not (error_line? l)) (some (uses? n) (line_tokens ns l)) (rw (never_both ns l w) tt) (subst (λ (ts : List Token). T (some (uses? n) ts)) (sym (decoded ns l w)) (go u.used)))
  where
    go : Memᴰ (variable n) u.formed.tokens ⊎ Memᴰ (assigned n) u.formed.tokens → T (some (uses? n) u.formed.tokens)
    go (inl m) = says_some (uses? n) u.formed.tokens (variable n) m (variable_uses n)
    go (inr m) = says_some (uses? n) u.formed.tokens (assigned n) m (assigned_uses n)

-- ---- those that pass a test

those : (P : List ℕ → Type 0) (p : List ℕ → Bool) → ((n : List ℕ) → T (p n) → P n) → ((n : List ℕ) → P n → T (p n)) → (ns : List (List ℕ)) → Those P ns (names_left p ns)
unfolding names_left
those P p f g [] = none_left
those P p f g (n ∷ ns) = go (p n) refl (those P p f g ns)
  where
    go : (b : Bool) → p n ≡ b → Those P ns (names_left p ns) → Those P (n ∷ ns) (pick b (n ∷ names_left p ns) (names_left p ns))
    go true e r = one_stays (f n (as_T (p n) e)) r
    go false e r = one_goes (λ h. subst T e (g n h)) r

-- the names that are left are those that are used
pub those_used : (s : State) → HoldsListable s → Those (Uses s) (names_of s) (names_left (used? (names_of s) (lines_of s)) (names_of s))
those_used s all = those (Uses s) (used? (names_of s) (lines_of s)) (λ n t. used_says s all n t) (λ n u. says_used s n u) (names_of s)
