-- A text's items have one place for 4, or one for 5, or are a lawful sequence with every constant in range.
use Rattle.std.specs.Prelude.{ℕ, ◌≡◌, refl, not, ◌↔◌, List, [], ◌∷◌, ◌++◌, T}
use Rattle.std.proofs.Common.{subst, sym, ap, ◌∙◌, append_assoc}
use Rattle.paper.specs.Bytes.{every}
use Rattle.paper.specs.Tokens.{Token, out_of_range, out_of_range?}
use Rattle.paper.specs.Items.{Item, Span, span_of, items}
use Rattle.paper.specs.Machine.{left}
use Rattle.paper.specs.Grammar.{look_item, start}
use Rattle.paper.specs.WellFormed.{tokens_of, Lawful}
use Rattle.paper.specs.Calls.{Translated, tokens, refused_at, translate}
use Rattle.laws.specs.Tests.{and_left}
use Rattle.promises.specs.Terms.{LawfulItems, in_range?, NoReading, OutOfRange, Readable, Unread, TooFar}
use Rattle.grounds.specs.Lists.{every_right}
use Rattle.grounds.specs.Place.{sources, Told, told}
use Rattle.promises.proofs.Refusals.{Refusal, no_reading, too_far, taken_in_range, translation_refused}
use Rattle.promises.proofs.Accepted.{translate_says, translated_lawful}

-- ---- two items of one sequence

-- where a sequence is parted in two ways: at one item, or one of them stands further left
data Parted (xs ys : List Item) (a b : Item) : Type 0 where
  at_one : xs ≡ ys → a ≡ b → Parted xs ys a b
  first_left : (m : List Item) → ys ≡ xs ++ a ∷ m → Parted xs ys a b
  second_left : (m : List Item) → xs ≡ ys ++ b ∷ m → Parted xs ys a b

parted : (xs ys : List Item) (a b : Item) (us vs : List Item) → xs ++ a ∷ us ≡ ys ++ b ∷ vs → Parted xs ys a b
parted [] [] a b us vs e = at_one refl cc
parted [] (y ∷ ys) a b us vs e = first_left ys (cc)
parted (x ∷ xs) [] a b us vs e = second_left xs (cc)
parted (x ∷ xs) (y ∷ ys) a b us vs e = go (cc) (parted xs ys a b us vs (cc))
  where
    go : x ≡ y → Parted xs ys a b → Parted (x ∷ xs) (y ∷ ys) a b
    go h (at_one k l) = at_one (cc) l
    go h (first_left m k) = first_left m (cc)
    go h (second_left m k) = second_left m (cc)

-- no constant out of range stands among items in range
out_among : (is before rest : List Item) (i : Item) → is ≡ before ++ i ∷ rest → i.token ≡ out_of_range → T (every in_range? is) → ⊥
unfolding every in_range? out_of_range?
out_among is before rest i e o t =
    subst (λ (z : Token). T (not (out_of_range? z))) o
    (and_left (in_range? i) _ (every_right in_range? before (i ∷ rest) (subst (λ (z : List Item). T (every in_range? z)) e t)))

-- items that begin a lawful sequence are not those up to the place of 4
begins_not : (is : List Item) (p : Span) (u : NoReading is p) (before m more : List Item) → before ≡ u.before ++ u.here ∷ m → LawfulItems (before ++ more) → ⊥
begins_not is p u before m more e l = u.none_begins (m ++ more) (subst LawfulItems (ap (λ (z : List Item). z ++ more) e ∙ append_assoc u.before (u.here ∷ m) more) l)

module _ (is : List Item) (p q : Span) where
  -- 4 and 5 never both have a place
  pub not_both : NoReading is p → OutOfRange is q → ⊥
  not_both u o = go (parted u.before o.before u.here o.here u.rest o.rest (sym u.items ∙ o.items))
    where
      go : Parted u.before o.before u.here o.here → ⊥
      go (at_one e h) = u.none_begins o.some_begins.0 (subst LawfulItems (cc) o.some_begins.1)
      go (first_left m e) = begins_not is p u o.before m (o.here ∷ o.some_begins.0) e o.some_begins.1
      go (second_left m e) = out_among u.before o.before m o.here e o.out u.in_range

  -- 4 has one place
  pub one_4 : NoReading is p → NoReading is q → p ≡ q
  one_4 u v = go (parted u.before v.before u.here v.here u.rest v.rest (sym u.items ∙ v.items))
    where
      go : Parted u.before v.before u.here v.here → p ≡ q
      go (at_one e h) = sym u.at ∙ ap span_of h ∙ v.at
      go (first_left m e) = absurd (begins_not is p u v.before m v.some_begins.0 e v.some_begins.1)
      go (second_left m e) = absurd (begins_not is q v u.before m u.some_begins.0 e u.some_begins.1)

  -- so has 5
  pub one_5 : OutOfRange is p → OutOfRange is q → p ≡ q
  one_5 u v = go (parted u.before v.before u.here v.here u.rest v.rest (sym u.items ∙ v.items))
    where
      go : Parted u.before v.before u.here v.here → p ≡ q
      go (at_one e h) = sym u.at ∙ ap span_of h ∙ v.at
      go (first_left m e) = absurd (out_among v.before u.before m u.here e u.out v.in_range)
      go (second_left m e) = absurd (out_among u.before v.before m v.here e v.out u.in_range)

-- ---- items that are read

-- items give one list of tokens
pub one_tokens : (is : List Item) (ts us : List Token) → Lawful is ts → Lawful is us → ts ≡ us
one_tokens is ts us l m =
    let e : left l.taken [] ≡ left m.taken [] = sym l.reads ∙ m.reads in
    let t : l.taken ≡ m.taken = cc in
    sym l.gives ∙ ap tokens_of t ∙ m.gives

-- what is translated is readable
pub translated_readable : (p : ℕ) (s : List ℕ) (ts : List Token) → translate p s ≡ tokens ts → Readable (items p s)
translated_readable p s ts e =
    let a = translate_says p s ts e in
    let is : items p s ≡ sources a.taken = subst (Told look_item start (items p s)) a.reads (told look_item start (items p s)) in
    ((ts, translated_lawful p s ts e), subst (λ (z : List Item). T (every in_range? z)) (sym is) (taken_in_range a.taken a.none_out))

-- what is readable is refused with neither
pub not_refused : (is : List Item) → Readable is → (Unread is → ⊥) × (TooFar is → ⊥)
not_refused is r = ((λ u. u.1.none_begins u.1.rest (subst LawfulItems u.1.items r.0)), (λ o. out_among is o.1.before o.1.rest o.1.here o.1.items o.1.out r.1))

-- and the other way round
pub neither : (p : ℕ) (s : List ℕ) → ((Unread (items p s) → ⊥) × (TooFar (items p s) → ⊥)) ↔ Readable (items p s)
neither p s = ((λ n. go n (translate p s) refl), not_refused (items p s))
  where
    by : (Unread (items p s) → ⊥) × (TooFar (items p s) → ⊥) → (k : ℕ) (q : Span) → Refusal (items p s) k q → ⊥
    by n k q (no_reading h) = n.0 (q, h)
    by n k q (too_far h) = n.1 (q, h)

    go : (Unread (items p s) → ⊥) × (TooFar (items p s) → ⊥) → (r : Translated) → translate p s ≡ r → Readable (items p s)
    go n (tokens ts) e = translated_readable p s ts e
    go n (refused_at k q) e = absurd (by n k q (translation_refused p s k q e))
