-- Where a text is refused with 4 or 5.
use Rattle.std.specs.Prelude.{ℕ, ◌≡◌, refl, Bool, true, not, List, [], ◌∷◌, ◌++◌, map, T, drop}
use Rattle.std.proofs.Common.{arith, subst, sym, ap, ◌∙◌, append_assoc}
use Rattle.paper.specs.Bytes.{every}
use Rattle.paper.specs.Tokens.{Token, statement, assigned, operator, variable, constant, string, raw, out_of_range, unreadable, out_of_range?}
use Rattle.paper.specs.Items.{Item, Span, span_of, items}
use Rattle.paper.specs.Machine.{Step, took, Taken, Run, left, done, bad, and_taken, go_on, read}
use Rattle.paper.specs.MachineLaws.{all_taken, then, read_then}
use Rattle.paper.specs.Grammar.{Gives, look_item, look_in_range, start}
use Rattle.paper.specs.WellFormed.{tokens_of}
use Rattle.paper.specs.Calls.{refused_at, place_of, outcome, translate}
use Rattle.laws.specs.Tests.{and_both}
use Rattle.laws.specs.Ends.{Ends, refused_ends, end_in}
use Rattle.promises.specs.Terms.{LawfulItems, in_range?, NoReading, OutOfRange, EndsThere}
use Rattle.grounds.specs.Viable.{completion}
use Rattle.grounds.specs.FrameTables.{infos}
use Rattle.grounds.specs.Place as Place'
use Rattle.grounds.specs.Place.{open_at, end_of, sources, Stop}
use Rattle.grounds.proofs.PlaceGrammar.{First, refused_first, goes_on, item_of}
use Rattle.grounds.specs.InRange.{out?, NoneOut, Refused, by_grammar, by_range, Agrees, agrees}
use Rattle.promises.proofs.Scanned.{scanned_items}
use Rattle.promises.proofs.Ending.{Settled, settled}

-- a refusal's number and place
pub data Refusal (is : List Item) : ℕ → Span → Type 0 where
  no_reading : {place : Span} → NoReading is place → Refusal is 4 place
  too_far : {place : Span} → OutOfRange is place → Refusal is 5 place

-- by its number
pub is_four : (is : List Item) (k : ℕ) (q : Span) → Refusal is k q → k ≡ 4 → NoReading is q
is_four is k q (no_reading h) e = h
is_four is k q (too_far h) e = absurd (omega arith)

-- and 5
pub is_five : (is : List Item) (k : ℕ) (q : Span) → Refusal is k q → k ≡ 5 → OutOfRange is q
is_five is k q (no_reading h) e = absurd (omega arith)
is_five is k q (too_far h) e = h

-- there is no other
pub four_or_five : (is : List Item) (k : ℕ) (q : Span) → Refusal is k q → (k ≡ 4 → ⊥) → (k ≡ 5 → ⊥) → ⊥
four_or_five is k q (no_reading h) x y = x refl
four_or_five is k q (too_far h) x y = y refl

-- ---- lawful, in two ways of saying it

lawful_go : (is : List Item) (r : Run Gives Item) → read look_item start is ≡ r → end_of r ≡ open_at [] → LawfulItems is
unfolding end_of
lawful_go is (left ts s) e h =
    let z : s ≡ [] = cc in
    (tokens_of ts, record { taken = ts; reads = e ∙ ap (left ts) z; gives = refl })
lawful_go is (done ts r) e h = let z : ◌≡◌ {A = ℕ} 0 1 = cc in absurd (omega arith)
lawful_go is (bad k ts r) e h = let z : ◌≡◌ {A = ℕ} 0 1 = cc in absurd (omega arith)

to_items : (is : List Item) → Place'.Lawful look_item start is → LawfulItems is
unfolding Place'.Lawful
to_items is h = lawful_go is (read look_item start is) refl h

from_items : (is : List Item) → LawfulItems is → Place'.Lawful look_item start is
unfolding Place'.Lawful end_of
from_items is l = ap end_of l.1.reads

-- ---- refusal 4

-- the items of such a run are in range
pub taken_in_range : (ts : List (Taken Gives Item)) → NoneOut ts → T (every in_range? (sources ts))
unfolding every sources in_range? out?
taken_in_range [] n = tt
taken_in_range (t ∷ ts) n = and_both (in_range? t.from) (every in_range? (sources ts)) (subst (λ (b : Bool). T (not b)) (sym n.0) tt) (taken_in_range ts n.1)

first_item : (is : List Item) (ts : List (Taken Gives Item)) (i : Item) (rest : List Item) → NoneOut ts → First is (sources ts) i rest → NoReading is (span_of i)
first_item is ts i rest n f =
    record {
      before = sources ts;
      here = i;
      rest = rest;
      items = f.whole;
      at = refl;
      none_begins = (λ more l. f.none more (from_items (sources ts ++ i ∷ more) l));
      some_begins = (f.some.0, to_items (sources ts ++ f.some.0) f.some.1);
      in_range = taken_in_range ts n;
    }

-- ---- refusal 5

is_out : (t : Token) → out_of_range? t ≡ true → t ≡ out_of_range
unfolding out_of_range?
is_out (statement k) e = let z : ◌≡◌ {A = ℕ} 0 1 = cc in absurd (omega arith)
is_out (assigned n) e = let z : ◌≡◌ {A = ℕ} 0 1 = cc in absurd (omega arith)
is_out (operator k) e = let z : ◌≡◌ {A = ℕ} 0 1 = cc in absurd (omega arith)
is_out (variable n) e = let z : ◌≡◌ {A = ℕ} 0 1 = cc in absurd (omega arith)
is_out (constant b) e = let z : ◌≡◌ {A = ℕ} 0 1 = cc in absurd (omega arith)
is_out (string b) e = let z : ◌≡◌ {A = ℕ} 0 1 = cc in absurd (omega arith)
is_out (raw b) e = let z : ◌≡◌ {A = ℕ} 0 1 = cc in absurd (omega arith)
is_out out_of_range e = refl
is_out unreadable e = let z : ◌≡◌ {A = ℕ} 0 1 = cc in absurd (omega arith)

all_left : (ts us : List (Taken Gives Item)) (s : List ℕ) → (xs : List (Taken Gives Item)) × (all_taken ts (left us s) ≡ left xs s)
unfolding all_taken and_taken
all_left [] us s = (us, refl)
all_left (t ∷ ts) us s = let a = all_left ts us s in (t ∷ a.0, ap (and_taken t) a.1)

-- the items up to one that is taken are taken
up_to : (ts : List (Taken Gives Item)) (i : Item) (e : Gives) (next : List ℕ) → Stop look_item start ts i (took e next) → (xs : List (Taken Gives Item)) × (read look_item start (sources ts ++ i ∷ []) ≡ left xs next)
unfolding then read go_on and_taken
up_to ts i e next t =
    let a = all_left ts (record { gave = e; from = i } ∷ []) next in (
      a.0,
      read_then look_item start (sources ts) (i ∷ [])
          ∙ ap (λ (r : Run Gives Item). then look_item r (i ∷ [])) t.ran
          ∙ ap (λ (x : Step Gives). all_taken ts (go_on look_item x i [] (λ z. read look_item z []))) t.does
          ∙ a.1,
    )

out_item : (is : List Item) (ts : List (Taken Gives Item)) (i : Item) (rest : List Item) (e : Gives) (next : List ℕ) → NoneOut ts → is ≡ sources ts ++ i ∷ rest → out? i ≡ true → Stop look_item start ts i (took e next) → OutOfRange is (span_of i)
unfolding out?
out_item is ts i rest e next n w o t =
    let u = up_to ts i e next t in
    let more : List Item = map item_of (completion infos next) in
    let l : Place'.Lawful look_item start ((sources ts ++ i ∷ []) ++ more) = goes_on (sources ts ++ i ∷ []) u.0 next u.1 in
    record {
      before = sources ts;
      here = i;
      rest = rest;
      items = w;
      at = refl;
      out = is_out i.token o;
      some_begins = (more, to_items (sources ts ++ i ∷ more) (subst (Place'.Lawful look_item start) (append_assoc (sources ts) (i ∷ []) more) l));
      in_range = taken_in_range ts n;
    }

-- ---- a text's translation

refused_so : (is : List Item) → Settled (read look_item start is) → (k : ℕ) (ts : List (Taken Gives Item)) (r : List Item) → NoneOut ts → Refused start is k ts r → Refusal is k (place_of r)
unfolding place_of
refused_so is s k ts r n (by_grammar us [] e) = absurd (subst Settled e s)
refused_so is s k ts r n (by_grammar us (i ∷ q) e) = no_reading (first_item is us i q n (refused_first 4 is us i q e))
refused_so is s k ts r n (by_range us i q e next w o t) = too_far (out_item is us i q e next n w o t)

outcome_refused : (is : List Item) → Settled (read look_item start is) → (r : Run Gives Item) → Agrees start is r → (k : ℕ) (q : Span) → outcome r ≡ refused_at k q → Refusal is k q
unfolding outcome
outcome_refused is s (left ts []) a k q e = let z : ◌≡◌ {A = ℕ} 0 1 = cc in absurd (omega arith)
outcome_refused is s (left ts (f ∷ fs)) a k q e = absurd (subst Settled a.0 s)
outcome_refused is s (done ts r) a k q e = absurd (subst Settled a.0 s)
outcome_refused is s (bad m ts r) a k q e =
    let mk : m ≡ k = cc in
    let pq : place_of r ≡ q = cc in
    subst (λ (z : Span). Refusal is k z) pq (subst (λ (z : ℕ). Refusal is z (place_of r)) mk (refused_so is s m ts r a.1 a.0))

-- a text that is not translated is refused with 4 or 5, at an item
pub translation_refused : (p : ℕ) (s : List ℕ) (k : ℕ) (q : Span) → translate p s ≡ refused_at k q → Refusal (items p s) k q
unfolding translate items
translation_refused p s k q e = outcome_refused (items p s) (settled (items p s) (scanned_items s 0 true p)) (read look_in_range start (items p s)) (agrees start (items p s)) k q e

-- ---- where the refused item ends

no_item_left : (is : List Item) → Settled (read look_item start is) → (k : ℕ) (ts : List (Taken Gives Item)) → Refused start is k ts [] → ⊥
no_item_left is s k ts (by_grammar us r e) = subst Settled e s

outcome_ends : (p : ℕ) (s : List ℕ) → Settled (read look_item start (items p s)) → (r : Run Gives Item) → read look_in_range start (items p s) ≡ r → Agrees start (items p s) r
    → (k : ℕ) (q : Span) → outcome r ≡ refused_at k q → (i : Item) × (span_of i ≡ q) × Ends p s i
unfolding outcome place_of
outcome_ends p s o (left ts []) h a k q e = let z : ◌≡◌ {A = ℕ} 0 1 = cc in absurd (omega arith)
outcome_ends p s o (left ts (f ∷ fs)) h a k q e = absurd (subst Settled a.0 o)
outcome_ends p s o (done ts r) h a k q e = absurd (subst Settled a.0 o)
outcome_ends p s o (bad m ts []) h a k q e = absurd (no_item_left (items p s) o m ts a.0)
outcome_ends p s o (bad m ts (i ∷ r)) h a k q e = (i, cc, refused_ends p s m ts i r h)

-- past the item that stands at the place in the whole text, which has s from place p on
pub translation_ends : (text : List ℕ) (p : ℕ) (s : List ℕ) (k : ℕ) (q : Span) → drop p text ≡ s → translate p s ≡ refused_at k q → EndsThere text q
unfolding translate items
translation_ends text p s k q d e =
    let x = outcome_ends p s (settled (items p s) (scanned_items s 0 true p)) (read look_in_range start (items p s)) refl (agrees start (items p s)) k q e in
    subst (EndsThere text) x.1 (end_in text p s x.0 d x.2)
