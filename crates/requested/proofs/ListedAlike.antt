-- Two engineers, one program (document 02, §14): where names are added, the listing of every line is the same whichever of two texts came first.
use Rattle.std.specs.Prelude.{ℕ, ◌≡◌, Bool, not, T, eqb, ltb}
use Rattle.std.proofs.Math.Path.{refl}
use Rattle.std.proofs.Common.{subst, sym, ap, ap₂, ◌∙◌, inl, inr}
use Rattle.std.proofs.Math.Bool.{true, false}
use mathlib.Core.List.Memᴰ
use mathlib.Core.List.{List, [], ◌∷◌, ◌++◌, append-nil, append_assoc, map, Memᴰ}
use Rattle.paper.specs.Bytes.{pick, bytes, blank}
use Rattle.paper.specs.Tokens.{Token}
use Rattle.paper.specs.Line.{lawful_number?, line_bytes, line_number}
use Rattle.paper.specs.Listing.{decimal, body_text, listing_text, direct_listing, listing}
use Rattle.paper.specs.Errors.{error_line?, error_text, listable?, line_text, line_listing}
use Rattle.paper.specs.Store.{lines_below, lines_not_below, first_is?, first_line, stored?, line_at}
use Rattle.paper.specs.Calls.{State, names_of, lines_of, sound_state, Entered, not_listed, listed_if, list_sound, list}
use Rattle.laws.specs.Tests.{is_true}
use Rattle.laws.specs.Lines.{both_sides}
use Rattle.laws.specs.Names.{names_added, adds_front}
use Rattle.promises.specs.Terms.{number_in, Listable, AllListable, HoldsListable}
use Rattle.requested.specs.RequestTerms.{EitherOrder, after_both, listings_of}
use Rattle.grounds.specs.Decoding.{line_number_of}
use Rattle.grounds.proofs.RoundTrip.{decoded}
use Rattle.promises.proofs.Stored.{edited_lines, step_below, step_same, step_above, empty_edit}
use Rattle.requested.proofs.LineEdits.{Edit, commute}
use Rattle.promises.proofs.ErrorLines.{never_both, says_listable, listing_else}
use Rattle.grounds.specs.Growing.{grown, grown_tokens}
use Rattle.promises.proofs.WellFormedLines.{stays_listable}
use Rattle.requested.proofs.Changing.{only_number?, text_tokens, new_line, line_there, none_there, MadeOf, Change, change, change_edit}
use Rattle.requested.proofs.TwoOrders.{lines_rise}

-- ---- listings over more names

-- a line that can be listed has the same listing over more names
more_names : (ns new : List (List ℕ)) (l : List ℕ) → Listable lawful_number? ns l → line_listing (ns ++ new) l ≡ line_listing ns l
unfolding line_listing line_text direct_listing
more_names ns new l (inl w) =
    ap (λ (ts : List Token). decimal 5 (line_number l) ++ blank ∷ pick (error_line? l) (bytes "ERROR- " ++ error_text l) (body_text ts))
    (decoded (ns ++ new) l (grown new ns l w) ∙ grown_tokens new ns l w ∙ sym (decoded ns l w))
more_names ns new l (inr t) = rw (is_true (error_line? l) t.1)

-- the listing of the line that a text makes, over these names or more
made_listing : (ns new : List (List ℕ)) (n : ℕ) (ts : List Token) → MadeOf ns n ts → line_listing (ns ++ new) (line_bytes ns n ts) ≡ listing_text n ts
unfolding listing
made_listing ns new n ts m =
    let l : List ℕ = line_bytes ns n ts in
    more_names ns new l (inl m.formed) ∙ listing_else ns l (never_both ns l m.formed) ∙ ap₂ listing_text (line_number_of ns n ts) m.reads

-- ---- lines that are alike

-- lines with the same numbers and, over two name tables, the same listings
data Alike (xs ys : List (List ℕ)) : List (List ℕ) → List (List ℕ) → Type 0 where
  no_lines : Alike xs ys [] []
  one_more : {l m : List ℕ} {ls ms : List (List ℕ)} → line_number l ≡ line_number m → line_listing xs l ≡ line_listing ys m → Alike xs ys ls ms → Alike xs ys (l ∷ ls) (m ∷ ms)

module _ (xs ys : List (List ℕ)) where
  alike_listings : {ls ms : List (List ℕ)} → Alike xs ys ls ms → map (line_listing xs) ls ≡ map (line_listing ys) ms
  alike_listings no_lines = refl
  alike_listings (one_more e h r) = ap₂ (λ (t : List ℕ) (ts : List (List ℕ)). t ∷ ts) h (alike_listings r)

  alike_append : {ls ms ks js : List (List ℕ)} → Alike xs ys ls ms → Alike xs ys ks js → Alike xs ys (ls ++ ks) (ms ++ js)
  alike_append no_lines q = q
  alike_append (one_more e h r) q = one_more e h (alike_append r q)

  alike_self : (ls : List (List ℕ)) → ((l : List ℕ) → Memᴰ l ls → line_listing xs l ≡ line_listing ys l) → Alike xs ys ls ls
  alike_self [] h = no_lines
  alike_self (l ∷ ls) h = one_more refl (h l (Memᴰ.head refl)) (alike_self ls (λ k m. h k (Memᴰ.tail m)))

  alike_back : {ls ms : List (List ℕ)} → Alike xs ys ls ms → Alike ys xs ms ls
  alike_back no_lines = no_lines
  alike_back (one_more e h r) = one_more (sym e) (sym h) (alike_back r)

  -- written otherwise
  alike_as : {ls ms ks js : List (List ℕ)} → ks ≡ ls → js ≡ ms → Alike xs ys ls ms → Alike xs ys ks js
  alike_as e f a = rw (e, f) a

  module _ (n : ℕ) (x y : List (List ℕ)) (a : Alike xs ys x y) where
    alike_go : (l m : List ℕ) (ls ms : List (List ℕ)) → line_number l ≡ line_number m → line_listing xs l ≡ line_listing ys m → Alike xs ys ls ms → Alike xs ys (edited_lines n x ls) (edited_lines n y ms)
        → (b : Bool) → ltb (line_number l) n ≡ b → (c : Bool) → eqb (line_number l) n ≡ c → Alike xs ys (edited_lines n x (l ∷ ls)) (edited_lines n y (m ∷ ms))
    alike_go l m ls ms e h r ih true f c g = alike_as (step_below n x l ls f) (step_below n y m ms (ap (λ (k : ℕ). ltb k n) (sym e) ∙ f)) (one_more e h ih)
    alike_go l m ls ms e h r ih false f true g =
        alike_as (step_same n x l ls f g) (step_same n y m ms (ap (λ (k : ℕ). ltb k n) (sym e) ∙ f) (ap (λ (k : ℕ). eqb k n) (sym e) ∙ g)) (alike_append a r)
    alike_go l m ls ms e h r ih false f false g =
        alike_as (step_above n x l ls f g) (step_above n y m ms (ap (λ (k : ℕ). ltb k n) (sym e) ∙ f) (ap (λ (k : ℕ). eqb k n) (sym e) ∙ g)) (alike_append a (one_more e h r))

    -- the same edit of both
    alike_edit : {ls ms : List (List ℕ)} → Alike xs ys ls ms → Alike xs ys (edited_lines n x ls) (edited_lines n y ms)
    alike_edit no_lines = alike_as (empty_edit n x) (empty_edit n y) a
    alike_edit (one_more {l = l} {m = m} {ls = ls} {ms = ms} e h r) = alike_go l m ls ms e h r (alike_edit r) (ltb (line_number l) n) refl (eqb (line_number l) n) refl

  module _ (n : ℕ) (output : List ℕ) where
    -- from a number on
    alike_from : {ls ms : List (List ℕ)} → Alike xs ys ls ms → Alike xs ys (lines_not_below n ls) (lines_not_below n ms)
    unfolding lines_not_below
    alike_from no_lines = no_lines
    alike_from (one_more {l = l} {m = m} {ls = ls} {ms = ms} e h r) = rw (← e) (go (ltb (line_number l) n) (alike_from r))
      where
        go : (b : Bool) → Alike xs ys (lines_not_below n ls) (lines_not_below n ms) → Alike xs ys (pick b (lines_not_below n ls) (l ∷ ls)) (pick b (lines_not_below n ms) (m ∷ ms))
        go true ih = ih
        go false ih = one_more e h r

    lists_go : {ls ms : List (List ℕ)} → Alike xs ys ls ms → AllListable xs ls → AllListable ys ms
        → pick (not (first_is? n ls)) (not_listed 9 output) (listed_if (listable? lawful_number? xs (first_line ls)) (line_listing xs (first_line ls)) output)
        ≡ pick (not (first_is? n ms)) (not_listed 9 output) (listed_if (listable? lawful_number? ys (first_line ms)) (line_listing ys (first_line ms)) output)
    unfolding first_is? first_line
    lists_go no_lines a b = refl
    lists_go (one_more {l = l} {m = m} e h r) a b =
        rw (is_true (listable? lawful_number? xs l) (says_listable xs l (a l (Memᴰ.head refl))), is_true (listable? lawful_number? ys m) (says_listable ys m (b m (Memᴰ.head refl))), e, h)

-- what stands from a number on is of the lines
from_listable : (ns : List (List ℕ)) (n : ℕ) (ls : List (List ℕ)) → AllListable ns ls → AllListable ns (lines_not_below n ls)
from_listable ns n ls h l m = h l (subst (Memᴰ l) (both_sides n ls) (Memᴰ.append_right (lines_below n ls) m))

-- what is listed of lines that are alike
alike_lists : (x y : State) → T (sound_state x) → T (sound_state y) → HoldsListable x → HoldsListable y → Alike (names_of x) (names_of y) (lines_of x) (lines_of y) → (n : ℕ) (output : List ℕ) → list n x output ≡ list n y output
unfolding list list_sound stored? line_at
alike_lists x y t u g h a n output =
    rw (is_true (sound_state x) t, is_true (sound_state y) u)
    (lists_go (names_of x) (names_of y) n output (alike_from (names_of x) (names_of y) n output a) (from_listable (names_of x) n (lines_of x) g) (from_listable (names_of y) n (lines_of y) h))

-- ---- one order

-- What two accepted texts leave, one after the other: a state x with more names than the first had, and these more than s, and the lines of s with two edits, each
-- with the line that its text makes over the names of its time.
record Order (a b : List ℕ) (s x : State) : Type 0 where
  pub first_names : List (List ℕ)
  pub first_new : List (List ℕ)
  pub then_new : List (List ℕ)
  pub first_is : first_names ≡ names_of s ++ first_new
  pub then_is : names_of x ≡ first_names ++ then_new
  pub first_made : only_number? a ≡ false → MadeOf first_names (number_in a) (text_tokens a)
  pub then_made : only_number? b ≡ false → MadeOf (names_of x) (number_in b) (text_tokens b)
  pub first_edit : Edit (number_in a) (new_line first_names a)
  pub then_edit : Edit (number_in b) (new_line (names_of x) b)
  pub lines : lines_of x ≡ edited_lines (number_in b) (new_line (names_of x) b) (edited_lines (number_in a) (new_line first_names a) (lines_of s))

one_order : (a b : List ℕ) (s : State) (d e : Entered) → Change a s d → Change b d.after e → Order a b s e.after
one_order a b s d e u v =
    record {
      first_names = names_of d.after;
      first_new = names_added (names_of s) (text_tokens a);
      then_new = names_added (names_of d.after) (text_tokens b);
      first_is = u.names ∙ adds_front (names_of s) (text_tokens a);
      then_is = v.names ∙ adds_front (names_of d.after) (text_tokens b);
      first_made = u.made;
      then_made = v.made;
      first_edit = change_edit a s d u;
      then_edit = change_edit b d.after e v;
      lines = v.lines ∙ ap (edited_lines (number_in b) (new_line (names_of e.after) b)) u.lines;
    }

-- a line of s has the listing that it had
old_listing : (a b : List ℕ) (s x : State) → Order a b s x → (l : List ℕ) → Listable lawful_number? (names_of s) l → line_listing (names_of x) l ≡ line_listing (names_of s) l
old_listing a b s x o l w =
    ap (λ (ns : List (List ℕ)). line_listing ns l) (o.then_is ∙ ap (λ (ns : List (List ℕ)). ns ++ o.then_new) o.first_is ∙ append_assoc (names_of s) o.first_new o.then_new)
    ∙ more_names (names_of s) (o.first_new ++ o.then_new) l w

-- the line of a text that came first in one order and last in the other
alike_line : (a b : List ℕ) (s x y : State) (o : Order a b s x) (r : Order b a s y) → Alike (names_of x) (names_of y) (new_line o.first_names a) (new_line (names_of y) a)
alike_line a b s x y o r = go (only_number? a) refl
  where
    n : ℕ
    n = number_in a

    ts : List Token
    ts = text_tokens a

    over_x : MadeOf o.first_names n ts → line_listing (names_of x) (line_bytes o.first_names n ts) ≡ listing_text n ts
    over_x m = ap (λ (ns : List (List ℕ)). line_listing ns (line_bytes o.first_names n ts)) o.then_is ∙ made_listing o.first_names o.then_new n ts m

    over_y : MadeOf (names_of y) n ts → line_listing (names_of y) (line_bytes (names_of y) n ts) ≡ listing_text n ts
    over_y m = ap (λ (ns : List (List ℕ)). line_listing ns (line_bytes (names_of y) n ts)) (sym (append-nil (names_of y))) ∙ made_listing (names_of y) [] n ts m

    go : (c : Bool) → only_number? a ≡ c → Alike (names_of x) (names_of y) (new_line o.first_names a) (new_line (names_of y) a)
    go true e = alike_as (names_of x) (names_of y) (none_there o.first_names a e) (none_there (names_of y) a e) no_lines
    go false e =
        alike_as (names_of x) (names_of y) (line_there o.first_names a e) (line_there (names_of y) a e)
        (one_more (line_number_of o.first_names n ts ∙ sym (line_number_of (names_of y) n ts)) (over_x (o.first_made e) ∙ sym (over_y (r.then_made e))) no_lines)

-- ---- both

-- the lines are alike in both orders
orders_alike : (a b : List ℕ) (s x y : State) → T (sound_state s) → HoldsListable s → (number_in a ≡ number_in b → ⊥) → Order a b s x → Order b a s y → Alike (names_of x) (names_of y) (lines_of x) (lines_of y)
orders_alike a b s x y t h ne o r =
    let xs : List (List ℕ) = names_of x in
    let ys : List (List ℕ) = names_of y in
    let old : Alike xs ys (lines_of s) (lines_of s) = alike_self xs ys (lines_of s) (λ l k. old_listing a b s x o l (h l k) ∙ sym (old_listing b a s y r l (h l k))) in
    let first : Alike xs ys (new_line o.first_names a) (new_line ys a) = alike_line a b s x y o r in
    let second : Alike xs ys (new_line xs b) (new_line r.first_names b) = alike_back ys xs (alike_line b a s y x r o) in
    let both = alike_edit xs ys (number_in b) (new_line xs b) (new_line r.first_names b) second (alike_edit xs ys (number_in a) (new_line o.first_names a) (new_line ys a) first old) in
    let turned = commute (number_in a) (number_in b) (new_line ys a) (new_line r.first_names b) (lines_of s) ne r.then_edit r.first_edit (lines_rise s t) in
    alike_as xs ys o.lines (r.lines ∙ sym turned) both

module _ (keep : Bool) (a b : List ℕ) (s : State) (o : EitherOrder keep a b s) (h : HoldsListable s) where
  abbrev ab : State
  ab = after_both keep a b s

  abbrev ba : State
  ba = after_both keep b a s

  both_alike : Alike (names_of ab) (names_of ba) (lines_of ab) (lines_of ba)
  both_alike =
      let first_a = change keep a s o.a_first in
      let first_b = change keep b s o.b_first in
      orders_alike a b s ab ba first_a.sound h o.different (one_order a b s _ _ first_a (change keep b _ o.then_b)) (one_order b a s _ _ first_b (change keep a _ o.then_a))

  -- the listing of every line is the same whichever text came first
  pub same_listings : listings_of ab ≡ listings_of ba
  same_listings = alike_listings (names_of ab) (names_of ba) both_alike

  -- and so is what a call answers and writes that lists a line
  pub same_lists : (n : ℕ) (output : List ℕ) → list n ab output ≡ list n ba output
  same_lists n output =
      alike_lists ab ba (change keep b _ o.then_b).sound_after (change keep a _ o.then_a).sound_after (stays_listable b _ (stays_listable a s h keep) keep) (stays_listable a _ (stays_listable b s h keep) keep) both_alike n output
