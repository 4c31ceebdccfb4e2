-- Lines without a number (document 02, §1): every answer to a text that is typed, and what each leaves.
use Rattle.std.specs.Prelude.{ℕ, ◌-◌, ◌≤◌, ◌≡◌, Bool, not, ◌&&◌, ◌⊎◌, List, eqb, leb}
use Rattle.std.proofs.Common.{arith, subst, sym, ap, ◌∙◌, inl, inr, ltb-true, ltb-false, le-leb}
use Rattle.std.proofs.Math.Path.{refl}
use Rattle.std.proofs.Math.Bool.{true, false}
use Rattle.std.proofs.Math.Dec.{T, ltb}
use Rattle.std.proofs.Math.ListN.{length}
use Rattle.std.proofs.lemmas.Bool.{lt-leb}
use Rattle.paper.specs.Bytes.{pick, blank?, every, among}
use Rattle.paper.specs.Tokens.{Token}
use Rattle.paper.specs.Items.{Span, no_span, items}
use Rattle.paper.specs.Line.{lawful_number?, direct_number, direct_number?}
use Rattle.paper.specs.WellFormed.{WellFormedDirect}
use Rattle.paper.specs.Store.{overwritten}
use Rattle.paper.specs.Calls.{State, names_of, lines_of, sound_state, Entered, refusal, Translated, tokens, refused_at, translate, with_names, stored, lacks_room, unless_short, Head, numbered, too_great, only_blanks, unnumbered, head_of, at_head, enter_sound, enter, kept, enter_with}
use Rattle.paper.specs.Direct.{Typed, same_buffer, accept_direct, answered_direct, unnumbered?, typed}
use Rattle.laws.specs.Names.{names_added, adds_front}
use Rattle.laws.specs.Tests.{as_T, is_true}
use Rattle.promises.specs.Terms.{after_blanks, digit_count, number_in, number_end, past_number, direct?, NoReading, OutOfRange, EndsThere, names_with, line_with, SoundState, Carried, Edited, LineKept, Unchanged, RefusedLeaves, over_store, typed_over_store, LineMade, with_lines}
use Rattle.grounds.specs.Lists.{run_whole}
use Rattle.promises.proofs.Refusals.{Refusal, is_four, is_five, four_or_five, translation_refused, translation_ends}
use Rattle.promises.proofs.Accepted.{translated_lawful, stored_well_formed}
use Rattle.promises.proofs.Stored.{at_front, Holds, holds}
use Rattle.promises.proofs.States.{state_says}
use Rattle.promises.proofs.Answers.{unless_short_says, refused_is, not_outright, placeless}
use Rattle.promises.proofs.Editing.{names_carried, count_added, sound_after}
use Rattle.promises.proofs.ReEntry.{lines_size, store_same}
use Rattle.promises.proofs.KeptLines.{ends_with, no_place_with, refused_leaves, after_any_with}

-- ---- which texts they are

-- how a text begins says whether it is a line without a number
pub head_direct : (text : List ℕ) → unnumbered? (head_of text) ≡ direct? text
unfolding head_of unnumbered? direct? after_blanks digit_count number_in number_end past_number
head_direct text = rw (run_whole blank? text) (go (eqb (digit_count text) 0) (every blank? text) (lawful_number? (number_in text)))
  where
    go : (a b c : Bool) → unnumbered? (pick a (pick b only_blanks unnumbered) (pick c (numbered (number_in text) (number_end text) (past_number text)) too_great)) ≡ (a && not b)
    go true true c = refl
    go true false c = refl
    go false b true = refl
    go false b false = refl

-- a line without a number is not kept
not_kept : (text : List ℕ) (s : State) (h : Head) (e : Entered) → T (unnumbered? h) → kept text s h e ≡ e
unfolding kept unnumbered?
not_kept text s (numbered n p rest) e t = absurd t
not_kept text s too_great e t = refl
not_kept text s only_blanks e t = refl
not_kept text s unnumbered e t = refl

module _ (keep : Bool) (text : List ℕ) (s : State) (buffer : List ℕ) where
  -- the switch makes no difference to it
  same_with : T (direct? text) → enter_with keep text s ≡ enter text s
  unfolding enter_with
  same_with d = go keep
    where
      go : (b : Bool) → pick b (kept text s (head_of text) (enter text s)) (enter text s) ≡ enter text s
      go true = not_kept text s (head_of text) (enter text s) (subst T (sym (head_direct text)) d)
      go false = refl

  -- any other text is entered
  pub other_typed : direct? text ≡ false → typed keep text s buffer ≡ same_buffer buffer (enter_with keep text s)
  unfolding typed
  other_typed d = rw (head_direct text, d) (go (sound_state s) (leb (length text) 120))
    where
      go : (a b : Bool) → pick (a && (b && false)) (answered_direct s buffer (translate 0 text)) (same_buffer buffer (enter_with keep text s)) ≡ same_buffer buffer (enter_with keep text s)
      go true true = refl
      go true false = refl
      go false b = refl

  -- a line without a number: 1, 2, and then what its translation answers
  pub direct_typed : T (direct? text) → typed keep text s buffer ≡ pick (sound_state s) (pick (ltb 120 (length text)) (same_buffer buffer (refusal 2 no_span s)) (answered_direct s buffer (translate 0 text))) (same_buffer buffer (refusal 1 no_span s))
  unfolding typed enter enter_sound
  direct_typed d = rw (head_direct text, is_true (direct? text) d, same_with d) (go (sound_state s) (ltb 120 (length text)) refl (at_head s (head_of text)))
    where
      go : (a b : Bool) → ltb 120 (length text) ≡ b → (e : Entered) → pick (a && (leb (length text) 120 && true)) (answered_direct s buffer (translate 0 text)) (same_buffer buffer (pick a (pick b (refusal 2 no_span s) e) (refusal 1 no_span s)))
          ≡ pick a (pick b (same_buffer buffer (refusal 2 no_span s)) (answered_direct s buffer (translate 0 text))) (same_buffer buffer (refusal 1 no_span s))
      go true true h e = rw (lt-leb (length text) 120 (ltb-true _ _ h))
      go true false h e = rw (le-leb (length text) 120 (ltb-false _ _ h))
      go false b h e = refl

-- ---- every answer to a line without a number

-- What it is answered: a refusal with no place; a refusal with 4 or 5 at one of its items; the line stands in the line buffer. No refusal writes there.
pub data DirectAnswer (text : List ℕ) (s : State) (buffer : List ℕ) : Typed → Type 0 where
  direct_outright : (k : ℕ) → T (among k placeless) → DirectAnswer text s buffer (same_buffer buffer (refusal k no_span s))
  direct_there : (k : ℕ) (q : Span) → Refusal (items 0 text) k q → EndsThere text q → DirectAnswer text s buffer (same_buffer buffer (refusal k q s))
  makes_line : T (sound_state s) → (ts : List Token) → translate 0 text ≡ tokens ts → lacks_room s (names_with s ts) ≡ false → length (line_with s direct_number ts) ≤ length buffer
      → DirectAnswer text s buffer (record {
        entered = record { number = 0; place = no_span; added = length (names_with s ts) - length (names_of s); after = with_names s (names_with s ts) };
        line = overwritten (line_with s direct_number ts) buffer;
      })

module _ (keep : Bool) (text : List ℕ) (s : State) (buffer : List ℕ) where
  translation_says : T (sound_state s) → (r : Translated) → translate 0 text ≡ r → DirectAnswer text s buffer (answered_direct s buffer r)
  unfolding answered_direct accept_direct among
  translation_says o (tokens ts) e =
      unless_short_says (DirectAnswer text s buffer) _ _ _ _ _ (direct_outright 6 tt) (direct_outright 7 tt) (direct_outright 8 tt) (λ x z. makes_line o ts e x (ltb-false _ _ z))
  translation_says o (refused_at k q) e = direct_there k q (translation_refused 0 text k q e) (translation_ends text 0 text k q refl e)

  direct_go : (a b : Bool) → sound_state s ≡ a → DirectAnswer text s buffer (pick a (pick b (same_buffer buffer (refusal 2 no_span s)) (answered_direct s buffer (translate 0 text))) (same_buffer buffer (refusal 1 no_span s)))
  unfolding among
  direct_go true true e = direct_outright 2 tt
  direct_go true false e = translation_says (as_T _ e) (translate 0 text) refl
  direct_go false b e = direct_outright 1 tt

  -- every answer is one of these
  pub direct_answer : T (direct? text) → DirectAnswer text s buffer (typed keep text s buffer)
  direct_answer d = subst (DirectAnswer text s buffer) (sym (direct_typed keep text s buffer d)) (direct_go (sound_state s) (ltb 120 (length text)) refl)

  -- what is so of a text that is entered, and of each answer to a line without a number, is so of every text that is typed
  by_kind : (P : Typed → Type 0) → (direct? text ≡ false → P (same_buffer buffer (enter_with keep text s))) → ((t : Typed) → DirectAnswer text s buffer t → P t) → P (typed keep text s buffer)
  by_kind P other direct = go (direct? text) refl
    where
      go : (b : Bool) → direct? text ≡ b → P (typed keep text s buffer)
      go true e = direct (typed keep text s buffer) (direct_answer (as_T _ e))
      go false e = subst P (sym (other_typed keep text s buffer e)) (other e)

-- ---- places

-- the place of refusal 4
pub direct_four : (text : List ℕ) (s : State) (buffer : List ℕ) (t : Typed) → DirectAnswer text s buffer t → t.entered.number ≡ 4 → NoReading (items 0 text) t.entered.place
unfolding same_buffer among
direct_four text s buffer t (direct_outright k h) z = absurd (not_outright k 4 h tt (sym (refused_is k no_span s).0 ∙ z))
direct_four text s buffer t (direct_there k q h w) z = subst (NoReading (items 0 text)) (sym (refused_is k q s).1) (is_four (items 0 text) k q h (sym (refused_is k q s).0 ∙ z))
direct_four text s buffer t (makes_line o ts tr lacks fits) z = absurd (omega arith)

-- the place of refusal 5
pub direct_five : (text : List ℕ) (s : State) (buffer : List ℕ) (t : Typed) → DirectAnswer text s buffer t → t.entered.number ≡ 5 → OutOfRange (items 0 text) t.entered.place
unfolding same_buffer among
direct_five text s buffer t (direct_outright k h) z = absurd (not_outright k 5 h tt (sym (refused_is k no_span s).0 ∙ z))
direct_five text s buffer t (direct_there k q h w) z = subst (OutOfRange (items 0 text)) (sym (refused_is k q s).1) (is_five (items 0 text) k q h (sym (refused_is k q s).0 ∙ z))
direct_five text s buffer t (makes_line o ts tr lacks fits) z = absurd (omega arith)

ends_so : (text : List ℕ) (s : State) (buffer : List ℕ) (t : Typed) → DirectAnswer text s buffer t → (t.entered.number ≡ 4) ⊎ (t.entered.number ≡ 5) → EndsThere text t.entered.place
unfolding same_buffer among
ends_so text s buffer t (direct_outright k h) (inl z) = absurd (not_outright k 4 h tt (sym (refused_is k no_span s).0 ∙ z))
ends_so text s buffer t (direct_outright k h) (inr z) = absurd (not_outright k 5 h tt (sym (refused_is k no_span s).0 ∙ z))
ends_so text s buffer t (direct_there k q h w) z = subst (EndsThere text) (sym (refused_is k q s).1) w
ends_so text s buffer t (makes_line o ts tr lacks fits) (inl z) = absurd (omega arith)
ends_so text s buffer t (makes_line o ts tr lacks fits) (inr z) = absurd (omega arith)

place_so : (text : List ℕ) (s : State) (buffer : List ℕ) (t : Typed) → DirectAnswer text s buffer t → (t.entered.number ≡ 4 → ⊥) → (t.entered.number ≡ 5 → ⊥) → t.entered.place ≡ no_span
unfolding same_buffer
place_so text s buffer t (direct_outright k h) x y = (refused_is k no_span s).1
place_so text s buffer t (direct_there k q h w) x y = absurd (four_or_five (items 0 text) k q h (λ z. x ((refused_is k q s).0 ∙ z)) (λ z. y ((refused_is k q s).0 ∙ z)))
place_so text s buffer t (makes_line o ts tr lacks fits) x y = refl

-- ---- what is left

unchanged_so : (text : List ℕ) (s : State) (buffer : List ℕ) (t : Typed) → DirectAnswer text s buffer t → (t.entered.number ≡ 0 → ⊥) → Unchanged s t.entered × (t.line ≡ buffer)
unfolding same_buffer
unchanged_so text s buffer t (direct_outright k h) x = (((refused_is k no_span s).3, (refused_is k no_span s).2), refl)
unchanged_so text s buffer t (direct_there k q h w) x = (((refused_is k q s).3, (refused_is k q s).2), refl)
unchanged_so text s buffer t (makes_line o ts tr lacks fits) x = absurd (x refl)

-- new names, and the lines as they are: the store is as it was
pub named_stored : (s : State) (ns : List (List ℕ)) → T (sound_state s) → stored s ns (lines_of s) ≡ with_names s ns
unfolding stored with_names with_lines
named_stored s ns o =
    let e = store_same s o in
    rw (ap (λ (z : State). z.store) e, ap (λ (z : State). z.used) e, ap (λ (z : State). z.line_count) e, ap (λ (z : State). z.greatest) e)

-- the lines of a sound state stand in its store
lines_held : (s : State) → T (sound_state s) → Holds (lines_of s) s.store
lines_held s o = let k : SoundState s = state_says s o in holds (lines_of s) s.store k.lines (omega (arith, lines_size s o, k.used_fits))

direct_lawful : T (direct_number? direct_number)
unfolding direct_number?
direct_lawful = tt

-- an accepted line without a number
pub made_so : (text : List ℕ) (s : State) (buffer : List ℕ) (t : Typed) → DirectAnswer text s buffer t → t.entered.number ≡ 0 → LineMade text s buffer t
unfolding same_buffer with_names among
made_so text s buffer t (direct_outright k h) z = absurd (not_outright k 0 h tt (sym (refused_is k no_span s).0 ∙ z))
made_so text s buffer t (direct_there k q h w) z = absurd (four_or_five (items 0 text) k q h (λ x. omega (arith, (refused_is k q s).0)) (λ x. omega (arith, (refused_is k q s).0)))
made_so text s buffer t (makes_line o ts tr lacks fits) z =
    let ns : List (List ℕ) = names_with s ts in
    let new : List (List ℕ) = names_added (names_of s) ts in
    let k : Carried s (with_names s ns) new = subst (λ (z : State). Carried s z new) (named_stored s ns o) (names_carried s o 0 text ts tr ns refl lacks (lines_of s) (lines_held s o)) in
    let names : names_of (with_names s ns) ≡ ns = k.names ∙ sym (adds_front (names_of s) ts) in
    record {
      tokens = ts;
      new = new;
      lawful = translated_lawful 0 text ts tr;
      names = names;
      added = count_added s ts;
      carried = k;
      same_store = record { store = refl; used = refl; line_count = refl; greatest = refl };
      well_formed = subst (λ (z : List (List ℕ)). WellFormedDirect z (line_with s direct_number ts)) (sym names) (stored_well_formed (names_of s) direct_number 0 text ts direct_lawful tr);
      line = at_front (line_with s direct_number ts) buffer fits;
    }

-- ---- every text that is typed

module _ (keep : Bool) (text : List ℕ) (s : State) (buffer : List ℕ) where
  -- where the item at the place of 4 or 5 ends
  pub typed_ends : ((typed keep text s buffer).entered.number ≡ 4) ⊎ ((typed keep text s buffer).entered.number ≡ 5) → EndsThere text (typed keep text s buffer).entered.place
  unfolding same_buffer
  typed_ends = by_kind keep text s buffer (λ t. (t.entered.number ≡ 4) ⊎ (t.entered.number ≡ 5) → EndsThere text t.entered.place) (λ d. ends_with text s keep) (ends_so text s buffer)

  -- any other answer has no place
  pub typed_no_place : ((typed keep text s buffer).entered.number ≡ 4 → ⊥) → ((typed keep text s buffer).entered.number ≡ 5 → ⊥) → (typed keep text s buffer).entered.place ≡ no_span
  unfolding same_buffer
  typed_no_place = by_kind keep text s buffer (λ t. (t.entered.number ≡ 4 → ⊥) → (t.entered.number ≡ 5 → ⊥) → t.entered.place ≡ no_span) (λ d. no_place_with text s keep) (place_so text s buffer)

  -- a refused text leaves the line buffer as it was, and all else, unless it is kept
  pub typed_refused : ((typed keep text s buffer).entered.number ≡ 0 → ⊥) → RefusedLeaves keep text s (typed keep text s buffer).entered × ((typed keep text s buffer).line ≡ buffer)
  unfolding same_buffer
  typed_refused =
      by_kind keep text s buffer (λ t. (t.entered.number ≡ 0 → ⊥) → RefusedLeaves keep text s t.entered × (t.line ≡ buffer)) (λ d z. (refused_leaves text s keep z, refl))
      (λ t a z. let u = unchanged_so text s buffer t a z in (inl u.0, u.1))

  -- what is so of the state after edits, lines that are kept, and lines without a number is so after every text
  pub after_any_typed : (P : State → Type 0) → P s → ((e : Entered) → Edited text s e → P e.after) → ((e : Entered) → LineKept text s e → P e.after) → ((t : Typed) → LineMade text s buffer t → P t.entered.after)
      → P (typed keep text s buffer).entered.after
  unfolding same_buffer refusal
  after_any_typed P h edit there made = by_kind keep text s buffer (λ t. P t.entered.after) (λ d. after_any_with text s P keep h edit there) go
    where
      go : (t : Typed) → DirectAnswer text s buffer t → P t.entered.after
      go t (direct_outright k x) = h
      go t (direct_there k q x w) = h
      go t (makes_line o ts tr lacks fits) = made t (made_so text s buffer t (makes_line o ts tr lacks fits) refl)

  -- a sound state stays sound
  pub typed_stays_sound : T (sound_state s) → T (sound_state (typed keep text s buffer).entered.after)
  typed_stays_sound o = after_any_typed (λ z. T (sound_state z)) o (sound_after text s) (λ e k. k.carried.sound) (λ t m. m.carried.sound)

-- ---- over another store

module _ (store : List ℕ) (used lines greatest : ℕ) (s : State) (buffer : List ℕ) where
  -- a translation is answered the same
  answered_any_store : (r : Translated) → answered_direct (over_store store used lines greatest s) buffer r ≡ typed_over_store store used lines greatest (answered_direct s buffer r)
  unfolding answered_direct accept_direct unless_short lacks_room with_names names_of same_buffer refusal over_store typed_over_store
  answered_any_store (tokens ts) = go (lacks_room s (names_with s ts)) (ltb 255 (length (line_with s direct_number ts))) (ltb (length buffer) (length (line_with s direct_number ts)))
    where
      made : State → Typed
      made a = record { entered = record { number = 0; place = no_span; added = length (names_with s ts) - length (names_of s); after = with_names a (names_with s ts) }; line = overwritten (line_with s direct_number ts) buffer }

      refuse : State → ℕ → Typed
      refuse a k = same_buffer buffer (refusal k no_span a)

      other : State
      other = over_store store used lines greatest s

      go : (a b c : Bool) → pick a (refuse other 6) (pick b (refuse other 7) (pick c (refuse other 8) (made other))) ≡ typed_over_store store used lines greatest (pick a (refuse s 6) (pick b (refuse s 7) (pick c (refuse s 8) (made s))))
      go true b c = refl
      go false true c = refl
      go false false true = refl
      go false false false = refl
  answered_any_store (refused_at k q) = refl

  -- so is a line without a number
  pub any_store : (keep : Bool) (text : List ℕ) → T (direct? text) → T (sound_state s) → T (sound_state (over_store store used lines greatest s)) → typed keep text (over_store store used lines greatest s) buffer ≡ typed_over_store store used lines greatest (typed keep text s buffer)
  unfolding same_buffer refusal typed_over_store
  any_store keep text d o t =
      rw (direct_typed keep text s buffer d, direct_typed keep text (over_store store used lines greatest s) buffer d, is_true (sound_state s) o, is_true (sound_state (over_store store used lines greatest s)) t) (go (ltb 120 (length text)))
    where
      go : (b : Bool) → pick b (same_buffer buffer (refusal 2 no_span (over_store store used lines greatest s))) (answered_direct (over_store store used lines greatest s) buffer (translate 0 text))
          ≡ typed_over_store store used lines greatest (pick b (same_buffer buffer (refusal 2 no_span s)) (answered_direct s buffer (translate 0 text)))
      go true = refl
      go false = answered_any_store (translate 0 text)
