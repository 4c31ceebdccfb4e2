-- Error lines (document 02, §9): what the switch makes of a text that is entered, and what it leaves.
use Rattle.std.specs.Prelude.{ℕ, ◌+◌, ◌≤◌, ◌≡◌, Bool, ◌&&◌, ◌⊎◌, List, [], ◌++◌, length, drop}
use Rattle.std.proofs.Common.{arith, sym, ap, ◌∙◌, inl, inr, ⊎_elim, append-nil}
use Rattle.std.proofs.Math.Path.{refl, subst}
use Rattle.std.proofs.Math.Bool.{true, false}
use Rattle.std.proofs.Math.Dec.{T, eqb, ltb}
use borrow.Author.Tests.{eqb-true, ne_eqb, ltb-false}
use Rattle.paper.specs.Bytes.{pick, joined}
use Rattle.paper.specs.Items.{no_span, raw_byte?}
use Rattle.paper.specs.Line.{lawful_number?}
use Rattle.paper.specs.Errors.{marked_at, keepable?}
use Rattle.paper.specs.Store.{room, put_line}
use Rattle.paper.specs.Calls as Calls'
use Rattle.paper.specs.Calls.{State, names_of, lines_of, sound_state, Entered, refusal, stored, Head, numbered, too_great, only_blanks, unnumbered, head_of, enter, keep_line, enter_with}
use Rattle.laws.specs.Tests.{and_left, and_right, is_true, as_T}
use Rattle.laws.specs.Runs.{all_drop}
use Rattle.promises.specs.Terms.{after_blanks, digit_count, number_in, number_end, past_number, old_size, SoundState, EndsThere, LineLacksRoom, error_line_for, can_keep?, Carried, PutIn, Edited, LineKept, Switched, as_without, kept_there, no_room_there, RefusedLeaves}
use Rattle.promises.proofs.NameTable.{NamesGood}
use Rattle.promises.proofs.Stored.{put_sound, Holds, holds}
use Rattle.promises.proofs.States as States'
use Rattle.promises.proofs.States.{state_says, names_good, no_more, made, stored_made}
use Rattle.promises.proofs.Answers.{Numbered, four_numbered, refused_is, place_ends, no_place, unchanged}
use Rattle.promises.proofs.Editing.{put_in, lines_are, after_any, sound_after}
use Rattle.promises.proofs.ErrorLines.{Made, marked_raw, made_error, error_lists}
use Rattle.promises.proofs.ReEntry.{put_size}
use Rattle.promises.proofs.Tested.{Says, says_less}

-- ---- what the switch makes of a text

-- a text with a number begins with it
head_numbered : (text : List ℕ) (s : State) → Numbered text s → head_of text ≡ numbered (number_in text) (number_end text) (past_number text)
unfolding head_of after_blanks digit_count number_in number_end past_number
head_numbered text s t = rw (t.digits, is_true (lawful_number? (number_in text)) t.lawful)

-- what is not refused with 4 is not kept
not_four : (text : List ℕ) (s : State) (h : Head) (e : Entered) → eqb e.number 4 ≡ false → Calls'.kept text s h e ≡ e
unfolding Calls'.kept
not_four text s (numbered n p rest) e z = rw z
not_four text s too_great e z = refl
not_four text s only_blanks e z = refl
not_four text s unnumbered e z = refl

module _ (text : List ℕ) (s : State) where
  -- the error line that it is kept as, and the answer
  abbrev its_line : List ℕ
  its_line = error_line_for text (enter text s).place.start

  abbrev kept_so : Entered
  kept_so = keep_line s its_line (enter text s).place

  -- it is kept if it can be
  pub switched_is : enter_with true text s ≡ pick (can_keep? text s) kept_so (enter text s)
  unfolding enter_with Calls'.kept can_keep? error_line_for
  switched_is = go (eqb (enter text s).number 4) refl
    where
      go : (b : Bool) → eqb (enter text s).number 4 ≡ b → Calls'.kept text s (head_of text) (enter text s) ≡ pick (b && keepable? (enter text s).place.start text) kept_so (enter text s)
      go true z = rw (head_numbered text s (four_numbered text s (eqb-true _ _ z)), z)
      go false z = not_four text s (head_of text) (enter text s) z

  can_is_4 : T (can_keep? text s) → (enter text s).number ≡ 4
  unfolding can_keep?
  can_is_4 t = eqb-true _ _ (is_true (eqb (enter text s).number 4) (and_left (eqb (enter text s).number 4) _ t))

  can_number : T (can_keep? text s) → Numbered text s
  can_number t = four_numbered text s (can_is_4 t)

  its_error : T (can_keep? text s) → Made (number_in text) (drop (number_end text) (marked_at (enter text s).place.start text)) its_line
  unfolding can_keep? error_line_for
  its_error t = made_error (number_in text) _ (all_drop raw_byte? (number_end text) _ (marked_raw (enter text s).place.start text (and_right (eqb (enter text s).number 4) _ t)))

  -- the test of all lines says whether its line lacks room
  pub says_lacking : T (can_keep? text s) → Says (ltb (room s.store) (length (joined (put_line its_line (lines_of s))))) (LineLacksRoom s (number_in text) its_line)
  says_lacking t =
      let z = subst (λ (n : ℕ). length (joined (put_line its_line (lines_of s))) + old_size n s ≡ s.used + length its_line) (its_error t).number (put_size s (can_number t).sound its_line) in
      let l = says_less (room s.store) (length (joined (put_line its_line (lines_of s)))) in ((λ e. let h = l.0 e in omega arith), (λ e h. l.1 e (omega arith)))

  line_kept : T (can_keep? text s) → length (joined (put_line its_line (lines_of s))) ≤ room s.store
      → LineKept text s (record { number = 4; place = (enter text s).place; added = 0; after = stored s (names_of s) (put_line its_line (lines_of s)) })
  line_kept t fits =
      let o : SoundState s = state_says s (can_number t).sound in
      let m = its_error t in
      let ls : List (List ℕ) = put_line its_line (lines_of s) in
      let is : names_of s ≡ names_of s ++ [] = sym (append-nil (names_of s)) in
      let h : Holds ls s.store = holds ls s.store (put_sound its_line (lines_of s) (m.whole (can_number t).lawful) o.lines) fits in
      let made_so : stored s (names_of s) ls ≡ made s [] ls = ap (λ (z : List (List ℕ)). stored s z ls) is ∙ stored_made s [] ls in
      record {
        number = refl;
        place = refl;
        added = refl;
        carried = subst (λ (z : State). Carried s z []) (sym made_so) (States'.carried s [] ls o (subst NamesGood is (names_good (names_of s) o.table.names)) (no_more s o) h);
        put = subst (PutIn (number_in text) its_line (lines_of s)) (sym (lines_are s (names_of s) ls h)) (subst (λ (z : ℕ). PutIn z its_line (lines_of s) ls) m.number (put_in its_line (lines_of s)));
        lawful = (can_number t).lawful;
        error = m.error;
        lists = error_lists _ (number_in text) _ its_line m;
      }

  -- the three cases
  pub switched : Switched text s (enter_with true text s)
  unfolding keep_line
  switched = subst (Switched text s) (sym switched_is) (go (can_keep? text s) refl)
    where
      room_go : (t : T (can_keep? text s)) (b : Bool) → ltb (room s.store) (length (joined (put_line its_line (lines_of s)))) ≡ b
          → Switched text s (pick b (refusal 8 no_span s) (record { number = 4; place = (enter text s).place; added = 0; after = stored s (names_of s) (put_line its_line (lines_of s)) }))
      room_go t true e = no_room_there t ((says_lacking t).0 e)
      room_go t false e = kept_there t ((says_lacking t).1 e) _ (line_kept t (ltb-false _ _ e))

      go : (b : Bool) → can_keep? text s ≡ b → Switched text s (pick b kept_so (enter text s))
      go true e = room_go (as_T _ e) _ refl
      go false e = as_without e

  -- what is not refused with 4 is answered as without the switch
  pub same_unless_4 : (keep : Bool) → ((enter text s).number ≡ 4 → ⊥) → enter_with keep text s ≡ enter text s
  unfolding enter_with
  same_unless_4 true n = not_four text s (head_of text) (enter text s) (ne_eqb _ _ n)
  same_unless_4 false n = refl

  -- what is so where a text is answered as without the switch, where it is kept, and where 8 is answered for it, is so of every answer
  pub by_switch : (P : Entered → Type 0) (keep : Bool) → P (enter text s) → (T keep → T (can_keep? text s) → (e : Entered) → LineKept text s e → P e) → (T keep → T (can_keep? text s) → P (refusal 8 no_span s)) → P (enter_with keep text s)
  unfolding enter_with
  by_switch P false without there eight = without
  by_switch P true without there eight = go (enter_with true text s) switched
    where
      go : (e : Entered) → Switched text s e → P e
      go e (as_without n) = without
      go e (kept_there t fits x k) = there tt t e k
      go e (no_room_there t full) = eight tt t

  -- whatever is accepted is accepted alike
  pub accepted_alike : (keep : Bool) → (enter_with keep text s).number ≡ 0 → enter_with keep text s ≡ enter text s
  accepted_alike keep =
      by_switch (λ e. e.number ≡ 0 → e ≡ enter text s) keep (λ z. refl) (λ on t e k z. absurd (omega (arith, z, k.number))) (λ on t z. absurd (omega (arith, z, (refused_is 8 no_span s).0)))

  -- where the item at the place of 4 or 5 ends
  pub ends_with : (keep : Bool) → ((enter_with keep text s).number ≡ 4) ⊎ ((enter_with keep text s).number ≡ 5) → EndsThere text (enter_with keep text s).place
  ends_with keep =
      by_switch (λ e. (e.number ≡ 4) ⊎ (e.number ≡ 5) → EndsThere text e.place) keep (place_ends text s) (λ on t e k z. subst (EndsThere text) (sym k.place) (place_ends text s (inl (can_is_4 t))))
      (λ on t. ⊎_elim (λ z. absurd (omega (arith, (refused_is 8 no_span s).0))) (λ z. absurd (omega (arith, (refused_is 8 no_span s).0))))

  -- any other answer has no place
  pub no_place_with : (keep : Bool) → ((enter_with keep text s).number ≡ 4 → ⊥) → ((enter_with keep text s).number ≡ 5 → ⊥) → (enter_with keep text s).place ≡ no_span
  no_place_with keep =
      by_switch (λ e. (e.number ≡ 4 → ⊥) → (e.number ≡ 5 → ⊥) → e.place ≡ no_span) keep (no_place text s) (λ on t e k x y. absurd (x k.number)) (λ on t x y. (refused_is 8 no_span s).1)

  -- a refused text leaves all as it was, or is kept
  pub refused_leaves : (keep : Bool) → ((enter_with keep text s).number ≡ 0 → ⊥) → RefusedLeaves keep text s (enter_with keep text s)
  refused_leaves keep =
      by_switch (λ e. (e.number ≡ 0 → ⊥) → RefusedLeaves keep text s e) keep (λ z. inl (unchanged text s z)) (λ on t e k z. inr (on, k)) (λ on t z. inl ((refused_is 8 no_span s).3, (refused_is 8 no_span s).2))

  -- what is so of the state after edits, and after lines that are kept, is so after every text
  pub after_any_with : (P : State → Type 0) (keep : Bool) → P s → ((e : Entered) → Edited text s e → P e.after) → ((e : Entered) → LineKept text s e → P e.after) → P (enter_with keep text s).after
  unfolding refusal
  after_any_with P keep h edit there = by_switch (λ e. P e.after) keep (after_any P text s h edit) (λ on t e k. there e k) (λ on t. h)

  -- a sound state stays sound
  pub stays_sound_with : (keep : Bool) → T (sound_state s) → T (sound_state (enter_with keep text s).after)
  stays_sound_with keep o = after_any_with (λ z. T (sound_state z)) keep o (sound_after text s) (λ e k. k.carried.sound)
