-- The answers of the edits, from what the functions that they call ensure.
use Prim.Native.Nat.{ℕ, ◌*◌, ◌≤◌, ◌<◌}
use native.Mathlib.Omega.{arith}
use mathlib.Core.Path.{◌≡◌, sym, ap, ◌∙◌}
use mathlib.Core.Bool.{true}
use mathlib.Core.List.{List, [], ◌++◌}
use lib.ListN.{length, take, length-take}
use lib.Seq.{sets}
use borrow.Author.Tests.{lt-ltb, le-ltb}
use Rattle.paper.specs.Bytes.{joined}
use Rattle.paper.specs.Tokens.{Token}
use Rattle.paper.specs.Items.{no_span}
use Rattle.paper.specs.Names.{names_in, name_bytes, value_entries}
use Rattle.paper.specs.Line.{line_number, direct_number}
use Rattle.paper.specs.Store.{put_line, overwritten}
use Rattle.paper.specs.Calls.{State, names_of, lines_of, refusal}
use Rattle.paper.specs.Direct.{same_buffer}
use Rattle.laws.specs.Names.{closed?, Sound}
use Rattle.buffers.specs.Sets.{overwrites}
use Rattle.names_numbered.specs.Answers.{lacks, Room}
use Rattle.store.specs.Answers.{place_of, counts_of}
use Rattle.store_edit.specs.Answers.{stored_answer, stored_bytes}
use Rattle.store_edit.specs.Answered.{stored_done, stored_no_room}
use Rattle.store.specs.declared.Counts.{Counts}
use Rattle.store.specs.declared.Place.{Place}
use Rattle.std.specs.Prelude.{Option, Some, None}
use Rattle.refusals.specs.declared.Refusal.{Refusal}
use Rattle.refusals.specs.declared.Refusal.TheVariants.{NoRoom}
use Rattle.editor_edit.specs.declared.Editor.{Editor}
use Rattle.editor_edit.specs.declared.Entered.{Entered}
use Rattle.editor_edit.specs.States.{state, counts_in, entered, refusing, no_place, Lies}
use Rattle.editor_edit.specs.Sound.{lines_counted, lines_kept, lies_counted}
use Rattle.editor_names.specs.Answers.{accepting, short_of}
use Rattle.editor_accept.specs.Lines.{Written, Accepts, AcceptsDirect}
use Rattle.editor_accept.proofs.AcceptLaws.{roomy, number_is, short_stored, room_decides, short_direct, buffer_decides}

module _ (names values store : List ℕ) (e : Editor) where
  abbrev S : State
  S = state names values store e

  module _ (t : Sound names e.name_bytes e.name_count) (v : 8 * e.name_count ≤ length values) (n : ℕ) (line : List ℕ) (size : ℕ) (fresh : List ℕ) where
    -- its refusal with 6 or 7, if any
    abbrev short : Option Refusal
    short = short_of (lacks (length names) e.name_bytes (length values) e.name_count (names_in fresh)) size

    -- 6, 7
    pub answer_short : (o : Option Refusal) (k : Refusal) (x : Entered) → o ≡ short → o ≡ Some k → x ≡ refusing (no_place k) e → Accepts S n line size fresh (entered x names values store)
    unfolding refusal
    answer_short o k x l d q ts w = rw (q) (short_stored S t v n line size fresh ts w k (sym l ∙ d))

    -- there is room for the new names
    pub room_is : (k : Option Refusal) → k ≡ short → k ≡ None → closed? fresh ≡ true → Room names e.name_bytes values e.name_count fresh
    room_is k l d c = roomy S t v n line size fresh (sym l ∙ d) c

    module _ (kept : Counts) (is : kept ≡ counts_in e) (k : Option Refusal) (l : k ≡ short) (d : k ≡ None) (part : List ℕ) (p : part ≡ take size line) where
      -- the place of the line's number
      pub place_is : (ts : List Token) (q : Place) → Written (names_of S) n ts line size fresh → Lies q n S → q ≡ place_of (line_number part) (lines_counted S kept is)
      place_is ts q w h =
          let same : line_number part ≡ n = ap line_number p ∙ number_is S t v n line size fresh ts w (sym l ∙ d) in
          lies_counted S kept is n q h ∙ ap (λ (m : ℕ). place_of m (lines_counted S kept is)) (sym same)

      module _ (r : Option Counts) (store' : List ℕ) (a : r ≡ stored_answer store (put_line part (lines_counted S kept is))) (z : store' ≡ stored_bytes store (put_line part (lines_counted S kept is))) where
        abbrev put : List (List ℕ)
        put = put_line (take size line) (lines_of S)

        same_put : put_line part (lines_counted S kept is) ≡ put
        same_put = ap (put_line part) (lines_kept S kept is) ∙ ap (λ (y : List ℕ). put_line y (lines_of S)) p

        put_answered : r ≡ stored_answer store put
        put_answered = a ∙ ap (stored_answer store) same_put

        put_left : store' ≡ stored_bytes store put
        put_left = z ∙ ap (stored_bytes store) same_put

        -- 8
        pub answer_8 : (x : Entered) → r ≡ None → x ≡ refusing (no_place NoRoom) e → Accepts S n line size fresh (entered x names values store')
        unfolding stored_bytes refusal
        answer_8 x g q ts w =
            let no = stored_no_room store put (sym put_answered ∙ g) in
            let st : store' ≡ store = put_left ∙ rw (no) in
            rw (st, q) (sym (rw (no)) ∙ room_decides S t v n line size fresh ts w (sym l ∙ d))

        -- 0
        pub answer_0 : (after : Counts) (x : Entered) (names' values' : List ℕ) → r ≡ Some after → x ≡ accepting fresh after e
            → names' ≡ overwritten (take e.name_bytes names ++ name_bytes (names_in fresh)) names
            → values' ≡ overwritten (take (8 * e.name_count) values ++ value_entries e.name_count (names_in fresh)) values
            → Accepts S n line size fresh (entered x names' values' store')
        unfolding stored_bytes counts_of
        answer_0 after x names' values' g q en ev ts w =
            let yes = stored_done store put after (sym put_answered ∙ g) in
            let st : store' ≡ overwritten (joined put) store = put_left ∙ rw yes.0 in
            rw (q, st, en, ev, yes.1) (sym (rw yes.0) ∙ room_decides S t v n line size fresh ts w (sym l ∙ d))

-- ---- accepting a line without a number, over any store

module _ (names values : List ℕ) (e : Editor) (t : Sound names e.name_bytes e.name_count) (v : 8 * e.name_count ≤ length values) (buffer line : List ℕ) (size : ℕ) (fresh : List ℕ)
    (o : Option Refusal) (l : o ≡ short names values [] e t v direct_number line size fresh) where
  -- 6, 7
  pub direct_short : (k : Refusal) (x : Entered) → o ≡ Some k → x ≡ refusing (no_place k) e → AcceptsDirect names values e buffer line size fresh x names values buffer
  unfolding refusal same_buffer
  direct_short k x d q store ts w = rw (q) (short_direct (state names values store e) t v line size fresh ts w buffer k (sym l ∙ d))

  module _ (d : o ≡ None) where
    -- 8
    pub direct_8 : (x : Entered) → length buffer < size → x ≡ refusing (no_place NoRoom) e → AcceptsDirect names values e buffer line size fresh x names values buffer
    unfolding refusal same_buffer
    direct_8 x h q store ts w = rw (q) (sym (rw (lt-ltb (length buffer) size h)) ∙ buffer_decides (state names values store e) t v line size fresh ts w buffer (sym l ∙ d))

    -- 0
    pub direct_0 : (kept : Counts) (part : List ℕ) (x : Entered) (names' values' buffer' : List ℕ) → size ≤ length buffer → kept ≡ counts_in e → part ≡ take size line
        → buffer' ≡ sets buffer 0 part → x ≡ accepting fresh kept e
        → names' ≡ overwritten (take e.name_bytes names ++ name_bytes (names_in fresh)) names
        → values' ≡ overwritten (take (8 * e.name_count) values ++ value_entries e.name_count (names_in fresh)) values
        → AcceptsDirect names values e buffer line size fresh x names' values' buffer'
    direct_0 kept part x names' values' buffer' h is p eb q en ev store ts w =
        let eb' : buffer' ≡ overwritten (take size line) buffer = eb ∙ ap (sets buffer 0) p ∙ overwrites buffer (take size line) (omega (arith, length-take size line)) in
        rw (q, is, en, ev, eb') (sym (rw (le-ltb (length buffer) size h)) ∙ buffer_decides (state names values store e) t v line size fresh ts w buffer (sym l ∙ d))
