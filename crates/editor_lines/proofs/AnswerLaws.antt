-- The answers of the edits, from what the functions that they call ensure.
use Prim.Native.Nat.{ℕ}
use mathlib.Core.Path.{◌≡◌, sym, ap, ◌∙◌}
use mathlib.Core.List.{List}
use lib.Dec.{T}
use Rattle.paper.specs.Bytes.{joined}
use Rattle.paper.specs.Items.{span}
use Rattle.paper.specs.Line.{line_number}
use Rattle.paper.specs.Store.{put_line, take_out, overwritten}
use Rattle.paper.specs.Calls.{State, lines_of, sound_state, refusal, delete, keep_line}
use Rattle.store.specs.Answers.{place_of, counts_of}
use Rattle.store_edit.specs.Answers.{too_long, stored_answer, stored_bytes, removed_answer, removed_bytes}
use Rattle.store_edit.specs.Answered.{stored_done, stored_no_room, removed_done, removed_not_there}
use Rattle.store.specs.declared.Counts.{Counts}
use Rattle.store.specs.declared.Place.{Place}
use Rattle.std.specs.Prelude.{Option, Some, None, Ok, Err}
use Rattle.refusals.specs.declared.Refusal.TheVariants.{NoReading, NoRoom, NoLine}
use Rattle.refusals.specs.declared.RefusedItem.{RefusedItem}
use Rattle.editor_edit.specs.declared.Editor.{Editor}
use Rattle.editor_edit.specs.declared.Entered.{Entered}
use Rattle.editor_edit.specs.States.{state, counts_in, counting, entered, refusing, no_place, Lies}
use Rattle.editor_edit.specs.Sound.{lines_counted, lines_kept, lies_counted}
use Rattle.editor_lines.proofs.StateLaws.{tables_stay, taken_out, not_there}

module _ (names values store : List ℕ) (e : Editor) (kept : Counts) (is : kept ≡ counts_in e) where
  abbrev S : State
  S = state names values store e

  abbrev found : List (List ℕ)
  found = lines_counted S kept is

  -- ---- taking a line out

  module _ (n : ℕ) (r : Option Counts) (store' : List ℕ) (a : r ≡ removed_answer n found) (b : store' ≡ removed_bytes n store found) where
    answered : r ≡ removed_answer n (lines_of S)
    answered = a ∙ ap (removed_answer n) (lines_kept S kept is)

    left_so : store' ≡ removed_bytes n store (lines_of S)
    left_so = b ∙ ap (removed_bytes n store) (lines_kept S kept is)

    -- the line is gone
    pub gone : T (sound_state S) → (left : Counts) (x : Editor) → r ≡ Some left → x ≡ counting e left
        → entered (record { added = Ok 0; editor = x }) names values store' ≡ delete S n
    unfolding removed_bytes counts_of
    gone o left x g q =
        let d = removed_done n (lines_of S) left (sym answered ∙ g) in
        let st : store' ≡ overwritten (joined (take_out n (lines_of S))) store = left_so ∙ rw d.0 in
        rw (q, st, d.1) (taken_out S o n d.0)

    -- the line is not there
    pub absent : (x : Entered) → r ≡ None → x ≡ refusing (no_place NoLine) e → entered x names values store' ≡ delete S n
    unfolding removed_bytes
    absent x g q =
        let d = removed_not_there n (lines_of S) (sym answered ∙ g) in
        let st : store' ≡ store = left_so ∙ rw (d) in
        rw (st, q) (not_there S n d)

  -- ---- keeping a wrong line

  module _ (o : T (sound_state S)) (line : List ℕ) (wrong : RefusedItem) where
    -- the place of its number
    pub place_kept : (q : Place) → Lies q (line_number line) S → q ≡ place_of (line_number line) found
    place_kept q h = lies_counted S kept is (line_number line) q h

    module _ (r : Option Counts) (store' : List ℕ) (a : r ≡ stored_answer store (put_line line found)) (z : store' ≡ stored_bytes store (put_line line found)) where
      abbrev with_kept : List (List ℕ)
      with_kept = put_line line (lines_of S)

      same_kept : put_line line found ≡ with_kept
      same_kept = ap (put_line line) (lines_kept S kept is)

      -- 8
      pub kept_8 : (x : Entered) → r ≡ None → x ≡ refusing (no_place NoRoom) e → entered x names values store' ≡ keep_line S line (span wrong.place wrong.end)
      unfolding stored_bytes keep_line refusal too_long
      kept_8 x g q =
          let no = stored_no_room store with_kept (ap (stored_answer store) (sym same_kept) ∙ sym a ∙ g) in
          let st : store' ≡ store = z ∙ ap (stored_bytes store) same_kept ∙ rw (no) in
          rw (st, q) (sym (rw (no)))

      -- 4
      pub kept_4 : (after : Counts) (x : Editor) → r ≡ Some after → x ≡ counting e after
          → entered (record { added = Err (record { refusal = NoReading; place = wrong.place; end = wrong.end }); editor = x }) names values store' ≡ keep_line S line (span wrong.place wrong.end)
      unfolding stored_bytes keep_line counts_of too_long
      kept_4 after x g q =
          let yes = stored_done store with_kept after (ap (stored_answer store) (sym same_kept) ∙ sym a ∙ g) in
          let st : store' ≡ overwritten (joined with_kept) store = z ∙ ap (stored_bytes store) same_kept ∙ rw yes.0 in
          rw (q, st, yes.1) (sym (rw (yes.0, tables_stay S o with_kept)))
