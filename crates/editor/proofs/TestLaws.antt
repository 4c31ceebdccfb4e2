-- The test of tables and store, which every call begins with, and what a call answers after it.
use Prim.Native.Nat.{ℕ, ◌*◌, ◌≤◌}
use mathlib.Core.Path.{◌≡◌, refl, sym, ap, ◌∙◌}
use mathlib.Core.Bool.{Bool, true, false, ◌&&◌}
use mathlib.Core.List.{List}
use lib.Dec.{T, leb}
use lib.ListN.{length, take}
use Rattle.paper.specs.Items.{no_span}
use Rattle.paper.specs.Names.{names_in, sound_table}
use Rattle.paper.specs.Calls.{State, sound_state, refusal, head_of, enter, enter_with, not_listed, list_sound, list}
use Rattle.paper.specs.Calls.{Listed as WrittenOut}
use Rattle.paper.specs.Direct.{same_buffer, typed, show_sound, show}
use Rattle.laws.specs.Tests.{and_left, as_T, is_true}
use Rattle.laws.specs.Names.{sound_facts}
use Rattle.store.specs.declared.Counts.{Counts}
use Rattle.store.specs.declared.Place.{Place}
use Rattle.std.specs.Prelude.{Option, Some, None, Result, Err}
use Rattle.std.specs.Option.{ok_or}
use Rattle.refusals.specs.declared.Refusal.{Refusal}
use native.Mathlib.Omega.{arith}
use Rattle.refusals.specs.declared.Refusal.TheVariants.{Unsound}
use Rattle.store.specs.Answers.{sound_counts, place_of, found_answer}
use Rattle.store.specs.Places.{found_sound, found_unsound}
use Rattle.editor_edit.specs.declared.Editor.{Editor}
use Rattle.editor_edit.specs.declared.Entered.{Entered}
use Rattle.editor_edit.specs.States.{state, typed_outcome, refusing, no_place, Lies}
use Rattle.editor_edit.specs.Sound.{counts_kept, lines_kept}
use Rattle.editor_sound.specs.Tests.{store_decides}
use Rattle.editor_list.specs.Answers.{listed}
use Rattle.editor.proofs.EnterLaws.{not_four}
use Rattle.list_pieces.specs.NameLaws.{sound_own}
use Rattle.list_pieces.specs.Rest.{Sound}

-- the test of the name table and of the room for values
module _ (s : State) (b : Bool) (e : b ≡ sound_table s.names s.name_size s.name_count && leb (8 * s.name_count) (length s.values)) where
  module _ (t : b ≡ true) where
    -- the names have the bytes that are counted
    pub names_within : s.name_size ≤ length s.names
    names_within =
        (sound_facts s.names s.name_size s.name_count
        (is_true (sound_table s.names s.name_size s.name_count) (and_left (sound_table s.names s.name_size s.name_count) _ (as_T _ (sym e ∙ t))))).within

    module _ (kept : Counts) (so : kept ≡ counts_kept s) where
      module _ (n : ℕ) (f : Option Place) (is : f ≡ found_answer s.store kept n) where
        -- a place was found
        pub sound_there : (p : Place) → f ≡ Some p → (T (sound_state s)) × Lies p n s
        sound_there p q =
            let found = found_sound s.store kept n p (sym is ∙ q) in
            (as_T (sound_state s) (sym (store_decides s b e t kept so true (sym (is_true (sound_counts s.store kept) found.0)))), found.1 ∙ ap (place_of n) (lines_kept s kept so))

        -- none was
        pub unsound_store : f ≡ None → false ≡ sound_state s
        unsound_store q = store_decides s b e t kept so false (sym (found_unsound s.store kept n (sym is ∙ q)))

-- where a search found no place, the error says so
pub ok_or_none : (o : Option Place) (r : Result Place Refusal) (k : Refusal) → r ≡ ok_or o Unsound → r ≡ Err k → (o ≡ None) × (k ≡ Unsound)
ok_or_none None r k v w = (refl, cc)
ok_or_none (Some p) r k v w = let z : ◌≡◌ {A = ℕ} 0 1 = cc in absurd (omega arith)

-- ---- entering

-- 1
pub typed_refused : (names values store buffer : List ℕ) (e : Editor) (keep : Bool) (text : List ℕ) (x : Entered) → false ≡ sound_state (state names values store e) → x ≡ refusing (no_place Unsound) e
    → typed_outcome x names values store buffer ≡ typed keep text (state names values store e) buffer
unfolding typed same_buffer enter_with enter refusal
typed_refused names values store buffer e keep text x t q =
    let s = state names values store e in rw q (sym (rw (sym t) (ap (same_buffer buffer) (not_four s keep text (head_of text) (refusal 1 no_span s) refl))))

-- ---- listing

-- over sound tables and store, at the place of the number
pub list_so : (s : State) (n : ℕ) (p : Place) (out : List ℕ) (r : WrittenOut) → T (sound_state s) → Lies p n s → r ≡ list_sound p.number s out → r ≡ list n s out
unfolding list place_of
list_so s n p out r t lies h =
    let same : p.number ≡ n = ap (λ (q : Place). q.number) lies in
    h ∙ ap (λ (k : ℕ). list_sound k s out) same ∙ sym (rw (is_true (sound_state s) t))

-- 1
pub list_refused : (s : State) (n : ℕ) (out : List ℕ) → false ≡ sound_state s → listed (Err Unsound) out ≡ list n s out
unfolding list not_listed
list_refused s n out t = sym (rw (sym t))

-- ---- listing a line buffer

module _ (buffer names values out : List ℕ) (size count : ℕ) (b : Bool) (e : b ≡ sound_table names size count && leb (8 * count) (length values)) where
  -- the names are sound
  pub shown_names : b ≡ true → Sound names size
  shown_names t = sound_own names size count (and_left (sound_table names size count) _ (as_T _ (sym e ∙ t)))

  -- over sound names with room for their values
  pub show_so : (r : WrittenOut) → b ≡ true → r ≡ show_sound buffer (names_in (take size names)) out → r ≡ show buffer names size count values out
  unfolding show
  show_so r t h = h ∙ sym (rw (sym e ∙ t))

  -- 1
  pub show_refused : b ≡ false → listed (Err Unsound) out ≡ show buffer names size count values out
  unfolding show not_listed
  show_refused t = sym (rw (sym e ∙ t))
