-- What a sound state is, as facts.
use Rattle.std.specs.Prelude.{ℕ, ◌*◌, ◌≤◌, ◌≡◌, List, leb, length, take}
use Rattle.std.proofs.Common.{sym, ◌∙◌, leb→le}
use Rattle.std.proofs.Math.Path.{ap, subst}
use Rattle.std.proofs.Math.Dec.{T}
use Rattle.paper.specs.Names.{sound_table}
use Rattle.paper.specs.Store.{sound_store, lines_in}
use Rattle.paper.specs.Calls.{State, lines_of, sound_tables, agrees, sound_state}
use Rattle.laws.specs.Tests.{and_left, and_right, and_both, is_true}
use Rattle.laws.specs.Names.{Sound, sound_facts}
use Rattle.store.specs.declared.Counts.{Counts}
use Rattle.store.specs.declared.Place.{Place}
use Rattle.store.specs.Answers.{sound_counts, place_of}
use Rattle.editor_edit.specs.States.{Lies}

tables : (s : State) → T (sound_state s) → T (sound_tables s)
unfolding sound_state
tables s t = and_left (sound_tables s) (agrees s) t

-- the name table, by the test
pub table_tested : (s : State) → T (sound_state s) → T (sound_table s.names s.name_size s.name_count)
unfolding sound_tables
table_tested s t = and_left (sound_table s.names s.name_size s.name_count) _ (tables s t)

-- the name table
pub table_sound : (s : State) → T (sound_state s) → Sound s.names s.name_size s.name_count
table_sound s t = sound_facts s.names s.name_size s.name_count (is_true (sound_table s.names s.name_size s.name_count) (table_tested s t))

-- the values
pub values_fit : (s : State) → T (sound_state s) → 8 * s.name_count ≤ length s.values
unfolding sound_tables
values_fit s t =
    leb→le (8 * s.name_count) (length s.values)
    (and_left (leb (8 * s.name_count) (length s.values)) _ (and_right (sound_table s.names s.name_size s.name_count) _ (tables s t)))

-- the store
pub store_sound : (s : State) → T (sound_state s) → T (sound_store s.store s.used)
unfolding sound_tables
store_sound s t =
    and_right (leb (8 * s.name_count) (length s.values)) _ (and_right (sound_table s.names s.name_size s.name_count) _ (tables s t))

-- what a state keeps of the store
abbrev pub counts_kept : State → Counts
counts_kept s = record { used = s.used; lines = s.line_count; greatest = s.greatest }

module _ (s : State) (kept : Counts) (is : kept ≡ counts_kept s) where
  -- the lines of so many bytes
  abbrev pub lines_counted : List (List ℕ)
  lines_counted = lines_in (take kept.used s.store)

  -- they are its lines
  pub lines_kept : lines_counted ≡ lines_of s
  unfolding lines_of
  lines_kept = ap (λ (k : Counts). lines_in (take k.used s.store)) is

  -- a place among them
  pub lies_counted : (n : ℕ) (p : Place) → Lies p n s → p ≡ place_of n lines_counted
  lies_counted n p h = h ∙ ap (place_of n) (sym lines_kept)

  -- the store has these counts
  pub counts_sound : T (sound_state s) → T (sound_counts s.store kept)
  unfolding sound_state sound_counts agrees lines_of
  counts_sound t =
      subst (λ (k : Counts). T (sound_counts s.store k)) (sym is)
      (and_both (sound_store s.store s.used) _ (store_sound s t) (and_right (sound_tables s) (agrees s) t))
