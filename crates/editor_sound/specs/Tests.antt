-- The test of tables and store in two parts: names with room for their values, and the store with what the record keeps of it.
use Rattle.std.specs.Prelude.{ℕ, ◌*◌, ◌≡◌, refl, Bool, true, false, ◌&&◌, leb, length}
use Rattle.std.proofs.Common.{arith, sym, ◌∙◌}
use Rattle.std.proofs.Math.Path.{ap}
use Rattle.paper.specs.Names.{sound_table}
use Rattle.paper.specs.Store.{sound_store}
use Rattle.paper.specs.Calls.{State, lines_of, sound_tables, agrees, sound_state}
use Rattle.store.specs.declared.Counts.{Counts}
use Rattle.store.specs.Answers.{sound_counts}
use Rattle.editor_edit.specs.Sound.{counts_kept}

both : (a b c d : Bool) → a && b ≡ true → c && d ≡ (a && (b && c)) && d
both true true c d h = refl
both true false c d h = let z : ◌≡◌ {A = ℕ} 0 1 = cc in absurd (omega arith)
both false b c d h = let z : ◌≡◌ {A = ℕ} 0 1 = cc in absurd (omega arith)

first_fails : (a b c d : Bool) → a && b ≡ false → false ≡ (a && (b && c)) && d
first_fails true true c d h = let z : ◌≡◌ {A = ℕ} 0 1 = cc in absurd (omega arith)
first_fails true false c d h = refl
first_fails false b c d h = refl

-- the test of the name table and of the room for values
module _ (s : State) (b : Bool) (e : b ≡ sound_table s.names s.name_size s.name_count && leb (8 * s.name_count) (length s.values)) where
  -- where they are not sound, nothing else counts
  pub unsound_tables : b ≡ false → false ≡ sound_state s
  unfolding sound_state sound_tables
  unsound_tables t = first_fails (sound_table s.names s.name_size s.name_count) (leb (8 * s.name_count) (length s.values)) (sound_store s.store s.used) (agrees s) (sym e ∙ t)

  -- where they are, the store decides, with what the record keeps of it
  pub store_decides : b ≡ true → (kept : Counts) → kept ≡ counts_kept s → (c : Bool) → c ≡ sound_counts s.store kept → c ≡ sound_state s
  unfolding sound_state sound_tables agrees sound_counts lines_of
  store_decides t kept so c h =
      h
      ∙ ap (sound_counts s.store) so
      ∙ both (sound_table s.names s.name_size s.name_count) (leb (8 * s.name_count) (length s.values)) (sound_store s.store s.used) (agrees s) (sym e ∙ t)
