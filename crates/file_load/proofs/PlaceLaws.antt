-- The lent buffers after the program that a file holds is copied there.
use Prim.Native.Nat.{ℕ, ◌+◌, ◌-◌, ◌*◌, ◌≤◌, ◌<◌}
use native.Mathlib.Omega.{arith}
use mathlib.Core.Path.{◌≡◌, refl, sym, ap, ◌∙◌}
use mathlib.Core.Bool.{Bool, true, false, ◌||◌}
use mathlib.Core.List.{List}
use Rattle.std.specs.Prelude.{Ok, Err}
use lib.Dec.{ltb}
use lib.ListN.{length, take, drop}
use lib.Seq.{sets}
use borrow.Author.Tests.{lt-ltb, le-ltb}
use Rattle.paper.specs.Bytes.{joined}
use Rattle.paper.specs.Store.{room, overwritten}
use Rattle.paper.specs.Calls.{State}
use Rattle.paper.specs.Files.{Parts, parts_of, too_small?, loaded_state, not_loaded, load}
use Rattle.paper.specs.Files.{Loaded as Outcome}
use Rattle.laws.specs.Lines.{room_lent}
use Rattle.buffers.specs.Sets.{overwrites}
use Rattle.editor_edit.specs.declared.Editor.{Editor}
use Rattle.editor_edit.specs.States.{state}
use Rattle.refusals.specs.declared.Refusal.{Refusal}
use Rattle.refusals.specs.declared.Refusal.TheVariants.{NoRoom}
use Rattle.file_load.specs.Answers.{record_of_parts, opened, loaded, placed}
use Rattle.file_load.specs.Lies.{Lies, faultless, faulty}

-- ---- the answers

-- a part of a file, as a slice has it
pub part : (file : List ℕ) (from to size : ℕ) → to - from ≡ size → take (to - from) (drop from file) ≡ take size (drop from file)
part file from to size e = ap (λ (k : ℕ). take k (drop from file)) e

module _ (file names values store : List ℕ) (e held : Editor) (l : Lies file held) where
  abbrev s : State
  s = state names values store e

  refused_8 : too_small? (parts_of file) s ≡ true → loaded e (Err NoRoom) names values store ≡ placed file s
  unfolding placed not_loaded
  refused_8 t = sym (rw t)

  -- 8: of the names
  pub names_short : length names < held.name_bytes → loaded e (Err NoRoom) names values store ≡ placed file s
  unfolding too_small?
  names_short h = refused_8 (rw (lt-ltb (length names) (length (parts_of file).names) (omega (arith, l.name_size))))

  -- of the values
  pub values_short : length values < 8 * held.name_count → loaded e (Err NoRoom) names values store ≡ placed file s
  unfolding too_small?
  values_short h = refused_8 (rw (lt-ltb (length values) (length (parts_of file).values) (omega (arith, l.value_size))) (either (ltb (length names) (length (parts_of file).names))))
    where
      either : (b : Bool) → b || true ≡ true
      either true = refl
      either false = refl

  -- of the store
  pub store_short : room store < held.used → loaded e (Err NoRoom) names values store ≡ placed file s
  unfolding too_small?
  store_short h =
      refused_8 (rw (lt-ltb (room store) (length (joined (parts_of file).lines)) (omega (arith, l.line_size))) (either (ltb (length names) (length (parts_of file).names)) (ltb (length values) (length (parts_of file).values))))
    where
      either : (a b : Bool) → a || (b || true) ≡ true
      either true b = refl
      either false true = refl
      either false false = refl

  -- 0
  pub copied : held.name_bytes ≤ length names → 8 * held.name_count ≤ length values → held.used ≤ room store
      → (names' values' store' : List ℕ) → names' ≡ sets names 0 (take held.name_bytes (drop 14 file)) → values' ≡ sets values 0 (take (8 * held.name_count) (drop (14 + held.name_bytes + 1) file))
      → store' ≡ sets store 0 (take held.used (drop (14 + held.name_bytes + 1 + 8 * held.name_count) file))
      → loaded e (Ok held) names' values' store' ≡ placed file s
  unfolding placed too_small? loaded_state record_of_parts
  copied a b c names' values' store' en ev es =
      let p : Parts = parts_of file in
      let n : names' ≡ overwritten p.names names = en ∙ ap (sets names 0) l.names ∙ overwrites names p.names (omega (arith, l.name_size)) in
      let v : values' ≡ overwritten p.values values = ev ∙ ap (sets values 0) l.values ∙ overwrites values p.values (omega (arith, l.value_size)) in
      let t : store' ≡ overwritten (joined p.lines) store = es ∙ ap (sets store 0) l.lines ∙ overwrites store (joined p.lines) (omega (arith, l.line_size, room_lent store)) in
      rw (n, v, t, l.is)
      (sym (rw (le-ltb (length names) (length p.names) (omega (arith, l.name_size)), le-ltb (length values) (length p.values) (omega (arith, l.value_size)), le-ltb (room store) (length (joined p.lines)) (omega (arith, l.line_size)))))

  -- the whole call
  pub loads_held : opened file ≡ Ok held → (o : Outcome) → o ≡ placed file s → o ≡ load file s
  unfolding load placed
  loads_held h o q = q ∙ sym (faultless (not_loaded s) file _ held h)

-- a refused file
pub loads_refused : (file names values store : List ℕ) (e : Editor) (r : Refusal) → opened file ≡ Err r → loaded e (Err r) names values store ≡ load file (state names values store e)
unfolding load not_loaded
loads_refused file names values store e r h = sym (faulty (not_loaded (state names values store e)) file _ r h)
