-- The answers of listing, in the words of `paper`.
use Prim.Native.Nat.{ℕ, ◌+◌, ◌-◌, ◌≤◌}
use native.Mathlib.Omega.{arith}
use mathlib.Core.Path.{◌≡◌, sym, ap, ◌∙◌}
use mathlib.Core.Bool.{true, false}
use mathlib.Core.List.{List}
use lib.Dec.{T, leb, leb→le}
use lib.ListN.{length, take, drop, get_or}
use Rattle.paper.specs.Names.{names_in}
use Rattle.paper.specs.Store.{line_at, lines_in, sound_store, room}
use Rattle.paper.specs.Calls.{State, names_of, lines_of, sound_state, not_listed, list_sound}
use Rattle.paper.specs.Direct.{line_in, show_sound}
use Rattle.laws.specs.Tests.{and_left}
use Rattle.laws.specs.Lines.{room_lent}
use Rattle.store.specs.Answers.{place_of}
use Rattle.store.specs.Places.{place_within, missing, there, line_there}
use Rattle.store.specs.declared.Place.{Place}
use Rattle.list_outcome.specs.Outcomes.{answer}
use Rattle.list_line.specs.Listed.{lists}
use Rattle.list_pieces.specs.Rest.{Sound}
use Rattle.list_pieces.specs.NameLaws.{sound_own}
use Rattle.std.specs.Prelude.{Result, Err}
use Rattle.refusals.specs.declared.Refusal.{Refusal}
use Rattle.refusals.specs.declared.Refusal.TheVariants.{NoLine}
use Rattle.editor_list.specs.Answers.{listed, listed_as}
use Rattle.editor_edit.specs.States.{Lies}
use Rattle.editor_edit.specs.Sound.{table_tested, store_sound}

-- what the lister asks of the names
pub names_sound : (s : State) → T (sound_state s) → Sound s.names s.name_size
names_sound s t = sound_own s.names s.name_size s.name_count (table_tested s t)

module _ (s : State) (o : T (sound_state s)) (n : ℕ) (p : Place) (lies : Lies p n s) where
  e : p ≡ place_of n (lines_in (take s.used s.store))
  unfolding lines_of
  e = lies

  -- the line lies within the used bytes
  pub lies_within : p.at + p.size ≤ s.used
  lies_within = place_within s.store s.used n (store_sound s o) p e

  -- and so within the store
  pub lies_there : p.at + p.size ≤ length s.store
  unfolding sound_store
  lies_there =
      omega (arith, lies_within, room_lent s.store, leb→le s.used (room s.store) (and_left (leb s.used (room s.store)) _ (store_sound s o)))

  -- 9
  pub not_stored : (out : List ℕ) → p.size ≡ 0 → listed (Err NoLine) out ≡ list_sound n s out
  unfolding list_sound not_listed lines_of
  not_stored out h = sym (rw (missing s.store s.used n (store_sound s o) p e h))

  -- 10, 11 or the listing
  pub listed_so : (line out out' : List ℕ) (r : Result ℕ Refusal) → (p.size ≡ 0 → ⊥) → line ≡ take p.size (drop p.at s.store) → answer r out' ≡ lists false (names_in (take s.name_size s.names)) line out
      → listed r out' ≡ list_sound n s out
  unfolding list_sound names_of lines_of
  listed_so line out out' r h l a =
      let t = there s.store s.used n (store_sound s o) p e h in
      let b : line ≡ line_at n (lines_in (take s.used s.store)) = l ∙ line_there s.store s.used n (store_sound s o) p e h in
      listed_as r out' ∙ a ∙ sym (rw (t, ← b))

-- a part of so many bytes
pub part_is : (at size : ℕ) (l : List ℕ) → take (at + size - at) (drop at l) ≡ take size (drop at l)
part_is at size l = let e : at + size - at ≡ size = omega arith in ap (λ (k : ℕ). take k (drop at l)) e

-- 10, 11 or the listing of the line in a line buffer
pub shown_so : (buffer : List ℕ) (ns : List (List ℕ)) (line out out' : List ℕ) (k : ℕ) (r : Result ℕ Refusal) → k ≡ get_or buffer 2 0 → line ≡ take k buffer → answer r out' ≡ lists true ns line out
    → listed r out' ≡ show_sound buffer ns out
unfolding show_sound line_in
shown_so buffer ns line out out' k r e f a =
    let own : line ≡ line_in buffer = f ∙ ap (λ (n : ℕ). take n buffer) e in
    listed_as r out' ∙ a ∙ ap (λ (l : List ℕ). lists true ns l out) own
