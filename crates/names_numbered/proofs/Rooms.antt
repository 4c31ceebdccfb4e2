-- Whether new names pass the limit or lack room.
use Prim.Native.Nat.{ℕ, ◌+◌, ◌*◌, ◌≤◌, ◌<◌}
use native.Mathlib.Omega.{arith}
use mathlib.Core.Path.{◌≡◌, refl, sym}
use mathlib.Core.Bool.{true, false, or-true}
use mathlib.Core.List.{List, [], ◌∷◌}
use lib.Dec.{ltb}
use lib.ListN.{length}
use borrow.Author.Tests.{lt-ltb, le-ltb}
use Rattle.paper.specs.Names.{names_in, name_bytes}
use Rattle.laws.specs.Names.{names_some}
use Rattle.names_numbered.specs.Answers.{lacks}
use Rattle.names_numbered.specs.Uses.{length_bytes}

module _ (name_room size value_room count : ℕ) (fresh : List ℕ) where
  some : (length fresh ≡ 0 → ⊥) → ltb 0 (length (names_in fresh)) ≡ true
  some h = go fresh h
    where
      go : (l : List ℕ) → (length l ≡ 0 → ⊥) → ltb 0 (length (names_in l)) ≡ true
      go [] h = absurd (h refl)
      go (b ∷ bs) h = lt-ltb 0 (length (names_in (b ∷ bs))) (names_some b bs)

  pub lacks_nothing : length fresh ≡ 0 → false ≡ lacks name_room size value_room count (names_in fresh)
  unfolding lacks names_in
  lacks_nothing h = go fresh h
    where
      go : (l : List ℕ) → length l ≡ 0 → false ≡ lacks name_room size value_room count (names_in l)
      go [] h = refl
      go (b ∷ bs) h = absurd (omega arith)

  pub passes_limit : (length fresh ≡ 0 → ⊥) → 256 < count + length (names_in fresh) → true ≡ lacks name_room size value_room count (names_in fresh)
  unfolding lacks
  passes_limit h k = sym (rw (some h, lt-ltb 256 (count + length (names_in fresh)) k))

  pub lacks_names : (length fresh ≡ 0 → ⊥) → name_room < size + length fresh → true ≡ lacks name_room size value_room count (names_in fresh)
  unfolding lacks
  lacks_names h k =
      let less : ltb name_room (size + length (name_bytes (names_in fresh))) ≡ true = lt-ltb name_room (size + length (name_bytes (names_in fresh))) (omega (arith, length_bytes fresh)) in
      sym (rw (some h, less) (or-true (ltb 256 (count + length (names_in fresh)))))

  pub lacks_values : (length fresh ≡ 0 → ⊥) → count + length (names_in fresh) ≤ 256 → size + length fresh ≤ name_room
      → ltb value_room (8 * (count + length (names_in fresh))) ≡ lacks name_room size value_room count (names_in fresh)
  unfolding lacks
  lacks_values h k l =
      let more : ltb name_room (size + length (name_bytes (names_in fresh))) ≡ false = le-ltb name_room (size + length (name_bytes (names_in fresh))) (omega (arith, length_bytes fresh)) in
      sym (rw (some h, le-ltb 256 (count + length (names_in fresh)) k, more))
