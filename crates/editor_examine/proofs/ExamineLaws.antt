-- The walk over the lines that are examined: where it ends, and a turn of it; and the whole answer.
use Prim.Native.Nat.{ℕ, ◌+◌, ◌*◌, ◌≤◌, ◌<◌}
use native.Mathlib.Omega.{arith}
use mathlib.Core.Path.{◌≡◌, refl, sym, ap, ap₂, ◌∙◌}
use mathlib.Core.Bool.{Bool, true, false, not}
use mathlib.Core.List.{List, [], ◌∷◌}
use Rattle.std.specs.Prelude.{None}
use lib.Dec.{leb}
use lib.ListN.{length, take, drop, get_or}
use borrow.Author.Tests.{le-leb, lt-leb}
use Rattle.paper.specs.Bytes.{pick, every}
use Rattle.paper.specs.Line.{line_number}
use Rattle.paper.specs.Names.{names_in, sound_table}
use Rattle.paper.specs.WellFormed.{well_formed?}
use Rattle.paper.specs.Store.{lines_from, lines_in, room, sound_store}
use Rattle.paper.specs.Examine.{yes, unsound_names, unsound_values, unsound_store, bad_line, first_bad, examine}
use Rattle.paper.specs.Examine.{Verdict as Answer}
use Rattle.laws.specs.Tests.{as_T}
use Rattle.store.specs.Walks.{passing_size, rising_from, sound_lines_from}
use Rattle.store.specs.Rising.{from_zero, walk_ends, Goes}
use Rattle.list_pieces.specs.NameLaws.{sound_own}
use Rattle.list_pieces.specs.Rest.{Sound}
use Rattle.editor_examine.specs.Verdicts.{lines_verdict}

-- ---- the walk over the lines

module _ (ns : List (List ℕ)) (k : ℕ) (s : List ℕ) where
  -- no line is left
  pub none_left : length s ≤ 0 → yes ≡ lines_verdict ns k s
  unfolding lines_verdict sound_lines_from rising_from every lines_in lines_from first_bad
  none_left h = go s h
    where
      go : (s : List ℕ) → length s ≤ 0 → yes ≡ lines_verdict ns k s
      go [] h = refl
      go (b ∷ s) h = absurd (omega arith)

  -- a line that is not whole, or does not rise
  pub not_sound : 0 < length s → passing_size k 32768 s ≡ None → unsound_store ≡ lines_verdict ns k s
  unfolding lines_verdict
  not_sound h z = sym (rw (walk_ends k s h z))

  module _ (goes : Goes k 32768 s) (formed : Bool) (is : formed ≡ well_formed? ns (take (get_or s 2 0) s)) where
    -- a bad line, if all lines are sound
    pub line_bad : formed ≡ false → pick (sound_lines_from k (lines_in s)) (bad_line (line_number s)) unsound_store ≡ lines_verdict ns k s
    unfolding lines_verdict first_bad
    line_bad f =
        let bad : first_bad ns (lines_in s) ≡ bad_line (line_number s) = ap (first_bad ns) goes.first ∙ rw (sym is ∙ f) (ap bad_line goes.number) in
        ap (λ (v : Answer). pick (sound_lines_from k (lines_in s)) v unsound_store) (sym bad)

    -- a good one: the walk goes on after it
    pub line_good : formed ≡ true → (own : ℕ) → own ≡ line_number s → (rest : List ℕ) → rest ≡ drop (get_or s 2 0) s → lines_verdict ns (own + 1) rest ≡ lines_verdict ns k s
    unfolding lines_verdict first_bad
    line_good f own e rest d =
        let more : first_bad ns (lines_in s) ≡ first_bad ns (lines_in (drop (get_or s 2 0) s)) = ap (first_bad ns) goes.first ∙ rw (sym is ∙ f) in
        ap₂ (λ (i : ℕ) (z : List ℕ). lines_verdict ns (i + 1) z) e d ∙ sym (ap₂ (λ (b : Bool) (v : Answer). pick b v unsound_store) goes.sound more)

-- ---- the whole program

module _ (names : List ℕ) (size count : ℕ) (values store : List ℕ) (used : ℕ) where
  -- the names decide
  pub names_unsound : (r : Bool) → r ≡ sound_table names size count → r ≡ false → unsound_names ≡ examine names size count values store used
  unfolding examine
  names_unsound r e h = sym (rw (sym e ∙ h))

  module _ (r : Bool) (e : r ≡ sound_table names size count) (h : r ≡ true) where
    table : sound_table names size count ≡ true
    table = sym e ∙ h

    pub own_names : Sound names size
    own_names = sound_own names size count (as_T (sound_table names size count) table)

    -- the values decide
    pub values_unsound : (v : Bool) → v ≡ leb (8 * count) (length values) → v ≡ false → unsound_values ≡ examine names size count values store used
    unfolding examine
    values_unsound v f k = sym (rw (table, sym f ∙ k))

    module _ (v : Bool) (f : v ≡ leb (8 * count) (length values)) (k : v ≡ true) where
      room_there : leb (8 * count) (length values) ≡ true
      room_there = sym f ∙ k

      -- more bytes used than there is room for
      pub store_over : room store < used → unsound_store ≡ examine names size count values store used
      unfolding examine sound_store
      store_over l = sym (rw (table, room_there, lt-leb used (room store) l))

      -- the lines decide
      pub lines_decide : used ≤ room store → lines_verdict (names_in (take size names)) 0 (take used store) ≡ examine names size count values store used
      unfolding examine sound_store lines_verdict
      lines_decide l = sym (rw (table, room_there, le-leb used (room store) l, sym (from_zero (lines_in (take used store)))) (go (sound_lines_from 0 (lines_in (take used store)))))
        where
          go : (b : Bool) → pick (not b) unsound_store (first_bad (names_in (take size names)) (lines_in (take used store))) ≡ pick b (first_bad (names_in (take size names)) (lines_in (take used store))) unsound_store
          go true = refl
          go false = refl
