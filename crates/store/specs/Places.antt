-- What callers know of a place that was found, and of the answers to edits.
use Prim.Native.Nat.{ℕ, ◌+◌, ◌≤◌}
use Rattle.std.proofs.Common.{arith, ◌∙◌, leb→le, eqb→eq, take-append-drop}
use Rattle.std.specs.Prelude.{◌≡◌, refl, Bool, leb, eqb, length, Some, None}
use Rattle.std.proofs.Math.Path.{sym, ap, subst}
use Rattle.std.proofs.Math.Bool.{true, false}
use mathlib.Core.List.{List, [], ◌∷◌, ◌++◌, append_assoc}
use Rattle.std.proofs.Math.Dec.{T}
use Rattle.std.proofs.Math.ListN.{take, drop}
use Rattle.std.proofs.Math.Seq.{take-append_seam, drop-append_seam}
use Rattle.paper.specs.Bytes.{pick, every, joined}
use Rattle.paper.specs.Store.{lines_in, whole_line?, rising, sound_lines, greatest_number, sound_store, lines_below, lines_not_below, first_is?, stored?, first_line, line_at, lines_above}
use Rattle.laws.specs.Tests.{and_left, and_right, as_T}
use Rattle.laws.specs.Lines.{every_second, both_sides, used_of, parts_of, sizes_of, old_line}
use Rattle.store.specs.declared.Counts.{Counts}
use Rattle.store.specs.declared.Place.{Place}
use Rattle.store.specs.Answers.{sound_counts, place_of, found_answer}

-- ---- a sound store and its counts

-- what the test of store and counts says
pub record Counted (store : List ℕ) (c : Counts) : Type 0 where
  pub sound : T (sound_store store c.used)
  pub lines : c.lines ≡ length (lines_in (take c.used store))
  pub greatest : c.greatest ≡ greatest_number (lines_in (take c.used store))

pub counted : (store : List ℕ) (c : Counts) → T (sound_counts store c) → Counted store c
unfolding sound_counts
counted store c t =
    let ls : List (List ℕ) = lines_in (take c.used store) in
    let pair = and_right (sound_store store c.used) _ t in
    record {
      sound = and_left (sound_store store c.used) _ t;
      lines = eqb→eq c.lines (length ls) (and_left (eqb c.lines (length ls)) _ pair);
      greatest = eqb→eq c.greatest (greatest_number ls) (and_right (eqb c.lines (length ls)) _ pair);
    }

-- ---- the place of a number

-- sound lines rise
pub sound_rising : (ls : List (List ℕ)) → T (sound_lines ls) → T (rising ls)
unfolding sound_lines
sound_rising ls t = and_right (every whole_line? ls) (rising ls) t

-- no whole line is empty
whole_long : (l : List ℕ) → T (whole_line? l) → 6 ≤ length l
unfolding whole_line?
whole_long l t = leb→le 6 (length l) (and_left (leb 6 (length l)) _ t)

first_long : (n : ℕ) (ls : List (List ℕ)) → T (every whole_line? ls) → first_is? n ls ≡ true → 6 ≤ length (first_line ls)
unfolding every first_is? first_line
first_long n [] t e = let z : ◌≡◌ {A = ℕ} 0 1 = cc in absurd (omega arith)
first_long n (l ∷ ls) t e = whole_long l (and_left (whole_line? l) (every whole_line? ls) t)

module _ (store : List ℕ) (used n : ℕ) (sound : T (sound_store store used)) where
  -- the line at the place lies within the used bytes
  pub place_within : (p : Place) → p ≡ place_of n (lines_in (take used store)) → p.at + p.size ≤ used
  unfolding place_of old_line
  place_within p e = subst (λ (q : Place). q.at + q.size ≤ used) (sym e) (omega (arith, sizes_of store used n sound))

  size_go : (b : Bool) → stored? n (lines_in (take used store)) ≡ b → (length (pick b (line_at n (lines_in (take used store))) []) ≡ 0 → b ≡ false) × ((length (pick b (line_at n (lines_in (take used store))) []) ≡ 0 → ⊥) → b ≡ true)
  unfolding stored? line_at
  size_go false e = ((λ z. refl), λ f. absurd (f refl))
  size_go true e =
      let ls : List (List ℕ) = lines_in (take used store) in
      let w : T (every whole_line? (lines_not_below n ls)) =
      every_second whole_line? (lines_below n ls) (lines_not_below n ls) (subst (λ (x : List (List ℕ)). T (every whole_line? x)) (sym (both_sides n ls)) (used_of store used sound).whole) in
      ((λ z. absurd (omega (arith, first_long n (lines_not_below n ls) w e))), λ f. refl)

  -- a size of 0 says that no line has the number
  pub missing : (p : Place) → p ≡ place_of n (lines_in (take used store)) → p.size ≡ 0 → stored? n (lines_in (take used store)) ≡ false
  unfolding place_of old_line
  missing p e h = (size_go (stored? n (lines_in (take used store))) refl).0 (sym (ap (λ (q : Place). q.size) e) ∙ h)

  -- another size says that one has
  pub there : (p : Place) → p ≡ place_of n (lines_in (take used store)) → (p.size ≡ 0 → ⊥) → stored? n (lines_in (take used store)) ≡ true
  unfolding place_of old_line
  there p e h = (size_go (stored? n (lines_in (take used store))) refl).1 (λ z. h (ap (λ (q : Place). q.size) e ∙ z))

  -- the bytes at the place are the line with the number, if there is one
  pub line_there : (p : Place) → p ≡ place_of n (lines_in (take used store)) → (p.size ≡ 0 → ⊥) → take p.size (drop p.at store) ≡ line_at n (lines_in (take used store))
  unfolding place_of old_line
  line_there p e h =
      let ls : List (List ℕ) = lines_in (take used store) in
      let b : List ℕ = joined (lines_below n ls) in
      let o : List ℕ = old_line n ls in
      let a : List ℕ = joined (lines_above n ls) in
      let w : store ≡ b ++ ((o ++ a) ++ drop used store) =
      sym (take-append-drop used store) ∙ ap (λ (z : List ℕ). z ++ drop used store) (sym (parts_of store used n sound)) ∙ append_assoc b (o ++ a) (drop used store) in
      ap (λ (q : Place). take q.size (drop q.at store)) e
      ∙ ap (λ (z : List ℕ). take (length o) (drop (length b) z)) w
      ∙ ap (take (length o)) (drop-append_seam b ((o ++ a) ++ drop used store) ∙ append_assoc o a (drop used store))
      ∙ take-append_seam o (a ++ drop used store)
      ∙ ap (λ (x : Bool). pick x (line_at n ls) []) (there p e h)

-- the place of a number is that of its own
pub own_place : (n : ℕ) (ls : List (List ℕ)) (p : Place) → p ≡ place_of n ls → p ≡ place_of p.number ls
unfolding place_of
own_place n ls p e = e ∙ ap (λ (k : ℕ). place_of k ls) (sym (ap (λ (q : Place). q.number) e))

-- ---- the answer to a search

at_go : (b : Bool) (q p : Place) → pick b (Some q) None ≡ Some p → (b ≡ true) × (p ≡ q)
at_go true q p e = (refl, (cc))
at_go false q p e = let z : ◌≡◌ {A = ℕ} 0 1 = cc in absurd (omega arith)

-- a place was found: the store is sound, and the counts are its own
pub found_sound : (store : List ℕ) (c : Counts) (n : ℕ) (p : Place) → found_answer store c n ≡ Some p → (T (sound_counts store c)) × (p ≡ place_of n (lines_in (take c.used store)))
unfolding found_answer
found_sound store c n p e =
    let g = at_go (sound_counts store c) (place_of n (lines_in (take c.used store))) p e in
    (as_T (sound_counts store c) g.0, g.1)

none_go : (b : Bool) (q : Place) → pick b (Some q) None ≡ None → b ≡ false
none_go true q e = let z : ◌≡◌ {A = ℕ} 0 1 = cc in absurd (omega arith)
none_go false q e = refl

-- none was: it is not, or they are not
pub found_unsound : (store : List ℕ) (c : Counts) (n : ℕ) → found_answer store c n ≡ None → sound_counts store c ≡ false
unfolding found_answer
found_unsound store c n e = none_go (sound_counts store c) (place_of n (lines_in (take c.used store))) e
