-- The search for the first line whose number is not below the one asked for.
use Prim.Native.Nat.{ℕ, pred, ◌≤◌, ◌<◌}
use native.Mathlib.Omega.{arith}
use mathlib.Core.Path.{◌≡◌, refl, sym, ap, ap₂, ◌∙◌, subst}
use mathlib.Core.Bool.{Bool, true, false}
use mathlib.Core.List.{List, [], ◌∷◌, ◌++◌}
use lib.Dec.{T, leb, ltb, eqb}
use lib.ListN.{length, take, drop, get_or, length-drop, drop_of_length-le}
use lib.Seq.{length-take-le, drop-append_seam}
use borrow.Author.Tests.{eq-eqb, ne_eqb, leb-true, leb-false, lt-ltb}
use Rattle.paper.specs.Bytes.{pick, every, joined}
use Rattle.paper.specs.Line.{line_number}
use Rattle.paper.specs.Store.{lines_from, lines_in, whole_line?, rising_above, rising, sound_lines, greatest_number, room, sound_store, lines_below, lines_not_below, first_is?, stored?, first_line, line_at}
use Rattle.laws.specs.Tests.{and_left, and_right, and_both, as_T}
use Rattle.laws.specs.Lines.{lines_next, lines_back, bytes_back, joined_append, both_sides, every_second, old_line, used_of}
use Rattle.store.specs.declared.Walked.{Walked}
use Rattle.store.specs.declared.Counts.{Counts}
use Rattle.store.specs.declared.Place.{Place}
use Rattle.std.specs.Prelude.{Some, None}
use Rattle.store.specs.Walks.{least_after, start, past_lines, walked_on, all_passed}
use Rattle.store.specs.Answers.{sound_counts, place_of, found_answer}
use Rattle.store.specs.Places.{counted, sound_rising}
use Rattle.store.specs.Pairs.{greatest_next}
use Rattle.store.specs.Rising.{first_number, First, first_go}
use Rattle.store.proofs.Walk.{walking, from_start, passed_below, last_greatest, walk_resumed, walk_decides, counts_over, on_from_start, used_lent}

-- ---- the first of some whole lines

first_whole : (s : List ℕ) → 0 < length s → T (every whole_line? (lines_in s)) → First s
unfolding lines_in lines_from every
first_whole [] h t = absurd (omega arith)
first_whole (b ∷ s) h t = first_go (b ∷ s) (and_left (whole_line? (take (get_or s 1 0) (b ∷ s))) _ t)

-- some bytes are whole lines
abbrev Whole : List ℕ → Type 0
Whole s = T (every whole_line? (lines_in s))

-- what is known of the first line
record Here (s : List ℕ) : Type 0 where
  lines : lines_in s ≡ take (get_or s 2 0) s ∷ lines_in (drop (get_or s 2 0) s)
  number : line_number (take (get_or s 2 0) s) ≡ line_number s
  size : length (take (get_or s 2 0) s) ≡ get_or s 2 0

here : (s : List ℕ) → 0 < length s → Whole s → Here s
unfolding every
here s inside t =
    let f : First s = first_whole s inside t in
    let m : ℕ = get_or s 2 0 in
    let p : lines_in s ≡ take m s ∷ lines_in (drop m s) = lines_next s (omega (arith, f.long)) in
    record {
      lines = p;
      number = first_number s m (omega (arith, f.long));
      size = length-take-le m s f.fits;
    }

-- ---- the line that the search finds

-- the bytes of the lines below a number
abbrev before : ℕ → List ℕ → ℕ
before n s = length (joined (lines_below n (lines_in s)))

-- the lines from there on
record Found (n : ℕ) (s : List ℕ) (at : ℕ) : Type 0 where
  lines : lines_in (drop at s) ≡ lines_not_below n (lines_in s)
  whole : Whole (drop at s)

found : (n : ℕ) (s : List ℕ) (at : ℕ) → Whole s → at ≡ before n s → Found n s at
found n s at t e =
    let a : List (List ℕ) = lines_below n (lines_in s) in
    let b : List (List ℕ) = lines_not_below n (lines_in s) in
    let j : joined a ++ joined b ≡ s = sym (joined_append a b) ∙ ap joined (both_sides n (lines_in s)) ∙ bytes_back s t in
    let w : T (every whole_line? b) = every_second whole_line? a b (subst (λ (x : List (List ℕ)). T (every whole_line? x)) (sym (both_sides n (lines_in s))) t) in
    let d : drop at s ≡ joined b = ap₂ drop e (sym j) ∙ drop-append_seam (joined a) (joined b) in
    let p : lines_in (drop at s) ≡ b = ap lines_in d ∙ lines_back b w in
    record { lines = p; whole = subst (λ (x : List (List ℕ)). T (every whole_line? x)) (sym p) w }

module _ (n : ℕ) (s : List ℕ) (at : ℕ) (f : Found n s at) where
  -- there is none
  old_end : length s ≤ at → length (old_line n (lines_in s)) ≡ 0
  unfolding old_line stored? line_at first_is? lines_in lines_from
  old_end h = ap (λ (x : List (List ℕ)). length (pick (first_is? n x) (first_line x) [])) (sym f.lines ∙ ap lines_in (drop_of_length-le s h))

  old_here : Here (drop at s) → length (old_line n (lines_in s)) ≡ length (pick (eqb (line_number (drop at s)) n) (take (get_or (drop at s) 2 0) (drop at s)) [])
  unfolding old_line stored? line_at first_is? first_line
  old_here h =
      let l : List ℕ = take (get_or (drop at s) 2 0) (drop at s) in
      ap (λ (x : List (List ℕ)). length (pick (first_is? n x) (first_line x) [])) (sym f.lines ∙ h.lines)
      ∙ ap (λ (k : ℕ). length (pick (eqb k n) l [])) h.number

  -- its number is the one asked for
  old_same : Here (drop at s) → line_number (drop at s) ≡ n → length (old_line n (lines_in s)) ≡ get_or (drop at s) 2 0
  old_same h e =
      old_here h
      ∙ ap (λ (b : Bool). length (pick b (take (get_or (drop at s) 2 0) (drop at s)) [])) (eq-eqb (line_number (drop at s)) n e)
      ∙ h.size

  -- its number is another
  old_other : Here (drop at s) → (line_number (drop at s) ≡ n → ⊥) → length (old_line n (lines_in s)) ≡ 0
  old_other h e =
      old_here h ∙ ap (λ (b : Bool). length (pick b (take (get_or (drop at s) 2 0) (drop at s)) [])) (ne_eqb (line_number (drop at s)) n e)

-- ---- the place

-- lines below a number rise as all do
below_above : (m n : ℕ) (ls : List (List ℕ)) → T (rising_above m ls) → T (rising_above m (lines_below n ls))
unfolding rising_above lines_below
below_above m n [] t = tt
below_above m n (l ∷ ls) t =
    go (ltb (line_number l) n) (and_both (ltb m (line_number l)) _ (and_left (ltb m (line_number l)) _ t) (below_above (line_number l) n ls (and_right (ltb m (line_number l)) _ t)))
  where
    go : (b : Bool) → T (rising_above m (l ∷ lines_below n ls)) → T (rising_above m (pick b (l ∷ lines_below n ls) []))
    go true h = h
    go false h = tt

below_rising : (n : ℕ) (ls : List (List ℕ)) → T (rising ls) → T (rising (lines_below n ls))
unfolding rising lines_below
below_rising n [] t = tt
below_rising n (l ∷ ls) t = go (ltb (line_number l) n)
  where
    go : (b : Bool) → T (rising (pick b (l ∷ lines_below n ls) []))
    go true = below_above (line_number l) n ls t
    go false = tt

module _ (n : ℕ) (s : List ℕ) (w : Walked) (t : T (sound_lines (lines_in s))) (e : w ≡ walked_on start n s) where
  -- the walk has passed the lines below the number
  below : w ≡ walking (before n s) (length (lines_below n (lines_in s))) (least_after 0 (lines_below n (lines_in s)))
  unfolding walked_on
  below = e ∙ ap (past_lines start) (passed_below n (lines_in s) t) ∙ from_start (lines_below n (lines_in s))

  at_is : w.at ≡ before n s
  at_is = ap (λ (x : Walked). x.at) below

  last_is : pred w.least ≡ greatest_number (lines_below n (lines_in s))
  last_is = ap (λ (x : Walked). pred x.least) below ∙ last_greatest (lines_below n (lines_in s)) (below_rising n (lines_in s) (sound_rising (lines_in s) t))

  lines_found : Found n s w.at
  unfolding sound_lines
  lines_found = found n s w.at (and_left (every whole_line? (lines_in s)) _ t) at_is

  -- the line there, if there is one
  line_here : w.at < length s → Here (drop w.at s)
  line_here h = here (drop w.at s) (omega (arith, length-drop w.at s)) lines_found.whole

  same_go : (b : Bool) → leb (length s) w.at ≡ b → line_number (drop w.at s) ≡ n → get_or (drop w.at s) 2 0 ≡ length (old_line n (lines_in s))
  same_go true h q =
      let past : length s ≤ w.at = leb-true (length s) w.at h in
      ap (λ (x : List ℕ). get_or x 2 0) (drop_of_length-le s past) ∙ sym (old_end n s w.at lines_found past)
  same_go false h q = sym (old_same n s w.at lines_found (line_here (leb-false (length s) w.at h)) q)

  other_go : (b : Bool) → leb (length s) w.at ≡ b → (line_number (drop w.at s) ≡ n → ⊥) → 0 ≡ length (old_line n (lines_in s))
  other_go true h q = sym (old_end n s w.at lines_found (leb-true (length s) w.at h))
  other_go false h q = sym (old_other n s w.at lines_found (line_here (leb-false (length s) w.at h)) q)

  place_is : (size last : ℕ) → size ≡ length (old_line n (lines_in s)) → last ≡ pred w.least → record { number = n; at = w.at; size = size; before = last } ≡ place_of n (lines_in s)
  unfolding place_of old_line
  place_is size last z l =
      let make : ℕ → ℕ → ℕ → Place = λ x y u. record { number = n; at = x; size = y; before = u } in
      ap₂ (λ (x y : ℕ). make x y last) at_is z ∙ ap (make (before n s) (length (old_line n (lines_in s)))) (l ∙ last_is)

  -- the first line from there on has the number, or there is none
  pub place_same : (size last : ℕ) → line_number (drop w.at s) ≡ n → size ≡ get_or (drop w.at s) 2 0 → last ≡ pred w.least → record { number = n; at = w.at; size = size; before = last } ≡ place_of n (lines_in s)
  place_same size last q z l = place_is size last (z ∙ same_go (leb (length s) w.at) refl q) l

  -- it has another
  pub place_other : (last : ℕ) → (line_number (drop w.at s) ≡ n → ⊥) → last ≡ pred w.least → record { number = n; at = w.at; size = 0; before = last } ≡ place_of n (lines_in s)
  place_other last q l = place_is 0 last (other_go (leb (length s) w.at) refl q) l

-- ---- a number above the greatest

all_below : (n : ℕ) (ls : List (List ℕ)) → greatest_number ls < n → (lines_below n ls ≡ ls) × (lines_not_below n ls ≡ [])
unfolding lines_below lines_not_below
all_below n [] h = (refl, refl)
all_below n (l ∷ ls) h =
    let g = greatest_next l ls in
    let r = all_below n ls (omega arith) in
    let b : ltb (line_number l) n ≡ true = lt-ltb (line_number l) n (omega arith) in
    (rw (b, r.0), rw (b, r.1))

-- its place is the end
pub place_end : (store : List ℕ) (c : Counts) (n : ℕ) → T (sound_counts store c) → c.greatest < n → record { number = n; at = c.used; size = 0; before = c.greatest } ≡ place_of n (lines_in (take c.used store))
unfolding place_of stored? first_is?
place_end store c n t h =
    let ls : List (List ℕ) = lines_in (take c.used store) in
    let k = counted store c t in
    let b = all_below n ls (omega (arith, k.greatest)) in
    let u = used_of store c.used k.sound in
    let size : c.used ≡ length (joined ls) = sym (ap length (bytes_back (take c.used store) u.whole) ∙ length-take-le c.used store u.lent) in
    let make : ℕ → ℕ → Place = λ x y. record { number = n; at = x; size = 0; before = y } in
    ap₂ make size k.greatest ∙ sym (rw (b.0, b.1) refl)

-- the used bytes of a sound store are all in it
pub sound_lent : (store : List ℕ) (c : Counts) → T (sound_counts store c) → c.used ≡ length (take c.used store)
sound_lent store c t = sym (length-take-le c.used store (used_of store c.used (counted store c t).sound).lent)

-- ---- the answer for a whole store

-- in a sound store the used bytes are sound lines
pub lines_sound : (store : List ℕ) (c : Counts) → T (sound_counts store c) → T (sound_lines (lines_in (take c.used store)))
unfolding sound_store
lines_sound store c t = and_right (leb c.used (room store)) _ (counted store c t).sound

module _ (store : List ℕ) (c : Counts) (n : ℕ) where
  -- a used count above the room
  pub found_over : room store < c.used → None ≡ found_answer store c n
  unfolding found_answer
  found_over h = sym (rw (counts_over store c h))

  module _ (within : c.used ≤ room store) (below all : Walked) (e : below ≡ walked_on start n (take c.used store)) (d : all ≡ walked_on below 32768 (take c.used store)) (b : Bool) (a : b ≡ all_passed c all) where
    -- the walk past all lines decides
    test_decides : b ≡ sound_counts store c
    test_decides =
        a
        ∙ ap (all_passed c) (d ∙ ap (λ (w : Walked). walked_on w 32768 (take c.used store)) e ∙ walk_resumed n (take c.used store))
        ∙ walk_decides store c within

    pub test_passed : b ≡ true → T (sound_counts store c)
    test_passed t = as_T (sound_counts store c) (sym test_decides ∙ t)

    pub found_at : b ≡ true → (p : Place) → p ≡ place_of n (lines_in (take c.used store)) → Some p ≡ found_answer store c n
    unfolding found_answer
    found_at t p q = ap Some q ∙ sym (rw (sym test_decides ∙ t))

    pub found_unsound : b ≡ false → None ≡ found_answer store c n
    unfolding found_answer
    found_unsound t = sym (rw (sym test_decides ∙ t))

-- what finds a place among sound lines
pub ruleset finds = (sound_lent, place_end, lines_sound, on_from_start)

-- what finds one in any store
pub ruleset searches = (used_lent, found_over, test_passed, found_at, found_unsound, lines_sound, on_from_start)
