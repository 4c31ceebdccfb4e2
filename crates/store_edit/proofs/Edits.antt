-- An edit: the bytes after the line at a place are moved once, and a line is copied to the place.
use Prim.Native.Nat.{ℕ, ◌+◌, ◌-◌, ◌≤◌, ◌<◌}
use native.Mathlib.Omega.{arith}
use mathlib.Core.Path.{◌≡◌, refl, sym, ap, ap₂, ◌∙◌, subst}
use mathlib.Core.Bool.{Bool, true, false}
use mathlib.Core.List.{List, [], ◌∷◌, ◌++◌, append_assoc}
use lib.Dec.{T, leb, ltb, leb→le}
use lib.ListN.{length, take, drop, length-append, take-append-drop}
use lib.Seq.{paste, length-paste, sets, sets-eq, drop_at, drop-drop, take-take, take-append-le, take-append_seam, length-take-le, drop-append_seam}
use borrow.Author.Tests.{le-ltb, lt-ltb, ltb-true, ltb-false}
use Rattle.paper.specs.Bytes.{pick, every, joined}
use Rattle.paper.specs.Line.{line_number}
use Rattle.paper.specs.Store.{lines_in, whole_line?, rising, greatest_number, sound_store, room, lines_below, lines_above, stored?, put_line, take_out, overwritten}
use Rattle.laws.specs.Tests.{and_left, and_right}
use Rattle.laws.specs.Lines.{bytes_back, joined_append, old_line, room_lent, used_of, parts_of, sizes_of}
use Rattle.store.specs.declared.Counts.{Counts}
use Rattle.store.specs.declared.Place.{Place}
use Rattle.std.specs.Prelude.{max, Some, None}
use Rattle.store.specs.Answers.{sound_counts, place_of, counts_of}
use Rattle.store_edit.specs.Answers.{too_long, stored_answer, stored_bytes, removed_answer, removed_bytes}
use Rattle.store.specs.Places.{counted, sound_rising, place_within, there, missing}
use Rattle.store.specs.Pairs.{count_more, count_same, greatest_put, count_less, greatest_before, greatest_stays}

-- ---- used bytes in three parts, the middle one replaced

module _ (a o b n s : List ℕ) (used : ℕ) (parts : a ++ (o ++ b) ≡ take used s) (lent : used ≤ length s) (fits : length a + (length n + length b) ≤ length s) where
  sizes : length a + (length o + length b) ≡ used
  sizes = omega (arith, length-append a (o ++ b), length-append o b, ap length parts, length-take-le used s lent)

  all_bytes : s ≡ a ++ ((o ++ b) ++ drop used s)
  all_bytes = sym (take-append-drop used s) ∙ ap (λ (z : List ℕ). z ++ drop used s) (sym parts) ∙ append_assoc a (o ++ b) (drop used s)

  before_place : take (length a) s ≡ a
  before_place = ap (take (length a)) all_bytes ∙ take-append_seam a ((o ++ b) ++ drop used s)

  after_line : drop (length a + length o) s ≡ b ++ drop used s
  after_line =
      sym (drop-drop (length o) (length a) s)
      ∙ ap (λ (z : List ℕ). drop (length o) (drop (length a) z)) all_bytes
      ∙ ap (drop (length o)) (drop-append_seam a ((o ++ b) ++ drop used s))
      ∙ ap (drop (length o)) (append_assoc o b (drop used s))
      ∙ drop-append_seam o (b ++ drop used s)

  moved : take (used - (length a + length o)) (drop (length a + length o) s) ≡ b
  moved =
      let e : used - (length a + length o) ≡ length b = omega (arith, sizes) in
      ap₂ take e after_line ∙ take-append_seam b (drop used s)

  -- the bytes after the move
  shifted : paste s (length a + length n) (drop (length a + length o) s) (used - (length a + length o)) ≡ take (length a + length n) s ++ (b ++ drop (length a + (length n + length b)) s)
  shifted =
      let e : length a + length n + (used - (length a + length o)) ≡ length a + (length n + length b) = omega (arith, sizes) in
      ap₂ (λ (x : List ℕ) (k : ℕ). take (length a + length n) s ++ x ++ drop k s) moved e
      ∙ append_assoc (take (length a + length n) s) b (drop (length a + (length n + length b)) s)

  shifted_length : length (paste s (length a + length n) (drop (length a + length o) s) (used - (length a + length o))) ≡ length s
  shifted_length =
      length-paste s (length a + length n) (drop (length a + length o) s) (used - (length a + length o)) (omega (arith, sizes))
      (omega (arith, sizes, ap length after_line, length-append b (drop used s)))

  -- the bytes after the copy
  pub edited : sets (paste s (length a + length n) (drop (length a + length o) s) (used - (length a + length o))) (length a) n ≡ overwritten (a ++ (n ++ b)) s
  unfolding overwritten
  edited =
      let p : List ℕ = paste s (length a + length n) (drop (length a + length o) s) (used - (length a + length o)) in
      let t : List ℕ = b ++ drop (length a + (length n + length b)) s in
      let k : length (take (length a + length n) s) ≡ length a + length n = length-take-le (length a + length n) s (omega arith) in
      let front : take (length a) p ≡ a =
      ap (take (length a)) shifted
      ∙ take-append-le (length a) (take (length a + length n) s) t (omega arith)
      ∙ take-take (length a) (length a + length n) s (omega arith)
      ∙ before_place in
      let back : drop (length a + length n) p ≡ t = ap (drop (length a + length n)) shifted ∙ drop_at (take (length a + length n) s) t (length a + length n) k in
      let size : length (a ++ (n ++ b)) ≡ length a + (length n + length b) = omega (arith, length-append a (n ++ b), length-append n b) in
      sets-eq n p (length a) (omega (arith, shifted_length))
      ∙ ap₂ (λ (x y : List ℕ). x ++ n ++ y) front back
      ∙ append_assoc a n t
      ∙ ap (λ (x : List ℕ). a ++ x) (sym (append_assoc n b (drop (length a + (length n + length b)) s)))
      ∙ sym (append_assoc a (n ++ b) (drop (length a + (length n + length b)) s))
      ∙ ap (λ (j : ℕ). (a ++ (n ++ b)) ++ drop j s) (sym size)

-- ---- counts

-- the lines of a sound store rise
lines_rise : (store : List ℕ) (used : ℕ) → T (sound_store store used) → T (rising (lines_in (take used store)))
unfolding sound_store
lines_rise store used t = sound_rising (lines_in (take used store)) (and_right (leb used (room store)) _ t)

-- counts that are those of some lines
counts_are : (ls : List (List ℕ)) (c : Counts) → c.used ≡ length (joined ls) → c.lines ≡ length ls → c.greatest ≡ greatest_number ls → c ≡ counts_of ls
unfolding counts_of
counts_are ls c u l g = let make : ℕ → ℕ → ℕ → Counts = λ x y z. record { used = x; lines = y; greatest = z } in ap₂ (λ (x y : ℕ). make x y c.greatest) u l ∙ ap (make (length (joined ls)) (length ls)) g

fewer : (ls : List (List ℕ)) → T (every whole_line? ls) → length ls ≤ length (joined ls)
unfolding every joined whole_line?
fewer [] t = omega arith
fewer (l ∷ ls) t =
    let long : 6 ≤ length l = leb→le 6 (length l) (and_left (leb 6 (length l)) _ (and_left (whole_line? l) _ t)) in
    omega (arith, length-append l (joined ls), fewer ls (and_right (whole_line? l) _ t))

-- lines are no more than their bytes
pub few_lines : (store : List ℕ) (c : Counts) → T (sound_counts store c) → c.lines ≤ 65535
few_lines store c sound =
    let k = counted store c sound in
    let u = used_of store c.used k.sound in
    let ls : List (List ℕ) = lines_in (take c.used store) in
    omega (arith, k.lines, fewer ls u.whole, ap length (bytes_back (take c.used store) u.whole), length-take-le c.used store u.lent, u.most)

-- ---- putting a line in

put_joined : (line : List ℕ) (ls : List (List ℕ)) → joined (put_line line ls) ≡ joined (lines_below (line_number line) ls) ++ (line ++ joined (lines_above (line_number line) ls))
unfolding put_line joined
put_joined line ls = joined_append (lines_below (line_number line) ls) (line ∷ lines_above (line_number line) ls)

module _ (store : List ℕ) (used : ℕ) (line : List ℕ) (sound : T (sound_store store used)) where
  -- the used bytes afterwards
  pub put_size : (p : Place) → p ≡ place_of (line_number line) (lines_in (take used store)) → used - p.size + length line ≡ length (joined (put_line line (lines_in (take used store))))
  unfolding place_of old_line
  put_size p e =
      let n : ℕ = line_number line in
      let ls : List (List ℕ) = lines_in (take used store) in
      subst (λ (q : Place). used - q.size + length line ≡ length (joined (put_line line ls))) (sym e)
      (omega (arith, sizes_of store used n sound, ap length (put_joined line ls), length-append (joined (lines_below n ls)) (line ++ joined (lines_above n ls)), length-append line (joined (lines_above n ls))))

  -- no room
  pub put_refused : (p : Place) → p ≡ place_of (line_number line) (lines_in (take used store)) → room store < used - p.size + length line
      → (None ≡ stored_answer store (put_line line (lines_in (take used store)))) × (store ≡ stored_bytes store (put_line line (lines_in (take used store))))
  unfolding stored_answer stored_bytes too_long
  put_refused p e h =
      let ls : List (List ℕ) = put_line line (lines_in (take used store)) in
      let f : ltb (room store) (length (joined ls)) ≡ true = lt-ltb (room store) (length (joined ls)) (omega (arith, put_size p e)) in
      (rw (f), rw (f))

  put_bytes : length (joined (put_line line (lines_in (take used store)))) ≤ length store
      → (p : Place) → p ≡ place_of (line_number line) (lines_in (take used store))
      → sets (paste store (p.at + length line) (drop (p.at + p.size) store) (used - (p.at + p.size))) p.at line ≡ overwritten (joined (put_line line (lines_in (take used store)))) store
  unfolding place_of old_line
  put_bytes h p e =
      let n : ℕ = line_number line in
      let ls : List (List ℕ) = lines_in (take used store) in
      let b : List ℕ = joined (lines_above n ls) in
      let a : List ℕ = joined (lines_below n ls) in
      subst (λ (q : Place). sets (paste store (q.at + length line) (drop (q.at + q.size) store) (used - (q.at + q.size))) q.at line ≡ overwritten (joined (put_line line ls)) store) (sym e)
      (edited a (old_line n ls) b line store used (parts_of store used n sound) (used_of store used sound).lent
      (omega (arith, h, ap length (put_joined line ls), length-append a (line ++ b), length-append line b))
      ∙ ap (λ (x : List ℕ). overwritten x store) (sym (put_joined line ls)))

  -- the line is put in
  pub put_done : (p : Place) → p ≡ place_of (line_number line) (lines_in (take used store)) → (c : Counts) → c ≡ counts_of (put_line line (lines_in (take used store))) → c.used ≤ room store
      → (mid new : List ℕ) → mid ≡ paste store (p.at + length line) (drop (p.at + p.size) store) (used - (p.at + p.size)) → new ≡ sets mid p.at line
      → (Some c ≡ stored_answer store (put_line line (lines_in (take used store)))) × (new ≡ stored_bytes store (put_line line (lines_in (take used store))))
  unfolding stored_answer stored_bytes too_long counts_of
  put_done p e c q h mid new em en =
      let ls : List (List ℕ) = put_line line (lines_in (take used store)) in
      let s : c.used ≡ length (joined ls) = ap (λ (x : Counts). x.used) q in
      let f : ltb (room store) (length (joined ls)) ≡ false = le-ltb (room store) (length (joined ls)) (omega arith) in
      (rw (f) (ap Some q), rw (f) (en ∙ ap (λ (x : List ℕ). sets x p.at line) em ∙ put_bytes (omega (arith, room_lent store)) p e))

-- the greater of two numbers, by a test
greater : (a b : ℕ) → max a b ≡ pick (ltb a b) b a
greater a b = go (ltb a b) refl
  where
    go : (x : Bool) → ltb a b ≡ x → max a b ≡ pick x b a
    go true e = let h = ltb-true a b e in omega arith
    go false e = let h = ltb-false a b e in omega arith

-- the counts afterwards
module _ (store : List ℕ) (c : Counts) (line : List ℕ) (sound : T (sound_counts store c)) (p : Place) (e : p ≡ place_of (line_number line) (lines_in (take c.used store))) (greatest : ℕ)
    (g : greatest ≡ max c.greatest p.number) where
  abbrev old : List (List ℕ)
  old = lines_in (take c.used store)

  greatest_is : greatest ≡ greatest_number (put_line line old)
  unfolding place_of
  greatest_is =
      g
      ∙ greater c.greatest p.number
      ∙ ap₂ (λ (x y : ℕ). pick (ltb x y) y x) (counted store c sound).greatest (ap (λ (q : Place). q.number) e)
      ∙ sym (greatest_put line old)

  used_is : c.used - p.size + length line ≡ length (joined (put_line line old))
  used_is = put_size store c.used line (counted store c sound).sound p e

  -- where there was no line, there is one more
  pub put_more : p.size ≡ 0 → record { used = c.used - p.size + length line; lines = c.lines + 1; greatest = greatest } ≡ counts_of (put_line line old)
  put_more z =
      let none = missing store c.used (line_number line) (counted store c sound).sound p e z in
      counts_are (put_line line old) _ used_is (ap (λ (x : ℕ). x + 1) (counted store c sound).lines ∙ sym (count_more line old none)) greatest_is

  -- where there was one, there are as many
  pub put_same : (p.size ≡ 0 → ⊥) → record { used = c.used - p.size + length line; lines = c.lines; greatest = greatest } ≡ counts_of (put_line line old)
  put_same z =
      let one = there store c.used (line_number line) (counted store c sound).sound p e z in
      counts_are (put_line line old) _ used_is ((counted store c sound).lines ∙ sym (count_same line old one)) greatest_is

-- ---- taking a line out

module _ (store : List ℕ) (used n : ℕ) (sound : T (sound_store store used)) where
  out_joined : joined (take_out n (lines_in (take used store))) ≡ joined (lines_below n (lines_in (take used store))) ++ joined (lines_above n (lines_in (take used store)))
  unfolding take_out
  out_joined = joined_append (lines_below n (lines_in (take used store))) (lines_above n (lines_in (take used store)))

  -- the used bytes afterwards
  out_size : (p : Place) → p ≡ place_of n (lines_in (take used store)) → used - p.size ≡ length (joined (take_out n (lines_in (take used store))))
  unfolding place_of old_line
  out_size p e =
      let ls : List (List ℕ) = lines_in (take used store) in
      subst (λ (q : Place). used - q.size ≡ length (joined (take_out n ls))) (sym e)
      (omega (arith, sizes_of store used n sound, ap length out_joined, length-append (joined (lines_below n ls)) (joined (lines_above n ls))))

  out_bytes : (p : Place) → p ≡ place_of n (lines_in (take used store))
      → paste store (p.at + 0) (drop (p.at + p.size) store) (used - (p.at + p.size)) ≡ overwritten (joined (take_out n (lines_in (take used store)))) store
  unfolding place_of old_line
  out_bytes p e =
      let ls : List (List ℕ) = lines_in (take used store) in
      let b : List ℕ = joined (lines_above n ls) in
      let a : List ℕ = joined (lines_below n ls) in
      let u = used_of store used sound in
      subst (λ (q : Place). paste store (q.at + 0) (drop (q.at + q.size) store) (used - (q.at + q.size)) ≡ overwritten (joined (take_out n ls)) store) (sym e)
      (edited a (old_line n ls) b [] store used (parts_of store used n sound) u.lent (omega (arith, u.lent, sizes_of store used n sound))
      ∙ ap (λ (x : List ℕ). overwritten x store) (sym out_joined))

  -- there is no such line
  pub out_refused : (p : Place) → p ≡ place_of n (lines_in (take used store)) → p.size ≡ 0
      → (None ≡ removed_answer n (lines_in (take used store))) × (store ≡ removed_bytes n store (lines_in (take used store)))
  unfolding removed_answer removed_bytes
  out_refused p e h = let f = missing store used n sound p e h in (rw (f), rw (f))

  -- the line is taken out
  pub out_done : (p : Place) → p ≡ place_of n (lines_in (take used store)) → (p.size ≡ 0 → ⊥) → (c : Counts) → c ≡ counts_of (take_out n (lines_in (take used store)))
      → (new : List ℕ) → new ≡ paste store (p.at + 0) (drop (p.at + p.size) store) (used - (p.at + p.size))
      → (Some c ≡ removed_answer n (lines_in (take used store))) × (new ≡ removed_bytes n store (lines_in (take used store)))
  unfolding removed_answer removed_bytes
  out_done p e h c q new en = let f = there store used n sound p e h in (rw (f) (ap Some q), rw (f) (en ∙ out_bytes p e))

-- the counts afterwards
module _ (store : List ℕ) (c : Counts) (n : ℕ) (sound : T (sound_counts store c)) (p : Place) (e : p ≡ place_of n (lines_in (take c.used store))) (h : p.size ≡ 0 → ⊥) where
  abbrev all : List (List ℕ)
  all = lines_in (take c.used store)

  is_there : stored? n all ≡ true
  is_there = there store c.used n (counted store c sound).sound p e h

  -- there is a line less
  pub some_lines : 1 ≤ c.lines
  some_lines = omega (arith, (counted store c sound).lines, count_less n all is_there)

  lines_are : c.lines - 1 ≡ length (take_out n all)
  lines_are = omega (arith, (counted store c sound).lines, count_less n all is_there)

  used_are : c.used - p.size ≡ length (joined (take_out n all))
  used_are = out_size store c.used n (counted store c sound).sound p e

  number_is : p.number ≡ n
  unfolding place_of
  number_is = ap (λ (q : Place). q.number) e

  -- the last line goes: the one before it has the greatest number
  pub out_last : p.number ≡ c.greatest → record { used = c.used - p.size; lines = c.lines - 1; greatest = p.before } ≡ counts_of (take_out n all)
  unfolding place_of
  out_last z =
      let last : n ≡ greatest_number all = sym number_is ∙ z ∙ (counted store c sound).greatest in
      counts_are (take_out n all) _ used_are lines_are (ap (λ (q : Place). q.before) e ∙ sym (greatest_before n all is_there (lines_rise store c.used (counted store c sound).sound) last))

  -- another line goes: the greatest number stays
  pub out_other : (p.number ≡ c.greatest → ⊥) → record { used = c.used - p.size; lines = c.lines - 1; greatest = c.greatest } ≡ counts_of (take_out n all)
  out_other z =
      counts_are (take_out n all) _ used_are lines_are
      ((counted store c sound).greatest ∙ sym (greatest_stays n all is_there (λ q. z (number_is ∙ q ∙ sym (counted store c sound).greatest))))

-- what is known of the place of a number in a sound store
pub place_inside : (store : List ℕ) (c : Counts) (n : ℕ) (p : Place) → T (sound_counts store c) → p ≡ place_of n (lines_in (take c.used store)) → p.at + p.size ≤ c.used
place_inside store c n p t e = place_within store c.used n (counted store c t).sound p e

pub used_few : (store : List ℕ) (c : Counts) → T (sound_counts store c) → (c.used ≤ 65535) × (c.used ≤ length store) × (room store ≤ length store)
used_few store c t = let u = used_of store c.used (counted store c t).sound in (u.most, u.lent, room_lent store)

-- what both edits need to be known to be within the store
pub ruleset insides = (place_inside, used_few, few_lines, some_lines)
