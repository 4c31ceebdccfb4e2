-- The walk over the lines of a store: a turn of it, and what it decides.
use Prim.Native.Nat.{ℕ, zero, suc, pred, min, ◌+◌, ◌-◌, ◌≤◌, ◌<◌}
use native.Mathlib.Nat.{add-zero, zero-add}
use native.Mathlib.Numerals.{add-one}
use native.Mathlib.Omega.{arith}
use mathlib.Core.Path.{◌≡◌, refl, sym, ap, ap₂, ◌∙◌, subst}
use mathlib.Core.Bool.{Bool, true, false, ◌&&◌, and-false}
use mathlib.Core.List.{List, [], ◌∷◌, ◌++◌}
use Rattle.std.specs.Prelude.{Some, None}
use lib.Dec.{T, leb, ltb, eqb, ltb→lt, eqb→eq, leb-zero}
use lib.ListN.{length, take, drop, get_or, length-take, length-drop, length-append}
use lib.Seq.{get_or-take, take_all, length-take-le, drop-drop}
use borrow.Author.Tests.{le-leb, lt-leb, le-ltb, lt-ltb, eq-eqb, ne_eqb, ltb-false, leb-true, leb-false}
use Rattle.paper.specs.Bytes.{pick, every, joined}
use Rattle.paper.specs.Line.{line_number, lawful_number?}
use Rattle.paper.specs.Store.{lines_from, lines_in, whole_line?, rising_above, rising, sound_lines, greatest_number, room, sound_store, lines_below}
use Rattle.laws.specs.Tests.{and_left, and_right, and_both, as_T, is_true}
use Rattle.laws.specs.Lines.{joined_append, room_lent}
use Rattle.store.specs.declared.Walked.{Walked}
use Rattle.store.specs.declared.Counts.{Counts}
use Rattle.store.specs.Walks.{passes?, passing_size, passed, rising_from, sound_lines_from, least_after, start, past_lines, walked_on, Within, all_passed}
use Rattle.store.specs.Answers.{sound_counts}
use Rattle.store.specs.Places.{sound_rising}
use Rattle.store.specs.Rising.{first_number, First, first_go, lawful, stops, Goes, from_zero, from_above}
use Rattle.store.specs.Pairs.{greatest_next}

-- ---- the first line of some bytes

short_line : (s : List ℕ) → get_or s 2 0 < 6 → whole_line? (take (get_or s 2 0) s) ≡ false
unfolding whole_line?
short_line s h = rw (lt-leb 6 (length (take (get_or s 2 0) s)) (omega (arith, length-take (get_or s 2 0) s)))

cut_line : (s : List ℕ) → length s < get_or s 2 0 → whole_line? (take (get_or s 2 0) s) ≡ false
unfolding whole_line?
cut_line s h =
    let e : take (get_or s 2 0) s ≡ s = take_all (get_or s 2 0) s (omega arith) in
    let n : eqb (get_or s 2 0) (length s) ≡ false = ne_eqb (get_or s 2 0) (length s) (λ z. omega arith) in
    ap whole_line? e ∙ ap (λ (b : Bool). leb 6 (length s) && (b && lawful_number? (line_number s))) n ∙ and-false (leb 6 (length s))

great_line : (s : List ℕ) → 6 ≤ get_or s 2 0 → 32767 < line_number s → whole_line? (take (get_or s 2 0) s) ≡ false
unfolding whole_line? lawful_number?
great_line s h g =
    let l : List ℕ = take (get_or s 2 0) s in
    let n : leb (line_number l) 32767 ≡ false = ap (λ (k : ℕ). leb k 32767) (first_number s (get_or s 2 0) (omega arith)) ∙ lt-leb (line_number s) 32767 g in
    ap (λ (b : Bool). leb 6 (length l) && (eqb (get_or l 2 0) (length l) && b)) n
    ∙ ap (λ (b : Bool). leb 6 (length l) && b) (and-false (eqb (get_or l 2 0) (length l)))
    ∙ and-false (leb 6 (length l))

good_line : (s : List ℕ) → 6 ≤ get_or s 2 0 → get_or s 2 0 ≤ length s → line_number s ≤ 32767 → whole_line? (take (get_or s 2 0) s) ≡ true
unfolding whole_line? lawful_number?
good_line s h f g =
    let m : ℕ = get_or s 2 0 in
    let e : length (take m s) ≡ m = length-take-le m s f in
    let two : 2 < m = omega arith in
    let a : leb 6 (length (take m s)) ≡ true = le-leb 6 (length (take m s)) (omega arith) in
    let b : eqb (get_or (take m s) 2 0) (length (take m s)) ≡ true = eq-eqb (get_or (take m s) 2 0) (length (take m s)) (get_or-take m s 2 0 two ∙ sym e) in
    let n : leb (line_number (take m s)) 32767 ≡ true = ap (λ (k : ℕ). leb k 32767) (first_number s m (omega arith)) ∙ le-leb (line_number s) 32767 g in
    ap₂ (λ (x y : Bool). x && (y && leb (line_number (take m s)) 32767)) a b ∙ n

-- ---- the size of a line that is passed

module _ (k n : ℕ) (s : List ℕ) where
  abbrev first : List ℕ
  first = take (get_or s 2 0) s

  not_whole : whole_line? first ≡ false → passing_size k n s ≡ None
  unfolding passing_size passes?
  not_whole e = rw (e)

  -- a length byte below 6
  pub size_short : get_or s 2 0 < 6 → None ≡ passing_size k n s
  size_short h = sym (not_whole (short_line s h))

  -- a line that goes on past the bytes
  pub size_cut : length s < get_or s 2 0 → None ≡ passing_size k n s
  size_cut h = sym (not_whole (cut_line s h))

  module _ (long : 6 ≤ get_or s 2 0) where
    number_is : line_number first ≡ line_number s
    number_is = first_number s (get_or s 2 0) (omega arith)

    -- a number above 32767
    pub size_great : 32767 < line_number s → None ≡ passing_size k n s
    size_great h = sym (not_whole (great_line s long h))

    -- a number below k
    pub size_low : line_number s < k → None ≡ passing_size k n s
    unfolding passing_size passes?
    size_low h =
        let low : leb k (line_number first) ≡ false = lt-leb k (line_number first) (omega (arith, number_is)) in
        sym (rw (low, and-false (whole_line? first)))

    -- a number that is not below n
    pub size_high : n ≤ line_number s → None ≡ passing_size k n s
    unfolding passing_size passes?
    size_high h =
        let high : ltb (line_number first) n ≡ false = le-ltb (line_number first) n (omega (arith, number_is)) in
        sym (rw (high, and-false (leb k (line_number first)), and-false (whole_line? first)))

    -- a line that is passed
    pub size_good : get_or s 2 0 ≤ length s → line_number s ≤ 32767 → k ≤ line_number s → line_number s < n → Some (get_or s 2 0) ≡ passing_size k n s
    unfolding passing_size passes?
    size_good fits lawful low high =
        let a : leb k (line_number first) ≡ true = le-leb k (line_number first) (omega (arith, number_is)) in
        let b : ltb (line_number first) n ≡ true = lt-ltb (line_number first) n (omega (arith, number_is)) in
        sym (rw (good_line s long fits lawful, a, b))

-- all six
pub ruleset sizes = (size_short, size_cut, size_great, size_low, size_high, size_good)

-- ---- a turn of the walk

-- a walk at an offset, past so many lines, whose next number is from k on; and as it goes on over the bytes s
abbrev pub walking : ℕ → ℕ → ℕ → Walked
walking at count k = record { at = at; lines = count; least = k }

abbrev pub onward : ℕ → ℕ → ℕ → ℕ → List ℕ → Walked
onward at count k n s = past_lines (walking at count k) (passed k n (lines_in s))

none_passed : (k n : ℕ) (s : List ℕ) → passes? k n (take (get_or s 2 0) s) ≡ false → passed k n (lines_in s) ≡ []
unfolding lines_in lines_from passed
none_passed k n [] e = refl
none_passed k n (b ∷ s) e = rw (e)

-- a line that is not passed ends it
pub walk_stops : (at count k n : ℕ) (s : List ℕ) → passing_size k n s ≡ None → onward at count k n s ≡ walking at count k
unfolding passing_size past_lines least_after joined
walk_stops at count k n s h = rw (none_passed k n s (stops k n s h), add-zero at, add-zero count)

-- the walk over the last bytes of all, from its offset on, where it begins
pub begins : (lines : List ℕ) (w : Walked) (n : ℕ) → Within w lines → (rest : List ℕ) → rest ≡ drop w.at lines
    → (length rest ≤ length lines) × (w.lines + length rest ≤ length lines) × (onward (length lines - length rest) w.lines w.least n rest ≡ walked_on w n lines)
unfolding walked_on
begins lines w n h rest e =
    let size : length rest ≡ length lines - w.at = ap length e ∙ length-drop w.at lines in
    let at : length lines - length rest ≡ w.at = omega (arith, h.0) in
    (omega arith, omega (arith, h.0, h.1), ap₂ (λ (x : ℕ) (y : List ℕ). onward x w.lines w.least n y) at e)

-- a turn of the walk over the last bytes s of `all`: past the first line of these, which leaves `rest`
pub turn : (all count k n : ℕ) (s : List ℕ) → Goes k n s → length s ≤ all → (own : ℕ) → own ≡ line_number s → (rest : List ℕ) → rest ≡ drop (get_or s 2 0) s
    → onward (all - length rest) (count + 1) (own + 1) n rest ≡ onward (all - length s) count k n s
unfolding past_lines least_after joined
turn all count k n s g h own e rest d =
    let m : ℕ = get_or s 2 0 in
    let l : List ℕ = take m s in
    let ps : List (List ℕ) = passed (line_number s + 1) n (lines_in (drop m s)) in
    let size : length l ≡ m = length-take-le m s g.fits in
    let number : line_number l ≡ line_number s = first_number s m (omega (arith, g.long)) in
    let at : all - length rest + length (joined ps) ≡ all - length s + length (l ++ joined ps) = omega (arith, length-append l (joined ps), ap length d, length-drop m s, g.fits) in
    let lines : count + 1 + length ps ≡ count + suc (length ps) = omega arith in
    let make : ℕ → ℕ → ℕ → Walked = λ a c k. record { at = a; lines = c; least = least_after k ps } in
    ap₂ (λ (x : ℕ) (y : List ℕ). onward (all - length rest) (count + 1) (x + 1) n y) e d
    ∙ ap₂ (λ (x y : ℕ). make x y (line_number s + 1)) at lines
    ∙ ap (make (all - length s + length (l ++ joined ps)) (count + suc (length ps))) (add-one (line_number s) ∙ ap suc (sym number))
    ∙ sym (ap (past_lines (walking (all - length s) count k)) g.next)

-- ---- the lines that are left

unfoldable pub left : ℕ → ℕ → List (List ℕ) → List (List ℕ)
left k n [] = []
left k n (l ∷ ls) = let r = left (suc (line_number l)) n ls in pick (passes? k n l) r (l ∷ ls)

-- where the walk over some bytes ends
record Ends (k n : ℕ) (ls : List (List ℕ)) (s : List ℕ) : Type 0 where
  inside : length (joined (passed k n ls)) ≤ length s
  lines : lines_in (drop (length (joined (passed k n ls))) s) ≡ left k n ls

drop_one : (c b : ℕ) (s : List ℕ) → 0 < c → drop c (b ∷ s) ≡ drop (pred c) s
drop_one zero b s h = absurd (omega arith)
drop_one (suc c) b s h = refl

module _ (b : ℕ) (s : List ℕ) where
  abbrev size : ℕ
  size = get_or s 1 0

  abbrev line : List ℕ
  line = take size (b ∷ s)

  abbrev others : List (List ℕ)
  others = lines_from (pred size) s

  ends_go : (k n : ℕ) (x : Bool) → passes? k n line ≡ x → Ends (suc (line_number line)) n others (drop (pred size) s)
      → (length (joined (pick x (line ∷ passed (suc (line_number line)) n others) [])) ≤ length (b ∷ s))
      × (lines_in (drop (length (joined (pick x (line ∷ passed (suc (line_number line)) n others) []))) (b ∷ s)) ≡ pick x (left (suc (line_number line)) n others) (line ∷ others))
  unfolding lines_in lines_from joined passes?
  ends_go k n false e i = (omega arith, refl)
  ends_go k n true e i =
      let p : List ℕ = joined (passed (suc (line_number line)) n others) in
      let f : First (b ∷ s) = first_go (b ∷ s) (and_left (whole_line? line) _ (as_T (passes? k n line) e)) in
      let z : length (line ++ p) ≡ size + length p = length-append line p ∙ ap (λ (x : ℕ). x + length p) (length-take-le size (b ∷ s) f.fits) in
      let d : drop size (b ∷ s) ≡ drop (pred size) s = drop_one size b s (omega (arith, f.long)) in (
        omega (arith, z, ap length d, length-drop size (b ∷ s), i.inside, f.fits),
        ap (λ (x : ℕ). lines_in (drop x (b ∷ s))) z ∙ ap lines_in (sym (drop-drop (length p) size (b ∷ s)) ∙ ap (drop (length p)) d) ∙ i.lines,
      )

ends_from : (s : List ℕ) (m k n : ℕ) → Ends k n (lines_from m s) (drop m s)
unfolding lines_from lines_in passed joined left
ends_from [] zero k n = record { inside = omega arith; lines = refl }
ends_from [] (suc m) k n = record { inside = omega arith; lines = refl }
ends_from (b ∷ s) (suc m) k n = ends_from s m k n
ends_from (b ∷ s) zero k n =
    let g = ends_go b s k n (passes? k n (line b s)) refl (ends_from s (pred (size b s)) (suc (line_number (line b s))) n) in
    record { inside = g.0; lines = g.1 }

-- the bytes of the lines that are passed
abbrev pub walked : ℕ → ℕ → List ℕ → ℕ
walked k n s = length (joined (passed k n (lines_in s)))

-- the walk ends within the bytes
walked_within : (k n : ℕ) (s : List ℕ) → walked k n s ≤ length s
unfolding lines_in
walked_within k n s = (ends_from s 0 k n).inside

-- and what follows are the lines that are left
pub lines_left : (k n : ℕ) (s : List ℕ) → lines_in (drop (walked k n s) s) ≡ left k n (lines_in s)
unfolding lines_in
lines_left k n s = (ends_from s 0 k n).lines

-- ---- a walk in two parts

least_both : (k : ℕ) (a b : List (List ℕ)) → least_after k (a ++ b) ≡ least_after (least_after k a) b
unfolding least_after
least_both k [] b = refl
least_both k (l ∷ a) b = least_both (suc (line_number l)) a b

-- past some lines, and then past others
past_both : (w : Walked) (a b : List (List ℕ)) → past_lines (past_lines w a) b ≡ past_lines w (a ++ b)
unfolding past_lines
past_both w a b =
    let at : w.at + length (joined a) + length (joined b) ≡ w.at + length (joined (a ++ b)) = omega (arith, ap length (joined_append a b), length-append (joined a) (joined b)) in
    let lines : w.lines + length a + length b ≡ w.lines + length (a ++ b) = omega (arith, length-append a b) in
    let make : ℕ → ℕ → ℕ → Walked = λ x y z. record { at = x; lines = y; least = z } in
    ap₂ (λ (x y : ℕ). make x y (least_after (least_after w.least a) b)) at lines ∙ ap (make (w.at + length (joined (a ++ b))) (w.lines + length (a ++ b))) (sym (least_both w.least a b))

-- a walk that has not begun
abbrev pub Begun : Walked → Type 0
Begun w = (w.at ≡ 0) × ((w.lines ≡ 0) × (w.least ≡ 0))

-- it is within all bytes
pub start_within : (s : List ℕ) (w : Walked) → Begun w → Within w s
start_within s w e = (omega (arith, e.0), omega (arith, e.1.0))

-- and goes on from the start
pub on_from_start : (n : ℕ) (s : List ℕ) (w v : Walked) → Begun w → v ≡ walked_on w n s → v ≡ walked_on start n s
on_from_start n s w v e d = d ∙ ap (λ (x : Walked). walked_on x n s) (ap₂ (λ (x y : ℕ). walking x y w.least) e.0 e.1.0 ∙ ap (walking 0 0) e.1.1)

-- a walk from the start past some lines
pub from_start : (ls : List (List ℕ)) → past_lines start ls ≡ walking (length (joined ls)) (length ls) (least_after 0 ls)
unfolding past_lines
from_start ls = rw (zero-add (length (joined ls)), zero-add (length ls))

-- it ends within the bytes
pub walk_inside : (n : ℕ) (s : List ℕ) (w : Walked) → w ≡ walked_on start n s → w.at ≤ length s
unfolding walked_on
walk_inside n s w e = subst (λ (k : ℕ). k ≤ length s) (sym (ap (λ (x : Walked). x.at) (e ∙ from_start (passed 0 n (lines_in s))))) (walked_within 0 n s)

-- what is passed below a number is passed below all
passes_all : (k n : ℕ) (l : List ℕ) → passes? k n l ≡ true → passes? k 32768 l ≡ true
unfolding passes?
passes_all k n l e =
    let t = as_T (passes? k n l) e in
    let w : whole_line? l ≡ true = is_true (whole_line? l) (and_left (whole_line? l) _ t) in
    let low : leb k (line_number l) ≡ true = is_true (leb k (line_number l)) (and_left (leb k (line_number l)) _ (and_right (whole_line? l) _ t)) in
    rw (w, low, lt-ltb (line_number l) 32768 (omega (arith, lawful l w)))

passed_both : (k n : ℕ) (ls : List (List ℕ)) → passed k n ls ++ passed (least_after k (passed k n ls)) 32768 (left k n ls) ≡ passed k 32768 ls
unfolding passed least_after left
passed_both k n [] = refl
passed_both k n (l ∷ ls) = go (passes? k n l) refl (passed_both (suc (line_number l)) n ls)
  where
    go : (b : Bool) → passes? k n l ≡ b → passed (suc (line_number l)) n ls ++ passed (least_after (suc (line_number l)) (passed (suc (line_number l)) n ls)) 32768 (left (suc (line_number l)) n ls) ≡ passed (suc (line_number l)) 32768 ls
        → pick b (l ∷ passed (suc (line_number l)) n ls) [] ++ passed (least_after k (pick b (l ∷ passed (suc (line_number l)) n ls) [])) 32768 (pick b (left (suc (line_number l)) n ls) (l ∷ ls)) ≡ passed k 32768 (l ∷ ls)
    go true e others = rw (passes_all k n l e) (ap (λ (z : List (List ℕ)). l ∷ z) others)
    go false e others = refl

-- a walk up to a number, and on from there past all others, is a walk past all
pub walk_resumed : (n : ℕ) (s : List ℕ) → walked_on (walked_on start n s) 32768 s ≡ walked_on start 32768 s
unfolding walked_on
walk_resumed n s =
    let ls : List (List ℕ) = lines_in s in
    let first : List (List ℕ) = passed 0 n ls in
    let others : List (List ℕ) = passed (least_after 0 first) 32768 (left 0 n ls) in
    ap (λ (w : Walked). walked_on w 32768 s) (from_start first)
    ∙ ap (λ (z : List (List ℕ)). past_lines (walking (length (joined first)) (length first) (least_after 0 first)) (passed (least_after 0 first) 32768 z)) (lines_left 0 n s)
    ∙ ap (λ (w : Walked). past_lines w others) (sym (from_start first))
    ∙ past_both start first others
    ∙ ap (past_lines start) (passed_both 0 n ls)

-- ---- what the walk decides

unfoldable none : List (List ℕ) → Bool
none [] = true
none (l ∷ ls) = false

-- no line is left of those that are sound, if all numbers are passed
left_none : (k : ℕ) (ls : List (List ℕ)) → sound_lines_from k ls ≡ none (left k 32768 ls)
unfolding sound_lines_from rising_from every left passes? none
left_none k [] = refl
left_none k (l ∷ ls) = go (whole_line? l) (leb k (line_number l)) (ltb (line_number l) 32768) refl refl refl (left_none (suc (line_number l)) ls)
  where
    go : (w a c : Bool) → whole_line? l ≡ w → leb k (line_number l) ≡ a → ltb (line_number l) 32768 ≡ c
        → sound_lines_from (suc (line_number l)) ls ≡ none (left (suc (line_number l)) 32768 ls)
        → (w && every whole_line? ls) && (a && rising_above (line_number l) ls) ≡ none (pick (w && (a && c)) (left (suc (line_number l)) 32768 ls) (l ∷ ls))
    go false a c ew ea ec others = refl
    go true false c ew ea ec others = and-false (every whole_line? ls)
    go true true false ew ea ec others = absurd (omega (arith, lawful l ew, ltb-false (line_number l) 32768 ec))
    go true true true ew ea ec others = ap (λ (b : Bool). every whole_line? ls && b) (from_above (line_number l) ls) ∙ others

none_in : (s : List ℕ) → none (lines_in s) ≡ eqb (length s) 0
unfolding none lines_in lines_from
none_in [] = refl
none_in (b ∷ s) = sym (ne_eqb (length (b ∷ s)) 0 (λ z. omega arith))

-- the walk past all numbers goes to the end of sound lines, and of no others
sound_walked : (k : ℕ) (s : List ℕ) → eqb (walked k 32768 s) (length s) ≡ sound_lines_from k (lines_in s)
sound_walked k s =
    same_test (walked k 32768 s) (length s) (walked_within k 32768 s)
    ∙ ap (λ (x : ℕ). eqb x 0) (sym (length-drop (walked k 32768 s) s))
    ∙ sym (none_in (drop (walked k 32768 s) s))
    ∙ ap none (lines_left k 32768 s)
    ∙ sym (left_none k (lines_in s))
  where
    same_test : (a b : ℕ) → a ≤ b → eqb a b ≡ eqb (b - a) 0
    same_test a b h = go (eqb a b) refl
      where
        go : (x : Bool) → eqb a b ≡ x → x ≡ eqb (b - a) 0
        go true e = let z : a ≡ b = eqb→eq a b (as_T (eqb a b) e) in sym (eq-eqb (b - a) 0 (omega arith))
        go false e = sym (ne_eqb (b - a) 0 (λ z. let same : eqb a b ≡ true = eq-eqb a b (omega arith) in let one : ◌≡◌ {A = ℕ} 0 1 = cc in omega arith))

-- among sound lines those that are passed are the lines below the number
below_from : (k n : ℕ) (ls : List (List ℕ)) → T (sound_lines_from k ls) → passed k n ls ≡ lines_below n ls
unfolding sound_lines_from rising_from every passed lines_below passes?
below_from k n [] t = refl
below_from k n (l ∷ ls) t =
    let a : T (whole_line? l && every whole_line? ls) = and_left (whole_line? l && every whole_line? ls) _ t in
    let b : T (leb k (line_number l) && rising_above (line_number l) ls) = and_right (whole_line? l && every whole_line? ls) _ t in
    let w : whole_line? l ≡ true = is_true (whole_line? l) (and_left (whole_line? l) _ a) in
    let low : leb k (line_number l) ≡ true = is_true (leb k (line_number l)) (and_left (leb k (line_number l)) _ b) in
    let e : T (every whole_line? ls) = and_right (whole_line? l) _ a in
    let r : T (rising_from (suc (line_number l)) ls) = subst T (from_above (line_number l) ls) (and_right (leb k (line_number l)) _ b) in
    rw (w, low, below_from (suc (line_number l)) n ls (and_both (every whole_line? ls) (rising_from (suc (line_number l)) ls) e r))

pub passed_below : (n : ℕ) (ls : List (List ℕ)) → T (sound_lines ls) → passed 0 n ls ≡ lines_below n ls
passed_below n ls t = below_from 0 n ls (subst T (sym (from_zero ls)) t)

all_below : (ls : List (List ℕ)) → T (every whole_line? ls) → lines_below 32768 ls ≡ ls
unfolding every lines_below
all_below [] t = refl
all_below (l ∷ ls) t =
    let w = lawful l (is_true (whole_line? l) (and_left (whole_line? l) _ t)) in
    rw (lt-ltb (line_number l) 32768 (omega arith), all_below ls (and_right (whole_line? l) _ t))

all_lines : (ls : List (List ℕ)) → T (sound_lines ls) → passed 0 32768 ls ≡ ls
unfolding sound_lines
all_lines ls t = passed_below 32768 ls t ∙ all_below ls (and_left (every whole_line? ls) _ t)

-- ---- the greatest number

-- after rising lines the least number is one above the greatest
least_greatest : (n : ℕ) (ls : List (List ℕ)) → T (rising_above n ls) → least_after (suc n) ls ≡ suc (pick (leb (greatest_number ls) n) n (greatest_number ls))
unfolding least_after rising_above greatest_number
least_greatest n [] t = rw (leb-zero n)
least_greatest n (l ∷ ls) t =
    let h : n < line_number l = ltb→lt n (line_number l) (and_left (ltb n (line_number l)) _ t) in
    let high : leb (greatest_number (l ∷ ls)) n ≡ false = lt-leb (greatest_number (l ∷ ls)) n (omega (arith, greatest_next l ls)) in
    least_greatest (line_number l) ls (and_right (ltb n (line_number l)) _ t) ∙ ap (λ (b : Bool). suc (pick b n (greatest_number (l ∷ ls)))) (sym high)

pub last_greatest : (ls : List (List ℕ)) → T (rising ls) → pred (least_after 0 ls) ≡ greatest_number ls
unfolding least_after rising greatest_number
last_greatest [] t = refl
last_greatest (l ∷ ls) t = ap pred (least_greatest (line_number l) ls t)

-- ---- the whole store

same_either_way : (a b : ℕ) → eqb a b ≡ eqb b a
same_either_way a b = go (eqb a b) refl
  where
    go : (x : Bool) → eqb a b ≡ x → x ≡ eqb b a
    go true e = sym (eq-eqb b a (sym (eqb→eq a b (as_T (eqb a b) e))))
    go false e = sym (ne_eqb b a (λ z. let same : eqb a b ≡ true = eq-eqb a b (sym z) in let one : ◌≡◌ {A = ℕ} 0 1 = cc in omega arith))

-- the walk past all numbers decides
pub walk_decides : (store : List ℕ) (c : Counts) → c.used ≤ room store → all_passed c (walked_on start 32768 (take c.used store)) ≡ sound_counts store c
unfolding all_passed walked_on sound_counts sound_store
walk_decides store c h = ap (all_passed c) (from_start (passed 0 32768 ls)) ∙ go (sound_lines ls) refl
  where
    s : List ℕ
    s = take c.used store

    ls : List (List ℕ)
    ls = lines_in s

    size : length s ≡ c.used
    size = length-take-le c.used store (omega (arith, h, room_lent store))

    ended : eqb c.used (length (joined (passed 0 32768 ls))) ≡ sound_lines ls
    ended = same_either_way c.used (length (joined (passed 0 32768 ls))) ∙ ap (eqb (length (joined (passed 0 32768 ls)))) (sym size) ∙ sound_walked 0 s ∙ from_zero ls

    go : (b : Bool) → sound_lines ls ≡ b
        → eqb c.used (length (joined (passed 0 32768 ls))) && (eqb c.lines (length (passed 0 32768 ls)) && eqb c.greatest (pred (least_after 0 (passed 0 32768 ls))))
        ≡ (leb c.used (room store) && sound_lines ls) && (eqb c.lines (length ls) && eqb c.greatest (greatest_number ls))
    go true e =
        let t : T (sound_lines ls) = as_T (sound_lines ls) e in
        rw (ended, e, le-leb c.used (room store) h, all_lines ls t, last_greatest ls (sound_rising ls t))
    go false e = rw (ended, e, and-false (leb c.used (room store)))

-- a used count above the room
pub counts_over : (store : List ℕ) (c : Counts) → room store < c.used → sound_counts store c ≡ false
unfolding sound_counts sound_store
counts_over store c h = rw (lt-leb c.used (room store) h)

-- the room as the less of two numbers
pub room_is : (store : List ℕ) (n : ℕ) → n ≡ min (length store) 65535 → n ≡ room store
unfolding room
room_is store n e = go (leb (length store) 65535) refl
  where
    go : (b : Bool) → leb (length store) 65535 ≡ b → n ≡ pick b (length store) 65535
    go true h = let l = leb-true (length store) 65535 h in omega arith
    go false h = let l = leb-false (length store) 65535 h in omega arith

-- a walk from the start of some bytes, past all numbers from k on
pub rest_decides : (k : ℕ) (s : List ℕ) (u w : Walked) → Begun u → w ≡ walked_on (walking u.at u.lines k) 32768 s → eqb w.at (length s) ≡ sound_lines_from k (lines_in s)
unfolding walked_on past_lines
rest_decides k s u w b e = ap (λ (x : Walked). eqb x.at (length s)) (e ∙ ap₂ (λ (x y : ℕ). walked_on (walking x y k) 32768 s) b.0 b.1.0) ∙ ap (λ (i : ℕ). eqb i (length s)) (zero-add (walked k 32768 s)) ∙ sound_walked k s

-- the used bytes that are within the room are all in the store
pub used_lent : (store : List ℕ) (used : ℕ) → used ≤ room store → used ≡ length (take used store)
used_lent store used h = sym (length-take-le used store (omega (arith, h, room_lent store)))

-- the test of the walk is the answer
pub test_decides : (store : List ℕ) (c : Counts) (begun w : Walked) (b : Bool) → b ≡ all_passed c w → w ≡ walked_on begun 32768 (take c.used store) → Begun begun → c.used ≤ room store → b ≡ sound_counts store c
test_decides store c begun w b e is begins h = e ∙ ap (all_passed c) (on_from_start 32768 _ begun w begins is) ∙ walk_decides store c h

-- what decides whether a store is sound
pub ruleset decides = (used_lent, counts_over, test_decides)
