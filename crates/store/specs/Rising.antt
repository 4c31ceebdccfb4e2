-- What a caller knows of the line that some bytes begin with, where it is passed and where it is not; and of lines whose numbers rise from one on.
use Rattle.std.specs.Prelude.{ℕ, suc, ◌+◌, ◌-◌, ◌*◌, ◌≤◌, ◌<◌, ◌≡◌, refl, Bool, true, false, ◌&&◌, Option, Some, None, List, [], ◌∷◌, T, leb, ltb, eqb, length, take, drop, get_or}
use Rattle.std.proofs.Common.{add-one, arith, sym, ap, ap₂, ◌∙◌, leb→le, eqb→eq, length-take, length-drop, get_or-take, take_all, ltb-false}
use Rattle.std.proofs.Math.Bool.{and-false}
use Rattle.std.proofs.Math.Dec.{leb-zero}
use Rattle.paper.specs.Bytes.{pick, every}
use Rattle.paper.specs.Line.{line_number, lawful_number?}
use Rattle.paper.specs.Store.{lines_from, lines_in, whole_line?, rising_above, rising, sound_lines}
use Rattle.laws.specs.Tests.{and_left, and_right, as_T, is_true}
use Rattle.laws.specs.Lines.{lines_next}
use Rattle.store.specs.Walks.{passes?, passing_size, passed, rising_from, sound_lines_from}

-- ---- lines that rise from a number on

-- from 0 on they are sound lines
pub from_zero : (ls : List (List ℕ)) → sound_lines_from 0 ls ≡ sound_lines ls
unfolding sound_lines_from sound_lines rising_from rising
from_zero [] = refl
from_zero (l ∷ ls) = rw (leb-zero (line_number l))

-- above a number is from the next on
pub from_above : (n : ℕ) (ls : List (List ℕ)) → rising_above n ls ≡ rising_from (suc n) ls
unfolding rising_from rising_above
from_above n [] = refl
from_above n (l ∷ ls) = refl

-- ---- the first line of some bytes

-- its number, read in the bytes
pub first_number : (s : List ℕ) (m : ℕ) → 2 ≤ m → line_number (take m s) ≡ line_number s
unfolding line_number
first_number s m h =
    let a : 0 < m = omega arith in
    let b : 1 < m = omega arith in
    ap₂ (λ (x y : ℕ). x + 256 * y) (get_or-take m s 0 0 a) (get_or-take m s 1 0 b)

-- the bytes after some, as a slice has them
pub past : (s : List ℕ) (k m : ℕ) → k ≡ m → take (length s - k) (drop k s) ≡ drop m s
past s k m e = take_all (length s - k) (drop k s) (omega (arith, length-drop k s)) ∙ ap (λ (i : ℕ). drop i s) e

-- what a whole first line has
pub record First (s : List ℕ) : Type 0 where
  pub long : 6 ≤ get_or s 2 0
  pub fits : get_or s 2 0 ≤ length s

pub first_go : (s : List ℕ) → T (whole_line? (take (get_or s 2 0) s)) → First s
unfolding whole_line?
first_go s t =
    let m : ℕ = get_or s 2 0 in
    let l : List ℕ = take m s in
    let a : 6 ≤ length l = leb→le 6 (length l) (and_left (leb 6 (length l)) (eqb (get_or l 2 0) (length l) && lawful_number? (line_number l)) t) in
    let b : T (eqb (get_or l 2 0) (length l) && lawful_number? (line_number l)) = and_right (leb 6 (length l)) (eqb (get_or l 2 0) (length l) && lawful_number? (line_number l)) t in
    let c : get_or l 2 0 ≡ length l = eqb→eq (get_or l 2 0) (length l) (and_left (eqb (get_or l 2 0) (length l)) (lawful_number? (line_number l)) b) in
    let two : 2 < m = omega (arith, length-take m s) in
    let d : get_or l 2 0 ≡ m = get_or-take m s 2 0 two in
    record { long = omega (arith, length-take m s); fits = omega (arith, length-take m s) }

-- a whole line's number is at most 32767
pub lawful : (l : List ℕ) → whole_line? l ≡ true → line_number l ≤ 32767
unfolding whole_line? lawful_number?
lawful l e =
    leb→le (line_number l) 32767
    (and_right (eqb (get_or l 2 0) (length l)) _ (and_right (leb 6 (length l)) _ (as_T (whole_line? l) e)))

-- ---- a line that is not passed

pub stops : (k n : ℕ) (s : List ℕ) → passing_size k n s ≡ None → passes? k n (take (get_or s 2 0) s) ≡ false
unfolding passing_size passes?
stops k n s h = go (passes? k n first) refl h
  where
    first : List ℕ
    first = take (get_or s 2 0) s

    go : (b : Bool) → passes? k n first ≡ b → pick b (Some (get_or s 2 0)) None ≡ None → passes? k n first ≡ false
    go false e h = e
    go true e h = let z : ◌≡◌ {A = ℕ} 0 1 = cc in absurd (omega arith)

-- below no number but the greatest it is not passed only where the lines are not sound
not_passed : (k : ℕ) (l : List ℕ) (ls : List (List ℕ)) → passes? k 32768 l ≡ false → sound_lines_from k (l ∷ ls) ≡ false
unfolding passes? sound_lines_from rising_from every
not_passed k l ls h = go (whole_line? l) (leb k (line_number l)) (ltb (line_number l) 32768) refl refl h
  where
    go : (w a c : Bool) → whole_line? l ≡ w → ltb (line_number l) 32768 ≡ c → w && (a && c) ≡ false → (w && every whole_line? ls) && (a && rising_above (line_number l) ls) ≡ false
    go false a c e f h = refl
    go true false c e f h = and-false (every whole_line? ls)
    go true true false e f h = absurd (omega (arith, lawful l e, ltb-false (line_number l) 32768 f))
    go true true true e f h = let z : ◌≡◌ {A = ℕ} 0 1 = cc in absurd (omega arith)

pub walk_ends : (k : ℕ) (s : List ℕ) → 0 < length s → passing_size k 32768 s ≡ None → sound_lines_from k (lines_in s) ≡ false
unfolding lines_in lines_from
walk_ends k [] h e = absurd (omega arith)
walk_ends k (b ∷ s) h e = not_passed k (take (get_or s 1 0) (b ∷ s)) _ (stops k 32768 (b ∷ s) e)

-- ---- a line that is passed: the walk goes on after it

goes_go : (k n : ℕ) (s : List ℕ) (b : Bool) → passes? k n (take (get_or s 2 0) s) ≡ b → (pick b (Some (get_or s 2 0)) None ≡ None → ⊥) → passes? k n (take (get_or s 2 0) s) ≡ true
goes_go k n s true e h = e
goes_go k n s false e h = absurd (h refl)

pub record Goes (k n : ℕ) (s : List ℕ) : Type 0 where
  pub size : passing_size k n s ≡ Some (get_or s 2 0)
  pub long : 6 ≤ get_or s 2 0
  pub fits : get_or s 2 0 ≤ length s
  pub small : line_number s ≤ 32767
  pub number : line_number (take (get_or s 2 0) s) ≡ line_number s
  pub first : lines_in s ≡ take (get_or s 2 0) s ∷ lines_in (drop (get_or s 2 0) s)
  pub sound : sound_lines_from k (lines_in s) ≡ sound_lines_from (line_number s + 1) (lines_in (drop (get_or s 2 0) s))
  pub next : passed k n (lines_in s) ≡ take (get_or s 2 0) s ∷ passed (line_number s + 1) n (lines_in (drop (get_or s 2 0) s))

pub walk_goes : (k n : ℕ) (s : List ℕ) → (passing_size k n s ≡ None → ⊥) → Goes k n s
unfolding passing_size passed passes? sound_lines_from rising_from every
walk_goes k n s h =
    let m : ℕ = get_or s 2 0 in
    let l : List ℕ = take m s in
    let t : passes? k n l ≡ true = goes_go k n s (passes? k n l) refl h in
    let low : leb k (line_number l) ≡ true = is_true (leb k (line_number l)) (and_left (leb k (line_number l)) _ (and_right (whole_line? l) _ (as_T (passes? k n l) t))) in
    let w : T (whole_line? l) = and_left (whole_line? l) _ (as_T (passes? k n l) t) in
    let f : First s = first_go s w in
    let e : line_number l ≡ line_number s = first_number s m (omega (arith, f.long)) in
    let all : lines_in s ≡ l ∷ lines_in (drop m s) = lines_next s (omega (arith, f.long)) in
    let p : List (List ℕ) = passed (suc (line_number l)) n (lines_in (drop m s)) in
    record {
      size = rw (t);
      long = f.long;
      fits = f.fits;
      small = omega (arith, e, lawful l (is_true (whole_line? l) w));
      number = e;
      first = all;
      sound =
          ap (sound_lines_from k) all
          ∙ rw (is_true (whole_line? l) w, low) (ap (λ (b : Bool). every whole_line? (lines_in (drop m s)) && b) (from_above (line_number l) (lines_in (drop m s)) ∙ ap (λ (i : ℕ). rising_from i (lines_in (drop m s))) (ap suc e ∙ sym (add-one (line_number s)))));
      next =
          ap (passed k n) all
          ∙ ap (λ (b : Bool). pick b (l ∷ p) []) t
          ∙ ap (λ (y : ℕ). l ∷ passed y n (lines_in (drop m s))) (ap suc e ∙ sym (add-one (line_number s)));
    }

-- where a size is answered, it is that of a line that is passed
pub goes_by : (k n : ℕ) (s : List ℕ) (m : ℕ) → passing_size k n s ≡ Some m → (Goes k n s) × (m ≡ get_or s 2 0)
goes_by k n s m e =
    let g : Goes k n s = walk_goes k n s (λ z. let y : ◌≡◌ {A = ℕ} 0 1 = cc in omega arith) in
    let same : ◌≡◌ {A = Option ℕ} (Some m) (Some (get_or s 2 0)) = sym e ∙ g.size in
    (g, cc)
