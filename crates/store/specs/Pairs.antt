-- How many lines there are and their greatest number, after a line is put in or taken out (document 02, §6).
use Prim.Native.Nat.{ℕ, suc, ◌+◌, ◌-◌, ◌≤◌}
use Rattle.std.proofs.Common.{arith, ◌∙◌, ltb→lt, leb-true, leb-false, ltb-true, ltb-false}
use Rattle.std.proofs.Math.Path.{◌≡◌, refl, sym, ap}
use Rattle.std.specs.Prelude.{Bool, false, leb, ltb, length, drop}
use Rattle.std.proofs.Math.Bool.{true}
use mathlib.Core.List.{List, [], ◌∷◌, ◌++◌}
use Rattle.std.proofs.Math.Dec.{T, eqb→eq}
use Rattle.std.proofs.Math.ListN.{length-append}
use Rattle.paper.specs.Bytes.{pick}
use Rattle.paper.specs.Line.{line_number}
use Rattle.paper.specs.Store.{rising_above, rising, greatest_number, lines_below, lines_not_below, first_is?, stored?, first_line, line_at, lines_above, put_line, take_out}
use Rattle.laws.specs.Tests.{and_left, and_right, as_T}
use Rattle.laws.specs.Lines.{both_sides}

-- ---- the greatest number, as a sum

greater_go : (n g : ℕ) (b : Bool) → leb g n ≡ b → pick b n g ≡ n + (g - n)
greater_go n g true e = let h = leb-true g n e in omega arith
greater_go n g false e = let h = leb-false g n e in omega arith

-- of a line and those after it
pub greatest_next : (l : List ℕ) (ls : List (List ℕ)) → greatest_number (l ∷ ls) ≡ line_number l + (greatest_number ls - line_number l)
unfolding greatest_number
greatest_next l ls = greater_go (line_number l) (greatest_number ls) (leb (greatest_number ls) (line_number l)) refl

-- of lines and those after them
pub greatest_both : (a b : List (List ℕ)) → greatest_number (a ++ b) ≡ greatest_number a + (greatest_number b - greatest_number a)
unfolding greatest_number
greatest_both [] b = omega arith
greatest_both (l ∷ a) b = omega (arith, greatest_both a b, greatest_next l (a ++ b), greatest_next l a)

-- ---- lines cut at a number

-- the lines from a number on, where it is not stored
not_there_go : (n : ℕ) (r : List (List ℕ)) → first_is? n r ≡ false → pick (first_is? n r) (drop 1 r) r ≡ r
not_there_go n r e = rw (e) refl

-- where it is
there_go : (n : ℕ) (r : List (List ℕ)) → first_is? n r ≡ true → (r ≡ first_line r ∷ pick (first_is? n r) (drop 1 r) r) × (line_number (first_line r) ≡ n)
unfolding first_is? first_line
there_go n [] e = let z : ◌≡◌ {A = ℕ} 0 1 = cc in absurd (omega arith)
there_go n (l ∷ r) e = (rw (e) refl, eqb→eq (line_number l) n (as_T _ e))

module _ (n : ℕ) (ls : List (List ℕ)) where
  -- all lines, where the number is not stored
  parts_without : stored? n ls ≡ false → ls ≡ lines_below n ls ++ lines_above n ls
  unfolding stored? lines_above
  parts_without e = sym (both_sides n ls) ∙ ap (λ (z : List (List ℕ)). lines_below n ls ++ z) (sym (not_there_go n (lines_not_below n ls) e))

  -- all lines, where it is
  parts_with : stored? n ls ≡ true → (ls ≡ lines_below n ls ++ line_at n ls ∷ lines_above n ls) × (line_number (line_at n ls) ≡ n)
  unfolding stored? line_at lines_above
  parts_with e = let t = there_go n (lines_not_below n ls) e in (sym (both_sides n ls) ∙ ap (λ (z : List (List ℕ)). lines_below n ls ++ z) t.0, t.1)

  -- how many lines, and their greatest number
  count_without : stored? n ls ≡ false → length ls ≡ length (lines_below n ls) + length (lines_above n ls)
  count_without e = ap length (parts_without e) ∙ length-append (lines_below n ls) (lines_above n ls)

  count_with : stored? n ls ≡ true → length ls ≡ length (lines_below n ls) + suc (length (lines_above n ls))
  count_with e = ap length (parts_with e).0 ∙ length-append (lines_below n ls) (line_at n ls ∷ lines_above n ls)

  greatest_without : stored? n ls ≡ false → greatest_number ls ≡ greatest_number (lines_below n ls) + (greatest_number (lines_above n ls) - greatest_number (lines_below n ls))
  greatest_without e = ap greatest_number (parts_without e) ∙ greatest_both (lines_below n ls) (lines_above n ls)

  greatest_with : stored? n ls ≡ true → greatest_number ls ≡ greatest_number (lines_below n ls) + (n + (greatest_number (lines_above n ls) - n) - greatest_number (lines_below n ls))
  greatest_with e =
      let p = parts_with e in
      let l : List ℕ = line_at n ls in
      ap greatest_number p.0
      ∙ greatest_both (lines_below n ls) (l ∷ lines_above n ls)
      ∙ ap (λ (z : ℕ). greatest_number (lines_below n ls) + (z - greatest_number (lines_below n ls)))
      (greatest_next l (lines_above n ls) ∙ ap (λ (z : ℕ). z + (greatest_number (lines_above n ls) - z)) p.1)

-- ---- a line put in

module _ (l : List ℕ) (ls : List (List ℕ)) where
  put_count : length (put_line l ls) ≡ length (lines_below (line_number l) ls) + suc (length (lines_above (line_number l) ls))
  unfolding put_line
  put_count = length-append (lines_below (line_number l) ls) (l ∷ lines_above (line_number l) ls)

  -- a line more
  pub count_more : stored? (line_number l) ls ≡ false → length (put_line l ls) ≡ length ls + 1
  count_more e = omega (arith, put_count, count_without (line_number l) ls e)

  -- no line more: it takes the place of another
  pub count_same : stored? (line_number l) ls ≡ true → length (put_line l ls) ≡ length ls
  count_same e = omega (arith, put_count, count_with (line_number l) ls e)

  put_sum : greatest_number (put_line l ls) ≡ greatest_number ls + (line_number l - greatest_number ls)
  unfolding put_line
  put_sum = go (stored? (line_number l) ls) refl
    where
      n : ℕ
      n = line_number l

      whole : greatest_number (lines_below n ls ++ l ∷ lines_above n ls) ≡ greatest_number (lines_below n ls) + (n + (greatest_number (lines_above n ls) - n) - greatest_number (lines_below n ls))
      whole =
          greatest_both (lines_below n ls) (l ∷ lines_above n ls) ∙ ap (λ (z : ℕ). greatest_number (lines_below n ls) + (z - greatest_number (lines_below n ls))) (greatest_next l (lines_above n ls))

      go : (b : Bool) → stored? n ls ≡ b → greatest_number (lines_below n ls ++ l ∷ lines_above n ls) ≡ greatest_number ls + (n - greatest_number ls)
      go true e = omega (arith, whole, greatest_with n ls e)
      go false e = omega (arith, whole, greatest_without n ls e)

  -- the greater of the two numbers
  pub greatest_put : greatest_number (put_line l ls) ≡ pick (ltb (greatest_number ls) (line_number l)) (line_number l) (greatest_number ls)
  greatest_put = go (ltb (greatest_number ls) (line_number l)) refl
    where
      go : (b : Bool) → ltb (greatest_number ls) (line_number l) ≡ b → greatest_number (put_line l ls) ≡ pick b (line_number l) (greatest_number ls)
      go true e = let h = ltb-true (greatest_number ls) (line_number l) e in omega (arith, put_sum)
      go false e = let h = ltb-false (greatest_number ls) (line_number l) e in omega (arith, put_sum)

-- ---- a line taken out

next_rising : (n : ℕ) (ls : List (List ℕ)) → T (rising_above n ls) → T (rising ls)
unfolding rising_above rising
next_rising n [] t = tt
next_rising n (l ∷ ls) t = and_right (ltb n (line_number l)) _ t

-- the lines from a number on rise as all do
from_rising : (n : ℕ) (ls : List (List ℕ)) → T (rising ls) → T (rising (lines_not_below n ls))
unfolding rising lines_not_below
from_rising n [] t = tt
from_rising n (l ∷ ls) t = go (ltb (line_number l) n) (from_rising n ls (next_rising (line_number l) ls t))
  where
    go : (b : Bool) → T (rising (lines_not_below n ls)) → T (rising (pick b (lines_not_below n ls) (l ∷ ls)))
    go true h = h
    go false h = t

-- if the greatest of rising lines is the first, there is no other
alone : (l : List ℕ) (ls : List (List ℕ)) → T (rising_above (line_number l) ls) → greatest_number (l ∷ ls) ≤ line_number l → ls ≡ []
unfolding rising_above
alone l [] t h = refl
alone l (x ∷ ls) t h =
    let k = ltb→lt (line_number l) (line_number x) (and_left (ltb (line_number l) (line_number x)) _ t) in
    absurd (omega (arith, greatest_next l (x ∷ ls), greatest_next x ls))

module _ (n : ℕ) (ls : List (List ℕ)) (there : stored? n ls ≡ true) where
  -- a line less
  pub count_less : length ls ≡ length (take_out n ls) + 1
  unfolding take_out
  count_less = omega (arith, count_with n ls there, length-append (lines_below n ls) (lines_above n ls))

  out_sum : greatest_number (take_out n ls) ≡ greatest_number (lines_below n ls) + (greatest_number (lines_above n ls) - greatest_number (lines_below n ls))
  unfolding take_out
  out_sum = greatest_both (lines_below n ls) (lines_above n ls)

  -- the greatest number stays if another line has it
  pub greatest_stays : (n ≡ greatest_number ls → ⊥) → greatest_number (take_out n ls) ≡ greatest_number ls
  greatest_stays h = go (ltb n (greatest_number ls)) refl
    where
      go : (b : Bool) → ltb n (greatest_number ls) ≡ b → greatest_number (take_out n ls) ≡ greatest_number ls
      go true e = let k = ltb-true n (greatest_number ls) e in omega (arith, out_sum, greatest_with n ls there)
      go false e = let k = ltb-false n (greatest_number ls) e in absurd (h (omega (arith, greatest_with n ls there)))

  none_above : T (rising ls) → n ≡ greatest_number ls → lines_above n ls ≡ []
  unfolding lines_above stored? first_is? rising
  none_above t h = go (lines_not_below n ls) there (from_rising n ls t) (omega (arith, ap greatest_number (both_sides n ls), greatest_both (lines_below n ls) (lines_not_below n ls)))
    where
      go : (r : List (List ℕ)) → first_is? n r ≡ true → T (rising r) → greatest_number r ≤ n → pick (first_is? n r) (drop 1 r) r ≡ []
      go [] e u k = let z : ◌≡◌ {A = ℕ} 0 1 = cc in absurd (omega arith)
      go (l ∷ r) e u k = let i : line_number l ≡ n = eqb→eq (line_number l) n (as_T _ e) in rw (e) (alone l r u (omega arith))

  -- the number of the line before it if the last line goes
  pub greatest_before : T (rising ls) → n ≡ greatest_number ls → greatest_number (take_out n ls) ≡ greatest_number (lines_below n ls)
  unfolding greatest_number
  greatest_before t h = omega (arith, out_sum, ap greatest_number (none_above t h))
