-- Edits of lines by their numbers: what they leave in front of them and after them, and that edits at different numbers may come in either order.
use Rattle.std.specs.Prelude.{ℕ, ◌≤◌, ◌<◌, ◌≡◌, Bool, T, eqb}
use Rattle.std.proofs.Common.{arith, subst, ◌∙◌, ltb→lt, lt→ltb}
use Rattle.std.proofs.Math.Path.{refl, sym, ap}
use Rattle.std.proofs.Math.Bool.{true, false}
use mathlib.Core.List.{List, [], ◌∷◌, ◌++◌, append-nil}
use Rattle.std.proofs.Math.Dec.{ltb}
use borrow.Author.Tests.{le-ltb, lt-ltb, ltb-true, ltb-false, eqb-true, eqb-false, ne_eqb}
use Rattle.paper.specs.Bytes.{every}
use Rattle.paper.specs.Line.{line_number}
use Rattle.paper.specs.Store.{whole_line?, rising_above, rising, put_line}
use Rattle.laws.specs.Tests.{and_left, and_right, and_both, is_true}
use Rattle.promises.proofs.Stored.{edited_lines, step_below, step_same, step_above, empty_edit, Between, rising_edit, none_between, one_between, put_is, no_lower}

-- ---- an edit passes over the lines below its number, and stands before those above

-- a line with a number below n
unfoldable pub below? : ℕ → List ℕ → Bool
below? n l = ltb (line_number l) n

-- the lines below stay, and the edit is one of the others
pub edit_past : (n : ℕ) (x ls more : List (List ℕ)) → T (every (below? n) ls) → edited_lines n x (ls ++ more) ≡ ls ++ edited_lines n x more
unfolding every below?
edit_past n x [] more t = refl
edit_past n x (l ∷ ls) more t =
    step_below n x l (ls ++ more) (is_true (ltb (line_number l) n) (and_left (ltb (line_number l) n) _ t))
    ∙ ap (λ (z : List (List ℕ)). l ∷ z) (edit_past n x ls more (and_right (ltb (line_number l) n) _ t))

-- lines above stay after it
pub edit_before : (n : ℕ) (x ls : List (List ℕ)) → T (rising_above n ls) → edited_lines n x ls ≡ x ++ ls
unfolding rising_above
edit_before n x [] t = empty_edit n x ∙ sym (append-nil x)
edit_before n x (l ∷ ls) t =
    let h : n < line_number l = ltb→lt n (line_number l) (and_left (ltb n (line_number l)) _ t) in
    step_above n x l ls (le-ltb (line_number l) n (omega arith)) (ne_eqb (line_number l) n (λ e. omega arith))

above_here : (k : ℕ) (ls : List (List ℕ)) (l : List ℕ) (more : List (List ℕ)) → T (rising_above k (ls ++ l ∷ more)) → k < line_number l
unfolding rising_above
above_here k [] l more t = ltb→lt k (line_number l) (and_left (ltb k (line_number l)) _ t)
above_here k (m ∷ ls) l more t =
    let a : k < line_number m = ltb→lt k (line_number m) (and_left (ltb k (line_number m)) _ t) in
    let b : line_number m < line_number l = above_here (line_number m) ls l more (and_right (ltb k (line_number m)) _ t) in
    omega arith

-- in rising lines those before a line are below it
pub before_below : (ls : List (List ℕ)) (l : List ℕ) (more : List (List ℕ)) → T (rising (ls ++ l ∷ more)) → T (every (below? (line_number l)) ls)
unfolding every below? rising
before_below [] l more t = tt
before_below (k ∷ ls) l more t =
    and_both (ltb (line_number k) (line_number l)) _ (lt→ltb (line_number k) (line_number l) (above_here (line_number k) ls l more t)) (before_below ls l more (no_lower (line_number k) (ls ++ l ∷ more) t))

-- a line put in after lines below it
pub put_last : (ls : List (List ℕ)) (l : List ℕ) → T (every (below? (line_number l)) ls) → put_line l ls ≡ ls ++ l ∷ []
put_last ls l t =
    let n : ℕ = line_number l in
    put_is l ls ∙ ap (edited_lines n (l ∷ [])) (sym (append-nil ls)) ∙ edit_past n (l ∷ []) ls [] t ∙ ap (λ (z : List (List ℕ)). ls ++ z) (empty_edit n (l ∷ []))

-- ---- two edits at different numbers

-- What may be put in at a number: it stands between the lines below and above, is below every greater number, and is whole.
pub record Edit (n : ℕ) (x : List (List ℕ)) : Type 0 where
  pub between : Between n x
  pub below : (m : ℕ) → n < m → T (every (below? m) x)
  pub whole : T (every whole_line? x)

-- no line
pub no_edit : (n : ℕ) → Edit n []
unfolding every
no_edit n = record { between = none_between n; below = (λ m h. tt); whole = tt }

-- or a whole line with that number
pub line_edit : (n : ℕ) (l : List ℕ) → line_number l ≡ n → T (whole_line? l) → Edit n (l ∷ [])
unfolding every below?
line_edit n l e w =
    record {
      between = subst (λ (k : ℕ). Between k (l ∷ [])) e (one_between l);
      below = (λ m h. and_both (ltb (line_number l) m) true (lt→ltb (line_number l) m (omega arith)) tt);
      whole = and_both (whole_line? l) true w tt;
    }

module _ (n m : ℕ) (x y : List (List ℕ)) (less : n < m) (a : Edit n x) (b : Edit m y) where
  -- where all lines are above the smaller number
  commute_above : (ls : List (List ℕ)) → T (rising_above n ls) → edited_lines m y (edited_lines n x ls) ≡ edited_lines n x (edited_lines m y ls)
  commute_above ls t =
      ap (edited_lines m y) (edit_before n x ls t) ∙ edit_past m y x ls (a.below m less)
      ∙ sym (edit_before n x (edited_lines m y ls) (rising_edit m y b.between n ls less t))

  commute_go : (l : List ℕ) (ls : List (List ℕ)) → T (rising_above (line_number l) ls) → edited_lines m y (edited_lines n x ls) ≡ edited_lines n x (edited_lines m y ls)
      → (c : Bool) → ltb (line_number l) n ≡ c → (d : Bool) → eqb (line_number l) n ≡ d → edited_lines m y (edited_lines n x (l ∷ ls)) ≡ edited_lines n x (edited_lines m y (l ∷ ls))
  unfolding rising_above
  commute_go l ls t ih true e d g =
      let k : line_number l < n = ltb-true (line_number l) n e in
      let f : ltb (line_number l) m ≡ true = lt-ltb (line_number l) m (omega arith) in
      ap (edited_lines m y) (step_below n x l ls e)
      ∙ step_below m y l (edited_lines n x ls) f
      ∙ ap (λ (z : List (List ℕ)). l ∷ z) ih
      ∙ sym (step_below n x l (edited_lines m y ls) e)
      ∙ ap (edited_lines n x) (sym (step_below m y l ls f))
  commute_go l ls t ih false e true g =
      let k : line_number l ≡ n = eqb-true (line_number l) n g in
      let f : ltb (line_number l) m ≡ true = lt-ltb (line_number l) m (omega arith) in
      ap (edited_lines m y) (step_same n x l ls e g)
      ∙ edit_past m y x ls (a.below m less)
      ∙ sym (step_same n x l (edited_lines m y ls) e g)
      ∙ ap (edited_lines n x) (sym (step_below m y l ls f))
  commute_go l ls t ih false e false g =
      let k : n ≤ line_number l = ltb-false (line_number l) n e in
      let ne : line_number l ≡ n → ⊥ = eqb-false (line_number l) n g in
      commute_above (l ∷ ls) (and_both (ltb n (line_number l)) _ (lt→ltb n (line_number l) (omega arith)) t)

  commute_less : (ls : List (List ℕ)) → T (rising ls) → edited_lines m y (edited_lines n x ls) ≡ edited_lines n x (edited_lines m y ls)
  unfolding rising rising_above
  commute_less [] t = commute_above [] tt
  commute_less (l ∷ ls) t = commute_go l ls t (commute_less ls (no_lower (line_number l) ls t)) (ltb (line_number l) n) refl (eqb (line_number l) n) refl

-- Edits of rising lines at two different numbers may come in either order.
pub commute : (n m : ℕ) (x y ls : List (List ℕ)) → (n ≡ m → ⊥) → Edit n x → Edit m y → T (rising ls) → edited_lines m y (edited_lines n x ls) ≡ edited_lines n x (edited_lines m y ls)
commute n m x y ls ne a b t = go (ltb n m) refl
  where
    go : (c : Bool) → ltb n m ≡ c → edited_lines m y (edited_lines n x ls) ≡ edited_lines n x (edited_lines m y ls)
    go true e = commute_less n m x y (ltb-true n m e) a b ls t
    go false e = let k : m ≤ n = ltb-false n m e in sym (commute_less m n y x (above k) b a ls t)
      where
        above : m ≤ n → m < n
        above k = omega arith
