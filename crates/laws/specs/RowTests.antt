-- A test that every row of a table passes says something of whatever a frame does with an item.
use Rattle.std.specs.Prelude.{ℕ, ◌≡◌, Bool, ◌&&◌, T}
use Rattle.std.proofs.Math.Path.{refl, subst}
use Rattle.std.proofs.Common.{sym}
use Rattle.std.proofs.Math.Bool.{true, false}
use mathlib.Core.List.{List, [], ◌∷◌}
use Rattle.std.proofs.Math.Dec.{eqb, eqb→eq}
use Rattle.paper.specs.Bytes.{every, among}
use Rattle.paper.specs.Machine.{Act, take, leave, refuse, Row, no_row, at_row, find_row}
use Rattle.laws.specs.Tests.{and_left, and_right, as_T}

-- P says something of what a frame does with a class. If it holds of what each row that passes the test does, of leaving an item where the
-- frame may be empty, and of refusing it with 4, then it holds of what the whole table does.
module _ {E : Type 0} (P : ℕ → ℕ → Act E → Type 0) (test : Row E → Bool) (empty : List ℕ) (takes : (r : Row E) → T (test r) → P r.frame r.class (take r.gives r.wants))
    (leaves : (f c : ℕ) → T (among f empty) → P f c leave) (refuses : (f c : ℕ) → P f c (refuse 4)) where
  none_at : (f c : ℕ) (b : Bool) → among f empty ≡ b → P f c (no_row b)
  unfolding no_row
  none_at f c true e = leaves f c (as_T (among f empty) e)
  none_at f c false e = refuses f c

  row_at : (f c : ℕ) (b : Bool) (r : Row E) (a : Act E) → (T b → P f c (take r.gives r.wants)) → P f c a → P f c (at_row b r a)
  unfolding at_row
  row_at f c true r a g k = g tt
  row_at f c false r a g k = k

  -- it holds of whatever the table says
  pub at_rows : (rows : List (Row E)) (f c : ℕ) → T (every test rows) → P f c (find_row rows empty f c)
  unfolding find_row every
  at_rows [] f c t = none_at f c (among f empty) refl
  at_rows (r ∷ rs) f c t =
      row_at f c (eqb f r.frame && eqb c r.class) r (find_row rs empty f c)
      (λ b.
      let p : f ≡ r.frame = eqb→eq f r.frame (and_left (eqb f r.frame) (eqb c r.class) b) in
      let q : c ≡ r.class = eqb→eq c r.class (and_right (eqb f r.frame) (eqb c r.class) b) in
      let does : Act E = take r.gives r.wants in
      subst (λ (z : ℕ). P z c does) (sym p) (subst (λ (z : ℕ). P r.frame z does) (sym q) (takes r (and_left (test r) (every test rs) t))))
      (at_rows rs f c (and_right (test r) (every test rs) t))
