-- The rows of the grammar that the readers of statements are proved by.
use Rattle.std.specs.Prelude.{ℕ, ◌+◌, ◌≡◌, Bool, not, T, eqb, length, drop}
use Rattle.std.proofs.Math.Path.{refl}
use Rattle.std.proofs.Common.{sym, ◌∙◌}
use Rattle.std.proofs.Math.Bool.{true, false}
use mathlib.Core.List.{List, [], ◌∷◌, ◌++◌}
use borrow.Author.Tests.{eq-eqb, ne_eqb}
use Rattle.paper.specs.Bytes.{every}
use Rattle.paper.specs.Classes.{raw_end, raw_text, number}
use Rattle.paper.specs.Frames.{want_statement, want_after_then, want_end, want_raw_text, want_raw_end}
use Rattle.paper.specs.Machine.{Act, take, refuse, Row, row, at_row, find_row}
use Rattle.paper.specs.Grammar.{Gives, itself, a_statement, grammar, may_be_empty, look}
use Rattle.paper.specs.Open.{all_Bytes, all_Machine, all_Grammar}
use Rattle.laws.specs.Tests.{and_left, and_right, is_true, is_false}

pub after_then_number : look want_after_then number ≡ take itself (want_end ∷ [])
unfolding all_Bytes all_Machine all_Grammar
after_then_number = refl

pub raw_text_row : look want_raw_text raw_text ≡ take itself []
unfolding all_Bytes all_Machine all_Grammar
raw_text_row = refl

pub raw_end_row : look want_raw_end raw_end ≡ take itself []
unfolding all_Bytes all_Machine all_Grammar
raw_end_row = refl

pub raw_end_unfit : look want_raw_end 2 ≡ refuse 4
unfolding all_Bytes all_Machine all_Grammar
raw_end_unfit = refl

-- ---- after THEN a statement is read as anywhere

-- the same rows for another frame
unfoldable for_frame : ℕ → List (Row Gives) → List (Row Gives)
for_frame g [] = []
for_frame g (r ∷ rs) = row g r.class r.gives r.wants ∷ for_frame g rs

module _ (c : ℕ) where
  -- rows of other frames say nothing of a frame
  passed : (f : ℕ) (rs more : List (Row Gives)) → T (every (λ r. not (eqb f r.frame)) rs) → find_row (rs ++ more) may_be_empty f c ≡ find_row more may_be_empty f c
  unfolding every find_row at_row
  passed f [] more t = refl
  passed f (r ∷ rs) more t = rw (is_false (eqb f r.frame) (and_left (not (eqb f r.frame)) _ t)) (passed f rs more (and_right (not (eqb f r.frame)) _ t))

  -- the same rows for two frames say the same, if those after them do
  alike : (f g : ℕ) (rs more less : List (Row Gives)) → T (every (λ r. eqb f r.frame) rs) → find_row more may_be_empty f c ≡ find_row less may_be_empty g c
      → find_row (rs ++ more) may_be_empty f c ≡ find_row (for_frame g rs ++ less) may_be_empty g c
  unfolding every find_row at_row for_frame row
  alike f g [] more less t e = e
  alike f g (r ∷ rs) more less t e =
      rw (is_true (eqb f r.frame) (and_left (eqb f r.frame) _ t), eq-eqb g g refl)
      (go (eqb c r.class) (alike f g rs more less (and_right (eqb f r.frame) _ t) e))
    where
      go : (b : Bool) {x y : Act Gives} → x ≡ y → at_row b r x ≡ at_row b (row g r.class r.gives r.wants) y
      go true e = refl
      go false e = e

-- the rows after those of statements and that of a number after THEN
unfoldable others : List (Row Gives)
others = drop (length (a_statement want_statement) + length (a_statement want_after_then) + 1) grammar

-- the rows from a number after THEN on
unfoldable from_number : List (Row Gives)
from_number = row want_after_then number itself (want_end ∷ []) ∷ others

no_statement : (c : ℕ) → find_row (a_statement want_after_then ++ from_number) may_be_empty want_statement c ≡ refuse 4
unfolding others from_number all_Bytes all_Machine all_Grammar
no_statement c = passed c want_statement (a_statement want_after_then ++ from_number) [] tt

no_number : (c : ℕ) → (c ≡ number → ⊥) → find_row from_number may_be_empty want_after_then c ≡ refuse 4
unfolding others from_number all_Bytes all_Machine all_Grammar
no_number c h = rw (ne_eqb c number h) (passed c want_after_then others [] tt)

pub after_then_same : (c : ℕ) → (c ≡ number → ⊥) → look want_after_then c ≡ look want_statement c
unfolding others from_number for_frame all_Bytes all_Machine all_Grammar
after_then_same c h =
    passed c want_after_then (a_statement want_statement) (a_statement want_after_then ++ from_number) tt
    ∙ sym (alike c want_statement want_after_then (a_statement want_statement) (a_statement want_after_then ++ from_number) from_number tt (no_statement c ∙ sym (no_number c h)))
