-- The acts that most items meet: of frames that want nothing after an item, and of the one where more terms may follow.
use Prim.Native.Nat.{ℕ, suc, ◌+◌, ◌-◌, ◌<◌}
use native.Mathlib.Omega.{arith}
use mathlib.Core.Path.{◌≡◌, refl, sym, ap, ◌∙◌}
use mathlib.Core.List.{List, [], ◌∷◌}
use lib.ListN.{length, get_or, set}
use Rattle.paper.specs.Machine.{take as takes, leave, step}
use Rattle.paper.specs.Grammar.{itself, look}
use Rattle.paper.specs.Open.{all_Bytes, all_Machine, all_Grammar}
use Rattle.std.specs.Prelude.{Option, Some}
use Rattle.grammar.specs.declared.Taken.{Taken}
use Rattle.grammar.specs.Stack.{stack, gives_of, Steps}
use Rattle.grammar.proofs.Frames.{stack_put}
use Rattle.grammar.proofs.StackLaws.{down_left, down_took}

-- ---- frames that want nothing after an item

pub a_line_end : look 2 0 ≡ takes itself []
unfolding all_Bytes all_Machine all_Grammar
a_line_end = refl

pub a_number : look 5 3 ≡ takes itself []
unfolding all_Bytes all_Machine all_Grammar
a_number = refl

pub a_variable : look 5 5 ≡ takes itself []
unfolding all_Bytes all_Machine all_Grammar
a_variable = refl

pub a_close : look 9 12 ≡ takes itself []
unfolding all_Bytes all_Machine all_Grammar
a_close = refl

pub a_comma : look 34 13 ≡ takes itself []
unfolding all_Bytes all_Machine all_Grammar
a_comma = refl

-- ---- what the stack does then

module _ (l : List ℕ) (depth c top : ℕ) (under : top + 1 ≡ depth) where
  at_top : top ≡ depth - 1
  at_top = omega arith

  top_frame : get_or l (depth - 1) 0 ≡ get_or l top 0
  top_frame = ap (λ (i : ℕ). get_or l i 0) (sym at_top)

  -- its last frame takes the item and wants nothing
  pub last_steps : look (get_or l top 0) c ≡ takes itself [] → Steps l depth c (Some (record { gives = 0; depth = top })) l
  unfolding gives_of
  last_steps k =
      down_took l depth c depth (omega arith) (omega arith) refl
      (record { wants = []; acts = ap (λ (f : ℕ). look f c) top_frame ∙ k; stacked = ap (stack l) at_top; few = omega arith })

  top_is : get_or l top 0 ≡ 6 → stack l depth ≡ 6 ∷ stack l (depth - 1)
  unfolding stack
  top_is e = let z : depth ≡ suc (depth - 1) = omega arith in ap (stack l) z ∙ ap (λ (f : ℕ). f ∷ stack l (depth - 1)) (top_frame ∙ e)

  -- the item joins terms
  pub joined_steps : depth < length l → get_or l top 0 ≡ 6 → look 6 c ≡ takes itself (5 ∷ 6 ∷ []) → Steps l depth c (Some (record { gives = 0; depth = depth + 1 })) (set l depth 5)
  unfolding gives_of
  joined_steps h e k =
      down_took l depth c depth (omega arith) (omega arith) refl
      (record {
        wants = 5 ∷ 6 ∷ [];
        acts = ap (λ (f : ℕ). look f c) (top_frame ∙ e) ∙ k;
        stacked = stack_put l depth 5 h ∙ ap (λ (fs : List ℕ). 5 ∷ fs) (top_is e);
        few = omega arith;
      })

  -- the last frame leaves it to those below
  pub left_steps : {x : Option Taken} {new : List ℕ} → get_or l top 0 ≡ 6 → look 6 c ≡ leave → Steps l top c x new → Steps l depth c x new
  left_steps e k s =
      let down = down_left l depth c depth (omega arith) refl (ap (λ (f : ℕ). look f c) (top_frame ∙ e) ∙ k) ∙ ap (λ (i : ℕ). step look (stack l i) c) (sym at_top) in
      record {
        takes = λ t q. (down ∙ (s.takes t q).0, omega (arith, (s.takes t q).1));
        refuses = λ q g gs t. s.refuses q g gs (sym down ∙ t);
      }
