-- What the word of an act, and the rest, say of the frame that takes an item.
use Rattle.std.proofs.Common.{◌≡◌, ℕ, ◌+◌, ◌-◌, ◌/◌, ◌%◌, ◌≤◌, List, [], length, get_or, sym, ap, ◌∙◌, subst, arith}
use lib.Seq.{sets}
use Rattle.paper.specs.Machine.{Act as ActOf}
use Rattle.paper.specs.Grammar.{Gives, look}
use Rattle.grammar.specs.declared.Act.TheVariants as Act'
use Rattle.grammar.specs.Stack.{stack, Acts}
use Rattle.grammar.specs.Tables.{first_act, nine, wanted}
use Rattle.grammar.specs.Rows.{words, rests}
use Rattle.grammar.proofs.Table.{TakesSo}
use Rattle.grammar.proofs.Frames.{onto_stack, stack_sets, nine_long}
use Rattle.grammar.proofs.StackLaws.{acts_took}

module _ {l : ActOf Gives} (x n r : ℕ) (t : TakesSo words rests x (get_or words (x - first_act) 0) (get_or rests (x - first_act) 0) l) (e : n ≡ get_or words (x - first_act) 0) (k : r ≡ get_or rests (x - first_act) 0) where
  -- its word and rest as they were looked up
  pub of_word : TakesSo words rests x n r l
  of_word = subst (λ (m : ℕ). TakesSo words rests x m r l) (sym e) (subst (λ (m : ℕ). TakesSo words rests x (get_or words (x - first_act) 0) m l) (sym k) t)

-- a frame that takes an item has the frames that it wants in its place
pub took_here : {old : List ℕ} {at c : ℕ} {new : List ℕ} (x n r : ℕ) → TakesSo words rests x n r (look (get_or old at 0) c) → at + 9 ≤ length old → new ≡ sets old at (nine n (r / 4096 % 64))
    → Acts old at c (Act'.Took (record { gives = r % 64; depth = at + r / 64 % 64 })) new
took_here {old} {at} {c} {new} x n r t h s =
    let few : r / 64 % 64 ≤ 9 = t.few in
    acts_took (record {
      wants = wanted n r;
      acts = t.acts;
      stacked =
          ap (λ (b : List ℕ). stack b (at + r / 64 % 64)) s
          ∙ stack_sets (nine n (r / 4096 % 64)) old at (r / 64 % 64) (omega (arith, nine_long n (r / 4096 % 64))) (omega (arith, nine_long n (r / 4096 % 64)))
          ∙ onto_stack (r / 64 % 64) (nine n (r / 4096 % 64)) [] (stack old at);
      few = omega arith;
    })
