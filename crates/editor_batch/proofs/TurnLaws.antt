-- One turn of the call: the first line of the rest is entered, and the call goes on with what stands after it.
use Prim.Native.Nat.{ℕ, suc, ◌+◌, ◌<◌, ◌≤◌}
use native.Mathlib.Omega.{arith}
use native.Mathlib.Numerals.{add-one}
use mathlib.Core.Path.{◌≡◌, refl, sym, ap, ap₂, ◌∙◌}
use mathlib.Core.Bool.{Bool, true, false}
use mathlib.Core.List.{List, [], ◌∷◌}
use lib.Dec.{eqb}
use lib.ListN.{length, take, drop}
use Rattle.std.proofs.Common.{drop-drop}
use Rattle.paper.specs.Bytes.{pick, run}
use Rattle.paper.specs.Names.{in_front}
use Rattle.paper.specs.Items.{raw_byte?}
use Rattle.paper.specs.Calls.{State, Entered, sound_state, enter_with}
use Rattle.paper.specs.Batch.{text_lines, answers_to, none_refused, Batched, no_lines, with_answer, with_answers, batch}
use Rattle.requested.proofs.Batches.{first_line, answer_after, answer_counted, same_soundness}
use Rattle.buffers.specs.Runs.{run_within}
use Rattle.editor_edit.specs.declared.Editor.{Editor}
use Rattle.editor_edit.specs.States.{state}
use Rattle.editor_batch.specs.declared.Batched.{Batched as Answer}
use Rattle.editor_batch.specs.Answers.{batched, nothing_entered}

-- the call going on with lines
abbrev pub going_on : Bool → Batched → List (List ℕ) → Batched
going_on keep b ls = with_answers b (answers_to keep ls b.after)

-- from no line on
pub begins : (keep : Bool) (b : Answer) (e : Editor) (names values store text : List ℕ) → b ≡ nothing_entered e → going_on keep (batched b names values store) (text_lines text) ≡ batch keep text (state names values store e)
unfolding batch no_lines none_refused
begins keep b e names values store text h = ap (λ (z : Answer). going_on keep (batched z names values store) (text_lines text)) h

-- with no more lines it is done
pub done : (keep : Bool) (b : Batched) (ls : List (List ℕ)) → ls ≡ [] → going_on keep b ls ≡ b
unfolding with_answers answers_to
done keep b ls e = rw e

-- no bytes are no line
pub no_line : (text : List ℕ) → length text ≤ 0 → text_lines text ≡ []
unfolding text_lines
no_line [] h = refl
no_line (x ∷ text) h = absurd (omega arith)

module _ (rest : List ℕ) (end : ℕ) (ends : end ≡ 0 + run raw_byte? (drop 0 rest)) where
  -- the line ends among the bytes
  pub within : end ≤ length rest
  within = omega (arith, ends, run_within raw_byte? rest)

  -- its line and those after it, past the 9B that may end it
  pub lines_so : 0 < length rest → (line after next : List ℕ) → line ≡ take end rest → after ≡ drop end rest → next ≡ drop 1 after → text_lines rest ≡ line ∷ text_lines next
  lines_so some line after next el ea en =
      let e : run raw_byte? rest ≡ end = omega (arith, ends) in
      let past : next ≡ drop (suc end) rest = en ∙ ap (drop 1) ea ∙ drop-drop 1 end rest ∙ ap (λ (k : ℕ). drop k rest) (add-one end) in
      first rest some
      ∙ ap (λ (z : ℕ). take z rest ∷ text_lines (drop (suc z) rest)) e
      ∙ ap₂ (λ (x y : List ℕ). x ∷ text_lines y) (sym el) (sym past)
    where
      first : (s : List ℕ) → 0 < length s → text_lines s ≡ take (run raw_byte? s) s ∷ text_lines (drop (suc (run raw_byte? s)) s)
      first [] h = absurd (omega arith)
      first (b ∷ s) h = first_line b s

module _ (b c : Batched) (e : Entered) (is : c ≡ with_answer b e) where
  -- an answer more leaves what its line left
  same_after : c.after ≡ e.after
  same_after = ap (λ (z : Batched). z.after) is ∙ answer_after b e

  -- and counts one line more
  pub one_counted : c.taken + c.refused ≡ suc (b.taken + b.refused)
  one_counted = ap (λ (z : Batched). z.taken + z.refused) is ∙ answer_counted b e

  module _ (keep : Bool) (line : List ℕ) (so : e ≡ enter_with keep line b.after) where
    -- the tables are as sound as before
    pub as_sound : sound_state c.after ≡ sound_state b.after
    as_sound = ap sound_state same_after ∙ ap (λ (z : Entered). sound_state z.after) so ∙ same_soundness keep line b.after

    -- and the call comes to the same
    pub comes_to : (left next : List (List ℕ)) → left ≡ line ∷ next → going_on keep c next ≡ going_on keep b left
    unfolding with_answers answers_to
    comes_to left next h =
        ap (λ (z : State). with_answers c (answers_to keep next z)) same_after
        ∙ ap (λ (z : Batched). with_answers z (answers_to keep next e.after)) is
        ∙ ap (λ (z : Entered). with_answers (with_answer b z) (answers_to keep next z.after)) so
        ∙ ap (λ (z : List (List ℕ)). with_answers b (answers_to keep z b.after)) (sym h)

-- a text has no more lines than bytes
one_more : (b n : ℕ) (ls : List (List ℕ)) → length ls ≤ n → length (in_front b ls) ≤ suc n
unfolding in_front
one_more b n [] h = omega arith
one_more b n (l ∷ ls) h = omega arith

few_go : (b n : ℕ) (ls : List (List ℕ)) (t : Bool) → length ls ≤ n → length (pick t ([] ∷ ls) (in_front b ls)) ≤ suc n
few_go b n ls true h = omega arith
few_go b n ls false h = one_more b n ls h

pub few : (text : List ℕ) → length (text_lines text) ≤ length text
unfolding text_lines
few [] = omega arith
few (b ∷ s) = few_go b (length s) (text_lines s) (eqb b 0x9b) (few s)
