-- The answer with that to one line more: taken, refused as the first, refused after another.
use Prim.Native.Nat.{ℕ, zero, suc, ◌+◌}
use native.Mathlib.Numerals.{add-one}
use native.Mathlib.Nat.{add-zero}
use mathlib.Core.Path.{◌≡◌, refl, sym, ap, ◌∙◌}
use mathlib.Core.Bool.{Bool, false}
use mathlib.Core.List.{List, []}
use lib.ListN.{length}
use borrow.Author.Tests.{ne_eqb}
use Rattle.std.specs.Prelude.{Some, Ok, Err}
use Rattle.paper.specs.Calls.{State, sound_state, refusal, enter_with}
use Rattle.paper.specs.Batch.{Batched as Outcome, text_lines, no_lines, with_answer, batch}
use Rattle.paper.specs.Open.{everything}
use Rattle.requested.specs.RequestTerms.{all_unsound}
use Rattle.requested.proofs.Batches.{unsound_entered, batch_unsound}
use Rattle.refusals.specs.Numbers.{number_of}
use Rattle.refusals.specs.declared.Refusal.TheVariants.{Unsound}
use Rattle.refusals.specs.declared.RefusedItem.{RefusedItem}
use Rattle.editor_edit.specs.Refusals.{some_number}
use Rattle.editor_edit.specs.declared.Editor.{Editor}
use Rattle.editor_edit.specs.declared.Entered.{Entered}
use Rattle.editor_edit.specs.States.{state, entered, refusing, no_place, empty_record}
use Rattle.editor_batch.specs.declared.Batched.{Batched}
use Rattle.editor_batch.specs.Answers.{batched}

-- an answer is that with one line more, whatever the lent buffers hold
abbrev pub OneMore : Batched → Entered → Batched → Type 0
OneMore b e r = (n v s n' v' s' : List ℕ) → batched r n v s ≡ with_answer (batched b n' v' s') (entered e n v s)

module _ (b : Batched) (e : Entered) where
  pub one_taken : (added : ℕ) → e.added ≡ Ok added → OneMore b e (record { taken = b.taken + 1; refused = b.refused; first = b.first; editor = e.editor })
  unfolding with_answer
  one_taken added h n v s n' v' s' = rw (h, add-one b.taken)

  pub first_refused : (item : RefusedItem) → e.added ≡ Err item → b.refused ≡ 0 → OneMore b e (record { taken = b.taken; refused = 1; first = Some (record { line = b.taken + 1; item = item }); editor = e.editor })
  unfolding with_answer
  first_refused item h k n v s n' v' s' = rw (h, ne_eqb (number_of item.refusal) 0 (some_number item.refusal), k, add-zero b.taken, add-one b.taken)

  pub also_refused : (item : RefusedItem) → e.added ≡ Err item → (b.refused ≡ 0 → ⊥) → OneMore b e (record { taken = b.taken; refused = b.refused + 1; first = b.first; editor = e.editor })
  unfolding with_answer
  also_refused item h k n v s n' v' s' = rw (h, ne_eqb (number_of item.refusal) 0 (some_number item.refusal), ne_eqb b.refused 0 k, add-one b.refused)

-- a line refused because the tables are unsound
pub refused_unsound : (keep : Bool) (line names values store : List ℕ) (e : Editor) (r : Entered) → r ≡ refusing (no_place Unsound) e → sound_state (state names values store e) ≡ false
    → entered r names values store ≡ enter_with keep line (state names values store e)
unfolding refusal
refused_unsound keep line names values store e r q u = ap (λ (z : Entered). entered z names values store) q ∙ sym (unsound_entered keep line (state names values store e) u)

-- ---- every line refused

-- an answer that leaves another state
abbrev leaving : State → Outcome → Outcome
leaving t o = record { taken = o.taken; refused = o.refused; first = o.first; after = t }

left_unsound : (n : ℕ) (s t : State) → leaving t (all_unsound n s) ≡ all_unsound n t
unfolding all_unsound no_lines
left_unsound zero s t = refl
left_unsound (suc n) s t = refl

-- a record with one byte used
abbrev pub used_one : Editor → Editor
used_one e = record { used = 1; lines = e.lines; greatest = e.greatest; name_count = e.name_count; name_bytes = e.name_bytes }

-- a record that says of a store without room that a byte is used
abbrev pub wrong_record : Editor
wrong_record = used_one empty_record

wrong_unsound : sound_state (state [] [] [] wrong_record) ≡ false
unfolding everything
wrong_unsound = refl

-- over it every line of a text is refused, and so the answer is, with any record in its place
pub all_refused : (text n' v' s' : List ℕ) (r : Batched) (e : Editor) → batched r n' v' s' ≡ batch false text (state [] [] [] wrong_record) → (n v s : List ℕ)
    → batched (record { taken = r.taken; refused = r.refused; first = r.first; editor = e }) n v s ≡ all_unsound (length (text_lines text)) (state n v s e)
all_refused text n' v' s' r e h n v s =
    ap (leaving (state n v s e)) (h ∙ batch_unsound false text (state [] [] [] wrong_record) wrong_unsound) ∙ left_unsound (length (text_lines text)) (state [] [] [] wrong_record) (state n v s e)
