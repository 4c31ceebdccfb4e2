-- One outcome: two that satisfy the same contract are equal, in the answer and in each lent buffer.
use Rattle.std.specs.Prelude.{ℕ, ◌≡◌, List, Result, Ok, Err}
use Rattle.std.proofs.Common.{sym, ap, ◌∙◌}
use Rattle.paper.specs.Collect.{Collected as Outcome}
use Rattle.refusals.specs.declared.Refusal.{Refusal}
use Rattle.editor_edit.specs.Refusals.{same_number, some_number}
use Rattle.editor_edit.specs.Tight.{record_of}
use Rattle.editor_edit.specs.declared.Editor.{Editor}
use Rattle.editor_collect.specs.Answers.{number_in, record_after, outcome}

-- two answers with the same number and the same record afterwards are one
same_answer : (e : Editor) (a b : Result Editor Refusal) → number_in a ≡ number_in b → record_after e a ≡ record_after e b → a ≡ b
same_answer e (Ok x) (Ok y) n r = ap Ok r
same_answer e (Ok x) (Err k) n r = absurd (some_number k (sym n))
same_answer e (Err k) (Ok y) n r = absurd (some_number k n)
same_answer e (Err k) (Err m) n r = ap Err (same_number k m n)

-- of names taken back over a record e: o is the outcome that the contract gives
pub one_collected : (o : Outcome) (e : Editor) (r r' : Result Editor Refusal) (n v s n' v' s' : List ℕ) → outcome e r n v s ≡ o → outcome e r' n' v' s' ≡ o → (r ≡ r') × (n ≡ n') × (v ≡ v') × (s ≡ s')
one_collected o e r r' n v s n' v' s' h k =
    let z = h ∙ sym k in (
      same_answer e r r' (ap (λ (x : Outcome). x.number) z) (ap (λ (x : Outcome). record_of x.after) z),
      ap (λ (x : Outcome). x.after.names) z,
      ap (λ (x : Outcome). x.after.values) z,
      ap (λ (x : Outcome). x.after.store) z,
    )
