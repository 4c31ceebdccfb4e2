-- One outcome: two that satisfy the same contract are equal, in the answer and in the lent buffer.
use Rattle.std.specs.Prelude.{ℕ, ◌≡◌, List, Result, Ok, Err}
use Rattle.std.proofs.Common.{sym, ap, ◌∙◌}
use Rattle.paper.specs.Files.{Saved as Outcome}
use Rattle.refusals.specs.declared.Refusal.{Refusal}
use Rattle.editor_edit.specs.Refusals.{same_number, some_number}
use Rattle.file_save.specs.Answers.{number_in, written_in, saved}

-- two answers with the same two numbers are one
same_answer : (a b : Result ℕ Refusal) → number_in a ≡ number_in b → written_in a ≡ written_in b → a ≡ b
same_answer (Ok x) (Ok y) n w = ap Ok w
same_answer (Ok x) (Err k) n w = absurd (some_number k (sym n))
same_answer (Err k) (Ok y) n w = absurd (some_number k n)
same_answer (Err k) (Err m) n w = ap Err (same_number k m n)

-- of a file written: o is the outcome that the contract gives
pub one_saved : (o : Outcome) (r r' : Result ℕ Refusal) (out out' : List ℕ) → saved r out ≡ o → saved r' out' ≡ o → (r ≡ r') × (out ≡ out')
one_saved o r r' out out' h k =
    let e = h ∙ sym k in (same_answer r r' (ap (λ (x : Outcome). x.number) e) (ap (λ (x : Outcome). x.written) e), ap (λ (x : Outcome). x.output) e)
