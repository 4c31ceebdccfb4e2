-- One outcome: two that satisfy the same contract are equal.
use Rattle.std.specs.Prelude.{ℕ, ◌≡◌, List, Result}
use Rattle.std.proofs.Common.{sym, ap, ◌∙◌}
use Rattle.paper.specs.Calls.{Listed}
use Rattle.list_outcome.specs.Outcomes.{answer}
use Rattle.refusals.specs.declared.Refusal.{Refusal}
use Rattle.list_outcome.specs.Tight.{outcome_of, answer_tells, buffer_tells}

-- o is the outcome that the contract gives
pub one_listed : (o : Listed) (r r' : Result ℕ Refusal) (out out' : List ℕ) → answer r out ≡ o → answer r' out' ≡ o → (r ≡ r') × (out ≡ out')
one_listed o r r' out out' h k =
    let e = h ∙ sym k in (sym (answer_tells r out) ∙ ap outcome_of e ∙ answer_tells r' out', sym (buffer_tells r out) ∙ ap (λ (x : Listed). x.output) e ∙ buffer_tells r' out')
