-- One outcome: two that satisfy the contract of a listing are equal, in the answer and in the output buffer.
use Rattle.std.specs.Prelude.{ℕ, ◌≡◌, List, Result, Ok, Err}
use Rattle.std.proofs.Common.{sym, ap, ◌∙◌}
use Rattle.paper.specs.Calls.{Listed as WrittenOut}
use Rattle.refusals.specs.declared.Refusal.{Refusal}
use Rattle.editor_edit.specs.Refusals.{same_number, some_number}
use Rattle.editor_list.specs.Answers.{listing_number, written_in, listed}

-- two answers with the same two numbers are one
same_listing : (a b : Result ℕ Refusal) → listing_number a ≡ listing_number b → written_in a ≡ written_in b → a ≡ b
same_listing (Ok a) (Ok b) n w = ap Ok w
same_listing (Ok a) (Err k) n w = absurd (some_number k (sym n))
same_listing (Err k) (Ok b) n w = absurd (some_number k n)
same_listing (Err k) (Err m) n w = ap Err (same_number k m n)

-- o is the outcome that the contract gives
pub one_listed : (o : WrittenOut) (r r' : Result ℕ Refusal) (out out' : List ℕ) → listed r out ≡ o → listed r' out' ≡ o → (r ≡ r') × (out ≡ out')
one_listed o r r' out out' h k =
    let e = h ∙ sym k in (same_listing r r' (ap (λ (x : WrittenOut). x.number) e) (ap (λ (x : WrittenOut). x.written) e), ap (λ (x : WrittenOut). x.output) e)
