-- One outcome: two answers that satisfy the contract are equal.
use Rattle.std.specs.Prelude.{ℕ, ◌≡◌, refl, Result, Ok, Err}
use Rattle.std.proofs.Common.{arith, sym, ap, ◌∙◌}
use Rattle.paper.specs.Examine.{yes}
use Rattle.refusals.specs.Numbers.{number_of}
use Rattle.editor_edit.specs.Refusals.{same_number}
use Rattle.editor_examine.proofs.Tight.{one_verdict}
use Rattle.editor_examine.specs.Verdicts.{verdict}
use Rattle.file_examine.specs.declared.Fault.{Fault}
use Rattle.file_examine.specs.declared.Fault.TheVariants.{NotRead, Flawed}
use Rattle.file_examine.specs.Answers.{Judged, examined}

go : (r r' : Result (Unit {0}) Fault) → examined r ≡ examined r' → r ≡ r'
unfolding examined verdict
go (Ok u) (Ok u') e = refl
go (Ok u) (Err (NotRead r)) e = let z : ◌≡◌ {A = ℕ} 0 1 = cc in absurd (omega arith)
go (Ok u) (Err (Flawed f)) e =
    let same : yes ≡ verdict (Err f) = cc in
    let z : ◌≡◌ {A = Result (Unit {0}) _} (Ok u) (Err f) = one_verdict (verdict (Err f)) (Ok u) (Err f) same refl in
    let w : ◌≡◌ {A = ℕ} 0 1 = cc in
    absurd (omega arith)
go (Err (NotRead r)) (Ok u) e = let z : ◌≡◌ {A = ℕ} 0 1 = cc in absurd (omega arith)
go (Err (NotRead r)) (Err (NotRead r')) e = let same : number_of r ≡ number_of r' = cc in ap (λ x. Err (NotRead x)) (same_number r r' same)
go (Err (NotRead r)) (Err (Flawed f)) e = let z : ◌≡◌ {A = ℕ} 0 1 = cc in absurd (omega arith)
go (Err (Flawed f)) (Ok u) e =
    let same : verdict (Err f) ≡ yes = cc in
    let z : ◌≡◌ {A = Result (Unit {0}) _} (Err f) (Ok u) = one_verdict yes (Err f) (Ok u) same refl in
    let w : ◌≡◌ {A = ℕ} 0 1 = cc in
    absurd (omega arith)
go (Err (Flawed f)) (Err (NotRead r)) e = let z : ◌≡◌ {A = ℕ} 0 1 = cc in absurd (omega arith)
go (Err (Flawed f)) (Err (Flawed g)) e =
    let same : verdict (Err f) ≡ verdict (Err g) = cc in
    let z : ◌≡◌ {A = Result (Unit {0}) _} (Err f) (Err g) = one_verdict (verdict (Err g)) (Err f) (Err g) same refl in
    let w : f ≡ g = cc in
    ap (λ x. Err (Flawed x)) w

-- j is the answer that the contract gives
pub one_examined : (j : Judged) (r r' : Result (Unit {0}) Fault) → examined r ≡ j → examined r' ≡ j → r ≡ r'
one_examined j r r' h k = go r r' (h ∙ sym k)
