-- One verdict: two that satisfy the same contract are equal.
use Rattle.std.specs.Prelude.{◌≡◌, Result}
use Rattle.std.proofs.Common.{sym, ap, ◌∙◌}
use Rattle.paper.specs.Examine.{Verdict as Answer}
use Rattle.editor_examine.specs.declared.Flaw.{Flaw}
use Rattle.editor_examine.specs.Verdicts.{verdict}
use Rattle.editor_examine.specs.Tight.{told, told_back}

-- v is the answer that the contract gives
pub one_verdict : (v : Answer) (r r' : Result (Unit {0}) Flaw) → verdict r ≡ v → verdict r' ≡ v → r ≡ r'
one_verdict v r r' h k = sym (told_back r) ∙ ap told (h ∙ sym k) ∙ told_back r'
