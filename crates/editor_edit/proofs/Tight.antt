-- One outcome, where a line buffer is lent: two that satisfy the same contract are equal, in the answer and in each lent buffer.
use Rattle.std.specs.Prelude.{ℕ, ◌≡◌, List}
use Rattle.std.proofs.Common.{sym, ap, ◌∙◌}
use Rattle.paper.specs.Direct.{Typed}
use Rattle.editor_edit.specs.States.{typed_outcome}
use Rattle.editor_edit.specs.Tight.{one_entered}
use Rattle.editor_edit.specs.declared.Entered.{Entered}

-- of a text entered where a line buffer is lent
pub one_typed : (o : Typed) (r r' : Entered) (n v s l n' v' s' l' : List ℕ) → typed_outcome r n v s l ≡ o → typed_outcome r' n' v' s' l' ≡ o
    → (r ≡ r') × (n ≡ n') × (v ≡ v') × (s ≡ s') × (l ≡ l')
one_typed o r r' n v s l n' v' s' l' h k =
    let one = one_entered o.entered r r' n v s n' v' s' (ap (λ (x : Typed). x.entered) h) (ap (λ (x : Typed). x.entered) k) in
    (one.0, one.1, one.2, one.3, ap (λ (x : Typed). x.line) (h ∙ sym k))
