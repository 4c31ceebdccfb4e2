-- One outcome: two that satisfy the contract of a text entered over a lent record are equal, in the answer, in each lent buffer and in the record.
use Rattle.std.specs.Prelude.{ℕ, ◌≡◌, List, Result}
use Rattle.std.proofs.Common.{sym, ap, ◌∙◌}
use Rattle.paper.specs.Direct.{Typed}
use Rattle.refusals.specs.declared.RefusedItem.{RefusedItem}
use Rattle.editor_edit.specs.declared.Editor.{Editor}
use Rattle.editor_edit.specs.declared.Entered.{Entered}
use Rattle.editor_edit.specs.Tight.{one_entered}
use Rattle.editor_lent.specs.Answers.{answered}

-- o is the outcome that the contract gives
pub one_answered : (o : Typed) (r r' : Result ℕ RefusedItem) (n v s l n' v' s' l' : List ℕ) (e e' : Editor) → answered r n v s l e ≡ o → answered r' n' v' s' l' e' ≡ o
    → (r ≡ r') × (n ≡ n') × (v ≡ v') × (s ≡ s') × (l ≡ l') × (e ≡ e')
one_answered o r r' n v s l n' v' s' l' e e' h k =
    let one : Entered = record { added = r; editor = e } in
    let other : Entered = record { added = r'; editor = e' } in
    let same = one_entered o.entered one other n v s n' v' s' (ap (λ (x : Typed). x.entered) h) (ap (λ (x : Typed). x.entered) k) in
    let line : l ≡ l' = ap (λ (x : Typed). x.line) h ∙ sym (ap (λ (x : Typed). x.line) k) in
    (ap (λ (x : Entered). x.added) same.0, same.1, same.2, same.3, line, ap (λ (x : Entered). x.editor) same.0)
