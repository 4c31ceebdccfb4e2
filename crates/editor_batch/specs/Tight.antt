-- One outcome: two that satisfy the same contract are equal, in the answer and in each lent buffer.
use Rattle.std.specs.Prelude.{ℕ, ◌≡◌, refl, List, Option, Some, None}
use Rattle.std.proofs.Common.{sym, ap, ap₂, ◌∙◌}
use Rattle.paper.specs.Items.{Span}
use Rattle.paper.specs.Batch.{RefusedLine}
use Rattle.paper.specs.Batch.{Batched as Outcome}
use Rattle.refusals.specs.declared.Refusal.{Refusal}
use Rattle.editor_edit.specs.Refusals.{same_number, some_number}
use Rattle.editor_edit.specs.Tight.{record_of}
use Rattle.editor_edit.specs.declared.Editor.{Editor}
use Rattle.editor_batch.specs.declared.FirstRefusal.{FirstRefusal}
use Rattle.editor_batch.specs.declared.Batched.{Batched}
use Rattle.editor_batch.specs.Answers.{first_in, batched}

-- two first refusals that are told alike are one
same_first : (a b : Option FirstRefusal) → first_in a ≡ first_in b → a ≡ b
same_first None None e = refl
same_first None (Some g) e = absurd (some_number g.item.refusal (sym (ap (λ (x : RefusedLine). x.number) e)))
same_first (Some f) None e = absurd (some_number f.item.refusal (ap (λ (x : RefusedLine). x.number) e))
same_first (Some f) (Some g) e =
    let make : Refusal → Span → ℕ → Option FirstRefusal = λ k s l. Some (record { line = l; item = record { refusal = k; place = s.start; end = s.end } }) in
    ap₂ (λ (k : Refusal) (s : Span). make k s f.line) (same_number f.item.refusal g.item.refusal (ap (λ (x : RefusedLine). x.number) e)) (ap (λ (x : RefusedLine). x.place) e)
    ∙ ap (make g.item.refusal (first_in (Some g)).place) (ap (λ (x : RefusedLine). x.line) e)

-- of many lines entered: o is the outcome that the contract gives
pub one_batched : (o : Outcome) (r r' : Batched) (n v s n' v' s' : List ℕ) → batched r n v s ≡ o → batched r' n' v' s' ≡ o → (r ≡ r') × (n ≡ n') × (v ≡ v') × (s ≡ s')
one_batched o r r' n v s n' v' s' h k =
    let e = h ∙ sym k in
    let make : ℕ → ℕ → Option FirstRefusal → Editor → Batched = λ t u f z. record { taken = t; refused = u; first = f; editor = z } in
    let counts : make r.taken r.refused r.first r.editor ≡ make r'.taken r'.refused r.first r.editor = ap (λ (x : Outcome). make x.taken x.refused r.first r.editor) e in
    let others : make r'.taken r'.refused r.first r.editor ≡ r' = ap₂ (make r'.taken r'.refused) (same_first r.first r'.first (ap (λ (x : Outcome). x.first) e)) (ap (λ (x : Outcome). record_of x.after) e) in
    (counts ∙ others, ap (λ (x : Outcome). x.after.names) e, ap (λ (x : Outcome). x.after.values) e, ap (λ (x : Outcome). x.after.store) e)
