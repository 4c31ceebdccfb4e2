-- One outcome: two that satisfy the same contract are equal, in the answer and in each lent buffer.
use Rattle.std.specs.Prelude.{ℕ, ◌≡◌, List, Result, Ok, Err}
use Rattle.std.proofs.Common.{sym, ap, ap₂, ◌∙◌}
use Rattle.paper.specs.Items.{Span}
use Rattle.paper.specs.Calls.{State}
use Rattle.paper.specs.Calls.{Entered as Outcome}
use Rattle.refusals.specs.declared.Refusal.{Refusal}
use Rattle.refusals.specs.declared.RefusedItem.{RefusedItem}
use Rattle.editor_edit.specs.Refusals.{same_number, some_number}
use Rattle.editor_edit.specs.States.{entered, number_in, place_in, added_in}
use Rattle.editor_edit.specs.declared.Editor.{Editor}
use Rattle.editor_edit.specs.declared.Entered.{Entered}

-- the record of a state
abbrev pub record_of : State → Editor
record_of s = record { used = s.used; lines = s.line_count; greatest = s.greatest; name_count = s.name_count; name_bytes = s.name_size }

-- of a text entered, or a line taken out: o is the outcome that the contract gives
pub one_entered : (o : Outcome) (r r' : Entered) (n v s n' v' s' : List ℕ) → entered r n v s ≡ o → entered r' n' v' s' ≡ o → (r ≡ r') × (n ≡ n') × (v ≡ v') × (s ≡ s')
one_entered o r r' n v s n' v' s' h k = (ap₂ make answer (ap (λ (x : Outcome). record_of x.after) e), ap (λ (x : Outcome). x.after.names) e, ap (λ (x : Outcome). x.after.values) e, ap (λ (x : Outcome). x.after.store) e)
  where
    e : entered r n v s ≡ entered r' n' v' s'
    e = h ∙ sym k

    make : Result ℕ RefusedItem → Editor → Entered
    make x y = record { added = x; editor = y }

    item : Refusal → ℕ → ℕ → Result ℕ RefusedItem
    item k x y = Err (record { refusal = k; place = x; end = y })

    -- two answers with the same three numbers are one
    same : (a b : Result ℕ RefusedItem) → number_in a ≡ number_in b → place_in a ≡ place_in b → added_in a ≡ added_in b → a ≡ b
    same (Ok a) (Ok b) n p e = ap Ok e
    same (Ok a) (Err j) n p e = absurd (some_number j.refusal (sym n))
    same (Err i) (Ok b) n p e = absurd (some_number i.refusal n)
    same (Err i) (Err j) n p e =
        ap₂ (λ (k : Refusal) (x : ℕ). item k x i.end) (same_number i.refusal j.refusal n) (ap (λ (s : Span). s.start) p) ∙ ap (item j.refusal j.place) (ap (λ (s : Span). s.end) p)

    answer : r.added ≡ r'.added
    answer = same r.added r'.added (ap (λ (x : Outcome). x.number) e) (ap (λ (x : Outcome). x.place) e) (ap (λ (x : Outcome). x.added) e)
