use Rattle.std.proofs.Common.{◌≡◌, ℕ, arith, sym, ap, ◌∙◌}
use Rattle.paper.specs.Bytes.{letter?}
use Rattle.names_form.proofs.Shapes.{no_letter, no_run, full_run}
use Rattle.names_form.proofs.shape.Spelling.is_name.Goals as goal
use Rattle.names_form.proofs.shape.Spelling.is_name.Goals.{then-is_letter, else-is_letter}

pub returns-then-are_name_bytes : goal.returns-then-are_name_bytes
returns-then-are_name_bytes c =
    let letter = ap letter? (sym c.first.ensures) ∙ sym c.is_letter.ensures in
    elim c.if-is_letter.branch [
      | then-is_letter w ↦ c.ends_name.ensures ∙ full_run _ _ (letter ∙ w.if-is_letter.true) (sym w.are_name_bytes.ensures ∙ sym w.value-is ∙ c.if-are_name_bytes.true)
      | else-is_letter w ↦ (let z : ◌≡◌ {A = ℕ} 0 1 = cc in absurd (omega arith))
    ]

pub returns-else-are_name_bytes : goal.returns-else-are_name_bytes
returns-else-are_name_bytes c =
    let letter = ap letter? (sym c.first.ensures) ∙ sym c.is_letter.ensures in
    c.if-are_name_bytes.false
    ∙ elim c.if-is_letter.branch [
      | then-is_letter w ↦ no_run _ _ (sym w.are_name_bytes.ensures ∙ sym w.value-is ∙ c.if-are_name_bytes.false)
      | else-is_letter w ↦ no_letter _ _ (letter ∙ w.if-is_letter.false)
    ]
