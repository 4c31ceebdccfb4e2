use Rattle.std.proofs.Common.{◌≡◌, ℕ, arith, ◌∙◌}
use Rattle.names_sound.proofs.Soundness.{a_word, no_name, once, not_yes, not_no}
use Rattle.names_sound.proofs.is_lawful.Goals as goal
use Rattle.names_sound.proofs.is_lawful.Goals.{then-is_name, else-is_name}

pub returns-then-not-is_reserved : goal.returns-then-not-is_reserved
returns-then-not-is_reserved c =
    elim c.if-is_name.branch [
      | then-is_name w ↦ once _ _ c.is_name.ensures w.if-is_name.true w.is_reserved.ensures (not_yes _ w.value-is c.if-not-is_reserved.true) c.is_known.ensures
      | else-is_name w ↦ (let z : ◌≡◌ {A = ℕ} 0 1 = cc in absurd (omega arith))
    ]

pub returns-else-not-is_reserved : goal.returns-else-not-is_reserved
returns-else-not-is_reserved c =
    c.if-not-is_reserved.false
    ∙ elim c.if-is_name.branch [
      | then-is_name w ↦ a_word _ _ c.is_name.ensures w.if-is_name.true w.is_reserved.ensures (not_no _ w.value-is c.if-not-is_reserved.false)
      | else-is_name w ↦ no_name _ _ c.is_name.ensures w.if-is_name.false
    ]
