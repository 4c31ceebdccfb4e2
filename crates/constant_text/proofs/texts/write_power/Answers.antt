-- None, one above zero, and one below.
use mathlib.Core.Path.{◌∙◌}
use Rattle.constant_text.proofs.TextWrites.{wrote_no_power, wrote_up, wrote_down}
use Rattle.constant_text.proofs.texts.write_power.Goals as goal
use Rattle.constant_text.proofs.texts.write_power.Goals.{then-power-ge-UNIT, else-power-ge-UNIT}

pub returns-in_default : goal.returns-in_default
returns-in_default c = rw c.in_default.is (wrote_no_power c.args.out.now c.args.n)

pub returns : goal.returns
returns c =
    rw c.in-Some.is
    elim c.if-power-ge-UNIT.branch [
      | then-power-ge-UNIT w ↦ wrote_up c.args.out.now _ c.args.n _ w.if-power-ge-UNIT.true (w.out-is ∙ w.write_exponent.ensures)
      | else-power-ge-UNIT w ↦ wrote_down c.args.out.now _ c.args.n _ w.if-power-ge-UNIT.false (w.out-is ∙ w.write_exponent-else-power-ge-UNIT.ensures)
    ]
