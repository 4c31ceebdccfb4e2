use mathlib.Core.Path.{sym, ap, ◌∙◌}
use native.Mathlib.Omega.{arith}
use Rattle.enter_scan.proofs.NumberLaws.{digit_inside, power_two, power_one, power_none}
use Rattle.paper.specs.Bytes.{digit?}
use Rattle.enter_scan.proofs.numbers.power_length.Goals as goal

pub overflow_add-at : goal.overflow_add-at
overflow_add-at c = omega (arith, digit_inside c.args.part.now c.args.at (sym (ap digit? c.byte_at.ensures) ∙ sym c.is_digit.ensures ∙ c.if-is_digit.true))

pub returns-then-is_digit-2 : goal.returns-then-is_digit-2
returns-then-is_digit-2 c = power_two c.args.part.now c.args.at (sym (ap digit? c.byte_at.ensures) ∙ sym c.is_digit.ensures ∙ c.if-is_digit.true) (sym (ap digit? c.byte_at-then-is_digit.ensures) ∙ sym c.is_digit-then-is_digit.ensures ∙ c.if-is_digit-2.true)

pub returns-else-is_digit-2 : goal.returns-else-is_digit-2
returns-else-is_digit-2 c = power_one c.args.part.now c.args.at (sym (ap digit? c.byte_at.ensures) ∙ sym c.is_digit.ensures ∙ c.if-is_digit.true) (sym (ap digit? c.byte_at-then-is_digit.ensures) ∙ sym c.is_digit-then-is_digit.ensures ∙ c.if-is_digit-2.false)

pub returns-else-is_digit : goal.returns-else-is_digit
returns-else-is_digit c = power_none c.args.part.now c.args.at (sym (ap digit? c.byte_at.ensures) ∙ sym c.is_digit.ensures ∙ c.if-is_digit.false)
