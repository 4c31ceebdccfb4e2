use mathlib.Core.Path.{sym, ◌∙◌}
use Prim.Native.Nat.{◌+◌}
use native.Mathlib.Omega.{arith}
use lib.ListN.{drop, length-drop}
use Rattle.enter_scan.proofs.NumberLaws.{exponent_no_e, exponent_no_digit, exponent_some, exponent_sign}
use Rattle.enter_scan.proofs.Sound.{in_text, power_there}
use Rattle.enter_scan.proofs.numbers.exponent.Goals as goal

pub returns-then-byte_at-ne69 : goal.returns-then-byte_at-ne69
returns-then-byte_at-ne69 c = exponent_no_e c.args.part.now c.args.at (λ z. c.if-byte_at-ne69.true (c.byte_at.ensures ∙ z))

pub overflow_add-at : goal.overflow_add-at
overflow_add-at c = omega (arith, in_text c.args.part.now c.args.at (omega (arith, c.byte_at.ensures, c.if-byte_at-ne69.false)))

pub overflow_add-digits : goal.overflow_add-digits
overflow_add-digits c = omega (arith, in_text c.args.part.now c.args.at (omega (arith, c.byte_at.ensures, c.if-byte_at-ne69.false)))

pub overflow_add-digits-2 : goal.overflow_add-digits-2
overflow_add-digits-2 c = omega (arith, in_text c.args.part.now c.args.at (omega (arith, c.byte_at.ensures, c.if-byte_at-ne69.false)), exponent_sign c.args.part.now c.args.at c.byte_at-sign.ensures c.sign_length.ensures)

pub returns-then-count-eq0 : goal.returns-then-count-eq0
returns-then-count-eq0 c = exponent_no_digit c.args.part.now c.args.at (sym c.byte_at.ensures ∙ c.if-byte_at-ne69.false) c.byte_at-sign.ensures c.sign_length.ensures c.power_length-count.ensures c.if-count-eq0.true

pub overflow_add-result : goal.overflow_add-result
overflow_add-result c = let sign-length = c.sign_length in omega (arith, c.power_length-count.ensures, power_there (drop (c.args.at + 1 + sign-length.result) c.args.part.now), length-drop (c.args.at + 1 + sign-length.result) c.args.part.now)

pub returns : goal.returns
returns c = exponent_some c.args.part.now c.args.at (sym c.byte_at.ensures ∙ c.if-byte_at-ne69.false) c.byte_at-sign.ensures c.sign_length.ensures c.power_length-count.ensures c.if-count-eq0.false c.power_value.ensures
