use mathlib.Core.Path.{sym, ◌∙◌}
use native.Mathlib.Omega.{arith}
use Rattle.enter_scan.proofs.NumberLaws.{fraction_point, fraction_none}
use Rattle.enter_scan.proofs.Sound.{in_text}
use Rattle.enter_scan.proofs.numbers.past_fraction.Goals as goal

pub overflow_add-point : goal.overflow_add-point
overflow_add-point c = omega (arith, in_text c.args.part.now c.args.point (omega (arith, c.byte_at.ensures, c.if-byte_at-eq46.true)))

pub returns-then-byte_at-eq46 : goal.returns-then-byte_at-eq46
returns-then-byte_at-eq46 c = fraction_point c.args.part.now c.args.point (sym c.byte_at.ensures ∙ c.if-byte_at-eq46.true) c.run_end.ensures.0

pub returns : goal.returns
returns c = fraction_none c.args.part.now c.args.point (λ z. c.if-byte_at-eq46.false (c.byte_at.ensures ∙ z))
