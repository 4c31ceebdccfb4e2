use native.Mathlib.Omega.{arith}
use mathlib.Core.Path.{◌∙◌}
use Rattle.enter_scan.proofs.NumberLaws.{number_bounds, number_code}
use Rattle.enter_scan.proofs.numbers.number_item.Goals as goal

pub overflow_add-result : goal.overflow_add-result
overflow_add-result c = let run-end = c.run_end-point in omega (arith, number_bounds c.args.part.now c.args.at run-end.ensures.0 c.past_fraction-end.ensures c.after_point-fraction.ensures (c.unwrap_or-found.ensures ∙ c.exponent.ensures) (run-end.ensures.1 (omega arith)))

pub returns : goal.returns
returns c = number_code c.args.part.now c.args.at c.run_end-point.ensures.0 c.past_fraction-end.ensures c.after_point-fraction.ensures (c.unwrap_or-found.ensures ∙ c.exponent.ensures)
