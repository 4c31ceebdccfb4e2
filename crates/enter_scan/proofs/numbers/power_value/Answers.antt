use native.Mathlib.Omega.{arith}
use Rattle.enter_scan.proofs.NumberLaws.{tens_bounds, ones_bounds, value_one, value_two}
use Rattle.enter_scan.proofs.numbers.power_value.Goals as goal

pub overflow_sub-tens : goal.overflow_sub-tens
overflow_sub-tens c = omega (arith, tens_bounds c.args.part.now c.args.at c.args.count c.requires.0 c.requires.1, c.byte_at-tens.ensures)

pub returns-then-count-eq1 : goal.returns-then-count-eq1
returns-then-count-eq1 c = value_one c.args.part.now c.args.at c.args.count c.requires.0 c.requires.1 c.if-count-eq1.true c.byte_at-tens.ensures

pub overflow_mul-result : goal.overflow_mul-result
overflow_mul-result c = omega (arith, tens_bounds c.args.part.now c.args.at c.args.count c.requires.0 c.requires.1, c.byte_at-tens.ensures)

pub overflow_add-at : goal.overflow_add-at
overflow_add-at c = omega (arith, tens_bounds c.args.part.now c.args.at c.args.count c.requires.0 c.requires.1, c.byte_at-tens.ensures)

pub overflow_sub-result : goal.overflow_sub-result
overflow_sub-result c = omega (arith, ones_bounds c.args.part.now c.args.at c.args.count c.requires.0 c.requires.1 c.if-count-eq1.false, c.byte_at.ensures)

pub overflow_add-result : goal.overflow_add-result
overflow_add-result c = omega (arith, tens_bounds c.args.part.now c.args.at c.args.count c.requires.0 c.requires.1, c.byte_at-tens.ensures, ones_bounds c.args.part.now c.args.at c.args.count c.requires.0 c.requires.1 c.if-count-eq1.false, c.byte_at.ensures)

pub returns : goal.returns
returns c = value_two c.args.part.now c.args.at c.args.count c.requires.0 c.requires.1 c.if-count-eq1.false c.byte_at-tens.ensures c.byte_at.ensures
