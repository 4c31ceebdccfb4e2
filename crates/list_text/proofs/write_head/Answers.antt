use native.Mathlib.Omega.{arith}
use Rattle.paper.specs.Line.{line_number}
use Rattle.list_text.proofs.HeadLaws.{zeros_few, beside, head_text}
use Rattle.list_text.proofs.write_head.Goals as goal

pub overflow_cast-number : goal.overflow_cast-number
unfolding line_number
overflow_cast-number c = omega (arith, c.shared_slice_known-1.given 0)

pub overflow_cast-number-2 : goal.overflow_cast-number-2
unfolding line_number
overflow_cast-number-2 c = omega (arith, c.shared_slice_known-1.given 1)

pub overflow_mul-number : goal.overflow_mul-number
unfolding line_number
overflow_mul-number c = omega (arith, c.shared_slice_known-1.given 1)

pub overflow_add-number : goal.overflow_add-number
unfolding line_number
overflow_add-number c = omega (arith, c.shared_slice_known-1.given 0, c.shared_slice_known-1.given 1)

pub slice_bounds-copy-count : goal.slice_bounds-copy-count
unfolding line_number
slice_bounds-copy-count c = omega (arith, zeros_few c.args.line.now (omega (arith, c.shared_slice_known-1.given 0)) (omega (arith, c.shared_slice_known-1.given 1)) c.zeros_before-from.result c.zeros_before-from.ensures)

pub slice_bounds-copy-start : goal.slice_bounds-copy-start
unfolding line_number
slice_bounds-copy-start c = omega (arith, zeros_few c.args.line.now (omega (arith, c.shared_slice_known-1.given 0)) (omega (arith, c.shared_slice_known-1.given 1)) c.zeros_before-from.result c.zeros_before-from.ensures)

pub overflow_sub-result : goal.overflow_sub-result
unfolding line_number
overflow_sub-result c = omega (arith, zeros_few c.args.line.now (omega (arith, c.shared_slice_known-1.given 0)) (omega (arith, c.shared_slice_known-1.given 1)) c.zeros_before-from.result c.zeros_before-from.ensures)

pub returns : goal.returns
unfolding line_number
returns c = head_text c.args.line.now (omega (arith, c.shared_slice_known-1.given 0)) (omega (arith, c.shared_slice_known-1.given 1)) c.zeros_before-from.result _ c.zeros_before-from.ensures (beside (line_number c.args.line.now) _ _ _ _ _ c.digit.ensures c.digit-2.ensures c.digit-3.ensures c.digit-4.ensures c.digit-5.ensures) c.copy.ensures
