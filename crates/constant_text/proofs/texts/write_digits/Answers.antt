-- `write_digits` meets its contract. The invariant: the digits passed stand in `out`.
use native.Mathlib.Omega.{arith}
use mathlib.Core.Path.{sym, ap, ◌∙◌}
use lib.ListN.{length}
use lib.Seq.{slice, sets, length-sets, slice_empty}
use Rattle.constant_text.specs.Texts.{digits_here}
use Rattle.constant_text.proofs.TextDigits.{ten_here}
use Rattle.constant_text.proofs.TextWrites.{digit_more, ends}
use Rattle.constant_text.proofs.texts.write_digits.Goals as goal

pub loop-i-init : goal.loop-i-init
loop-i-init c = (omega arith, omega arith, ap (λ xs. sets c.args.out.now c.args.n xs) (sym (slice_empty c.args.from (digits_here c.args.six.now 0))))

pub loop-i-preserved : goal.loop-i-preserved
loop-i-preserved c = let a = c.args in let l = c.loop-i in (omega arith, omega arith, digit_more (digits_here a.six.now 0) a.out.now l.out _ a.n a.from l.i c.digit.result (omega arith) (omega (arith, (ten_here a.six.now 0))) l.invariant.2 c.digit.ensures c.put.ensures)

pub shape_of-out : goal.shape_of-out
shape_of-out c = let a = c.args in ap length c.loop-i.invariant.2 ∙ length-sets a.out.now a.n (slice a.from c.loop-i.i (digits_here a.six.now 0))

pub returns : goal.returns
returns c = let a = c.args in c.loop-i.invariant.2 ∙ ap (λ k. sets a.out.now a.n (slice a.from k (digits_here a.six.now 0))) (ends c.loop-i.i a.to c.loop-i.invariant.1 c.loop-i-test.false)
