use Rattle.std.proofs.Common.{refl, arith}
use Rattle.report_text.proofs.DigitLaws.{left_first, left_none, left_last, left_more}
use Rattle.report_text.proofs.put_digits.Goals as goal

pub loop-at-init : goal.loop-at-init
loop-at-init c = left_first c.args.number c.args.digits.now c.requires

pub returns-then-rest-lt10 : goal.returns-then-rest-lt10
returns-then-rest-lt10 c =
    let l = c.loop-at in
    (left_last c.args.number l.at l.rest _ l.digits _ c.loop-at-test.true (omega (arith, l.auto.digits, l.auto.at, c.requires)) l.invariant refl refl c.if-rest-lt10.true, omega (arith, l.auto.at))

pub loop-at-preserved : goal.loop-at-preserved
loop-at-preserved c =
    let l = c.loop-at in
    left_more c.args.number l.at l.rest _ l.digits _ c.loop-at-test.true (omega (arith, l.auto.digits, l.auto.at, c.requires)) l.invariant refl refl c.if-rest-lt10.false

pub returns : goal.returns
returns c = (left_none c.args.number c.loop-at.at c.loop-at.rest c.loop-at.digits c.loop-at-test.false c.loop-at.invariant, omega arith)
