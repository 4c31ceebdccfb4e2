-- The digits passed are all zero, and those from here on have the rest of the run.
use native.Mathlib.Omega.{arith}
use Rattle.constant_bytes.specs.Numerals.{digits_in}
use Rattle.constant_bytes.proofs.Places.{one_more, no_more, all_noughts}
use Rattle.constant_bytes.proofs.digits.Digits.leading.Goals as goal

pub returns-then-at-ne0 : goal.returns-then-at-ne0
returns-then-at-ne0 c = let d = c.args.self in no_more (digits_in d.text.now d.numeral) c.loop-i.i c.at.result (omega (arith, c.count-count.ensures)) c.at.ensures.0 c.if-at-ne0.true c.loop-i.invariant

pub loop-i-preserved : goal.loop-i-preserved
loop-i-preserved c = let d = c.args.self in one_more (digits_in d.text.now d.numeral) c.loop-i.i c.at.result (omega (arith, c.count-count.ensures)) c.at.ensures.0 c.if-at-ne0.false c.loop-i.invariant

pub returns : goal.returns
returns c =
    let d = c.args.self in
    let e = all_noughts (digits_in d.text.now d.numeral) c.loop-i.i (omega (arith, c.count-count.ensures)) c.loop-i.invariant in
    omega (arith, e)
