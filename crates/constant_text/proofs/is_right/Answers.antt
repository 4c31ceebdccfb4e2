-- `is_right` meets its contract: one answer for each test.
use native.Mathlib.Omega.{arith}
use mathlib.Core.Path.{refl}
use Rattle.constant_text.proofs.Rights.{right_short, right_zero, right_some}
use Rattle.constant_text.proofs.is_right.Goals as goal

pub returns-then-s-lt6 : goal.returns-then-s-lt6
returns-then-s-lt6 c = right_short c.args.s.now c.args.at (omega arith)

pub returns-then-s-at : goal.returns-then-s-at
returns-then-s-at c = right_short c.args.s.now c.args.at (omega arith)

pub returns-then-first-eq0 : goal.returns-then-first-eq0
returns-then-first-eq0 c = right_zero c.args.s.now c.args.at (omega arith) c.if-first-eq0.true c.digits_within.ensures

pub returns : goal.returns
returns c = right_some c.args.s.now c.args.at (omega arith) c.if-first-eq0.false c.digits_within-decimal.ensures refl
