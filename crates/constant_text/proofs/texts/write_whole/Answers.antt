-- `write_whole` meets its contract: no digits, and some.
use native.Mathlib.Omega.{arith}
use Rattle.constant_text.specs.Texts.{digits_here}
use Rattle.constant_text.proofs.TextDigits.{ten_here}
use Rattle.constant_text.proofs.TextWrites.{wrote_zero, wrote_whole}
use Rattle.constant_text.proofs.texts.write_whole.Goals as goal

pub returns-then-x : goal.returns-then-x
returns-then-x c = let a = c.args in wrote_zero (digits_here a.six.now 0) a.out.now c.put.new.out a.n a.x.from a.x.point c.if-x.true c.put.ensures

pub returns : goal.returns
returns c = let a = c.args in wrote_whole (digits_here a.six.now 0) a.out.now c.write_digits.new.out a.n a.x.from a.x.point c.if-x.false (omega (arith, (ten_here a.six.now 0), c.args.x.fraction, c.args.x.ten)) c.write_digits.ensures
