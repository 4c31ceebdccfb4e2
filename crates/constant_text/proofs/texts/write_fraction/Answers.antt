-- `write_fraction` meets its contract: no digits, and some.
use native.Mathlib.Omega.{arith}
use Rattle.constant_text.specs.Texts.{digits_here}
use Rattle.constant_text.proofs.TextDigits.{ten_here}
use Rattle.constant_text.proofs.TextWrites.{wrote_none, wrote_fraction}
use Rattle.constant_text.proofs.texts.write_fraction.Goals as goal

pub returns-then-x : goal.returns-then-x
returns-then-x c = let a = c.args in wrote_none (digits_here a.six.now 0) a.out.now a.n a.x.point a.x.end c.if-x.true

pub returns : goal.returns
returns c = let a = c.args in wrote_fraction (digits_here a.six.now 0) a.out.now c.put.new.out c.write_digits.new.out a.n a.x.point a.x.end c.if-x.false (omega (arith, (ten_here a.six.now 0), c.args.x.ten)) c.put.ensures c.write_digits.ensures
