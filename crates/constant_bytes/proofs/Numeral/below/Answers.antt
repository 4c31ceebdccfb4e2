-- `below` meets its contract: one answer for each sign.
use native.Mathlib.Omega.{arith}
use Rattle.constant_bytes.specs.Numerals.{down}
use Rattle.constant_bytes.proofs.Numeral.below.Goals as goal

pub returns-then-self : goal.returns-then-self
unfolding down
returns-then-self c = (rw c.if-self.true, omega arith)

pub returns-else-self : goal.returns-else-self
unfolding down
returns-else-self c = (rw c.if-self.false, omega arith)
