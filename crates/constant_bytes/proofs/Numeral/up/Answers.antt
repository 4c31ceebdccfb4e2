-- `up` meets its contract: one answer for each sign.
use native.Mathlib.Omega.{arith}
use Rattle.constant_bytes.specs.Numerals.{up}
use Rattle.constant_bytes.proofs.Numeral.up.Goals as goal

pub returns-then-self : goal.returns-then-self
unfolding up
returns-then-self c = (rw c.if-self.true, omega arith)

pub returns-else-self : goal.returns-else-self
unfolding up
returns-else-self c = (rw c.if-self.false, omega arith)
