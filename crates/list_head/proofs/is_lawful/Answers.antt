use native.Mathlib.Omega.{arith}
use Rattle.list_head.proofs.NumberLaws.{stored_number, direct_low, direct_high}
use Rattle.list_head.proofs.is_lawful.Goals as goal

pub returns-then-high : goal.returns-then-high
returns-then-high c =
    let a = c.args in
    direct_low a.direct a.line.now (omega (arith, c.shared_slice_known-1.given 0)) c.if-direct.true c.if-high.true

pub returns-else-high : goal.returns-else-high
returns-else-high c =
    let a = c.args in
    direct_high a.direct a.line.now (omega (arith, c.shared_slice_known-1.given 0)) c.if-direct.true c.if-high.false

pub returns-else-direct : goal.returns-else-direct
returns-else-direct c = let a = c.args in stored_number a.direct a.line.now (omega (arith, c.shared_slice_known-1.given 0)) c.if-direct.false
