use Rattle.std.proofs.Common.{arith}
use Rattle.names_numbered.proofs.Numbers.{array_spelled, other_spelled, none_spelled}
use Rattle.names_numbered.proofs.spelled.Goals as goal

pub returns-then-array : goal.returns-then-array
returns-then-array c = (array_spelled _ _ c.if-array.true, omega arith)

pub returns-in-Some : goal.returns-in-Some
returns-in-Some c = other_spelled _ _ c.if-array.false c.in-Some.ensures.cases.0 c.requires

pub returns-in-None : goal.returns-in-None
returns-in-None c = absurd (none_spelled _ c.if-array.false c.in-None.ensures.cases c.requires)
