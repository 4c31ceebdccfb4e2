use native.Mathlib.Omega.{arith}
use Rattle.std.proofs.lemmas.Bool.Decides.{nat_tests}
use Rattle.paper.specs.Bytes.{digit?}
use Rattle.buffers.proofs.is_digit.Goals as goal

pub returns-in-48-to-57 : goal.returns-in-48-to-57
unfolding digit?
returns-in-48-to-57 c = grind (arith, nat_tests)

pub returns-in_default : goal.returns-in_default
unfolding digit?
returns-in_default c = grind (arith, nat_tests)

pub returns-in_default-2 : goal.returns-in_default-2
unfolding digit?
returns-in_default-2 c = grind (arith, nat_tests)
