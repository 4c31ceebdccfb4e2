use Rattle.std.proofs.Common.{arith}
use Rattle.std.proofs.lemmas.Grind.{common_steps}
use Rattle.paper.specs.Line.{direct_number?}
use Rattle.enter_error.specs.Keeps.{keeps?}
use Rattle.enter_error.proofs.keeps.Goals as goal

pub returns-then-number : goal.returns-then-number
unfolding keeps? direct_number?
returns-then-number c = grind (arith, common_steps)

pub returns-else-number : goal.returns-else-number
unfolding keeps? direct_number?
returns-else-number c = grind (arith, common_steps)
