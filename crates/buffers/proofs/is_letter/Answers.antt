use native.Mathlib.Omega.{arith}
use Rattle.std.proofs.lemmas.Bool.Decides.{nat_tests}
use Rattle.paper.specs.Bytes.{letter?}
use Rattle.buffers.proofs.is_letter.Goals as goal

pub returns-in-65-to-90 : goal.returns-in-65-to-90
unfolding letter?
returns-in-65-to-90 c = grind (arith, nat_tests)

pub returns-in_default : goal.returns-in_default
unfolding letter?
returns-in_default c = grind (arith, nat_tests)

pub returns-in_default-2 : goal.returns-in_default-2
unfolding letter?
returns-in_default-2 c = grind (arith, nat_tests)
