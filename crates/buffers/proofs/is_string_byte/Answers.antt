use native.Mathlib.Omega.{arith}
use Rattle.std.proofs.lemmas.Bool.Decides.{nat_tests}
use Rattle.paper.specs.Items.{string_byte?}
use Rattle.buffers.proofs.is_string_byte.Goals as goal

pub returns : goal.returns
unfolding string_byte?
returns c = grind (arith, nat_tests)
