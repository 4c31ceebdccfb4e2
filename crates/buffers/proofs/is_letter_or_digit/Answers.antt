use Rattle.std.proofs.lemmas.Grind.{common_steps}
use native.Mathlib.Omega.{arith}
use Rattle.paper.specs.Bytes.{letter_or_digit?}
use Rattle.buffers.proofs.is_letter_or_digit.Goals as goal

pub returns-then-is_digit : goal.returns-then-is_digit
unfolding letter_or_digit?
returns-then-is_digit c = grind (arith, common_steps)

pub returns-else-is_digit : goal.returns-else-is_digit
unfolding letter_or_digit?
returns-else-is_digit c = grind (arith, common_steps)
