use mathlib.Core.Path.{refl}
use native.Mathlib.Omega.{arith}
use Rattle.list_weigh.specs.Weights.{plus}
use Rattle.list_weigh.proofs.added.Goals as goal

pub overflow_add-result-6 : goal.overflow_add-result-6
overflow_add-result-6 c = omega (arith, c.requires.0.others, c.requires.1.others)

pub returns : goal.returns
unfolding plus
returns c = refl
