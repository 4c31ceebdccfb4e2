use mathlib.Core.Path.{refl}
use native.Mathlib.Omega.{arith}
use Rattle.list_weigh.specs.Weights.{head_weight}
use Rattle.list_weigh.proofs.Sums.{same_weight}
use Rattle.list_weigh.proofs.Bounds.{head_few}
use Rattle.list_weigh.proofs.weight_of_head.Goals as goal

pub overflow_add-w : goal.overflow_add-w
overflow_add-w c = omega (arith, c.write_head.ensures.size, head_few c.args.line.now)

pub returns : goal.returns
unfolding head_weight
returns c = rw c.nothing-w.ensures (same_weight (omega (arith, c.write_head.ensures.size)) refl refl refl refl refl)
