use mathlib.Core.Path.{refl, subst, sym}
use native.Mathlib.Omega.{arith}
use Rattle.list_error.specs.ErrorLaws.{error_long, error_shown}
use Rattle.list_weigh.specs.Weights.{Small}
use Rattle.list_weigh.proofs.Bounds.{head_small}
use Rattle.list_weigh.proofs.LineLaws.{error_weighed}
use Rattle.list_weigh.proofs.weigh_error.Goals as goal

pub weight_of_head-w-requires : goal.weight_of_head-w-requires
weight_of_head-w-requires c = omega (arith, error_long c.args.line.now c.requires)

pub write_error-requires : goal.write_error-requires
write_error-requires c = (c.requires, omega arith)

pub overflow_add-w : goal.overflow_add-w
overflow_add-w c = omega (arith, c.well_formed, (subst (Small 3) (sym c.weight_of_head-w.ensures) (head_small c.args.line.now)).listing, c.write_error.ensures.size, error_shown c.args.line.now c.requires)

pub overflow_sub-w : goal.overflow_sub-w
overflow_sub-w c = omega (arith, error_long c.args.line.now c.requires)

pub returns : goal.returns
returns c = error_weighed c.args.line.now c.weight_of_head-w.result c.write_error.result c.requires c.weight_of_head-w.ensures c.write_error.ensures.size _ refl
