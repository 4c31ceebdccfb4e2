use Rattle.std.proofs.Common.{arith}
use Rattle.std.proofs.lemmas.Grind.{common_steps}
use Rattle.paper.specs.Errors.{keepable?}
use Rattle.enter_error.specs.ErrorLaws.{every_raw}
use Rattle.enter_error.proofs.is_keepable.Goals as goal

pub returns-then-not-contains : goal.returns-then-not-contains
unfolding keepable?
returns-then-not-contains c = grind (arith, common_steps, every_raw c.args.text.now)

pub returns-else-not-contains : goal.returns-else-not-contains
unfolding keepable?
returns-else-not-contains c = grind (arith, common_steps, every_raw c.args.text.now)
