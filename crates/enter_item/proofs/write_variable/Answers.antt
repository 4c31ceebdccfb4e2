use Rattle.enter_item.specs.LeafLaws.{short_put, long_put}
use Rattle.enter_item.proofs.write_variable.Goals as goal

pub returns-then-number-lt-FIRST_LONG : goal.returns-then-number-lt-FIRST_LONG
returns-then-number-lt-FIRST_LONG c = short_put c.if-number-lt-FIRST_LONG.true c.put.ensures

pub returns : goal.returns
returns c = long_put c.if-number-lt-FIRST_LONG.false c.copy.ensures
