use borrow.Author.Tests.{lt-ltb, le-ltb}
use Rattle.enter_item.specs.TookLaws.{shifted}
use Rattle.enter_item.proofs.shifted.Goals as goal

pub returns-then-t-lt128 : goal.returns-then-t-lt128
unfolding shifted
returns-then-t-lt128 c = rw (lt-ltb _ _ c.if-t-lt128.true)

pub returns-else-t-lt128 : goal.returns-else-t-lt128
unfolding shifted
returns-else-t-lt128 c = rw (le-ltb _ _ c.if-t-lt128.false)
