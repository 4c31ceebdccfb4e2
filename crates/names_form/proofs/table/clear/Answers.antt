use Rattle.names_form.specs.Tables.{cleared}
use borrow.Author.Tests.{le-leb, lt-leb}
use Rattle.names_form.proofs.table.clear.Goals as goal

pub returns-then-b-ge128 : goal.returns-then-b-ge128
unfolding cleared
returns-then-b-ge128 c = simp (le-leb _ _ c.if-b-ge128.true)

pub returns-else-b-ge128 : goal.returns-else-b-ge128
unfolding cleared
returns-else-b-ge128 c = simp (lt-leb _ _ c.if-b-ge128.false)
