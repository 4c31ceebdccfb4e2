-- `skipped` meets its contract: one answer for each first digit.
use borrow.Author.Tests.{eq-eqb, ne_eqb}
use Rattle.constant_text.proofs.texts.skipped.Goals as goal

pub returns-then-digit-eq48 : goal.returns-then-digit-eq48
returns-then-digit-eq48 c = rw (← c.digit.ensures, eq-eqb _ _ c.if-digit-eq48.true)

pub returns-else-digit-eq48 : goal.returns-else-digit-eq48
returns-else-digit-eq48 c = rw (← c.digit.ensures, ne_eqb _ _ c.if-digit-eq48.false)
