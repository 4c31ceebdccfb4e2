-- `part_size` meets its contract: some digits, and none.
use native.Mathlib.Omega.{arith}
use borrow.Author.Tests.{lt-ltb, le-ltb}
use Rattle.constant_text.specs.Texts.{part_size}
use Rattle.constant_text.proofs.texts.part_size.Goals as goal

pub returns-then-from-to : goal.returns-then-from-to
unfolding part_size
returns-then-from-to c = (rw (lt-ltb _ _ c.if-from-to.true), omega arith)

pub returns-else-from-to : goal.returns-else-from-to
unfolding part_size
returns-else-from-to c = (rw (le-ltb _ _ c.if-from-to.false), omega arith)
