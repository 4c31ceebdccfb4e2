use native.Mathlib.Omega.{arith}
use borrow.Author.Tests.{lt-ltb, le-ltb}
use Rattle.paper.specs.Line.{number_bytes}
use Rattle.list_measure.proofs.token_size.Goals as goal

pub returns-then-number-lt-FIRST_LONG : goal.returns-then-number-lt-FIRST_LONG
unfolding number_bytes
returns-then-number-lt-FIRST_LONG c = (rw (lt-ltb _ 128 c.if-number-lt-FIRST_LONG.true), omega arith)

pub returns-else-number-lt-FIRST_LONG : goal.returns-else-number-lt-FIRST_LONG
unfolding number_bytes
returns-else-number-lt-FIRST_LONG c = (rw (le-ltb _ 128 c.if-number-lt-FIRST_LONG.false), omega arith)
