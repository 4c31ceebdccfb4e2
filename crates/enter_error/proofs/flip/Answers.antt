use mathlib.Core.Path.{sym}
use native.Mathlib.Omega.{arith}
use borrow.Author.Tests.{le-leb, lt-leb}
use Rattle.paper.specs.Errors.{flipped}
use Rattle.enter_error.proofs.flip.Goals as goal

pub returns-then-b-ge128 : goal.returns-then-b-ge128
unfolding flipped
returns-then-b-ge128 c = sym (rw (le-leb 128 c.args.b c.if-b-ge128.true))

pub returns-else-b-ge128 : goal.returns-else-b-ge128
unfolding flipped
returns-else-b-ge128 c = sym (rw (lt-leb 128 c.args.b (omega arith)))
