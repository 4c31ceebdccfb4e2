use native.Mathlib.Omega.{arith}
use borrow.Author.Tests.{le-leb, lt-leb}
use Rattle.list_text.specs.Texts.{zeros}
use Rattle.list_text.proofs.zeros_before.Goals as goal

pub returns-in-0-to-9 : goal.returns-in-0-to-9
unfolding zeros
returns-in-0-to-9 c = rw (lt-leb 10000 c.args.number (omega arith), lt-leb 1000 c.args.number (omega arith), lt-leb 100 c.args.number (omega arith), lt-leb 10 c.args.number (omega arith))

pub returns-in-10-to-99 : goal.returns-in-10-to-99
unfolding zeros
returns-in-10-to-99 c = rw (lt-leb 10000 c.args.number (omega arith), lt-leb 1000 c.args.number (omega arith), lt-leb 100 c.args.number (omega arith), le-leb 10 c.args.number (omega arith))

pub returns-in-100-to-999 : goal.returns-in-100-to-999
unfolding zeros
returns-in-100-to-999 c = rw (lt-leb 10000 c.args.number (omega arith), lt-leb 1000 c.args.number (omega arith), le-leb 100 c.args.number (omega arith))

pub returns-in-1000-to-9999 : goal.returns-in-1000-to-9999
unfolding zeros
returns-in-1000-to-9999 c = rw (lt-leb 10000 c.args.number (omega arith), le-leb 1000 c.args.number (omega arith))

pub returns-in_default : goal.returns-in_default
unfolding zeros
returns-in_default c = rw (le-leb 10000 c.args.number (omega arith))
