use native.Mathlib.Omega.{arith}
use Rattle.list_head.specs.Heads.{lawful_for}
use Rattle.list_head.proofs.HeadLaws.{head_short, head_sized, head_numbered}
use Rattle.list_head.proofs.is_right.Goals as goal

pub returns-then-line-lt3 : goal.returns-then-line-lt3
returns-then-line-lt3 c = head_short (lawful_for c.args.direct) c.args.line.now c.if-line-lt3.true

pub overflow_cast-line : goal.overflow_cast-line
overflow_cast-line c = omega (arith, c.shared_slice_known-2-1.given 2)

pub returns-then-line : goal.returns-then-line
returns-then-line c = head_sized (lawful_for c.args.direct) c.args.line.now c.if-line-lt3.false c.if-line.true

pub returns : goal.returns
returns c = head_numbered (lawful_for c.args.direct) c.args.line.now c.if-line-lt3.false c.if-line.false _ c.is_lawful.ensures
