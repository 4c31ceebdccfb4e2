-- Zero, below 0.01, from 1E10 on, and between.
use mathlib.Core.Path.{refl}
use Rattle.constant_text.specs.Texts.{laid}
use Rattle.constant_text.proofs.TextShapes.{shaped_zero, below_plain, above_plain}
use Rattle.constant_text.proofs.texts.laid_out.Goals as goal

pub returns-then-first-eq0 : goal.returns-then-first-eq0
unfolding laid
returns-then-first-eq0 c = record { text_is = shaped_zero c.args.six.now 0 _ refl c.if-first-eq0.true }

pub powered-requires : goal.powered-requires
powered-requires c = (c.if-first-eq0.false, below_plain _ c.if-first-lt-PLAIN_LEAST.true)

pub powered-requires-then-first-gt-PLAIN_MOST : goal.powered-requires-then-first-gt-PLAIN_MOST
powered-requires-then-first-gt-PLAIN_MOST c = (c.if-first-eq0.false, above_plain _ c.if-first-gt-PLAIN_MOST.true)
