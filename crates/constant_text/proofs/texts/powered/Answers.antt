use native.Mathlib.Omega.{arith}
use mathlib.Core.Path.{refl}
use lib.ListN.{get_or}
use Rattle.constant_text.specs.Texts.{digits_here, laid}
use Rattle.constant_text.proofs.TextShapes.{shaped_powered, zeros_most}
use Rattle.constant_text.proofs.texts.powered.Goals as goal

pub overflow_add-point : goal.overflow_add-point
overflow_add-point c = omega (arith, zeros_most (get_or (digits_here c.args.six.now 0) 0 48) c.skipped-from.result c.skipped-from.ensures)

pub last-requires : goal.last-requires
last-requires c = omega (arith, zeros_most (get_or (digits_here c.args.six.now 0) 0 48) c.skipped-from.result c.skipped-from.ensures)

pub returns : goal.returns
unfolding laid
returns c = let a = c.args in record { text_is = shaped_powered a.six.now 0 _ c.skipped-from.result c.last.result _ refl c.requires.0 c.requires.1 c.skipped-from.ensures refl c.last.ensures }
