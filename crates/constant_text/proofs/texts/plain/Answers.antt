-- `plain` meets its contract: no digits before the point, and some.
use native.Mathlib.Omega.{arith}
use Prim.Native.Nat.{◌*◌, ◌-◌}
use mathlib.Core.Path.{refl}
use lib.ListN.{get_or}
use Rattle.constant_text.specs.Texts.{digits_here, laid}
use Rattle.constant_text.proofs.TextDigits.{ten_here}
use Rattle.constant_text.proofs.TextShapes.{shaped_plain, plain_none, plain_some}
use Rattle.constant_text.proofs.texts.plain.Goals as goal

pub returns-then-point-eq0 : goal.returns-then-point-eq0
unfolding laid
returns-then-point-eq0 c = let a = c.args in record { text_is = shaped_plain a.six.now 0 _ _ 0 _ refl c.requires.0 c.requires.1 refl (plain_none (digits_here a.six.now 0) _ c.if-point-eq0.true) c.last-end.ensures }

pub returns : goal.returns
unfolding laid
returns c = let a = c.args in record { text_is = shaped_plain a.six.now 0 _ _ c.skipped.result _ refl c.requires.0 c.requires.1 refl (plain_some (digits_here a.six.now 0) (2 * (get_or a.six.now 0 0 - 63)) c.skipped.result (ten_here a.six.now 0) (omega arith) (omega arith) c.skipped.ensures) c.last-end.ensures }
