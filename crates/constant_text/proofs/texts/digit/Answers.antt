-- The upper digit of a byte, and the lower.
use mathlib.Core.Path.{refl}
use Rattle.constant_text.proofs.TextDigits.{digit_even, digit_odd}
use Rattle.constant_text.proofs.texts.digit.Goals as goal

pub returns-then-i-eq0 : goal.returns-then-i-eq0
returns-then-i-eq0 c = let a = c.args in digit_even a.six.now 0 a.i _ c.requires c.if-i-eq0.true refl

pub returns-else-i-eq0 : goal.returns-else-i-eq0
returns-else-i-eq0 c = let a = c.args in digit_odd a.six.now 0 a.i _ c.requires c.if-i-eq0.false refl
