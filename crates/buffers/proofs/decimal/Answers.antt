-- What is left of the digits says the same as all of them.
use mathlib.Core.Path.{◌∙◌}
use native.Mathlib.Omega.{arith}
use Rattle.buffers.specs.Numbers.{digit_on, digits_end}
use Rattle.buffers.proofs.decimal.Goals as goal

pub loop-b-preserved : goal.loop-b-preserved
loop-b-preserved c = let l = c.loop-b in digit_on _ l.b-index l.n _ (omega arith) c.with_digit-n.ensures l.invariant

pub returns : goal.returns
returns c = c.min.ensures ∙ digits_end _ c.loop-b.b-index c.loop-b.n (omega arith) c.loop-b.invariant
