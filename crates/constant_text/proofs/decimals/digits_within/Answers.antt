-- The test of all bytes is what was found so far, and that of those from here on.
use native.Mathlib.Omega.{arith}
use mathlib.Core.Path.{refl}
use Rattle.constant_text.specs.Texts.{digits_most}
use Rattle.constant_text.proofs.TextWrites.{every_on, every_end}
use Rattle.constant_text.proofs.decimals.digits_within.Goals as goal

pub loop-b-init : goal.loop-b-init
loop-b-init c = refl

pub loop-b-preserved : goal.loop-b-preserved
loop-b-preserved c = let a = c.args in let l = c.loop-b in every_on a.most a.bytes.now l.b-index l.good (omega arith) l.invariant

pub returns : goal.returns
returns c = let a = c.args in let l = c.loop-b in every_end (digits_most a.most) a.bytes.now l.b-index l.good (omega arith) l.invariant
