use Rattle.std.proofs.Common.{arith, refl}
use Rattle.names_sound.specs.Marks.{mix_of}
use Rattle.names_sound.proofs.Marking.{mix_last, mix_more}
use Rattle.names_sound.proofs.mark.mix_of.Goals as goal

pub loop-b-init : goal.loop-b-init
unfolding mix_of
loop-b-init c = (omega arith, refl)

pub loop-b-preserved : goal.loop-b-preserved
loop-b-preserved c = (omega (arith, c.mix-of.ensures), mix_more _ _ _ _ c.loop-b.invariant.1 c.loop-b-test.true c.mix-of.ensures)

pub returns : goal.returns
returns c = mix_last _ _ _ _ c.loop-b.invariant.1 c.loop-b-test.false c.mix.ensures
