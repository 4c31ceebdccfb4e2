-- The loop keeps: the mix is that of the bytes passed, and mixed with those left it is the name's.
use Rattle.std.proofs.Common.{◌≡◌, ◌<◌, ◌++◌, ◌∷◌, [], drop}
use Rattle.names_form.specs.Names.{spelling}
use Rattle.names_sound.specs.Marks.{mix_of, mixed_on, mixes}
use Rattle.names_sound.proofs.mark.mix_of.Given as goal

abbrev pub invariant-loop-b : goal.invariant-loop-b
invariant-loop-b l = (l.of < mixes) × (mix_of (spelling l.name) ≡ mixed_on l.of (drop l.b-index l.name.front.now ++ l.name.last ∷ []))
