use mathlib.Core.Path.{◌∙◌}
use native.Mathlib.Omega.{arith}
use Rattle.file_load.specs.WordLaws.{falls, goes_on, all_passed}
use Rattle.file_load.proofs.words_never_fall.Goals as goal

pub returns-then-word : goal.returns-then-word
returns-then-word c = falls c.args.file.now c.loop-i.i (omega arith) _ _ c.word.ensures.0 c.word-in-loop-i.ensures.0 (omega arith) ∙ c.loop-i.invariant

pub loop-i-preserved : goal.loop-i-preserved
loop-i-preserved c = goes_on c.args.file.now c.loop-i.i (omega arith) _ _ c.word.ensures.0 c.word-in-loop-i.ensures.0 (omega arith) ∙ c.loop-i.invariant

pub returns : goal.returns
returns c = all_passed c.args.file.now c.loop-i.i (omega arith) ∙ c.loop-i.invariant
