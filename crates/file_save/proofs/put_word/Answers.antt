use lib.Seq.{sets}
use mathlib.Core.Path.{ap, ◌∙◌}
use native.Mathlib.Omega.{arith}
use Rattle.file_save.proofs.WriteLaws.{word_is}
use Rattle.file_save.proofs.put_word.Goals as goal

pub returns : goal.returns
returns c = c.copy.ensures ∙ ap (sets c.args.out.now c.args.at) (c.to_le_bytes.ensures ∙ word_is c.args.n (omega arith))
