use lib.Seq.{sets}
use mathlib.Core.Path.{ap, ◌∙◌}
use Rattle.file_save.proofs.WriteLaws.{block_written}
use Rattle.file_save.proofs.put_block.Goals as goal

pub returns : goal.returns
returns c = block_written c.args.names.now c.args.values.now c.args.store.now c.args.e c.requires _ _ _ _ _ _ (c.copy.ensures ∙ ap (sets _ 14) c.front.ensures) c.put.ensures (c.copy-2.ensures ∙ ap (sets _ _) c.front-2.ensures) (c.copy-3.ensures ∙ ap (sets _ _) c.front-3.ensures) c.copy-4.ensures
