use Rattle.editor_edit.specs.States.{state}
use Rattle.editor_edit.specs.Sound.{counts_sound}
use Rattle.editor_lines.proofs.AnswerLaws.{place_kept, kept_8, kept_4}
use Rattle.editor_lines.proofs.keep.Goals as goal

pub put_in-requires : goal.put_in-requires
put_in-requires c = (counts_sound (state c.args.names.now c.args.values.now c.args.store.now c.args.editor) _ c.from.ensures c.requires.0, place_kept c.args.names.now c.args.values.now c.args.store.now c.args.editor _ c.from.ensures c.requires.0 c.args.error_line.now c.args.wrong c.args.place c.requires.1)

pub returns-in-None : goal.returns-in-None
returns-in-None c = kept_8 c.args.names.now c.args.values.now c.args.store.now c.args.editor _ c.from.ensures c.requires.0 c.args.error_line.now c.args.wrong _ _ c.put_in.ensures.0 c.put_in.ensures.1 _ c.in-None.is c.refused.ensures

pub returns-in-Some : goal.returns-in-Some
returns-in-Some c = kept_4 c.args.names.now c.args.values.now c.args.store.now c.args.editor _ c.from.ensures c.requires.0 c.args.error_line.now c.args.wrong _ _ c.put_in.ensures.0 c.put_in.ensures.1 _ _ c.in-Some.is c.with_counts.ensures
