use Rattle.editor_edit.specs.States.{state}
use Rattle.editor_edit.specs.Sound.{counts_sound, lies_counted}
use Rattle.editor_lines.proofs.AnswerLaws.{gone, absent}
use Rattle.editor_lines.proofs.take_out.Goals as goal

pub take_out-requires : goal.take_out-requires
take_out-requires c =
    let args = c.args in
    let s = state args.names.now args.values.now args.store.now args.e in
    (counts_sound s _ c.from.ensures c.requires.0, lies_counted s _ c.from.ensures args.place.number args.place c.requires.1)

pub returns-in-Some : goal.returns-in-Some
returns-in-Some c =
    let args = c.args in
    gone args.names.now args.values.now args.store.now args.e _ c.from.ensures args.place.number _ _ c.take_out.ensures.0 c.take_out.ensures.1 c.requires.0 _ _ c.in-Some.is c.with_counts.ensures

pub returns-in-None : goal.returns-in-None
returns-in-None c =
    let args = c.args in
    absent args.names.now args.values.now args.store.now args.e _ c.from.ensures args.place.number _ _ c.take_out.ensures.0 c.take_out.ensures.1 _ c.in-None.is c.refused.ensures
