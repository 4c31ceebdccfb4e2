use Rattle.paper.specs.Calls.{names_of}
use Rattle.editor_edit.specs.States.{state}
use Rattle.editor_edit.specs.Sound.{table_sound, values_fit, counts_sound}
use Rattle.editor_accept.proofs.AnswerLaws.{answer_short, room_is, place_is, answer_8, answer_0}
use Rattle.editor_accept.proofs.accept.Goals as goal

pub returns-in-Some : goal.returns-in-Some
returns-in-Some c =
    let args = c.args in
    let s = state args.names.now args.values.now args.store.now args.e in
    answer_short args.names.now args.values.now args.store.now args.e (table_sound s c.requires.0) (values_fit s c.requires.0) args.place.number args.line.now args.size args.fresh.now _ _ _ c.shortage.ensures c.in-Some.is c.refused.ensures

pub put_in-requires : goal.put_in-requires
unfolding names_of
put_in-requires c =
    let args = c.args in
    let s = state args.names.now args.values.now args.store.now args.e in
    (counts_sound s _ c.from.ensures c.requires.0, place_is args.names.now args.values.now args.store.now args.e (table_sound s c.requires.0) (values_fit s c.requires.0) args.place.number args.line.now args.size args.fresh.now _ c.from.ensures _ c.shortage.ensures c.in_default.is _ c.front.ensures c.requires.2.ts args.place c.requires.2.written c.requires.1)

pub accepted-requires : goal.accepted-requires
accepted-requires c =
    let args = c.args in
    let s = state args.names.now args.values.now args.store.now args.e in
    room_is args.names.now args.values.now args.store.now args.e (table_sound s c.requires.0) (values_fit s c.requires.0) args.place.number args.line.now args.size args.fresh.now _ c.shortage.ensures c.in_default.is c.requires.2.written.closed

pub returns-in-None : goal.returns-in-None
returns-in-None c =
    let args = c.args in
    let s = state args.names.now args.values.now args.store.now args.e in
    answer_8 args.names.now args.values.now args.store.now args.e (table_sound s c.requires.0) (values_fit s c.requires.0) args.place.number args.line.now args.size args.fresh.now _ c.from.ensures _ c.shortage.ensures c.in_default.is _ c.front.ensures _ _ c.put_in.ensures.0 c.put_in.ensures.1 _ c.in-None.is c.refused-in-None.ensures

pub returns-in-Some-put_in : goal.returns-in-Some-put_in
returns-in-Some-put_in c =
    let args = c.args in
    let s = state args.names.now args.values.now args.store.now args.e in
    answer_0 args.names.now args.values.now args.store.now args.e (table_sound s c.requires.0) (values_fit s c.requires.0) args.place.number args.line.now args.size args.fresh.now _ c.from.ensures _ c.shortage.ensures c.in_default.is _ c.front.ensures _ _ c.put_in.ensures.0 c.put_in.ensures.1 _ _ _ _ c.in-Some-put_in.is c.accepted.ensures.0 c.accepted.ensures.1 c.accepted.ensures.2
