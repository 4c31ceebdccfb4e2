use mathlib.Core.Path.{ap, ◌∙◌}
use Rattle.std.specs.Result.{result_ok}
use Rattle.std.proofs.lemmas.Result.{err_from_is_err_and}
use Rattle.editor_edit.specs.States.{state}
use Rattle.store.specs.Places.{own_place}
use Rattle.editor_sound.specs.Tests.{unsound_tables}
use Rattle.editor.proofs.TestLaws.{ok_or_none, sound_there, unsound_store, list_so, list_refused}
use Rattle.editor.proofs.list.Goals as goal

pub returns-then-not-sound : goal.returns-then-not-sound
returns-then-not-sound c =
    let args = c.args in
    list_refused (state args.names.now args.values.now args.store.now args.e) args.line args.out.now (unsound_tables (state args.names.now args.values.now args.store.now args.e) _ c.sound.ensures c.if-not-sound.true)

pub list_stored-requires : goal.list_stored-requires
list_stored-requires c =
    let args = c.args in
    let is = c.ok_or.ensures.ok_part ∙ ap result_ok c.in_ok-place.was in
    let there = sound_there (state args.names.now args.values.now args.store.now args.e) _ c.sound.ensures c.if-not-sound.false _ c.from.ensures args.line _ c.find.ensures _ is in
    (there.0, own_place args.line _ _ there.1)

pub returns-in_err-place : goal.returns-in_err-place
returns-in_err-place c =
    let args = c.args in
    let s = state args.names.now args.values.now args.store.now args.e in
    let none = ok_or_none _ _ _ c.ok_or.ensures.value c.in_err-place.was in
    let p = err_from_is_err_and c.from_residual.result c.from_residual.ensures.1 in
    rw (p.1, p.2, none.1) (list_refused s args.line args.out.now (unsound_store s _ c.sound.ensures c.if-not-sound.false _ c.from.ensures args.line _ c.find.ensures none.0))

pub returns : goal.returns
returns c =
    let args = c.args in
    let is = c.ok_or.ensures.ok_part ∙ ap result_ok c.in_ok-place.was in
    let there = sound_there (state args.names.now args.values.now args.store.now args.e) _ c.sound.ensures c.if-not-sound.false _ c.from.ensures args.line _ c.find.ensures _ is in
    list_so (state args.names.now args.values.now args.store.now args.e) args.line _ args.out.now _ there.0 there.1 c.list_stored.ensures
