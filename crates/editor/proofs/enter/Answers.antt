use mathlib.Core.Path.{ap, ◌∙◌}
use native.Mathlib.Omega.{arith}
use Rattle.store.specs.Answers.{found_answer}
use Rattle.editor_edit.specs.States.{state}
use Rattle.editor_sound.specs.Tests.{unsound_tables}
use Rattle.editor.proofs.TestLaws.{names_within, sound_there, unsound_store, typed_refused}
use Rattle.editor.proofs.enter.Goals as goal

pub read-reading-requires : goal.read-reading-requires
read-reading-requires c =
    let args = c.args in
    let s = state args.names.now args.values.now args.store.now args.e in
    (names_within s _ c.sound.ensures c.if-not-sound.false, omega arith, omega arith)

pub edit-requires : goal.edit-requires
edit-requires c =
    let args = c.args in
    let s = state args.names.now args.values.now args.store.now args.e in
    let there = sound_there s _ c.sound.ensures c.if-not-sound.false _ c.from.ensures _ _ (c.find.ensures ∙ ap (found_answer args.store.now _) c.asked.ensures) c.in-Some.place c.in-Some.is in
    (there.0, there.1, c.read-reading.ensures.ready)

pub returns-in-None : goal.returns-in-None
returns-in-None c =
    let args = c.args in
    let s = state args.names.now args.values.now args.store.now args.e in
    typed_refused args.names.now args.values.now args.store.now args.line.now args.e args.keep args.text.now _
    (unsound_store s _ c.sound.ensures c.if-not-sound.false _ c.from.ensures _ _ (c.find.ensures ∙ ap (found_answer args.store.now _) c.asked.ensures) c.in-None.is) c.refused-in-None.ensures

pub returns-in-Some : goal.returns-in-Some
returns-in-Some c =
    let args = c.args in
    let s = state args.names.now args.values.now args.store.now args.e in
    let there = sound_there s _ c.sound.ensures c.if-not-sound.false _ c.from.ensures _ _ (c.find.ensures ∙ ap (found_answer args.store.now _) c.asked.ensures) c.in-Some.place c.in-Some.is in
    c.read-reading.ensures.gives args.values.now args.store.now args.line.now there.0 _ c.edit.ensures

pub returns-then-not-sound : goal.returns-then-not-sound
returns-then-not-sound c =
    let args = c.args in
    let s = state args.names.now args.values.now args.store.now args.e in
    typed_refused args.names.now args.values.now args.store.now args.line.now args.e args.keep args.text.now _ (unsound_tables s _ c.sound.ensures c.if-not-sound.true) c.refused.ensures
