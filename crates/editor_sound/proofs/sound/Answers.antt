use Rattle.editor_edit.specs.States.{state}
use Rattle.editor_sound.specs.Tests.{store_decides, unsound_tables}
use Rattle.editor_sound.proofs.sound.Goals as goal

pub returns-then-sound : goal.returns-then-sound
returns-then-sound c =
    let args = c.args in
    store_decides (state args.names.now args.values.now args.store.now args.e) _ c.sound.ensures c.if-sound.true _ c.from.ensures _ c.sound-then-sound.ensures

pub returns-else-sound : goal.returns-else-sound
returns-else-sound c =
    let args = c.args in
    let no = c.if-sound.false in
    let unsound = unsound_tables (state args.names.now args.values.now args.store.now args.e) _ c.sound.ensures no in
    cc
