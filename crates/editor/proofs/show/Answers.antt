use Rattle.editor.proofs.TestLaws.{shown_names, show_so, show_refused}
use Rattle.editor.proofs.show.Goals as goal

pub returns-then-not-sound : goal.returns-then-not-sound
returns-then-not-sound c =
    let args = c.args in
    show_refused args.line.now args.names.now args.values.now args.out.now args.name_bytes args.name_count _ c.sound.ensures c.if-not-sound.true

pub show_sound-requires : goal.show_sound-requires
show_sound-requires c =
    let args = c.args in
    shown_names args.line.now args.names.now args.values.now args.out.now args.name_bytes args.name_count _ c.sound.ensures c.if-not-sound.false

pub returns : goal.returns
returns c =
    let args = c.args in
    show_so args.line.now args.names.now args.values.now args.out.now args.name_bytes args.name_count _ c.sound.ensures _ c.if-not-sound.false c.show_sound.ensures
