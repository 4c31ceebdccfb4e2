use mathlib.Core.Path.{ap, ◌∙◌}
use Rattle.std.specs.Prelude.{Ok}
use Rattle.editor_edit.specs.States.{state}
use Rattle.editor_edit.specs.Sound.{table_sound, values_fit}
use Rattle.editor.proofs.ReadingLaws.{own_lies, edits_refused, readable_direct, edits_direct, edits_delete, readable, edits_line, lies_kept, edits_kept}
use Rattle.editor.proofs.readings.edit.Goals as goal

pub take_out-requires : goal.take_out-requires
take_out-requires c =
    let args = c.args in
    let s = state args.names.now args.values.now args.store.now args.e in
    (c.requires.0, own_lies s args.place args.reading c.requires.1)

pub accept_direct-requires : goal.accept_direct-requires
accept_direct-requires c =
    let args = c.args in
    let s = state args.names.now args.values.now args.store.now args.e in
    (table_sound s c.requires.0, values_fit s c.requires.0, readable_direct args.names.now args.values.now args.store.now args.e args.buffer.now args.draft.now.line args.draft.now.fresh args.reading _ (c.in-Ok.is ∙ ap Ok c.in-Read.is) _ c.front-new.ensures c.if-l-eq-DIRECT_NUMBER.true c.requires.2)

pub accept-requires : goal.accept-requires
accept-requires c =
    let args = c.args in
    let s = state args.names.now args.values.now args.store.now args.e in
    (c.requires.0, own_lies s args.place args.reading c.requires.1, readable args.names.now args.values.now args.store.now args.e args.buffer.now args.draft.now.line args.draft.now.fresh args.reading args.place c.requires.1 _ (c.in-Ok.is ∙ ap Ok c.in-Read.is) _ c.front-new.ensures c.requires.2)

pub keep-requires : goal.keep-requires
keep-requires c =
    let args = c.args in
    (c.requires.0, lies_kept args.names.now args.values.now args.store.now args.e args.buffer.now args.draft.now.line args.draft.now.fresh args.reading args.place c.requires.1 _ _ _ c.front.ensures (c.in-Ok.is ∙ ap Ok c.in-Kept.is) c.requires.2)

pub returns-in-Err : goal.returns-in-Err
returns-in-Err c =
    let args = c.args in
    edits_refused args.names.now args.values.now args.store.now args.e args.buffer.now args.draft.now.line args.draft.now.fresh args.reading _ _ c.in-Err.is c.refused_at.ensures

pub returns-in-Delete : goal.returns-in-Delete
returns-in-Delete c =
    let args = c.args in
    edits_delete args.names.now args.values.now args.store.now args.e args.buffer.now args.draft.now.line args.draft.now.fresh args.reading args.place c.requires.1 _ _ _ (c.in-Ok.is ∙ ap Ok c.in-Delete.is) c.take_out.ensures

pub returns-then-l-eq-DIRECT_NUMBER : goal.returns-then-l-eq-DIRECT_NUMBER
returns-then-l-eq-DIRECT_NUMBER c =
    let args = c.args in
    edits_direct args.names.now args.values.now args.store.now args.e args.buffer.now args.draft.now.line args.draft.now.fresh args.reading _ (c.in-Ok.is ∙ ap Ok c.in-Read.is) _ c.front-new.ensures c.if-l-eq-DIRECT_NUMBER.true _ _ _ _ c.accept_direct.ensures

pub returns-else-l-eq-DIRECT_NUMBER : goal.returns-else-l-eq-DIRECT_NUMBER
returns-else-l-eq-DIRECT_NUMBER c =
    let args = c.args in
    edits_line args.names.now args.values.now args.store.now args.e args.buffer.now args.draft.now.line args.draft.now.fresh args.reading args.place c.requires.1 _ (c.in-Ok.is ∙ ap Ok c.in-Read.is) _ c.front-new.ensures _ _ _ _ c.if-l-eq-DIRECT_NUMBER.false c.accept.ensures

pub returns-in-Kept : goal.returns-in-Kept
returns-in-Kept c =
    let args = c.args in
    edits_kept args.names.now args.values.now args.store.now args.e args.buffer.now args.draft.now.line args.draft.now.fresh args.reading _ _ _ _ _ c.front.ensures (c.in-Ok.is ∙ ap Ok c.in-Kept.is) c.keep.ensures
