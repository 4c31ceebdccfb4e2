use native.Mathlib.Omega.{arith}
use Rattle.editor_edit.specs.States.{state}
use Rattle.editor_list.proofs.ListLaws.{names_sound, lies_there, not_stored, listed_so, part_is}
use Rattle.editor_list.proofs.list_stored.Goals as goal

pub returns-then-place-eq0 : goal.returns-then-place-eq0
returns-then-place-eq0 c =
    let args = c.args in
    not_stored (state args.names.now args.values.now args.store.now args.e) c.requires.0 args.place.number args.place c.requires.1 args.out.now c.if-place-eq0.true

pub overflow_add-line : goal.overflow_add-line
overflow_add-line c =
    let args = c.args in
    omega (arith, lies_there (state args.names.now args.values.now args.store.now args.e) c.requires.0 args.place.number args.place c.requires.1)

pub slice_bounds-line-end : goal.slice_bounds-line-end
slice_bounds-line-end c =
    let args = c.args in
    omega (arith, lies_there (state args.names.now args.values.now args.store.now args.e) c.requires.0 args.place.number args.place c.requires.1)

pub list-requires : goal.list-requires
list-requires c =
    let args = c.args in
    names_sound (state args.names.now args.values.now args.store.now args.e) c.requires.0

pub returns : goal.returns
returns c =
    let args = c.args in
    listed_so (state args.names.now args.values.now args.store.now args.e) c.requires.0 args.place.number args.place c.requires.1 _ args.out.now _ _ c.if-place-eq0.false (part_is args.place.at args.place.size args.store.now) c.list.ensures
