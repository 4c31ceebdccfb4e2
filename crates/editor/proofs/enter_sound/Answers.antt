use mathlib.Core.Path.{ap, ◌∙◌}
use native.Mathlib.Omega.{arith}
use Prim.Native.Nat.{ℕ}
use Rattle.paper.specs.Calls.{lines_of}
use Rattle.paper.specs.Direct.{Typed, same_buffer}
use Rattle.store.specs.Answers.{place_of}
use Rattle.editor_edit.specs.States.{state}
use Rattle.editor_edit.specs.Sound.{table_sound, lines_kept, counts_sound}
use Rattle.editor.proofs.enter_sound.Goals as goal

pub read-reading-requires : goal.read-reading-requires
read-reading-requires c =
    let args = c.args in
    let s = state args.names.now args.values.now args.store.now args.e in
    ((table_sound s c.requires).within, omega arith, omega arith)

pub find_sound-place-requires : goal.find_sound-place-requires
find_sound-place-requires c =
    let args = c.args in
    let s = state args.names.now args.values.now args.store.now args.e in
    counts_sound s _ c.from.ensures c.requires

pub edit-requires : goal.edit-requires
edit-requires c =
    let args = c.args in
    let s = state args.names.now args.values.now args.store.now args.e in
    let there = c.find_sound-place.ensures ∙ ap (place_of _) (lines_kept s _ c.from.ensures) ∙ ap (λ (n : ℕ). place_of n (lines_of s)) c.asked.ensures in
    (c.requires, there, c.read-reading.ensures.ready)

pub returns : goal.returns
unfolding same_buffer
returns c =
    let args = c.args in
    let s = state args.names.now args.values.now args.store.now args.e in
    ap (λ (o : Typed). o.entered) (c.read-reading.ensures.gives args.values.now args.store.now _ c.requires _ c.edit.ensures)
