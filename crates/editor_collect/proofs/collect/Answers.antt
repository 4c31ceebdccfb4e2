use Prim.Native.Nat.{ℕ}
use mathlib.Core.Path.{sym, ◌∙◌}
use lib.ListN.{length-replicate}
use lib.Seq.{length-take-le}
use Rattle.paper.specs.Calls.{names_of, lines_of}
use Rattle.editor_edit.specs.States.{state}
use Rattle.editor_collect.proofs.Collects.{refused_unsound, own_names, lent, whole_lines, refused_lines, tabled, portable, collects}
use Rattle.editor_collect.proofs.collect.Goals as goal

pub returns-then-not-sound : goal.returns-then-not-sound
unfolding names_of lines_of
returns-then-not-sound c = refused_unsound (state c.args.names.now c.args.values.now c.args.store.now c.args.e) c.sound.ensures (c.if-not-sound.true)

pub slice_bounds-mark_lines-end : goal.slice_bounds-mark_lines-end
unfolding names_of lines_of
slice_bounds-mark_lines-end c = lent (state c.args.names.now c.args.values.now c.args.store.now c.args.e) c.sound.ensures (c.if-not-sound.false)

pub slice_bounds-mark_lines-end-2 : goal.slice_bounds-mark_lines-end-2
unfolding names_of lines_of
slice_bounds-mark_lines-end-2 c = sym (length-take-le _ _ (lent (state c.args.names.now c.args.values.now c.args.store.now c.args.e) c.sound.ensures (c.if-not-sound.false)))

pub mark_lines-requires : goal.mark_lines-requires
unfolding names_of lines_of
mark_lines-requires c = (whole_lines (state c.args.names.now c.args.values.now c.args.store.now c.args.e) c.sound.ensures (c.if-not-sound.false), own_names (state c.args.names.now c.args.values.now c.args.store.now c.args.e) c.sound.ensures (c.if-not-sound.false))

pub returns-then-not-mark_lines : goal.returns-then-not-mark_lines
unfolding names_of lines_of
returns-then-not-mark_lines c = refused_lines (state c.args.names.now c.args.values.now c.args.store.now c.args.e) c.sound.ensures (c.if-not-sound.false) c.mark_lines.ensures.0 (c.if-not-mark_lines.true)

pub keep_marked-left-requires : goal.keep_marked-left-requires
unfolding names_of lines_of
keep_marked-left-requires c = (tabled (state c.args.names.now c.args.values.now c.args.store.now c.args.e) c.sound.ensures (c.if-not-sound.false), (c.mark_lines.auto.marks ∙ length-replicate {A = ℕ} 256 0))

pub carry_lines-bytes-requires : goal.carry_lines-bytes-requires
unfolding names_of lines_of
carry_lines-bytes-requires c = (lent (state c.args.names.now c.args.values.now c.args.store.now c.args.e) c.sound.ensures (c.if-not-sound.false), whole_lines (state c.args.names.now c.args.values.now c.args.store.now c.args.e) c.sound.ensures (c.if-not-sound.false), portable (state c.args.names.now c.args.values.now c.args.store.now c.args.e) c.sound.ensures (c.if-not-sound.false) c.mark_lines.ensures.0 (c.if-not-mark_lines.false) _ (c.mark_lines.auto.marks ∙ length-replicate {A = ℕ} 256 0) (c.mark_lines.ensures.1 (c.if-not-mark_lines.false)) c.keep_marked-left.ensures)

pub returns : goal.returns
unfolding names_of lines_of
returns c = collects (state c.args.names.now c.args.values.now c.args.store.now c.args.e) c.sound.ensures (c.if-not-sound.false) c.mark_lines.ensures.0 (c.if-not-mark_lines.false) _ (c.mark_lines.auto.marks ∙ length-replicate {A = ℕ} 256 0) (c.mark_lines.ensures.1 (c.if-not-mark_lines.false)) c.keep_marked-left.ensures c.carry_lines-bytes.ensures
