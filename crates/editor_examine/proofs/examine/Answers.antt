use mathlib.Core.Path.{sym, ◌∙◌}
use native.Mathlib.Omega.{arith}
use lib.Seq.{length-take-le}
use Rattle.laws.specs.Lines.{room_lent}
use Rattle.editor_examine.specs.Verdicts.{verdict}
use Rattle.editor_examine.proofs.ExamineLaws.{names_unsound, own_names, values_unsound, store_over, lines_decide}
use Rattle.editor_examine.proofs.examine.Goals as goal

pub returns-then-not-sound_table : goal.returns-then-not-sound_table
unfolding verdict
returns-then-not-sound_table c = names_unsound c.args.names.now c.args.name_bytes c.args.name_count c.args.values.now c.args.store.now c.args.used _ c.sound_table.ensures (c.if-not-sound_table.true)

pub returns-then-not-values_fit : goal.returns-then-not-values_fit
unfolding verdict
returns-then-not-values_fit c = values_unsound c.args.names.now c.args.name_bytes c.args.name_count c.args.values.now c.args.store.now c.args.used _ c.sound_table.ensures (c.if-not-sound_table.false) _ c.values_fit.ensures (c.if-not-values_fit.true)

pub returns-then-room_of-used : goal.returns-then-room_of-used
unfolding verdict
returns-then-room_of-used c = store_over c.args.names.now c.args.name_bytes c.args.name_count c.args.values.now c.args.store.now c.args.used _ c.sound_table.ensures (c.if-not-sound_table.false) _ c.values_fit.ensures (c.if-not-values_fit.false) (omega (arith, c.room_of.ensures, c.if-room_of-used.true))

pub slice_bounds-examine_lines-end : goal.slice_bounds-examine_lines-end
slice_bounds-examine_lines-end c = sym (length-take-le _ _ (omega (arith, c.room_of.ensures, c.if-room_of-used.false, room_lent c.args.store.now)))

pub examine_lines-requires : goal.examine_lines-requires
examine_lines-requires c = own_names c.args.names.now c.args.name_bytes c.args.name_count c.args.values.now c.args.store.now c.args.used _ c.sound_table.ensures (c.if-not-sound_table.false)

pub returns : goal.returns
returns c = c.examine_lines.ensures ∙ lines_decide c.args.names.now c.args.name_bytes c.args.name_count c.args.values.now c.args.store.now c.args.used _ c.sound_table.ensures (c.if-not-sound_table.false) _ c.values_fit.ensures (c.if-not-values_fit.false) (omega (arith, c.room_of.ensures, c.if-room_of-used.false))
