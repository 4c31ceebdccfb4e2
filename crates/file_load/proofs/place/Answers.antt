use Prim.Native.Nat.{◌+◌, ◌*◌}
use lib.Seq.{sets}
use mathlib.Core.Path.{ap, ◌∙◌}
use Rattle.file_load.proofs.PlaceLaws.{names_short, values_short, store_short, part, copied}
use native.Mathlib.Omega.{arith}
use Rattle.file_load.specs.Lies.{lies}
use Rattle.file_load.proofs.place.Goals as goal
use Rattle.file_load.proofs.place.Goals.{then-names-held-via-then-names-held, then-names-held-via-else-names-held+then-values-value_bytes, then-names-held-via-else-names-held+else-values-value_bytes+then-room_of-held}

pub overflow_add-names_end : goal.overflow_add-names_end
overflow_add-names_end c = omega (arith, (lies c.args.file.now c.args.held c.requires).inside)

pub overflow_add-values_at : goal.overflow_add-values_at
overflow_add-values_at c = omega (arith, (lies c.args.file.now c.args.held c.requires).inside)

pub overflow_mul-value_bytes : goal.overflow_mul-value_bytes
overflow_mul-value_bytes c = omega (arith, (lies c.args.file.now c.args.held c.requires).inside)

pub overflow_add-lines_at : goal.overflow_add-lines_at
overflow_add-lines_at c = omega (arith, (lies c.args.file.now c.args.held c.requires).inside)

pub overflow_add-lines_end : goal.overflow_add-lines_end
overflow_add-lines_end c = omega (arith, (lies c.args.file.now c.args.held c.requires).inside)

pub returns-then-names-held : goal.returns-then-names-held
returns-then-names-held c =
    λ e.
    let l = lies c.args.file.now c.args.held c.requires in
    elim c.then-names-held.branch [
      | then-names-held-via-then-names-held w ↦ names_short c.args.file.now c.args.names.now c.args.values.now c.args.store.now e c.args.held l (omega arith)
      | then-names-held-via-else-names-held+then-values-value_bytes w ↦ values_short c.args.file.now c.args.names.now c.args.values.now c.args.store.now e c.args.held l (omega arith)
      | then-names-held-via-else-names-held+else-values-value_bytes+then-room_of-held w ↦ store_short c.args.file.now c.args.names.now c.args.values.now c.args.store.now e c.args.held l (omega (arith, w.room_of.ensures))
    ]

pub slice_bounds-copy-end : goal.slice_bounds-copy-end
slice_bounds-copy-end c = omega (arith, (lies c.args.file.now c.args.held c.requires).inside)

pub slice_bounds-copy-end-2 : goal.slice_bounds-copy-end-2
slice_bounds-copy-end-2 c = omega (arith, (lies c.args.file.now c.args.held c.requires).inside)

pub slice_bounds-copy-end-3 : goal.slice_bounds-copy-end-3
slice_bounds-copy-end-3 c = omega (arith, (lies c.args.file.now c.args.held c.requires).inside)

pub returns : goal.returns
returns c = λ e. copied c.args.file.now c.args.names.now c.args.values.now c.args.store.now e c.args.held (lies c.args.file.now c.args.held c.requires) (omega arith) (omega arith) (omega (arith, c.room_of.ensures)) _ _ _ (c.copy.ensures ∙ ap (sets _ 0) (part c.args.file.now 14 (14 + c.args.held.name_bytes) c.args.held.name_bytes (omega arith))) (c.copy-2.ensures ∙ ap (sets _ 0) (part c.args.file.now (14 + c.args.held.name_bytes + 1) (14 + c.args.held.name_bytes + 1 + 8 * c.args.held.name_count) (8 * c.args.held.name_count) (omega arith))) (c.copy-3.ensures ∙ ap (sets _ 0) (part c.args.file.now (14 + c.args.held.name_bytes + 1 + 8 * c.args.held.name_count) (14 + c.args.held.name_bytes + 1 + 8 * c.args.held.name_count + c.args.held.used) c.args.held.used (omega arith)))
