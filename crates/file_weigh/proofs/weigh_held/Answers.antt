use Prim.Native.Nat.{◌+◌, ◌*◌}
use native.Mathlib.Omega.{arith}
use mathlib.Core.Path.{◌≡◌, subst}
use Rattle.std.specs.Prelude.{Some, None}
use Rattle.std.proofs.lemmas.Result.{err_from_is_err_and}
use Rattle.refusals.specs.declared.Refusal.TheVariants.{NotWellFormed}
use Rattle.file_load.specs.Lies.{lies}
use Rattle.list_weigh.specs.Weights.{Slight}
use Rattle.file_weigh.proofs.FileLaws.{part, slices_right, not_listable, counted}
use Rattle.file_weigh.proofs.weigh_held.Goals as goal

pub overflow_add-names_end : goal.overflow_add-names_end
overflow_add-names_end c = omega (arith, (lies c.args.file.now c.args.held c.requires.0).inside)

pub overflow_add-lines_at : goal.overflow_add-lines_at
overflow_add-lines_at c = omega (arith, (lies c.args.file.now c.args.held c.requires.0).inside)

pub overflow_mul-lines_at : goal.overflow_mul-lines_at
overflow_mul-lines_at c = omega (arith, (lies c.args.file.now c.args.held c.requires.0).inside)

pub overflow_add-lines_at-2 : goal.overflow_add-lines_at-2
overflow_add-lines_at-2 c = omega (arith, (lies c.args.file.now c.args.held c.requires.0).inside)

pub overflow_add-lines_end : goal.overflow_add-lines_end
overflow_add-lines_end c = omega (arith, (lies c.args.file.now c.args.held c.requires.0).inside)

pub slice_bounds-lines-end : goal.slice_bounds-lines-end
slice_bounds-lines-end c = omega (arith, (lies c.args.file.now c.args.held c.requires.0).inside)

pub slice_bounds-names-end : goal.slice_bounds-names-end
slice_bounds-names-end c = omega (arith, (lies c.args.file.now c.args.held c.requires.0).inside)

pub weigh_lines-requires : goal.weigh_lines-requires
weigh_lines-requires c = slices_right c.args.file.now c.requires.1 c.args.held c.requires.0 _ _ (part c.args.file.now 14 c.args.held.name_bytes) (part c.args.file.now (14 + c.args.held.name_bytes + 1 + 8 * c.args.held.name_count) c.args.held.used)

pub returns-in_err-weight : goal.returns-in_err-weight
returns-in_err-weight c =
    let p = err_from_is_err_and c.from_residual.result c.from_residual.ensures.1 in
    let none : c.weigh_lines.result ≡ None = grind arith in
    let why : c.in_err-weight.field-0.0 ≡ NotWellFormed = grind arith in
    rw (p.1, p.2, why) (not_listable c.args.file.now c.requires.1 c.args.held c.requires.0 _ _ (part c.args.file.now 14 c.args.held.name_bytes) (part c.args.file.now (14 + c.args.held.name_bytes + 1 + 8 * c.args.held.name_count) c.args.held.used) _ c.weigh_lines.ensures.0 none)

pub returns : goal.returns
unfolding Slight
returns c =
    let some : c.weigh_lines.result ≡ Some c.in_ok-weight.weight = grind arith in
    counted c.args.file.now c.requires.1 c.args.held c.requires.0 _ _ (part c.args.file.now 14 c.args.held.name_bytes) (part c.args.file.now (14 + c.args.held.name_bytes + 1 + 8 * c.args.held.name_count) c.args.held.used) _ c.weigh_lines.ensures.0 _ some (subst (Slight _) some c.weigh_lines.ensures.1)
