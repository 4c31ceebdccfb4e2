-- `program` meets its contract: the parts lie where the record says.
use native.Mathlib.Omega.{arith}
use Rattle.file_examine.specs.ExamineLaws.{lies_so, program_is}
use Rattle.file_examine.proofs.program.Goals as goal

pub overflow_add-names_end : goal.overflow_add-names_end
overflow_add-names_end c = omega (arith, (lies_so c.args.file.now c.args.held c.requires).inside)

pub overflow_add-values_at : goal.overflow_add-values_at
overflow_add-values_at c = omega (arith, (lies_so c.args.file.now c.args.held c.requires).inside)

pub overflow_mul-lines_at : goal.overflow_mul-lines_at
overflow_mul-lines_at c = omega (arith, (lies_so c.args.file.now c.args.held c.requires).inside)

pub overflow_add-lines_at : goal.overflow_add-lines_at
overflow_add-lines_at c = omega (arith, (lies_so c.args.file.now c.args.held c.requires).inside)

pub overflow_add-lines_end : goal.overflow_add-lines_end
overflow_add-lines_end c = omega (arith, (lies_so c.args.file.now c.args.held c.requires).inside)

pub slice_bounds-examine-end : goal.slice_bounds-examine-end
slice_bounds-examine-end c = omega (arith, (lies_so c.args.file.now c.args.held c.requires).inside)

pub slice_bounds-examine-end-2 : goal.slice_bounds-examine-end-2
slice_bounds-examine-end-2 c = omega (arith, (lies_so c.args.file.now c.args.held c.requires).inside)

pub slice_bounds-examine-end-3 : goal.slice_bounds-examine-end-3
slice_bounds-examine-end-3 c = omega (arith, (lies_so c.args.file.now c.args.held c.requires).inside)

pub returns : goal.returns
returns c = program_is c.args.file.now c.args.held c.requires _ c.examine.ensures
