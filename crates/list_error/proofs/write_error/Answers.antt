use native.Mathlib.Omega.{arith}
use Rattle.paper.specs.Bytes.{bytes}
use Rattle.list_error.specs.ErrorLaws.{error_long, error_written}
use Rattle.list_error.proofs.write_error.Goals as goal

pub overflow_sub-end : goal.overflow_sub-end
overflow_sub-end c = omega (arith, error_long c.args.line.now c.requires.0)

pub slice_bounds-copy-count : goal.slice_bounds-copy-count
slice_bounds-copy-count c = omega (arith, error_long c.args.line.now c.requires.0)

pub slice_bounds-copy-start : goal.slice_bounds-copy-start
slice_bounds-copy-start c = omega (arith, error_long c.args.line.now c.requires.0)

pub returns : goal.returns
unfolding bytes
returns c = error_written c.args.line.now c.requires.0 c.copy.ensures c.copy-2.ensures
