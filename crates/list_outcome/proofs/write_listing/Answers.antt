use native.Mathlib.Omega.{arith}
use Rattle.paper.specs.Line.{line_number}
use Rattle.list_error.specs.ErrorLaws.{error_long, error_shown}
use Rattle.list_outcome.proofs.ErrorTexts.{head_short, error_in_turn}
use Rattle.list_outcome.proofs.write_listing.Goals as goal

pub write_head-n-requires : goal.write_head-n-requires
write_head-n-requires c = omega (arith, error_long c.args.line.now c.requires)

pub write_error-requires : goal.write_error-requires
write_error-requires c = (c.requires, omega (arith, c.write_head-n.ensures.size, head_short c.args.direct (line_number c.args.line.now)))

pub overflow_add-result : goal.overflow_add-result
overflow_add-result c = omega (arith, c.well_formed, c.write_error.ensures.size, c.write_head-n.ensures.size, error_shown c.args.line.now c.requires, head_short c.args.direct (line_number c.args.line.now))

pub returns : goal.returns
returns c =
    let a = c.args in
    error_in_turn a.direct a.line.now c.write_head-n.ensures c.write_error.ensures
