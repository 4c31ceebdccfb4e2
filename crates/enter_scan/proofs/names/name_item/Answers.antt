use native.Mathlib.Omega.{arith}
use Rattle.enter_scan.proofs.NameLaws.{name_bounds, name_code}
use Rattle.enter_scan.proofs.names.name_item.Goals as goal

pub overflow_sub-end : goal.overflow_sub-end
overflow_sub-end c = let run-end = c.run_end-letters in omega (arith, name_bounds c.args.part.now c.args.at run-end.ensures.0 (run-end.ensures.1 (omega arith)) c.past_dollar-end.ensures)

pub slice_bounds-kind_of_name-count : goal.slice_bounds-kind_of_name-count
slice_bounds-kind_of_name-count c = let run-end = c.run_end-letters in omega (arith, name_bounds c.args.part.now c.args.at run-end.ensures.0 (run-end.ensures.1 (omega arith)) c.past_dollar-end.ensures, run-end.ensures.0, run-end.ensures.1 (omega arith))

pub slice_bounds-kind_of_name-start : goal.slice_bounds-kind_of_name-start
slice_bounds-kind_of_name-start c = let run-end = c.run_end-letters in omega (arith, name_bounds c.args.part.now c.args.at run-end.ensures.0 (run-end.ensures.1 (omega arith)) c.past_dollar-end.ensures, run-end.ensures.0, run-end.ensures.1 (omega arith))

pub slice_bounds-kind_of_name-end : goal.slice_bounds-kind_of_name-end
slice_bounds-kind_of_name-end c = let run-end = c.run_end-letters in omega (arith, name_bounds c.args.part.now c.args.at run-end.ensures.0 (run-end.ensures.1 (omega arith)) c.past_dollar-end.ensures, run-end.ensures.0, run-end.ensures.1 (omega arith))

pub returns : goal.returns
returns c = let run-end = c.run_end-letters in let past-dollar = c.past_dollar-end in name_code c.args.part.now c.args.at run-end.result past-dollar.result run-end.ensures.0 past-dollar.ensures c.args.first c.byte_at.ensures c.byte_at-2.ensures c.variable-other.ensures c.kind_of_name.ensures
