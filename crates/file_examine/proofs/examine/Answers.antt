-- `examine` meets its contract, whatever opening the file found.
use mathlib.Core.Path.{sym, ap, ◌∙◌}
use Rattle.std.specs.Prelude.{Err}
use Rattle.refusals.specs.declared.Refusal.{Refusal}
use native.Mathlib.Omega.{arith}
use Rattle.file_examine.specs.Answers.{examined}
use Rattle.file_examine.specs.ExamineLaws.{tells_part, tells_number, tells_program, examined_program}
use Rattle.file_examine.proofs.examine.Goals as goal

pub returns-in-Ok : goal.returns-in-Ok
returns-in-Ok c = examined_program c.program.result c.map_err.result c.map_err.ensures.cases ∙ tells_program c.args.file.now c.in-Ok.held (sym c.«open».ensures ∙ c.in-Ok.is) _ c.program.ensures

pub returns-in-Err-Unsound : goal.returns-in-Err-Unsound
unfolding examined
returns-in-Err-Unsound c = tells_part c.args.file.now (sym c.«open».ensures ∙ c.in-Err-Unsound.is ∙ ap (λ (r : Refusal). Err r) c.in-Err-Unsound.field-0-is) _ c.unsound.ensures

pub returns-in-Err : goal.returns-in-Err
unfolding examined
returns-in-Err c = tells_number c.args.file.now c.in-Err.refusal (sym c.«open».ensures ∙ c.in-Err.is) (grind arith)
