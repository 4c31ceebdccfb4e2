use native.Mathlib.Omega.{arith}
use mathlib.Core.Path.{sym, ◌∙◌}
use Rattle.list_error.specs.ErrorLaws.{other_token, other_length, other_offset, mark_decides, end_small}
use Rattle.list_error.proofs.is_error_line.Goals as goal

pub returns-then-byte_at-ne-ERROR_TOKEN : goal.returns-then-byte_at-ne-ERROR_TOKEN
returns-then-byte_at-ne-ERROR_TOKEN c = other_token c.args.line.now (λ e. c.if-byte_at-ne-ERROR_TOKEN.true (c.byte_at.ensures ∙ e))

pub returns-then-byte_at-size : goal.returns-then-byte_at-size
returns-then-byte_at-size c = other_length c.args.line.now (λ e. c.if-byte_at-size.true (c.byte_at-2.ensures ∙ e))

pub returns-then-byte_at-size-2 : goal.returns-then-byte_at-size-2
returns-then-byte_at-size-2 c = other_offset c.args.line.now (λ e. c.if-byte_at-size-2.true (c.byte_at-3.ensures ∙ e))

pub overflow_add-result : goal.overflow_add-result
overflow_add-result c = omega (arith, c.well_formed, end_small c.args.line.now c.run_end.result c.run_end.ensures.0)

pub returns : goal.returns
returns c =
    mark_decides
    c.args.line.now
    c.run_end.result
    (sym c.byte_at.ensures ∙ c.if-byte_at-ne-ERROR_TOKEN.false)
    (sym c.byte_at-2.ensures ∙ c.if-byte_at-size.false)
    (sym c.byte_at-3.ensures ∙ c.if-byte_at-size-2.false)
    c.run_end.ensures.0
