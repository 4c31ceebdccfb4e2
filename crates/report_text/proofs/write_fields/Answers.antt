use Rattle.std.proofs.Common.{refl, arith, ◌∙◌}
use Rattle.report_text.proofs.LineLaws.{fields_none, fields_more}
use Rattle.report_text.proofs.write_fields.Goals as goal

pub loop-number-init : goal.loop-number-init
loop-number-init c = (omega arith, refl, fields_none c.args.numbers.now c.args.n c.args.out.now)

pub loop-number-preserved : goal.loop-number-preserved
loop-number-preserved c =
    let l = c.loop-number in (
      omega (arith, l.invariant.0, c.write_field-written.ensures.1),
      c.write_field-written.auto.out ∙ l.invariant.1,
      fields_more c.args.numbers.now l.number-index c.args.n l.written c.write_field-written.result (omega arith) l.invariant.2 c.write_field-written.ensures.0,
    )
