use Rattle.std.proofs.Common.{arith}
use Rattle.report_text.proofs.LineLaws.{field_written}
use Rattle.report_text.proofs.write_field.Goals as goal

pub returns : goal.returns
returns c = (field_written c.args.number c.args.n c.write_number.result c.put.ensures c.write_number.ensures.0, omega (arith, c.write_number.ensures.1))
