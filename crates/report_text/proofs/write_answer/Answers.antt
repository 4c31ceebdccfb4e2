use Rattle.std.proofs.Common.{arith}
use Rattle.paper.specs.Bytes.{bytes}
use Rattle.report_text.specs.Fields.{numbered}
use Rattle.report_text.proofs.LineLaws.{columns_written, refused_written}
use Rattle.report_text.proofs.write_answer.Goals as goal

pub returns-then-refused : goal.returns-then-refused
unfolding bytes
returns-then-refused c =
    (refused_written (numbered c.args.number c.args.c) c.args.n c.write_field.result (λ z. omega (arith, z)) c.copy.ensures c.write_field.ensures.0, omega (arith, c.write_field.ensures.1))

pub returns-else-refused : goal.returns-else-refused
returns-else-refused c = (columns_written c.args.number c.args.c _ _ (omega arith) c.write_columns.ensures.0, c.write_columns.ensures.1)
