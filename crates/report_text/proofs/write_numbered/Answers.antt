use Rattle.report_text.specs.Fields.{numbered}
use Rattle.report_text.proofs.LineLaws.{line_written}
use Rattle.report_text.proofs.write_numbered.Goals as goal

pub returns : goal.returns
returns c = line_written c.args.name.now (numbered c.args.number c.args.c) c.write_answer.result c.copy.ensures c.write_answer.ensures.0 c.put.ensures
