use Rattle.report_text.proofs.LineLaws.{refusal_line}
use Rattle.report_text.proofs.write_line.Goals as goal

pub returns-in-Err : goal.returns-in-Err
returns-in-Err c = refusal_line _ _ _ _ _ _ c.in-Err.is c.number.ensures c.no_columns.ensures c.write_numbered-in-Err.ensures
