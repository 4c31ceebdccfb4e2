use Rattle.paper.specs.Bytes.{bytes}
use Rattle.file_weigh.specs.Answers.{columns}
use Rattle.report_text.proofs.LineLaws.{total_written}
use Rattle.report_text.proofs.write_total.Goals as goal

pub returns : goal.returns
unfolding bytes
returns c = total_written (columns c.args.c) c.write_columns-end.result c.copy.ensures c.write_columns-end.ensures.0 c.put.ensures
