use Rattle.list_text.specs.InTurn.{as_text}
use Rattle.file_weigh.specs.Answers.{columns}
use Rattle.report_text.proofs.LineLaws.{columns_fields}
use Rattle.report_text.proofs.write_columns.Goals as goal

pub returns : goal.returns
returns c = (as_text c.write_fields.ensures.0 (columns_fields (columns c.args.c)), c.write_fields.ensures.1)
