use mathlib.Core.Path.{◌∙◌}
use Rattle.paper.specs.Words.{statements}
use Rattle.tokens.proofs.First.{first_found, statement_nowhere}
use Rattle.tokens.proofs.statement_word.Goals as goal

pub returns-in_err-first_statement : goal.returns-in_err-first_statement
returns-in_err-first_statement c = c.from_residual.ensures ∙ statement_nowhere c.args.name.now c.byte_at.ensures c.in_err-first_statement.ensures

pub find_statement-requires : goal.find_statement-requires
find_statement-requires c = first_found statements c.args.name.now c.byte_at.ensures c.in_ok-first_statement.ensures
