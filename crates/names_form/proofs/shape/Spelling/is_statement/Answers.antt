use Rattle.std.proofs.Common.{rules}
use Rattle.paper.specs.Words.{statement_word?}
use Rattle.names_form.proofs.Shapes.{long_statement, some_statement, found_short}
use Rattle.names_form.proofs.shape.Spelling.is_statement.Goals as goal

pub returns : goal.returns
returns c = found_short c.bare.result statement_word? _ _ long_statement c.bare.ensures c.is_some_and.ensures (λ w k. search (rules, some_statement))
