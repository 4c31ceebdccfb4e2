use Rattle.tokens.proofs.Cuts.{statement_part_past, statement_part_at}
use Rattle.tokens.specs.Parts.{fixed_part}
use Rattle.tokens.proofs.statement_part.Goals as goal

pub returns-then-t-ge-STATEMENTS : goal.returns-then-t-ge-STATEMENTS
unfolding fixed_part
returns-then-t-ge-STATEMENTS c = statement_part_past c.args.token.0 c.if-t-ge-STATEMENTS.true

pub returns : goal.returns
unfolding fixed_part
returns c = statement_part_at c.args.token.0 c.if-t-ge-STATEMENTS.false c.statement_start.ensures c.statement_start-2.ensures
