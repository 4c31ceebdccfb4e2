use Rattle.tokens.proofs.Cuts.{part_none, operator_part_past, operator_part_at}
use Rattle.tokens.specs.Parts.{fixed_part}
use Rattle.tokens.proofs.operator_part.Goals as goal

pub returns-then-read-lt-FIRST_OPERATOR : goal.returns-then-read-lt-FIRST_OPERATOR
unfolding fixed_part
returns-then-read-lt-FIRST_OPERATOR c = part_none c.args.token c.read_as-read.ensures c.if-read-lt-FIRST_OPERATOR.true

pub returns-then-i-ge-OPERATORS : goal.returns-then-i-ge-OPERATORS
unfolding fixed_part
returns-then-i-ge-OPERATORS c = operator_part_past c.args.token c.read_as-read.ensures c.if-read-lt-FIRST_OPERATOR.false c.if-i-ge-OPERATORS.true

pub returns : goal.returns
unfolding fixed_part
returns c = operator_part_at c.args.token c.read_as-read.ensures c.if-read-lt-FIRST_OPERATOR.false c.if-i-ge-OPERATORS.false c.operator_start.ensures c.operator_start-2.ensures
