use native.Mathlib.Omega.{arith}
use Rattle.laws.specs.Classes.{operator_low}
use Rattle.list_check.proofs.Checking.{pass_operator, fail_given, fail_operator}
use Rattle.list_check.proofs.check_operator.Goals as goal

pub take_next-requires : goal.take_next-requires
take_next-requires c = (omega arith, omega (arith, c.operator_class.ensures, operator_low c.read_as-read.result))

pub returns : goal.returns
returns c = λ ns nd l at h end e. pass_operator (record { numbered = nd; inside = h; stands = e }) c.read_as-read.ensures c.operator_class.ensures c.take_next.ensures _ c.in_ok-taken.was c.given_operator.result c.given_operator.ensures c.if-given_operator-token.false

pub returns-then-given_operator-token : goal.returns-then-given_operator-token
returns-then-given_operator-token c = λ ns nd l at h end e. fail_given (record { numbered = nd; inside = h; stands = e }) c.read_as-read.ensures c.operator_class.ensures c.take_next.ensures _ c.in_ok-taken.was c.given_operator.result c.given_operator.ensures c.if-given_operator-token.true

pub returns-in_err-taken : goal.returns-in_err-taken
returns-in_err-taken c = rw c.from_residual.ensures (λ ns nd l at h end e. fail_operator (record { numbered = nd; inside = h; stands = e }) c.read_as-read.ensures c.operator_class.ensures c.take_next.ensures c.in_err-taken.was)
