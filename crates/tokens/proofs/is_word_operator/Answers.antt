use native.Mathlib.Omega.{arith}
use Rattle.std.proofs.lemmas.Bool.Decides.{nat_tests}
use Rattle.paper.specs.Words.{word_operator?}
use Rattle.tokens.proofs.is_word_operator.Goals as goal

pub returns-in-23-to-27 : goal.returns-in-23-to-27
unfolding word_operator?
returns-in-23-to-27 c = grind (arith, nat_tests)

pub returns-in-23-to-27-2 : goal.returns-in-23-to-27-2
unfolding word_operator?
returns-in-23-to-27-2 c = grind (arith, nat_tests)

pub returns-in_default : goal.returns-in_default
unfolding word_operator?
returns-in_default c = grind (arith, nat_tests)

pub returns-in_default-2 : goal.returns-in_default-2
unfolding word_operator?
returns-in_default-2 c = grind (arith, nat_tests)

pub returns-in_default-3 : goal.returns-in_default-3
unfolding word_operator?
returns-in_default-3 c = grind (arith, nat_tests)
