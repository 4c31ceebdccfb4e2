-- What a row of the grammar gives for an operator.
use Rattle.std.specs.Prelude.{ℕ, ◌+◌, ◌≡◌, refl}
use Rattle.paper.specs.Tokens.{operator}
use Rattle.paper.specs.Grammar.{Gives, itself, for_strings, as_prefix, put, moved, given}

-- the operator that is given for the operator j
unfoldable pub given_operator : Gives → ℕ → ℕ
given_operator itself j = j
given_operator for_strings j = j + 0x12
given_operator as_prefix j = j + 0x10
given_operator (put k) j = k

-- what a row gives for an operator is an operator
pub operator_given : (e : Gives) (j : ℕ) → given e (operator j) ≡ operator (given_operator e j)
unfolding given moved given_operator
operator_given itself j = refl
operator_given for_strings j = refl
operator_given as_prefix j = refl
operator_given (put k) j = refl
