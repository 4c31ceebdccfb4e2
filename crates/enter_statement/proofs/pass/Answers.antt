use native.Mathlib.Omega.{arith}
use mathlib.Core.Path.{sym, ◌∙◌}
use mathlib.Core.Bool.{false}
use Rattle.enter_statement.specs.Stacks.{fine_own, fine_sign}
use Rattle.enter_statement.specs.Moves.{passes_constant, passes_other, given_itself, took_given}
use Rattle.enter_statement.proofs.pass.Goals as goal

pub constant-requires : goal.constant-requires
constant-requires c = (c.requires.0, (false, (c.requires.1.sees, (sym c.requires.1.class ∙ c.in-3.is))))

pub quoted-requires : goal.quoted-requires
quoted-requires c = (c.requires.0, c.requires.1.sees, (sym c.requires.1.class ∙ c.in-4.is))

pub variable-requires : goal.variable-requires
variable-requires c = let if1 = c.if-found-le-ARRAY in let match = c.in_default.in_default-own in (c.requires.0, c.requires.1.sees, omega (arith, (fine_own _ _ c.requires.2 if1.true).0, c.requires.1.class, match.rest.0.1, match.rest.1), omega (arith, c.requires.1.class, if1.true))

pub returns-in-3 : goal.returns-in-3
returns-in-3 c = passes_constant (fine_own _ _ c.requires.2 (omega (arith, c.in-3.is))).1 (c.constant.ensures false c.requires.1.sees (sym c.requires.1.class ∙ c.in-3.is))

pub returns-in-4 : goal.returns-in-4
returns-in-4 c = passes_other (λ e. absurd (omega (arith, e, (sym c.requires.1.class ∙ c.in-4.is)))) (given_itself (fine_own _ _ c.requires.2 (omega (arith, c.in-4.is))).1 c.quoted.ensures)

pub returns-then-found-le-ARRAY : goal.returns-then-found-le-ARRAY
returns-then-found-le-ARRAY c = passes_other (λ e. c.in_default.in_default-own.rest.0.1 (c.requires.1.class ∙ e)) (given_itself (fine_own _ _ c.requires.2 c.if-found-le-ARRAY.true).1 c.variable.ensures)

pub returns-else-found-le-ARRAY : goal.returns-else-found-le-ARRAY
returns-else-found-le-ARRAY c = passes_other (λ e. c.in_default.in_default-own.rest.0.1 (c.requires.1.class ∙ e)) (took_given _ _ _ (fine_sign _ _ c.requires.2 c.if-found-le-ARRAY.false) c.requires.0 (c.requires.1.next _ _) (sym c.requires.1.class) c.requires.1.own c.given_operator.ensures c.token.ensures.0 c.token.ensures.1)
