use Rattle.std.proofs.Common.{◌≡◌, ◌+◌, sym, ap, ◌∙◌, arith, ne_eqb}
use Rattle.paper.specs.Tokens.{operator}
use Rattle.paper.specs.Grammar.{given, moved}
use Rattle.grammar.specs.Stack.{gives_of}
use Rattle.grammar.proofs.given_operator.Goals as goal

pub returns-in-0 : goal.returns-in-0
unfolding given moved gives_of
returns-in-0 c = λ h. sym (ap (λ g. given (gives_of g) (operator c.args.own)) c.in-0.is)

pub returns-in-1 : goal.returns-in-1
unfolding given moved gives_of
returns-in-1 c = let a = c.args in λ h. (let e : c.wrapping_add_u8.result ≡ a.own + 0x12 = omega (arith, c.wrapping_add_u8.ensures) in ap operator e) ∙ sym (ap (λ g. given (gives_of g) (operator a.own)) c.in-1.is)

pub returns-in-2 : goal.returns-in-2
unfolding given moved gives_of
returns-in-2 c = let a = c.args in λ h. (let e : c.wrapping_add_u8-in-2.result ≡ a.own + 0x10 = omega (arith, c.wrapping_add_u8-in-2.ensures) in ap operator e) ∙ sym (ap (λ g. given (gives_of g) (operator a.own)) c.in-2.is)

pub returns-in_default : goal.returns-in_default
unfolding given moved gives_of
returns-in_default c = λ h. rw (ne_eqb _ 0 c.in_default.in_default-own.rest.0.0.1, ne_eqb _ 1 c.in_default.in_default-own.rest.0.1, ne_eqb _ 2 c.in_default.in_default-own.rest.1)
