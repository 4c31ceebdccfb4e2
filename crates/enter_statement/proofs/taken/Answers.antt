use Rattle.enter_statement.specs.Moves.{taking, taken_colon, taken_last, then_passed, taken_then, taken_fine, taken_on, taken_far}
use Rattle.std.proofs.lemmas.Result.{err_from_is_err_and}
use Rattle.enter_statement.proofs.taken.Goals as goal

pub after_then-requires : goal.after_then-requires
after_then-requires c = let token3 = c.token-p in ((then_passed (taking c.requires.0 c.requires.1 c.requires.3.1.0 c.requires.3.1.1) c.in-25.is c.requires.1.own token3.ensures.0 token3.ensures.1).pass.asks, c.requires.2)

pub pass-requires : goal.pass-requires
pass-requires c = let match = c.in_default.in_default-own in (c.requires.0, c.requires.1, taken_fine (taking c.requires.0 c.requires.1 c.requires.3.1.0 c.requires.3.1.1) match.rest.0.0.1 match.rest.0.1 match.rest.1)

pub returns-in-14 : goal.returns-in-14
returns-in-14 c = λ fs d g s f. taken_colon d _ (taking c.requires.0 c.requires.1 g s) c.in-14.is c.requires.1.own c.token.ensures.0 c.token.ensures.1

pub returns-in-0 : goal.returns-in-0
returns-in-0 c = λ fs d g s f. taken_last d _ (taking c.requires.0 c.requires.1 g s) c.in-0.is c.requires.1.own c.token-in-0.ensures.0 c.token-in-0.ensures.1

pub returns-in-25 : goal.returns-in-25
returns-in-25 c = let token3 = c.token-p in λ fs d g s f. taken_then d (taking c.requires.0 c.requires.1 g s) c.in-25.is (then_passed (taking c.requires.0 c.requires.1 g s) c.in-25.is c.requires.1.own token3.ensures.0 token3.ensures.1) c.after_then.ensures

pub returns-in_ok-p-in_default : goal.returns-in_ok-p-in_default
returns-in_ok-p-in_default c = let match = c.in_default.in_default-own in λ fs d g s f. taken_on d _ _ (taking c.requires.0 c.requires.1 g s) match.rest.0.0.1 match.rest.0.1 match.rest.1 f (c.pass.ensures.done _ c.in_ok-p-in_default.was)

pub returns-in_err-p-in_default : goal.returns-in_err-p-in_default
returns-in_err-p-in_default c =
    let p = err_from_is_err_and c.from_residual.result c.from_residual.ensures.1 in
    rw (p.1, p.2) (λ fs d g s f. taken_far d _ _ (taking c.requires.0 c.requires.1 g s) (c.pass.ensures.stop _ c.in_err-p-in_default.was))
