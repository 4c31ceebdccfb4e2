use mathlib.Core.Path.{sym, ◌∙◌}
use mathlib.Core.Bool.{true}
use Rattle.enter_statement.specs.Moves.{moves_number, moves_far, moves_statement}
use borrow.Author.Rules.{rules}
use Rattle.std.proofs.lemmas.Result.{err_from_is_err_and}
use Rattle.enter_statement.proofs.after_then.Goals as goal

pub returns-in_ok-p-in-3 : goal.returns-in_ok-p-in-3
returns-in_ok-p-in-3 c = let see = c.see-seen in moves_number _ (sym see.ensures.class ∙ c.in-3.is) (search rules) (c.constant.ensures true see.ensures.sees (sym see.ensures.class ∙ c.in-3.is)) c.in_ok-p-in-3.was

pub returns-in_err-p-in-3 : goal.returns-in_err-p-in-3
returns-in_err-p-in-3 c =
    let see = c.see-seen in
    let p = err_from_is_err_and c.from_residual.result c.from_residual.ensures.1 in
    rw (p.1, p.2) (moves_far _ (sym see.ensures.class ∙ c.in-3.is) (see.ensures.next _ _) (c.constant.ensures true see.ensures.sees (sym see.ensures.class ∙ c.in-3.is)) c.in_err-p-in-3.was)

pub returns-in_default : goal.returns-in_default
returns-in_default c = let see = c.see-seen in moves_statement _ c.requires.0 (λ e. c.in_default.in_default-own.rest.1 (see.ensures.class ∙ e)) (see.ensures.next _ _)
