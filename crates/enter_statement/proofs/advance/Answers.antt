use native.Mathlib.Omega.{arith}
use mathlib.Core.Path.{refl, sym}
use mathlib.Core.List.{[]}
use Rattle.std.proofs.lemmas.Result.{err_from_is_err_and}
use Rattle.enter_statement.specs.Moves.{seen_low, good_deep, moves_term, moves_no_term, moves_refused}
use Rattle.enter_statement.proofs.advance.Goals as goal

pub overflow_sub-below : goal.overflow_sub-below
overflow_sub-below c = omega (arith, good_deep _ _ c.requires.1)

pub returns-then-by_term : goal.returns-then-by_term
returns-then-by_term c = moves_term _ _ c.requires.1 (c.by_term.ensures c.if-by_term.true) c.term.ensures c.in_ok-p.was

pub returns-in_err-p : goal.returns-in_err-p
returns-in_err-p c =
    let p = err_from_is_err_and c.from_residual.result c.from_residual.ensures.1 in
    rw (p.1, p.2) (moves_no_term _ _ c.requires.1 (c.by_term.ensures c.if-by_term.true) c.term.ensures c.in_err-p.was)

pub take_item-requires : goal.take_item-requires
take_item-requires c = (c.requires.2, seen_low c.see-seen.ensures)

pub refuse-requires : goal.refuse-requires
refuse-requires c = let next = c.see-seen.ensures.next 0 [] in (omega (arith, next.spans, next.within), c.requires.0.short)

pub returns-in_default : goal.returns-in_default
returns-in_default c = let see = c.see-seen in rw c.refuse.ensures (moves_refused _ _ c.requires.1 (see.ensures.next _ _) (sym see.ensures.class) (c.in_default.ensures.refuses refl) refl)

pub taken-requires : goal.taken-requires
taken-requires c = (c.requires.0, c.see-seen.ensures, omega (arith, c.take_item.auto.frames, c.requires.2), (_, (c.requires.1, (c.take_item.ensures.takes _ c.in-Some.is).0)))

pub returns : goal.returns
returns c = let take-item = c.take_item in c.taken.ensures _ _ c.requires.1 (take-item.ensures.takes _ c.in-Some.is).0 (take-item.ensures.takes _ c.in-Some.is).1
