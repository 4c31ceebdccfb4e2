use Prim.Native.Nat.{ℕ, ◌+◌, ◌%◌}
use native.Mathlib.Omega.{arith}
use mathlib.Core.Path.{refl, sym, ap, ◌∙◌}
use mathlib.Core.List.{[]}
use lib.ListN.{drop, get_or, length-drop}
use lib.Seq.{get_or-drop}
use Rattle.paper.specs.Tokens.{variable, as_read}
use Rattle.names_kinds.specs.Kinds.{kind_there, kind_class, kind_some}
use Rattle.list_pieces.specs.Pieces.{tokens_of_piece, size_of}
use Rattle.list_pieces.specs.PieceLaws.{piece_some, variable_told}
use Rattle.list_pieces.specs.GivenLaws.{a_variable_plain}
use Rattle.list_check.proofs.Checking.{fail_short, fail_holds, pass_one, fail_one}
use Rattle.list_check.proofs.check_variable.Goals as goal

pub returns-then-line-at : goal.returns-then-line-at
unfolding tokens_of_piece size_of as_read
returns-then-line-at c = λ ns nd prem end e. fail_short (record { numbered = nd; inside = c.requires.0; stands = e }) c.if-line-at.true

pub returns-then-own-eq0 : goal.returns-then-own-eq0
unfolding tokens_of_piece size_of as_read
returns-then-own-eq0 c = λ ns nd prem end e. fail_holds (record { numbered = nd; inside = c.requires.0; stands = e }) (λ q. kind_some ns c.args.variable.number q.name (sym prem ∙ c.if-own-eq0.true))

pub take_next-requires : goal.take_next-requires
unfolding tokens_of_piece size_of as_read
take_next-requires c = (omega arith, c.requires.2)

pub returns : goal.returns
unfolding tokens_of_piece size_of as_read
returns c = let a = c.args in λ ns nd prem end e. pass_one (record { numbered = nd; inside = c.requires.0; stands = e }) (variable (get_or ns c.args.variable.number [])) (a_variable_plain _) refl refl (prem ∙ kind_class ns c.args.variable.number (kind_there ns c.args.variable.number (λ z. c.if-own-eq0.false (prem ∙ ap (λ (k : ℕ). k % 8) z)))) c.take_next.ensures _ c.in_ok-taken.was (variable_told _ a.at end (drop a.at a.line.now) a.variable e (omega (arith, get_or-drop a.at a.line.now 0 0, c.shared_slice_known-1.given (a.at + 0))) (kind_there ns c.args.variable.number (λ z. c.if-own-eq0.false (prem ∙ ap (λ (k : ℕ). k % 8) z))) (omega (arith, c.if-line-at.false, length-drop a.at a.line.now))) c.if-line-at.false (piece_some a.at end (drop a.at a.line.now) _ e)

pub returns-in_err-taken : goal.returns-in_err-taken
unfolding tokens_of_piece size_of as_read
returns-in_err-taken c = rw c.from_residual.ensures (λ ns nd prem end e. fail_one (record { numbered = nd; inside = c.requires.0; stands = e }) (variable (get_or ns c.args.variable.number [])) (a_variable_plain _) refl refl (prem ∙ kind_class ns c.args.variable.number (kind_there ns c.args.variable.number (λ z. c.if-own-eq0.false (prem ∙ ap (λ (k : ℕ). k % 8) z)))) c.take_next.ensures c.in_err-taken.was)
