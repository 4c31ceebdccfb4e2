use Prim.Native.Nat.{ℕ, ◌+◌, ◌%◌}
use native.Mathlib.Omega.{arith}
use mathlib.Core.Path.{◌≡◌, refl, sym, ap, ◌∙◌}
use mathlib.Core.List.{[]}
use lib.Dec.{T_not}
use lib.ListN.{drop, get_or, length-drop}
use lib.Seq.{get_or-drop}
use Rattle.paper.specs.Words.{statement_word?}
use Rattle.paper.specs.Tokens.{variable, assigned, class, as_read}
use Rattle.paper.specs.Names.{less_open}
use Rattle.laws.specs.Tests.{as_T}
use Rattle.names_kinds.specs.Kinds.{kind_there, kind_class, kind_some, a_word, no_word}
use Rattle.list_pieces.specs.Pieces.{tokens_of_piece, size_of}
use Rattle.list_pieces.specs.PieceLaws.{piece_some, target_told}
use Rattle.list_pieces.specs.GivenLaws.{an_assigned_plain}
use Rattle.list_pieces.specs.ClassLaws.{first_class}
use Rattle.list_check.proofs.Checking.{fail_short, fail_holds, pass_one, fail_one, not_T}
use Rattle.list_check.proofs.check_target.Goals as goal

pub returns-then-line-at : goal.returns-then-line-at
unfolding tokens_of_piece size_of as_read
returns-then-line-at c = λ ns nd prem end e. fail_short (record { numbered = nd; inside = c.requires.0; stands = e }) c.if-line-at.true

pub returns-then-kind-eq0 : goal.returns-then-kind-eq0
unfolding tokens_of_piece size_of as_read
returns-then-kind-eq0 c = λ ns nd prem end e. fail_holds (record { numbered = nd; inside = c.requires.0; stands = e }) (λ q. kind_some ns c.args.variable.number q.0.name (ap (λ (k : ℕ). k % 8) (sym prem ∙ c.if-kind-eq0.true)))

pub returns-then-kind-ge-WORD : goal.returns-then-kind-ge-WORD
unfolding tokens_of_piece size_of as_read
returns-then-kind-ge-WORD c = λ ns nd prem end e. fail_holds (record { numbered = nd; inside = c.requires.0; stands = e }) (λ q. T_not (statement_word? (less_open (get_or ns c.args.variable.number []))) q.1 (as_T (statement_word? (less_open (get_or ns c.args.variable.number []))) (a_word ns c.args.variable.number q.0.name (omega (arith, prem, c.if-kind-ge-WORD.true)))))

pub first_class-requires : goal.first_class-requires
unfolding tokens_of_piece size_of as_read
first_class-requires c = omega (arith, c.if-kind-ge-WORD.false)

pub take_item-requires : goal.take_item-requires
unfolding tokens_of_piece size_of as_read
take_item-requires c = (omega arith, omega (arith, c.first_class.ensures, c.if-kind-ge-WORD.false))

pub returns : goal.returns
unfolding tokens_of_piece size_of as_read
returns c = let a = c.args in λ ns nd prem end e. pass_one (record { numbered = nd; inside = c.requires.0; stands = e }) (assigned (get_or ns c.args.variable.number [])) (an_assigned_plain _) refl refl (c.first_class.ensures ∙ ap (λ (k : ℕ). k + 3) (let z : c.args.kind ≡ class (variable (get_or ns c.args.variable.number [])) = omega (arith, prem, kind_class ns c.args.variable.number (kind_there ns c.args.variable.number (λ z. c.if-kind-eq0.false (prem ∙ z))), c.if-kind-ge-WORD.false) in z) ∙ sym (first_class (get_or ns c.args.variable.number []))) c.take_item.ensures _ c.in_ok-taken.was (target_told _ a.at end (drop a.at a.line.now) a.variable e (omega (arith, get_or-drop a.at a.line.now 2 0, c.shared_slice_known-1.given (a.at + 2))) (kind_there ns c.args.variable.number (λ z. c.if-kind-eq0.false (prem ∙ z))) (omega (arith, c.if-line-at.false, length-drop a.at a.line.now)), not_T (statement_word? (less_open (get_or ns c.args.variable.number []))) (no_word ns c.args.variable.number (kind_there ns c.args.variable.number (λ z. c.if-kind-eq0.false (prem ∙ z))) (omega (arith, prem, c.if-kind-ge-WORD.false)))) c.if-line-at.false (piece_some a.at end (drop a.at a.line.now) _ e)

pub returns-in_err-taken : goal.returns-in_err-taken
unfolding tokens_of_piece size_of as_read
returns-in_err-taken c = rw c.from_residual.ensures (λ ns nd prem end e. fail_one (record { numbered = nd; inside = c.requires.0; stands = e }) (assigned (get_or ns c.args.variable.number [])) (an_assigned_plain _) refl refl (c.first_class.ensures ∙ ap (λ (k : ℕ). k + 3) (let z : c.args.kind ≡ class (variable (get_or ns c.args.variable.number [])) = omega (arith, prem, kind_class ns c.args.variable.number (kind_there ns c.args.variable.number (λ z. c.if-kind-eq0.false (prem ∙ z))), c.if-kind-ge-WORD.false) in z) ∙ sym (first_class (get_or ns c.args.variable.number []))) c.take_item.ensures c.in_err-taken.was)
