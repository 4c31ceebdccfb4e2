use native.Mathlib.Omega.{arith}
use Rattle.list_check.proofs.Checking.{pass_one, fail_one}
use Rattle.list_pieces.specs.Pieces.{tokens_of_piece, size_of}
use Rattle.paper.specs.Tokens.{constant, class, as_read}
use lib.ListN.{take, drop}
use Rattle.list_pieces.specs.GivenLaws.{a_constant_plain}
use Rattle.list_check.proofs.Checking.{fail_wrong, right_holds, right_long}
use mathlib.Core.Path.{ap, refl}
use mathlib.Core.Bool.{not}
use Rattle.list_check.proofs.check_constant.Goals as goal

pub returns-then-not-is_right : goal.returns-then-not-is_right
unfolding tokens_of_piece size_of class as_read
returns-then-not-is_right c = λ ns nd end e. fail_wrong (record { numbered = nd; inside = c.requires.0; stands = e }) c.is_right.ensures (ap not c.if-not-is_right.true)

pub returns : goal.returns
unfolding tokens_of_piece size_of class as_read
returns c = let a = c.args in λ ns nd end e. pass_one (record { numbered = nd; inside = c.requires.0; stands = e }) (constant (take 6 (drop 1 (drop a.at a.line.now)))) (a_constant_plain _) refl refl (refl) c.take_next.ensures _ (c.in_ok-taken.was) (right_holds ns a.line.now a.at _ c.is_right.ensures (ap not c.if-not-is_right.false)) (right_long a.line.now a.at _ c.is_right.ensures (ap not c.if-not-is_right.false)) (omega arith)

pub returns-in_err-taken : goal.returns-in_err-taken
unfolding tokens_of_piece size_of class as_read
returns-in_err-taken c = rw c.from_residual.ensures (λ ns nd end e. fail_one (record { numbered = nd; inside = c.requires.0; stands = e }) (constant (take 6 (drop 1 (drop c.args.at c.args.line.now)))) (a_constant_plain _) refl refl (refl) c.take_next.ensures (c.in_err-taken.was))
