use native.Mathlib.Omega.{arith}
use mathlib.Core.Path.{refl}
use Rattle.list_check.proofs.Checking.{fail_short, pass_one, fail_one}
use Rattle.list_pieces.specs.Pieces.{tokens_of_piece, size_of}
use Rattle.paper.specs.Tokens.{string, class, as_read}
use lib.ListN.{take, drop}
use Rattle.list_pieces.specs.GivenLaws.{a_string_plain}
use Rattle.list_check.proofs.Checking.{fail_string, string_holds}
use Rattle.list_check.proofs.check_quoted.Goals as goal

pub returns-then-line-at : goal.returns-then-line-at
unfolding size_of tokens_of_piece class as_read
returns-then-line-at c = λ ns nd end e. fail_short (record { numbered = nd; inside = c.requires.0; stands = e }) c.if-line-at.true

pub returns-then-run_end-from : goal.returns-then-run_end-from
unfolding size_of tokens_of_piece class as_read
returns-then-run_end-from c = λ ns nd end e. fail_string (record { numbered = nd; inside = c.requires.0; stands = e }) c.run_end.ensures.0 c.if-line-at.false c.if-run_end-from.true

pub returns : goal.returns
unfolding size_of tokens_of_piece class as_read
returns c = let a = c.args in λ ns nd end e. pass_one (record { numbered = nd; inside = c.requires.0; stands = e }) (string (take a.size (drop 2 (drop a.at a.line.now)))) (a_string_plain _) refl refl (refl) c.take_item.ensures _ c.in_ok-taken.was (string_holds ns a.line.now a.at _ _ c.requires.0 c.run_end.ensures.0 c.if-line-at.false c.if-run_end-from.false) c.if-line-at.false (omega arith)

pub returns-in_err-taken : goal.returns-in_err-taken
unfolding size_of tokens_of_piece class as_read
returns-in_err-taken c = rw c.from_residual.ensures (let a = c.args in λ ns nd end e. fail_one (record { numbered = nd; inside = c.requires.0; stands = e }) (string (take a.size (drop 2 (drop a.at a.line.now)))) (a_string_plain _) refl refl (refl) c.take_item.ensures c.in_err-taken.was)
