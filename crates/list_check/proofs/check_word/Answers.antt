use native.Mathlib.Omega.{arith}
use mathlib.Core.Path.{refl}
use lib.ListN.{length-drop}
use Rattle.list_check.proofs.Checking.{fail_short, pass_one, fail_one}
use Rattle.list_pieces.specs.Pieces.{tokens_of_piece, size_of}
use Rattle.paper.specs.Tokens.{statement as the_word, class, as_read}
use Rattle.list_pieces.specs.GivenLaws.{a_statement_plain}
use Rattle.laws.specs.Classes.{statement_low}
use Rattle.list_check.proofs.check_word.Goals as goal

pub returns-then-line-at-lt2 : goal.returns-then-line-at-lt2
unfolding tokens_of_piece size_of class as_read
returns-then-line-at-lt2 c = λ ns nd end e. fail_short (record { numbered = nd; inside = c.requires.0; stands = e }) c.if-line-at-lt2.true

pub take_item-requires : goal.take_item-requires
unfolding tokens_of_piece size_of class as_read
take_item-requires c = (omega arith, omega (arith, c.statement_class-class.ensures, statement_low c.args.token))

pub returns : goal.returns
unfolding tokens_of_piece size_of class as_read
returns c = let a = c.args in λ ns nd end e. pass_one (record { numbered = nd; inside = c.requires.0; stands = e }) (the_word a.token) (a_statement_plain a.token) refl refl c.statement_class-class.ensures c.take_item.ensures _ c.in_ok-word.was (omega (arith, length-drop a.at a.line.now, c.if-line-at-lt2.false)) (omega (arith, c.if-line-at-lt2.false)) (omega arith)

pub returns-in_err-word : goal.returns-in_err-word
unfolding tokens_of_piece size_of class as_read
returns-in_err-word c = rw c.from_residual.ensures (λ ns nd end e. fail_one (record { numbered = nd; inside = c.requires.0; stands = e }) (the_word c.args.token) (a_statement_plain c.args.token) refl refl c.statement_class-class.ensures c.take_item.ensures c.in_err-word.was)
