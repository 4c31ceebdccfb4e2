use native.Mathlib.Omega.{arith}
use Rattle.list_check.proofs.Checking.{fail_short}
use Rattle.list_pieces.specs.Pieces.{size_of}
use Rattle.laws.specs.Classes.{statement_low}
use Rattle.list_check.proofs.Checking.{pass_text, fail_text}
use Rattle.list_check.proofs.check_text.Goals as goal

pub returns-then-left-lt3 : goal.returns-then-left-lt3
unfolding size_of
returns-then-left-lt3 c = λ ns nd end e. fail_short (record { numbered = nd; inside = c.requires.0; stands = e }) (omega (arith, c.if-left-lt3.true))

pub returns-then-left-size : goal.returns-then-left-size
unfolding size_of
returns-then-left-size c = λ ns nd end e. fail_short (record { numbered = nd; inside = c.requires.0; stands = e }) (omega (arith, c.if-left-lt3.false, c.if-left-size.true))

pub take_item-requires : goal.take_item-requires
unfolding size_of
take_item-requires c = (omega arith, omega (arith, c.statement_class-class.ensures, statement_low c.args.token))

pub check_raw-requires : goal.check_raw-requires
unfolding size_of
check_raw-requires c = omega (arith, (c.take_item.ensures.takes _ c.in_ok-word.was).1, c.take_item.auto.frames)

pub returns : goal.returns
unfolding size_of
returns c = λ ns nd end e. pass_text (record { numbered = nd; inside = c.requires.0; stands = e }) c.statement_class-class.ensures c.take_item.ensures _ c.in_ok-word.was c.check_raw.ensures c.if-left-lt3.false c.if-left-size.false

pub returns-in_err-word : goal.returns-in_err-word
unfolding size_of
returns-in_err-word c = rw c.from_residual.ensures (λ ns nd end e. fail_text (record { numbered = nd; inside = c.requires.0; stands = e }) c.statement_class-class.ensures c.take_item.ensures c.in_err-word.was)
