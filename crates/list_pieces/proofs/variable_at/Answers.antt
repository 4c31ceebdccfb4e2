use mathlib.Core.Path.{ap}
use Rattle.list_pieces.specs.Variables.{told}
use Rattle.list_pieces.proofs.PieceRead.{long_read, low_read, high_read}
use Rattle.list_pieces.proofs.variable_at.Goals as goal

pub returns-then-b-eq-LONG_FORM : goal.returns-then-b-eq-LONG_FORM
returns-then-b-eq-LONG_FORM c = let a = c.args in let b = c.byte_at-b in ap told (long_read a.line.now a.at b.result b.ensures c.if-b-eq-LONG_FORM.true c.byte_at-low.result c.byte_at-low.ensures)

pub returns-then-b-lt-FIRST_VARIABLE : goal.returns-then-b-lt-FIRST_VARIABLE
returns-then-b-lt-FIRST_VARIABLE c = let a = c.args in let b = c.byte_at-b in ap told (low_read a.line.now a.at b.result b.ensures c.if-b-eq-LONG_FORM.false c.if-b-lt-FIRST_VARIABLE.true)

pub returns : goal.returns
returns c = let a = c.args in let b = c.byte_at-b in ap told (high_read a.line.now a.at b.result b.ensures c.if-b-eq-LONG_FORM.false c.if-b-lt-FIRST_VARIABLE.false)
