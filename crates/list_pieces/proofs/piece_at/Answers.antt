use mathlib.Core.Path.{refl, sym, ap, ◌∙◌}
use lib.ListN.{drop}
use Rattle.list_pieces.specs.declared.Piece.TheVariants.{Variable}
use Rattle.list_pieces.specs.Variables.{variable_at}
use Rattle.list_pieces.specs.Pieces.{piece_at}
use Rattle.list_pieces.proofs.PieceRead.{told_some, told_none, variable_read, constant_read, quoted_read, operator_read}
use Rattle.list_pieces.proofs.piece_at.Goals as goal

pub returns-then-at-end : goal.returns-then-at-end
returns-then-at-end c = let a = c.args in c.first_piece.ensures ∙ ap (λ e. piece_at a.at e (drop a.at a.line.now)) c.if-at-end.true

pub returns-in-Some : goal.returns-in-Some
returns-in-Some c = let a = c.args in let t = told_some _ _ c.in-Some.ensures in ap Variable t.0 ∙ variable_read a.line.now a.at a.end c.if-at-end.false _ refl t.1

pub returns-then-b : goal.returns-then-b
returns-then-b c = let a = c.args in constant_read a.line.now a.at a.end c.if-at-end.false _ refl (told_none _ (sym c.in_default.is ∙ c.variable_at.ensures)) c.if-b.true

pub returns-then-b-2 : goal.returns-then-b-2
returns-then-b-2 c = let a = c.args in quoted_read a.line.now a.at a.end c.if-at-end.false _ refl (told_none _ (sym c.in_default.is ∙ c.variable_at.ensures)) c.if-b.false c.if-b-2.true c.byte_at.result c.byte_at.ensures

pub returns : goal.returns
returns c = let a = c.args in operator_read a.line.now a.at a.end c.if-at-end.false _ refl (told_none _ (sym c.in_default.is ∙ c.variable_at.ensures)) c.if-b.false c.if-b-2.false
