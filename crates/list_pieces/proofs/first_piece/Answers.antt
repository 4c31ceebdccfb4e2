use mathlib.Core.Path.{refl, sym, ap, ◌∙◌}
use Rattle.list_pieces.specs.declared.Piece.TheVariants.{Target}
use Rattle.list_pieces.proofs.PieceRead.{told_some, told_none, target_read, no_target_read, text_read, word_read}
use Rattle.list_pieces.proofs.first_piece.Goals as goal

pub returns-in-Some : goal.returns-in-Some
returns-in-Some c = let a = c.args in let t = told_some _ _ c.in-Some.ensures in ap Target t.0 ∙ target_read a.line.now a.at c.byte_at-token.result c.byte_at-token.ensures c.if-token.true _ refl t.1

pub returns-in-None : goal.returns-in-None
returns-in-None c = let a = c.args in no_target_read a.line.now a.at c.byte_at-token.result c.byte_at-token.ensures c.if-token.true _ refl (told_none _ c.in-None.ensures)

pub returns-then-is_raw_statement : goal.returns-then-is_raw_statement
returns-then-is_raw_statement c = let a = c.args in text_read a.line.now a.at c.byte_at-token.result c.byte_at-token.ensures c.if-token.false (sym c.is_raw_statement.ensures ∙ c.if-is_raw_statement.true) c.run_end.result c.run_end.ensures.0

pub returns : goal.returns
returns c = let a = c.args in word_read a.line.now a.at c.byte_at-token.result c.byte_at-token.ensures c.if-token.false (sym c.is_raw_statement.ensures ∙ c.if-is_raw_statement.false)
