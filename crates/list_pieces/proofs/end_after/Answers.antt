use Rattle.list_pieces.proofs.PieceRead.{ends_told, ends_so}
use Rattle.list_pieces.proofs.end_after.Goals as goal

pub returns-in-Word : goal.returns-in-Word
returns-in-Word c = let a = c.args in ends_told a.line.now a.at a.end a.piece c.in-Word.is

pub returns-in_default : goal.returns-in_default
returns-in_default c = let a = c.args in let d = c.in_default in ends_so a.line.now a.at a.end a.piece d.not-Word d.not-Text d.not-Target d.not-NoTarget
