use Rattle.list_text.proofs.TextLaws.{unwritten}
use Rattle.list_text.proofs.write_spelling.Goals as goal

pub returns-then-out-n : goal.returns-then-out-n
returns-then-out-n c = unwritten _ c.if-out-n.true c.spelled_size.ensures
