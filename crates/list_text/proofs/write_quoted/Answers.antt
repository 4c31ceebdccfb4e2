use Rattle.list_text.proofs.TextLaws.{quoted_text}
use Rattle.list_text.proofs.write_quoted.Goals as goal

pub returns : goal.returns
returns c = let a = c.args in quoted_text a.n a.from a.size a.line.now c.requires.0 c.put.ensures c.copy.ensures c.put-2.ensures
