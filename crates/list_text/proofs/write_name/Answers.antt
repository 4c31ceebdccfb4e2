use Rattle.list_text.proofs.TextLaws.{name_text}
use Rattle.list_text.proofs.write_name.Goals as goal

pub returns : goal.returns
returns c = name_text c.args.names.now c.args.size c.name_at-name.ensures c.write_spelling.ensures
