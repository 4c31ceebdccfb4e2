use Rattle.enter_item.specs.LeafLaws.{took_variable}
use Rattle.enter_item.proofs.variable.Goals as goal

pub returns : goal.returns
returns c = took_variable c.requires.0 c.requires.1 c.requires.2 c.requires.3 c.name_number-found.ensures c.write_variable-size.ensures
