use Rattle.enter_item.specs.LeafLaws.{took_quoted}
use Rattle.enter_item.proofs.quoted.Goals as goal

pub returns : goal.returns
returns c = took_quoted c.requires.0 c.requires.1 c.requires.2 c.quoted_length-size.ensures c.put.ensures c.put-2.ensures c.copy.ensures
