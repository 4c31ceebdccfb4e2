use Rattle.names_numbered.proofs.Values.{names_added_behind, values_added_behind}
use Rattle.names_numbered.proofs.add.Goals as goal

pub returns : goal.returns
returns c = record { names_after = names_added_behind _ _ _ _ _ c.requires c.copy.ensures; values_after = values_added_behind _ _ _ _ _ c.requires c.put_values.ensures }
