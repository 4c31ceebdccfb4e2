use Rattle.names_left.proofs.Writing.{moved_value}
use Rattle.names_left.proofs.move_value.Goals as goal

pub returns : goal.returns
returns c = moved_value _ _ _ _ c.requires.0 c.requires.2 c.carry_down.ensures
