use Rattle.list_weigh.specs.Weights.{piece_weight}
use Rattle.list_weigh.proofs.weight_of.Goals as goal

pub returns-in-Word : goal.returns-in-Word
unfolding piece_weight
returns-in-Word c = rw (c.nothing-w.ensures, c.in-Word.is)

pub returns-in-Text : goal.returns-in-Text
unfolding piece_weight
returns-in-Text c = rw (c.nothing-w.ensures, c.in-Text.is)

pub returns-in-Target : goal.returns-in-Target
unfolding piece_weight
returns-in-Target c = rw (c.nothing-w.ensures, c.in-Target.is)

pub returns-in-NoTarget : goal.returns-in-NoTarget
unfolding piece_weight
returns-in-NoTarget c = rw (c.nothing-w.ensures, c.in-NoTarget.is)

pub returns-in-Variable : goal.returns-in-Variable
unfolding piece_weight
returns-in-Variable c = rw (c.nothing-w.ensures, c.in-Variable.is)

pub returns-in-Constant : goal.returns-in-Constant
unfolding piece_weight
returns-in-Constant c = rw (c.nothing-w.ensures, c.in-Constant.is)

pub returns-in-Quoted : goal.returns-in-Quoted
unfolding piece_weight
returns-in-Quoted c = rw (c.nothing-w.ensures, c.in-Quoted.is)

pub returns-in-Operator : goal.returns-in-Operator
unfolding piece_weight
returns-in-Operator c = rw (c.nothing-w.ensures, c.in-Operator.is)
