use native.Mathlib.Omega.{arith}
use mathlib.Core.Path.{ap, sym}
use Rattle.list_pieces.specs.Pieces.{size_of}
use Rattle.list_pieces.proofs.size_of.Goals as goal

pub overflow_add-result : goal.overflow_add-result
unfolding size_of
overflow_add-result c = omega (arith, c.requires, ap size_of c.in-Text.is)

pub returns-in-Word : goal.returns-in-Word
unfolding size_of
returns-in-Word c = sym (ap size_of c.in-Word.is)

pub returns-in-Text : goal.returns-in-Text
unfolding size_of
returns-in-Text c = sym (ap size_of c.in-Text.is)

pub returns-in-Target : goal.returns-in-Target
unfolding size_of
returns-in-Target c = sym (ap size_of c.in-Target.is)

pub returns-in-NoTarget : goal.returns-in-NoTarget
unfolding size_of
returns-in-NoTarget c = sym (ap size_of c.in-NoTarget.is)

pub returns-in-Variable : goal.returns-in-Variable
unfolding size_of
returns-in-Variable c = sym (ap size_of c.in-Variable.is)

pub returns-in-Constant : goal.returns-in-Constant
unfolding size_of
returns-in-Constant c = sym (ap size_of c.in-Constant.is)

pub returns-in-Quoted : goal.returns-in-Quoted
unfolding size_of
returns-in-Quoted c = sym (ap size_of c.in-Quoted.is)

pub returns-in-Operator : goal.returns-in-Operator
unfolding size_of
returns-in-Operator c = sym (ap size_of c.in-Operator.is)
