use native.Mathlib.Omega.{arith}
use mathlib.Core.Path.{ap}
use lib.ListN.{take, drop}
use Rattle.paper.specs.Names.{names_in}
use Rattle.list_pieces.specs.Pieces.{size_of}
use Rattle.list_text.specs.InTurn.{as_text}
use Rattle.list_text.proofs.TextLaws.{word_piece, text_writes, target_piece, variable_piece, constant_writes, quoted_writes, operator_piece}
use Rattle.list_text.proofs.write_piece.Goals as goal

pub write_text-requires : goal.write_text-requires
unfolding size_of
write_text-requires c = (omega (arith, ap size_of c.in-Text.is), omega arith)

pub write_quoted-requires : goal.write_quoted-requires
unfolding size_of
write_quoted-requires c = (omega (arith, ap size_of c.in-Quoted.is), omega arith)

pub returns-in-Word : goal.returns-in-Word
unfolding size_of
returns-in-Word c = let a = c.args in rw c.in-Word.is (as_text c.write_word.ensures (word_piece (names_in (take a.size a.names.now)) (drop a.at a.line.now) _))

pub returns-in-Text : goal.returns-in-Text
unfolding size_of
returns-in-Text c = let a = c.args in rw c.in-Text.is (as_text c.write_text.ensures (text_writes (names_in (take a.size a.names.now)) a.line.now a.at _ _))

pub returns-in-Target : goal.returns-in-Target
unfolding size_of
returns-in-Target c = let a = c.args in rw c.in-Target.is (as_text c.write_name.ensures (target_piece (names_in (take a.size a.names.now)) (drop a.at a.line.now) _))

pub returns-in-NoTarget : goal.returns-in-NoTarget
unfolding size_of
returns-in-NoTarget c = absurd (rw c.in-NoTarget.is at c.requires.2)

pub returns-in-Variable : goal.returns-in-Variable
unfolding size_of
returns-in-Variable c = let a = c.args in rw c.in-Variable.is (as_text c.write_name-in-Variable.ensures (variable_piece (names_in (take a.size a.names.now)) (drop a.at a.line.now) _))

pub returns-in-Constant : goal.returns-in-Constant
unfolding size_of
returns-in-Constant c = let a = c.args in rw c.in-Constant.is (constant_writes (names_in (take a.size a.names.now)) a.line.now a.at a.n (omega (arith, ap size_of c.in-Constant.is)) c.write_text-in-Constant.ensures.0 c.write_text-in-Constant.ensures.1)

pub returns-in-Quoted : goal.returns-in-Quoted
unfolding size_of
returns-in-Quoted c = let a = c.args in rw c.in-Quoted.is (as_text c.write_quoted.ensures (quoted_writes (names_in (take a.size a.names.now)) a.line.now a.at _))

pub returns-in-Operator : goal.returns-in-Operator
unfolding size_of
returns-in-Operator c = let a = c.args in rw c.in-Operator.is (as_text c.write_operator.ensures (operator_piece (names_in (take a.size a.names.now)) (drop a.at a.line.now) _))
