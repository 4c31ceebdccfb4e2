use mathlib.Core.Path.{sym, ap, ◌∙◌}
use Prim.Native.Nat.{ℕ}
use native.Mathlib.Omega.{arith}
use lib.ListN.{length, take, drop, length-set}
use lib.Seq.{sets}
use Rattle.paper.specs.Line.{number_bytes}
use Rattle.list_pieces.specs.Pieces.{size_of}
use Rattle.list_measure.specs.Numbers.{piece_bytes}
use Rattle.list_write.specs.WriteLaws.{offset_moved, word_written, target_written}
use Rattle.list_write.proofs.write_piece.Goals as goal

pub overflow_add-n : goal.overflow_add-n
unfolding piece_bytes size_of
overflow_add-n c = omega (arith, c.requires.1, ap size_of c.in-Text.is)

pub carry_down-requires : goal.carry_down-requires
unfolding piece_bytes size_of
carry_down-requires c = (omega (arith, c.requires.0), omega (arith, c.requires.1, ap size_of c.in-Text.is, ap length c.put-in-Text.ensures, length-set c.args.room.now c.args.to c.args.offset))

pub write_number-requires : goal.write_number-requires
unfolding piece_bytes size_of
write_number-requires c = omega (arith, c.requires.0, c.requires.1, ap size_of c.in-Target.is, ap length c.put-in-Target.ensures, length-set c.args.room.now c.args.to c.args.offset, ap length c.put-in-Target-2.ensures, c.room-in-Target-1.given, c.room-in-Target-2-1.given)

pub carry_down-requires-in-Constant : goal.carry_down-requires-in-Constant
unfolding piece_bytes size_of
carry_down-requires-in-Constant c = (c.requires.0, omega (arith, c.requires.1, ap size_of c.in-Constant.is))

pub carry_down-requires-in-Quoted : goal.carry_down-requires-in-Quoted
unfolding piece_bytes size_of
carry_down-requires-in-Quoted c = (c.requires.0, omega (arith, c.requires.1, ap size_of c.in-Quoted.is))

pub returns-in-Word : goal.returns-in-Word
unfolding piece_bytes size_of
returns-in-Word c = word_written c.args.room.now _ _ c.args.to c.args.offset _ c.put.ensures c.put-in-Word.ensures ∙ sym (ap (λ z. sets c.args.room.now c.args.to (piece_bytes c.args.numbers.now c.args.offset (take (size_of z) (drop c.args.from c.args.room.now)) z)) c.in-Word.is)

pub returns-in-Text : goal.returns-in-Text
unfolding piece_bytes size_of
returns-in-Text c = offset_moved c.args.room.now _ c.args.to c.args.from c.in-Text.n c.args.offset c.requires.0 _ c.put-in-Text.ensures c.carry_down.ensures ∙ sym (ap (λ z. sets c.args.room.now c.args.to (piece_bytes c.args.numbers.now c.args.offset (take (size_of z) (drop c.args.from c.args.room.now)) z)) c.in-Text.is)

pub returns-in-Target : goal.returns-in-Target
unfolding piece_bytes size_of
returns-in-Target c = target_written c.args.room.now _ _ _ c.args.to c.args.offset _ _ _ c.put-in-Target.ensures c.put-in-Target-2.ensures c.write_number.ensures (ap number_bytes c.byte_at.ensures) ∙ sym (ap (λ z. sets c.args.room.now c.args.to (piece_bytes c.args.numbers.now c.args.offset (take (size_of z) (drop c.args.from c.args.room.now)) z)) c.in-Target.is)

pub returns-in-NoTarget : goal.returns-in-NoTarget
unfolding piece_bytes size_of
returns-in-NoTarget c = sym (ap (λ z. sets c.args.room.now c.args.to (piece_bytes c.args.numbers.now c.args.offset (take (size_of z) (drop c.args.from c.args.room.now)) z)) c.in-NoTarget.is)

pub returns-in-Variable : goal.returns-in-Variable
unfolding piece_bytes size_of
returns-in-Variable c = c.write_number-in-Variable.ensures ∙ ap (λ (z : ℕ). sets c.args.room.now c.args.to (number_bytes z)) c.byte_at-in-Variable.ensures ∙ sym (ap (λ z. sets c.args.room.now c.args.to (piece_bytes c.args.numbers.now c.args.offset (take (size_of z) (drop c.args.from c.args.room.now)) z)) c.in-Variable.is)

pub returns-in-Constant : goal.returns-in-Constant
unfolding piece_bytes size_of
returns-in-Constant c = c.carry_down-in-Constant.ensures ∙ sym (ap (λ z. sets c.args.room.now c.args.to (piece_bytes c.args.numbers.now c.args.offset (take (size_of z) (drop c.args.from c.args.room.now)) z)) c.in-Constant.is)

pub returns-in-Quoted : goal.returns-in-Quoted
unfolding piece_bytes size_of
returns-in-Quoted c = c.carry_down-in-Quoted.ensures ∙ sym (ap (λ z. sets c.args.room.now c.args.to (piece_bytes c.args.numbers.now c.args.offset (take (size_of z) (drop c.args.from c.args.room.now)) z)) c.in-Quoted.is)

pub returns-in-Operator : goal.returns-in-Operator
unfolding piece_bytes size_of
returns-in-Operator c = c.put-in-Operator.ensures ∙ sym (ap (λ z. sets c.args.room.now c.args.to (piece_bytes c.args.numbers.now c.args.offset (take (size_of z) (drop c.args.from c.args.room.now)) z)) c.in-Operator.is)
