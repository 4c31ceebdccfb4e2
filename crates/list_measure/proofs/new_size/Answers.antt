use mathlib.Core.Path.{sym, ap, ◌∙◌}
use Prim.Native.Nat.{ℕ, ◌+◌}
use lib.ListN.{length}
use native.Mathlib.Omega.{arith}
use Rattle.paper.specs.Line.{number_bytes}
use Rattle.list_pieces.specs.Pieces.{size_of}
use Rattle.list_measure.specs.Numbers.{new_size}
use Rattle.list_measure.proofs.new_size.Goals as goal

pub overflow_add-result : goal.overflow_add-result
unfolding size_of new_size
overflow_add-result c = omega (arith, c.requires, ap size_of c.in-Text.is)

pub returns-in-Word : goal.returns-in-Word
unfolding size_of new_size
returns-in-Word c = sym (ap (new_size c.args.numbers.now) c.in-Word.is)

pub returns-in-Text : goal.returns-in-Text
unfolding size_of new_size
returns-in-Text c = sym (ap (new_size c.args.numbers.now) c.in-Text.is)

pub returns-in-Target : goal.returns-in-Target
unfolding size_of new_size
returns-in-Target c = ap (λ (z : ℕ). 2 + z) (c.token_size.ensures.0 ∙ ap (λ (z : ℕ). length (number_bytes z)) c.byte_at.ensures) ∙ sym (ap (new_size c.args.numbers.now) c.in-Target.is)

pub returns-in-NoTarget : goal.returns-in-NoTarget
unfolding size_of new_size
returns-in-NoTarget c = sym (ap (new_size c.args.numbers.now) c.in-NoTarget.is)

pub returns-in-Variable : goal.returns-in-Variable
unfolding size_of new_size
returns-in-Variable c = c.token_size-in-Variable.ensures.0 ∙ ap (λ (z : ℕ). length (number_bytes z)) c.byte_at-in-Variable.ensures ∙ sym (ap (new_size c.args.numbers.now) c.in-Variable.is)

pub returns-in-Constant : goal.returns-in-Constant
unfolding size_of new_size
returns-in-Constant c = sym (ap (new_size c.args.numbers.now) c.in-Constant.is)

pub returns-in-Quoted : goal.returns-in-Quoted
unfolding size_of new_size
returns-in-Quoted c = sym (ap (new_size c.args.numbers.now) c.in-Quoted.is)

pub returns-in-Operator : goal.returns-in-Operator
unfolding size_of new_size
returns-in-Operator c = sym (ap (new_size c.args.numbers.now) c.in-Operator.is)
