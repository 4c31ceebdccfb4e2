use native.Mathlib.Omega.{arith}
use Prim.Native.Nat.{ℕ, ◌+◌}
use mathlib.Core.Path.{ap₂, ◌∙◌}
use Rattle.paper.specs.Line.{to_next}
use Rattle.list_mark.specs.Walks.{tokens_at}
use Rattle.list_measure.proofs.PassingLaws.{fits, passing_shorter, passing_step}
use Rattle.list_measure.proofs.new_offset.Goals as goal

pub returns-then-at-end : goal.returns-then-at-end
returns-then-at-end c = λ ns new p e. absurd (c.if-at-end.true e)

pub size_of-requires : goal.size_of-requires
size_of-requires c = omega (arith, fits c.args.line.now c.requires.5.passing _ c.requires.0 c.requires.3)

pub overflow_add-after : goal.overflow_add-after
overflow_add-after c = omega (arith, c.size_of.ensures, fits c.args.line.now c.requires.5.passing _ c.requires.0 c.requires.3)

pub overflow_add-result : goal.overflow_add-result
overflow_add-result c = omega (arith, c.new_size.ensures, fits c.args.line.now c.requires.5.passing _ c.requires.0 c.requires.3, passing_shorter c.args.line.now c.requires.5.passing _ c.requires.0 c.requires.3)

pub to_next-requires : goal.to_next-requires
to_next-requires c = (omega (arith, c.size_of.ensures, fits c.args.line.now c.requires.5.passing _ c.requires.0 c.requires.3), record { names = c.requires.5.names; new = c.requires.5.new; passing = passing_step c.args.line.now c.requires.5.passing c.requires.0 c.requires.3 c.requires.4 c.size_of.ensures })

pub overflow_add-result-2 : goal.overflow_add-result-2
overflow_add-result-2 c = omega (arith, c.to_next.ensures.0, c.size_of.ensures, c.new_size.ensures, passing_shorter c.args.line.now c.requires.5.passing _ c.requires.0 c.requires.3)

pub overflow_cast-result : goal.overflow_cast-result
overflow_cast-result c = omega (arith, c.to_next.ensures.0, c.size_of.ensures, c.new_size.ensures, passing_shorter c.args.line.now c.requires.5.passing _ c.requires.0 c.requires.3)

pub returns : goal.returns
returns c = λ ns new p e. ap₂ (λ (x y : ℕ). c.args.to + x + y) c.new_size.ensures (c.to_next.ensures.1 ns new (passing_step c.args.line.now p c.requires.0 c.requires.3 c.requires.4 c.size_of.ensures) ∙ ap₂ (λ (x y : ℕ). to_next new (tokens_at ns c.args.line.now (c.args.at + x) y)) c.size_of.ensures c.requires.4)
