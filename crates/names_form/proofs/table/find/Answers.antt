use Rattle.std.proofs.Common.{arith, length, ap, sym, ◌∙◌}
use Rattle.names_form.specs.Places.{names_few}
use Rattle.names_form.specs.Names.{same_parts}
use Rattle.names_form.proofs.Walking.{find_hit, find_miss, find_none}
use Rattle.names_form.proofs.table.find.Goals as goal

pub returns-then-eq : goal.returns-then-eq
returns-then-eq c = find_hit _ _ _ _ c.loop-known.invariant.0 c.loop-known.invariant.1 _ _ c.in-Some.ensures.steps (sym (same_parts _ _ _ _) ∙ sym c.eq.ensures ∙ c.if-eq.true)

pub overflow_add-count : goal.overflow_add-count
overflow_add-count c = omega (arith, names_few c.args.table.now, c.loop-known.invariant.1, ap length c.in-Some.ensures.steps, c.well_formed)

pub loop-known-preserved : goal.loop-known-preserved
loop-known-preserved c = find_miss _ _ _ _ c.loop-known.invariant.0 c.loop-known.invariant.1 _ _ c.in-Some.ensures.steps (sym (same_parts _ _ _ _) ∙ sym c.eq.ensures ∙ c.if-eq.false)

pub returns : goal.returns
returns c = find_none _ _ _ _ c.loop-known.invariant.0 c.loop-known.invariant.1 c.in-None.ensures.steps.0
