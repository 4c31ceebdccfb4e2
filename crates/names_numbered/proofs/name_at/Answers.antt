use Rattle.std.proofs.Common.{arith, refl, length, ap, ◌∙◌, sym}
use Rattle.names_numbered.specs.Standing.{start, start_within, stands_within}
use Rattle.names_numbered.proofs.Stands.{stands_some, stands_none}
use Rattle.names_numbered.proofs.name_at.Goals as goal

pub slice_bounds-names_in-count : goal.slice_bounds-names_in-count
unfolding start
slice_bounds-names_in-count c = omega (arith, c.start_of-from.ensures, start_within c.args.number c.front-used.result.now)

pub slice_bounds-names_in-start : goal.slice_bounds-names_in-start
unfolding start
slice_bounds-names_in-start c = omega (arith, c.start_of-from.ensures, start_within c.args.number c.front-used.result.now)

pub overflow_add-result : goal.overflow_add-result
overflow_add-result c =
    let there = stands_some _ _ _ _ c.front-used.ensures c.start_of-from.ensures _ _ (sym c.names_in.ensures ∙ c.in-Some.ensures.steps) c.bare_size.ensures refl in
    omega (arith, (stands_within c.args.names.now c.args.size there).1, ap length c.front-used.ensures, c.front-used.type_inv)

pub returns-in-Some : goal.returns-in-Some
returns-in-Some c = stands_some _ _ _ _ c.front-used.ensures c.start_of-from.ensures _ _ (sym c.names_in.ensures ∙ c.in-Some.ensures.steps) c.bare_size.ensures c.by_kind.ensures

pub returns-in-None : goal.returns-in-None
returns-in-None c = stands_none _ _ _ _ c.front-used.ensures c.start_of-from.ensures (sym c.names_in.ensures ∙ c.in-None.ensures.steps.0)
