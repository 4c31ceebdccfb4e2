-- The invariant: the walk over `rest`, from its offset on, comes to where the whole walk comes.
use mathlib.Core.Path.{refl, sym, ◌∙◌}
use native.Mathlib.Omega.{arith}
use lib.ListN.{length}
use Rattle.store.specs.Rising.{past, goes_by}
use Rattle.store.proofs.Walk.{begins, walk_stops, turn}
use Rattle.store.proofs.first_not_below.Goals as goal

pub slice_bounds-rest-count : goal.slice_bounds-rest-count
slice_bounds-rest-count c = c.requires.0

pub slice_bounds-rest-start : goal.slice_bounds-rest-start
slice_bounds-rest-start c = omega (arith, c.requires.0)

pub loop-size-init : goal.loop-size-init
loop-size-init c =
    let args = c.args in
    begins args.lines.now args.walk args.number c.requires _ (past args.lines.now args.walk.at _ refl)

pub overflow_sub-at : goal.overflow_sub-at
overflow_sub-at c = c.loop-size.invariant.0

pub overflow_add-least : goal.overflow_add-least
overflow_add-least c =
    let turn = c.loop-size in
    let goes = goes_by turn.least c.args.number turn.rest.now c.in-Some.size (sym c.passing.ensures ∙ c.in-Some.is) in
    omega (arith, goes.0.small, c.number-least.ensures)

pub overflow_add-count : goal.overflow_add-count
overflow_add-count c =
    let turn = c.loop-size in
    let goes = goes_by turn.least c.args.number turn.rest.now c.in-Some.size (sym c.passing.ensures ∙ c.in-Some.is) in
    omega (arith, goes.0.long, goes.0.fits, turn.invariant.1)

pub slice_bounds-rest-count-in-loop-size : goal.slice_bounds-rest-count-in-loop-size
slice_bounds-rest-count-in-loop-size c =
    let turn = c.loop-size in
    let goes = goes_by turn.least c.args.number turn.rest.now c.in-Some.size (sym c.passing.ensures ∙ c.in-Some.is) in
    omega (arith, goes.1, goes.0.fits)

pub slice_bounds-rest-start-in-loop-size : goal.slice_bounds-rest-start-in-loop-size
slice_bounds-rest-start-in-loop-size c =
    let turn = c.loop-size in
    let goes = goes_by turn.least c.args.number turn.rest.now c.in-Some.size (sym c.passing.ensures ∙ c.in-Some.is) in
    omega (arith, goes.1, goes.0.fits)

pub loop-size-smaller : goal.loop-size-smaller
loop-size-smaller c =
    let turn = c.loop-size in
    let goes = goes_by turn.least c.args.number turn.rest.now c.in-Some.size (sym c.passing.ensures ∙ c.in-Some.is) in
    omega (arith, goes.1, goes.0.long, goes.0.fits)

pub loop-size-preserved : goal.loop-size-preserved
loop-size-preserved c =
    let args = c.args in
    let at = c.loop-size in
    let rest = at.rest.now in
    let goes = goes_by at.least args.number rest c.in-Some.size (sym c.passing.ensures ∙ c.in-Some.is) in (
      omega (arith, at.invariant.0),
      omega (arith, goes.0.long, goes.0.fits, goes.1, at.invariant.1),
      turn (length args.lines.now) at.count at.least args.number rest goes.0 at.invariant.0 _ c.number-least.ensures _ (past rest c.in-Some.size _ goes.1) ∙ at.invariant.2,
    )

pub returns : goal.returns
returns c =
    let at = c.loop-size in
    (sym (walk_stops _ at.count at.least c.args.number at.rest.now (sym c.passing.ensures ∙ c.in_default.is)) ∙ at.invariant.2, (omega arith, omega (arith, at.invariant.1)))
