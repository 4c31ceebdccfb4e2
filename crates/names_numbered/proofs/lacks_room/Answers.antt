use Prim.Native.Nat.{◌*◌, ◌+◌, ℕ}
use Rattle.names_numbered.proofs.Rooms.{lacks_names, lacks_nothing, lacks_values, passes_limit}
use Rattle.names_form.specs.Places.{names_few}
use lib.Dec.{ltb}
use mathlib.Core.Path.{◌∙◌, ap}
use native.Mathlib.Omega.{arith}
use Rattle.names_numbered.proofs.lacks_room.Goals as goal

pub returns-then-fresh-eq0 : goal.returns-then-fresh-eq0
returns-then-fresh-eq0 c = lacks_nothing _ _ _ _ c.args.fresh.now c.if-fresh-eq0.true

pub returns-then-count-gt-MOST_NAMES : goal.returns-then-count-gt-MOST_NAMES
returns-then-count-gt-MOST_NAMES c = passes_limit _ _ _ _ c.args.fresh.now c.if-fresh-eq0.false (omega arith)

pub overflow_add-after : goal.overflow_add-after
overflow_add-after c = omega (arith, c.count.ensures, names_few c.args.fresh.now, c.well_formed)

pub returns-then-after-gt-MOST_NAMES : goal.returns-then-after-gt-MOST_NAMES
returns-then-after-gt-MOST_NAMES c = passes_limit _ _ _ _ c.args.fresh.now c.if-fresh-eq0.false (omega (arith, c.count.ensures))

pub returns-then-name_room-size : goal.returns-then-name_room-size
returns-then-name_room-size c = lacks_names _ _ _ _ c.args.fresh.now c.if-fresh-eq0.false (omega arith)

pub returns-then-name_room-size-2 : goal.returns-then-name_room-size-2
returns-then-name_room-size-2 c = lacks_names _ _ _ _ c.args.fresh.now c.if-fresh-eq0.false (omega arith)

pub returns : goal.returns
returns c = ap (λ (k : ℕ). ltb c.args.value_room (8 * (c.args.count + k))) c.count.ensures ∙ lacks_values _ _ _ _ c.args.fresh.now c.if-fresh-eq0.false (omega (arith, c.count.ensures)) (omega arith)
