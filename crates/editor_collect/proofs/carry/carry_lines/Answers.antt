-- The invariant: what is written is no more than was read; and over whatever names, it and the lines of the rest are all the lines.
use native.Mathlib.Omega.{arith}
use Prim.Native.Nat.{◌+◌, ◌-◌}
use mathlib.Core.Path.{refl, ap, ◌∙◌}
use lib.ListN.{length, take, get_or, length-drop, length-take}
use Rattle.editor_collect.specs.Carries.{carrying_first, carrying_line, carrying_size, carrying_ready, carrying_next, carrying_whole, carrying_done, last_part, put_back}
use Rattle.editor_collect.proofs.carry.carry_lines.Goals as goal

pub loop-from-init : goal.loop-from-init
loop-from-init c = (refl, omega arith, omega arith, c.requires.1, λ ns new r. carrying_first _ _ r)

pub overflow_add-size : goal.overflow_add-size
overflow_add-size c = omega (arith, c.requires.0)

pub bounds-store-from : goal.bounds-store-from
bounds-store-from c = omega (arith, c.requires.0, c.loop-from.invariant.0, (carrying_line (c.loop-from.invariant.4 _ _ c.requires.2.ready) c.loop-from.invariant.1 c.loop-from-test.true c.requires.0 c.loop-from.invariant.3).long, (carrying_line (c.loop-from.invariant.4 _ _ c.requires.2.ready) c.loop-from.invariant.1 c.loop-from-test.true c.requires.0 c.loop-from.invariant.3).fits, (carrying_size (c.loop-from.invariant.4 _ _ c.requires.2.ready) c.loop-from.invariant.1 c.loop-from-test.true c.requires.0 c.loop-from.invariant.3), length-drop c.loop-from.from (take c.args.used c.args.store.now), length-take c.args.used c.args.store.now)

pub overflow_cast-size : goal.overflow_cast-size
overflow_cast-size c = omega (arith, c.slice_known-in-loop-from-1.given (c.loop-from.from + 2))

pub slice_bounds-carry_line-count : goal.slice_bounds-carry_line-count
slice_bounds-carry_line-count c = omega (arith, c.requires.0, c.loop-from.invariant.0)

pub slice_bounds-carry_line-start : goal.slice_bounds-carry_line-start
slice_bounds-carry_line-start c = omega (arith, c.requires.0, c.loop-from.invariant.0)

pub slice_bounds-carry_line-end : goal.slice_bounds-carry_line-end
slice_bounds-carry_line-end c = omega (arith, c.requires.0, c.loop-from.invariant.0)

pub overflow_sub-from : goal.overflow_sub-from
overflow_sub-from c = c.loop-from.invariant.1

pub carry_line-to-requires : goal.carry_line-to-requires
carry_line-to-requires c = (omega (arith, (carrying_line (c.loop-from.invariant.4 _ _ c.requires.2.ready) c.loop-from.invariant.1 c.loop-from-test.true c.requires.0 c.loop-from.invariant.3).long, (carrying_line (c.loop-from.invariant.4 _ _ c.requires.2.ready) c.loop-from.invariant.1 c.loop-from-test.true c.requires.0 c.loop-from.invariant.3).fits, (carrying_size (c.loop-from.invariant.4 _ _ c.requires.2.ready) c.loop-from.invariant.1 c.loop-from-test.true c.requires.0 c.loop-from.invariant.3), length-drop c.loop-from.from (take c.args.used c.args.store.now), length-take c.args.used c.args.store.now), omega (arith, c.slice_known-in-loop-from-1.given (c.loop-from.from + 2)), omega (arith, c.requires.0, c.loop-from.invariant.0, ap length (last_part c.loop-from.store c.loop-from.to), length-drop c.loop-from.to c.loop-from.store, (carrying_line (c.loop-from.invariant.4 _ _ c.requires.2.ready) c.loop-from.invariant.1 c.loop-from-test.true c.requires.0 c.loop-from.invariant.3).long, (carrying_line (c.loop-from.invariant.4 _ _ c.requires.2.ready) c.loop-from.invariant.1 c.loop-from-test.true c.requires.0 c.loop-from.invariant.3).fits, (carrying_size (c.loop-from.invariant.4 _ _ c.requires.2.ready) c.loop-from.invariant.1 c.loop-from-test.true c.requires.0 c.loop-from.invariant.3), length-drop c.loop-from.from (take c.args.used c.args.store.now), length-take c.args.used c.args.store.now), record { names = c.requires.2.names; new = c.requires.2.new; ready = carrying_ready (c.loop-from.invariant.4 _ _ c.requires.2.ready) c.loop-from.invariant.1 c.loop-from-test.true c.requires.0 c.loop-from.invariant.3 (get_or c.loop-from.store (c.loop-from.from + 2) 0) (carrying_size (c.loop-from.invariant.4 _ _ c.requires.2.ready) c.loop-from.invariant.1 c.loop-from-test.true c.requires.0 c.loop-from.invariant.3) (last_part c.loop-from.store c.loop-from.to) })

pub overflow_add-to : goal.overflow_add-to
overflow_add-to c = omega (arith, c.requires.0, c.carry_line-to.ensures.0, (carrying_line (c.loop-from.invariant.4 _ _ c.requires.2.ready) c.loop-from.invariant.1 c.loop-from-test.true c.requires.0 c.loop-from.invariant.3).long, (carrying_line (c.loop-from.invariant.4 _ _ c.requires.2.ready) c.loop-from.invariant.1 c.loop-from-test.true c.requires.0 c.loop-from.invariant.3).fits, (carrying_size (c.loop-from.invariant.4 _ _ c.requires.2.ready) c.loop-from.invariant.1 c.loop-from-test.true c.requires.0 c.loop-from.invariant.3), length-drop c.loop-from.from (take c.args.used c.args.store.now), length-take c.args.used c.args.store.now)

pub overflow_add-from : goal.overflow_add-from
overflow_add-from c = omega (arith, c.requires.0, (carrying_line (c.loop-from.invariant.4 _ _ c.requires.2.ready) c.loop-from.invariant.1 c.loop-from-test.true c.requires.0 c.loop-from.invariant.3).long, (carrying_line (c.loop-from.invariant.4 _ _ c.requires.2.ready) c.loop-from.invariant.1 c.loop-from-test.true c.requires.0 c.loop-from.invariant.3).fits, (carrying_size (c.loop-from.invariant.4 _ _ c.requires.2.ready) c.loop-from.invariant.1 c.loop-from-test.true c.requires.0 c.loop-from.invariant.3), length-drop c.loop-from.from (take c.args.used c.args.store.now), length-take c.args.used c.args.store.now)

pub loop-from-smaller : goal.loop-from-smaller
loop-from-smaller c = omega (arith, (carrying_line (c.loop-from.invariant.4 _ _ c.requires.2.ready) c.loop-from.invariant.1 c.loop-from-test.true c.requires.0 c.loop-from.invariant.3).long, (carrying_line (c.loop-from.invariant.4 _ _ c.requires.2.ready) c.loop-from.invariant.1 c.loop-from-test.true c.requires.0 c.loop-from.invariant.3).fits, (carrying_size (c.loop-from.invariant.4 _ _ c.requires.2.ready) c.loop-from.invariant.1 c.loop-from-test.true c.requires.0 c.loop-from.invariant.3), length-drop c.loop-from.from (take c.args.used c.args.store.now), length-take c.args.used c.args.store.now, c.loop-from-test.true)

pub loop-from-preserved : goal.loop-from-preserved
loop-from-preserved c = (omega (arith, c.loop-from.invariant.0), omega (arith, c.loop-from.invariant.1, c.carry_line-to.ensures.0), omega (arith, c.loop-from.invariant.2, (carrying_line (c.loop-from.invariant.4 _ _ c.requires.2.ready) c.loop-from.invariant.1 c.loop-from-test.true c.requires.0 c.loop-from.invariant.3).long, (carrying_line (c.loop-from.invariant.4 _ _ c.requires.2.ready) c.loop-from.invariant.1 c.loop-from-test.true c.requires.0 c.loop-from.invariant.3).fits, (carrying_size (c.loop-from.invariant.4 _ _ c.requires.2.ready) c.loop-from.invariant.1 c.loop-from-test.true c.requires.0 c.loop-from.invariant.3), length-drop c.loop-from.from (take c.args.used c.args.store.now), length-take c.args.used c.args.store.now), carrying_whole (c.loop-from.invariant.4 _ _ c.requires.2.ready) c.loop-from.invariant.1 c.loop-from-test.true c.requires.0 c.loop-from.invariant.3 (get_or c.loop-from.store (c.loop-from.from + 2) 0) (carrying_size (c.loop-from.invariant.4 _ _ c.requires.2.ready) c.loop-from.invariant.1 c.loop-from-test.true c.requires.0 c.loop-from.invariant.3), λ ns new r. carrying_next (c.loop-from.invariant.4 ns new r) c.loop-from.invariant.1 c.loop-from-test.true c.requires.0 c.loop-from.invariant.3 (get_or c.loop-from.store (c.loop-from.from + 2) 0) (carrying_size (c.loop-from.invariant.4 _ _ c.requires.2.ready) c.loop-from.invariant.1 c.loop-from-test.true c.requires.0 c.loop-from.invariant.3) (last_part c.loop-from.store c.loop-from.to) c.carry_line-to.ensures.1 (put_back c.loop-from.store _ c.loop-from.to))

pub shape_of-store : goal.shape_of-store
shape_of-store c = c.loop-from.invariant.0

pub returns : goal.returns
returns c = λ ns new r. carrying_done (c.loop-from.invariant.4 ns new r) c.loop-from-test.false
