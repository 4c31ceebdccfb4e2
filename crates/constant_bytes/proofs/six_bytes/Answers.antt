-- `six_bytes` meets its contract: zero, below the range, above it, and within it.
use native.Mathlib.Omega.{arith}
use Rattle.paper.specs.Constants.{zero_bytes}
use Rattle.constant_bytes.proofs.Places.{count}
use Rattle.constant_bytes.proofs.Outcomes.{numeral_zero, numeral_low, numeral_high, numeral_within}
use Rattle.constant_bytes.proofs.six_bytes.Goals as goal

pub returns-then-count-first : goal.returns-then-count-first
unfolding zero_bytes
returns-then-count-first c = numeral_zero c.args.text.now c.args.n c.requires c.leading-first.ensures c.count-count.ensures c.if-count-first.true

pub overflow_add-up : goal.overflow_add-up
overflow_add-up c = omega (arith, count c.args.text.now c.args.n c.requires, c.requires.whole_there, c.requires.fraction_there, c.up.ensures.1)

pub overflow_add-up-2 : goal.overflow_add-up-2
overflow_add-up-2 c = omega (arith, count c.args.text.now c.args.n c.requires, c.requires.whole_there, c.requires.fraction_there, c.up.ensures.1, c.below-down.ensures.1)

pub returns-then-up-down : goal.returns-then-up-down
returns-then-up-down c = numeral_low c.args.text.now c.args.n c.requires c.leading-first.ensures c.count-count.ensures (omega arith) c.up.ensures.0 c.below-down.ensures.0 c.if-up-down.true

pub overflow_add-down : goal.overflow_add-down
overflow_add-down c = omega (arith, count c.args.text.now c.args.n c.requires, c.requires.whole_there, c.requires.fraction_there, c.up.ensures.1, c.below-down.ensures.1)

pub returns-then-down-up : goal.returns-then-down-up
returns-then-down-up c = numeral_high c.args.text.now c.args.n c.requires c.leading-first.ensures c.count-count.ensures (omega arith) c.up.ensures.0 c.below-down.ensures.0 c.if-down-up.true

pub overflow_add-up-3 : goal.overflow_add-up-3
overflow_add-up-3 c = omega (arith, count c.args.text.now c.args.n c.requires, c.requires.whole_there, c.requires.fraction_there, c.up.ensures.1, c.below-down.ensures.1)

pub six_from-requires : goal.six_from-requires
six_from-requires c = (omega (arith, count c.args.text.now c.args.n c.requires, c.requires.whole_there, c.requires.fraction_there), omega arith)

pub returns : goal.returns
returns c = numeral_within c.args.text.now c.args.n c.requires c.leading-first.ensures c.count-count.ensures (omega arith) c.up.ensures.0 c.below-down.ensures.0 c.if-up-down.false c.if-down-up.false c.six_from.ensures
