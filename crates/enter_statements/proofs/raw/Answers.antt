use native.Mathlib.Omega.{arith}
use mathlib.Core.Path.{refl}
use Rattle.enter_scan.proofs.ScanLaws.{raw_within}
use Rattle.enter_statements.specs.StatementLaws.{raw_last, raw_stop}
use Rattle.enter_statements.proofs.raw.Goals as goal

pub returns-then-end-text : goal.returns-then-end-text
returns-then-end-text c = rw c.refuse.ensures (raw_stop _ _ c.requires c.raw_text-raw.ensures c.if-end-text.true refl)

pub overflow_sub-size : goal.overflow_sub-size
overflow_sub-size c = (raw_within c.args.text.part.now c.args.q.at c.requires.within c.raw_text-raw.ensures).1

pub slice_bounds-copy-count : goal.slice_bounds-copy-count
slice_bounds-copy-count c = (raw_within c.args.text.part.now c.args.q.at c.requires.within c.raw_text-raw.ensures).1

pub slice_bounds-copy-start : goal.slice_bounds-copy-start
slice_bounds-copy-start c = let w = raw_within c.args.text.part.now c.args.q.at c.requires.within c.raw_text-raw.ensures in omega (arith, w.0, w.1, w.2)

pub slice_bounds-copy-end-2 : goal.slice_bounds-copy-end-2
slice_bounds-copy-end-2 c = let w = raw_within c.args.text.part.now c.args.q.at c.requires.within c.raw_text-raw.ensures in omega (arith, w.0, w.1, w.2)

pub returns : goal.returns
returns c = raw_last c.requires c.raw_text-raw.ensures c.if-end-text.false c.copy.ensures c.put.ensures
