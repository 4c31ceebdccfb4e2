use native.Mathlib.Nat.{zero-add}
use native.Mathlib.Omega.{arith}
use mathlib.Core.Path.{◌∙◌}
use Rattle.paper.specs.Bytes.{blank?, run}
use Rattle.enter_line.specs.ReadingLaws.{head_blanks, head_none, head_great, head_number}
use Rattle.enter_line.proofs.head_of.Goals as goal

pub returns-then-from-text : goal.returns-then-from-text
returns-then-from-text c = head_blanks c.args.text.now _ _ (c.run_end-from.ensures.0 ∙ zero-add (run blank? c.args.text.now)) c.run_end-end.ensures.0 c.if-end-from.true c.if-from-text.true

pub returns-then-end-from : goal.returns-then-end-from
returns-then-end-from c = head_none c.args.text.now _ _ (c.run_end-from.ensures.0 ∙ zero-add (run blank? c.args.text.now)) c.run_end-end.ensures.0 c.if-end-from.true c.if-from-text.false

pub slice_bounds-decimal-end : goal.slice_bounds-decimal-end
slice_bounds-decimal-end c = c.run_end-end.ensures.1 (c.run_end-from.ensures.1 (omega arith))

pub returns-then-number-gt-GREATEST_NUMBER : goal.returns-then-number-gt-GREATEST_NUMBER
returns-then-number-gt-GREATEST_NUMBER c = head_great c.args.text.now _ _ (c.run_end-from.ensures.0 ∙ zero-add (run blank? c.args.text.now)) c.run_end-end.ensures.0 c.if-end-from.false (omega (arith, c.decimal-number.ensures))

pub returns : goal.returns
returns c = head_number c.args.text.now _ _ (c.run_end-from.ensures.0 ∙ zero-add (run blank? c.args.text.now)) c.run_end-end.ensures.0 _ c.if-end-from.false (omega (arith, c.decimal-number.ensures)) c.if-number-gt-GREATEST_NUMBER.false
