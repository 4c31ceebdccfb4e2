use native.Mathlib.Omega.{arith}
use Rattle.list_check.proofs.Checking.{raw_taken, end_refused, raw_refused}
use Rattle.list_check.proofs.check_raw.Goals as goal

pub take_item-requires-2 : goal.take_item-requires-2
take_item-requires-2 c = (omega (arith, (c.take_item.ensures.takes _ c.in_ok-text.was).1, c.take_item.auto.frames), omega arith)

pub returns : goal.returns
returns c = raw_taken c.take_item.ensures _ c.in_ok-text.was c.take_item-2.ensures _ c.in_ok-end.was

pub returns-in_err-end : goal.returns-in_err-end
returns-in_err-end c = rw c.from_residual-in_err-end.ensures (end_refused c.take_item.ensures _ c.in_ok-text.was c.take_item-2.ensures c.in_err-end.was)

pub returns-in_err-text : goal.returns-in_err-text
returns-in_err-text c = rw c.from_residual.ensures (raw_refused c.take_item.ensures c.in_err-text.was)
