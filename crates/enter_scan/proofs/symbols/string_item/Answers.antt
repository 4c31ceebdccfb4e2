use native.Mathlib.Omega.{arith}
use Rattle.enter_scan.proofs.SymbolLaws.{string_closed, string_marked, string_open}
use Rattle.enter_scan.proofs.Sound.{in_text}
use Rattle.enter_scan.proofs.symbols.string_item.Goals as goal

pub overflow_add-result : goal.overflow_add-result
overflow_add-result c = omega (arith, in_text c.args.part.now c.run_end-end.result (omega (arith, c.byte_at-last.ensures, c.if-last-eq34.true)))

pub returns-then-last-eq34 : goal.returns-then-last-eq34
returns-then-last-eq34 c = string_closed c.args.part.now c.args.at c.run_end-end.ensures.0 c.byte_at-last.ensures c.if-last-eq34.true

pub returns-then-last : goal.returns-then-last
returns-then-last c = string_marked c.args.part.now c.args.at c.run_end-end.ensures.0 c.byte_at-last.ensures c.if-last.true

pub returns : goal.returns
returns c = string_open c.args.part.now c.args.at c.run_end-end.ensures.0 c.byte_at-last.ensures c.if-last-eq34.false c.if-last.false
