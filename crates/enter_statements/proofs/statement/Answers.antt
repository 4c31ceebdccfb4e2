use native.Mathlib.Omega.{arith}
use mathlib.Core.Path.{refl, sym, ap, ◌∙◌}
use Prim.Native.Nat.{◌+◌}
use mathlib.Core.List.{[]}
use lib.ListN.{length, length-drop}
use Rattle.std.proofs.Common.{Ok}
use Rattle.std.proofs.lemmas.Result.{err_from_is_err_and}
use Rattle.enter_statement.specs.Moves.{seen_low}
use Rattle.enter_scan.proofs.ScanLaws.{rest_part}
use Rattle.enter_statements.specs.LineLaws.{states_more, states_last, states_halt, says_more, says_last, says_halt}
use Rattle.enter_statements.specs.StatementLaws.{begun, begun_row, begun_moves, not_begun, after_first, rest_of, rest_asks}
use Rattle.enter_statements.proofs.statement.Goals as goal

pub take_item-requires : goal.take_item-requires
take_item-requires c = (omega arith, seen_low c.see-seen.ensures)

pub refuse-requires : goal.refuse-requires
refuse-requires c = let next = c.see-seen.ensures.next 0 [] in (omega (arith, next.spans, next.within), c.requires.short)

pub returns-in_default : goal.returns-in_default
returns-in_default c = let see = c.see-seen.ensures in rw c.refuse.ensures (says_halt _ _ (not_begun refl c.in_default.ensures refl (see.next c.args.text.offset c.args.text.names.now) (sym see.class) refl))

pub begin-p-requires : goal.begin-p-requires
begin-p-requires c = (c.requires, c.see-seen.ensures, (begun refl c.take_item.ensures c.in-Some.is).1.starts)

pub rest-requires : goal.rest-requires
rest-requires c = let begin = c.begin-p.ensures in let depth = c.in-Some.is in let see = c.see-seen.result.item.end in let args = c.args in (rest_asks args.text.part.now _ args.text.names.now args.text.offset (args.text.offset + see) see (rest_part args.text.part.now see) (omega arith) begin.stands begin.asks, (begun refl c.take_item.ensures depth).1, omega (arith, (c.take_item.ensures.takes _ depth).1), omega (arith, c.take_item.auto.frames))

pub overflow_add-result : goal.overflow_add-result
overflow_add-result c = let see = c.see-seen in omega (arith, (c.rest.ensures.more _ (c.in_ok-next.was ∙ ap Ok c.in-More.is)).asks.within, ap length (rest_part c.args.text.part.now see.result.item.end), length-drop see.result.item.end c.args.text.part.now, (see.ensures.next 0 []).within, c.requires.short)

pub returns-in-More : goal.returns-in-More
returns-in-More c = let depth = c.in-Some.is in let take-item = c.take_item.ensures in let see = c.see-seen in let args = c.args in says_more (states_more _ (after_first see.result.class (see.ensures.next args.text.offset args.text.names.now) (sym see.ensures.class) (begun refl take-item depth).1.starts) (begun_row _ (begun refl take-item depth) (sym see.ensures.class)) c.begin-p.ensures (begun_moves (see.ensures.next 0 []) (sym see.ensures.class) (begun refl take-item depth).1.starts) (rest_of args.text.part.now _ args.text.names.now args.text.offset (args.text.offset + see.result.item.end) see.result.item.end see.result.class (rest_part args.text.part.now see.result.item.end) (omega arith) c.rest.ensures) (c.in_ok-next.was ∙ ap Ok c.in-More.is) c.low_byte.ensures c.put.ensures)

pub returns-in-Last : goal.returns-in-Last
returns-in-Last c = let depth = c.in-Some.is in let take-item = c.take_item.ensures in let see = c.see-seen in let args = c.args in says_last (states_last _ (after_first see.result.class (see.ensures.next args.text.offset args.text.names.now) (sym see.ensures.class) (begun refl take-item depth).1.starts) (begun_row _ (begun refl take-item depth) (sym see.ensures.class)) c.begin-p.ensures (begun_moves (see.ensures.next 0 []) (sym see.ensures.class) (begun refl take-item depth).1.starts) (rest_of args.text.part.now _ args.text.names.now args.text.offset (args.text.offset + see.result.item.end) see.result.item.end see.result.class (rest_part args.text.part.now see.result.item.end) (omega arith) c.rest.ensures) see.result.item.end (c.in_ok-next.was ∙ ap Ok c.in-Last.is) c.low_byte-in-Last.ensures c.put-in-Last.ensures)

pub returns-in_err-next : goal.returns-in_err-next
returns-in_err-next c =
    let p = err_from_is_err_and c.from_residual.result c.from_residual.ensures.1 in
    let depth = c.in-Some.is in let take-item = c.take_item.ensures in let see = c.see-seen in let args = c.args in
    rw (p.1, p.2) (says_halt _ _ (states_halt _ (after_first see.result.class (see.ensures.next args.text.offset args.text.names.now) (sym see.ensures.class) (begun refl take-item depth).1.starts) (begun_row _ (begun refl take-item depth) (sym see.ensures.class)) c.begin-p.ensures (begun_moves (see.ensures.next 0 []) (sym see.ensures.class) (begun refl take-item depth).1.starts) (rest_of args.text.part.now _ args.text.names.now args.text.offset (args.text.offset + see.result.item.end) see.result.item.end see.result.class (rest_part args.text.part.now see.result.item.end) (omega arith) c.rest.ensures) c.in_err-next.was))
