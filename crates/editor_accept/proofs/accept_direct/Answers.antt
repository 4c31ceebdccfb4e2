use mathlib.Core.List.{[]}
use Rattle.paper.specs.Line.{direct_number}
use Rattle.editor_accept.proofs.AnswerLaws.{room_is, direct_short, direct_8, direct_0}
use Rattle.editor_accept.proofs.accept_direct.Goals as goal

pub returns-in-Some : goal.returns-in-Some
returns-in-Some c =
    let args = c.args in
    direct_short args.names.now args.values.now args.e c.requires.0 c.requires.1 args.buffer.now args.line.now args.size args.fresh.now _ c.shortage.ensures _ _ c.in-Some.is c.refused.ensures

pub returns-then-buffer-size : goal.returns-then-buffer-size
returns-then-buffer-size c =
    let args = c.args in
    direct_8 args.names.now args.values.now args.e c.requires.0 c.requires.1 args.buffer.now args.line.now args.size args.fresh.now _ c.shortage.ensures c.in_default.is _ c.if-buffer-size.true c.refused-then-buffer-size.ensures

pub accepted-requires : goal.accepted-requires
accepted-requires c =
    let args = c.args in
    room_is args.names.now args.values.now [] args.e c.requires.0 c.requires.1 direct_number args.line.now args.size args.fresh.now _ c.shortage.ensures c.in_default.is c.requires.2.written.closed

pub returns : goal.returns
returns c =
    let args = c.args in
    direct_0 args.names.now args.values.now args.e c.requires.0 c.requires.1 args.buffer.now args.line.now args.size args.fresh.now _ c.shortage.ensures c.in_default.is _ _ _ _ _ _ c.if-buffer-size.false c.from.ensures c.front.ensures c.copy.ensures c.accepted.ensures.0 c.accepted.ensures.1 c.accepted.ensures.2
