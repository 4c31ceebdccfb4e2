use native.Mathlib.Omega.{arith}
use mathlib.Core.Path.{ap}
use lib.ListN.{length, take}
use Rattle.paper.specs.Names.{names_in}
use Rattle.list_pieces.specs.Walk.{passes}
use Rattle.list_line.proofs.PassLaws.{formed_long, writing_first, writing_holds, writing_fits, writing_next, writing_done, body_fits}
use Rattle.list_line.proofs.second.write_line.Goals as goal

pub write_head-n-requires : goal.write_head-n-requires
write_head-n-requires c = let a = c.args in omega (arith, formed_long a.direct (names_in (take a.size a.names.now)) a.line.now c.requires.0)

pub loop-at-init : goal.loop-at-init
loop-at-init c = let a = c.args in (c.of-pieces.ensures.0, rw (c.of-pieces.ensures.1, c.of-pieces.ensures.2) (writing_first a.direct (names_in (take a.size a.names.now)) a.line.now _ c.write_head-n.result c.requires.0))

pub write_piece-n-requires : goal.write_piece-n-requires
write_piece-n-requires c =
    let a = c.args in
    let m = c.loop-at.invariant.1 in
    let p = passes c.loop-at.invariant.0 c.in-Some.ensures.steps.1 in
    let h = writing_holds m p.inside p.piece in
    rw c.in-Some.ensures.steps.0 (h.1, omega (arith, writing_fits m p.inside p.piece (body_fits a.direct (names_in (take a.size a.names.now)) a.line.now c.write_head-n.ensures c.write_head-n.auto.out c.requires.1)), h.0)

pub overflow_add-n : goal.overflow_add-n
overflow_add-n c =
    let a = c.args in
    let p = passes c.loop-at.invariant.0 c.in-Some.ensures.steps.1 in
    let w = rw c.in-Some.ensures.steps.0 at c.write_piece-n.ensures in
    omega (arith, writing_fits c.loop-at.invariant.1 p.inside p.piece (body_fits a.direct (names_in (take a.size a.names.now)) a.line.now c.write_head-n.ensures c.write_head-n.auto.out c.requires.1), w.size)

pub loop-at-preserved : goal.loop-at-preserved
loop-at-preserved c =
    let p = passes c.loop-at.invariant.0 c.in-Some.ensures.steps.1 in
    let w = rw c.in-Some.ensures.steps.0 at c.write_piece-n.ensures in
    (p.same, writing_next c.loop-at.invariant.1 p.inside p.piece w p.stop p.next)

pub returns : goal.returns
returns c = writing_done c.loop-at.invariant.1 c.args.direct c.write_head-n.ensures (omega (arith, c.in_default.ensures.steps.0, ap length c.loop-at.invariant.0))
