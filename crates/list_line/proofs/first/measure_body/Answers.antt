use native.Mathlib.Omega.{arith}
use mathlib.Core.Path.{◌≡◌, sym, ap, ◌∙◌}
use lib.ListN.{length, take}
use Rattle.paper.specs.Names.{names_in}
use Rattle.list_pieces.specs.declared.Pieces.{Pieces}
use Rattle.list_pieces.specs.Walk.{passes}
use Rattle.list_line.proofs.PassLaws.{capped_most, measuring_first, measuring_next, measuring_fails, measuring_open, measuring_wants, measuring_done}
use Rattle.list_line.proofs.first.measure_body.Goals as goal

pub write_head-requires : goal.write_head-requires
write_head-requires c = omega (arith, c.requires.0.long)

pub longer-total-requires : goal.longer-total-requires
longer-total-requires c = (c.requires.2, omega arith)

pub loop-at-init : goal.loop-at-init
loop-at-init c = (c.of-pieces.ensures.0, rw (c.of-pieces.ensures.1, c.of-pieces.ensures.2) (measuring_first c.args.direct (names_in (take c.args.size c.args.names.now)) c.args.line.now c.args.room c.args.frames.now c.write_head.result c.longer-total.result c.requires.0 (omega (arith, c.type_inv.line 0)) c.requires.4 c.write_head.ensures c.longer-total.ensures))

pub check_piece-requires : goal.check_piece-requires
check_piece-requires c =
    let m = c.loop-at.invariant.1 in
    let p = passes c.loop-at.invariant.0 c.in-Some.ensures.steps.1 in
    rw c.in-Some.ensures.steps.0 (p.inside, omega (arith, m.fitting.shallow, c.loop-at.auto.frames, c.requires.3, c.requires.0.sized, c.type_inv.line 2, p.inside), c.requires.1)

pub write_piece-text-requires : goal.write_piece-text-requires
write_piece-text-requires c =
    let p = passes c.loop-at.invariant.0 c.in-Some.ensures.steps.1 in
    let k = rw c.in-Some.ensures.steps.0 at c.check_piece.ensures in
    let o = (k c.loop-at.pieces.end p.piece).fits _ c.in_ok-depth.was in
    rw c.in-Some.ensures.steps.0 (o.within, omega arith, o.holds)

pub longer-total-requires-in-Some : goal.longer-total-requires-in-Some
longer-total-requires-in-Some c = (c.requires.2, omega (arith, c.loop-at.invariant.1.count, capped_most c.args.room c.loop-at.invariant.1.before))

pub loop-at-preserved : goal.loop-at-preserved
loop-at-preserved c =
    let p = passes c.loop-at.invariant.0 c.in-Some.ensures.steps.1 in
    let k = rw c.in-Some.ensures.steps.0 at c.check_piece.ensures in
    let w = rw c.in-Some.ensures.steps.0 at c.write_piece-text.ensures in
    (p.same, measuring_next c.loop-at.invariant.1 p.inside p.piece ((k c.loop-at.pieces.end p.piece).fits _ c.in_ok-depth.was) w c.longer-total-in-Some.ensures p.stop p.next)

pub returns-in_err-depth : goal.returns-in_err-depth
returns-in_err-depth c =
    let p = passes c.loop-at.invariant.0 c.in-Some.ensures.steps.1 in
    let k = rw c.in-Some.ensures.steps.0 at c.check_piece.ensures in
    rw c.from_residual.ensures (measuring_fails c.loop-at.invariant.1 ((k c.loop-at.pieces.end p.piece).fails c.in_err-depth.was))

pub returns-then-pieces : goal.returns-then-pieces
returns-then-pieces c =
    let e : c.next.new.self ≡ c.loop-at.pieces = c.in_default.ensures.steps.1 in
    measuring_open c.loop-at.invariant.1 (omega (arith, c.in_default.ensures.steps.0, ap length c.loop-at.invariant.0)) (λ z. c.if-pieces.true (ap (λ (w : Pieces). w.end) e ∙ z ∙ sym (ap (λ (w : Pieces). w.at) e)))

pub returns-then-depth-ne0 : goal.returns-then-depth-ne0
returns-then-depth-ne0 c = measuring_wants c.loop-at.invariant.1 (omega (arith, c.in_default.ensures.steps.0, ap length c.loop-at.invariant.0)) c.if-depth-ne0.true

pub returns : goal.returns
returns c =
    let e : c.next.new.self ≡ c.loop-at.pieces = c.in_default.ensures.steps.1 in
    measuring_done c.loop-at.invariant.1 (omega (arith, c.in_default.ensures.steps.0, ap length c.loop-at.invariant.0)) (sym (ap (λ (w : Pieces). w.end) e) ∙ c.if-pieces.false ∙ ap (λ (w : Pieces). w.at) e) c.if-depth-ne0.false
