use Prim.Native.Nat.{◌^◌}
use native.Mathlib.Omega.{arith}
use mathlib.Core.Path.{◌≡◌, refl, subst, sym, ap, ◌∙◌}
use lib.ListN.{length, take}
use Rattle.paper.specs.Names.{names_in}
use Rattle.list_pieces.specs.declared.Pieces.{Pieces}
use Rattle.list_pieces.specs.Walk.{passes}
use Rattle.list_weigh.specs.Weights.{plus, Small}
use Rattle.list_weigh.proofs.Bounds.{small_more}
use Rattle.list_weigh.proofs.Walk.{formed_long, weighed_first, weighed_holds, weighed_small, weighed_next, weighed_done}
use Rattle.list_weigh.proofs.weigh_formed.Goals as goal

pub weight_of_head-total-requires : goal.weight_of_head-total-requires
weight_of_head-total-requires c = omega (arith, formed_long (names_in (take c.args.size c.args.names.now)) c.args.line.now c.requires.0)

pub loop-at-init : goal.loop-at-init
loop-at-init c =
    let e = c.into_iter-at-iterator.ensures.into_iter_gives in
    let o = c.of-at-items.ensures in
    let at : c.into_iter-at-iterator.result.at ≡ 3 = ap (λ (w : Pieces). w.at) e ∙ o.1 in
    let end : c.into_iter-at-iterator.result.end ≡ 3 = ap (λ (w : Pieces). w.end) e ∙ o.2 in
    (refl, ap (λ (w : Pieces). w.line.now) e ∙ o.0, rw (at, end) (weighed_first (names_in (take c.args.size c.args.names.now)) c.args.line.now _ (omega (arith, c.type_inv.line 2)) c.requires.0 c.weight_of_head-total.ensures))

pub write_piece-text-requires : goal.write_piece-text-requires
write_piece-text-requires c =
    let p = passes c.loop-at.invariant.1 c.in-Some.ensures.steps.1 in
    let h = weighed_holds c.args.names.now c.args.size c.loop-at.invariant.2 p.inside p.piece in
    rw c.in-Some.ensures.steps.0 (h.1, omega arith, h.0)

pub added-total-requires : goal.added-total-requires
added-total-requires c =
    let m = c.loop-at.invariant.2 in
    let p = passes c.loop-at.invariant.1 c.in-Some.ensures.steps.1 in
    let w = rw c.in-Some.ensures.steps.0 at c.write_piece-text.ensures in
    let h = (weighed_holds c.args.names.now c.args.size m p.inside p.piece).1 in
    (small_more _ (2 ^ 46) _ (omega (arith, p.inside, m.short)) m.small, subst (Small (2 ^ 46)) (sym c.weight_of.ensures) (small_more _ (2 ^ 46) _ (omega (arith, h, m.short)) (weighed_small c.args.names.now c.args.size m p.inside p.piece c.requires.2 w.size)))

pub loop-at-preserved : goal.loop-at-preserved
loop-at-preserved c =
    let p = passes c.loop-at.invariant.1 c.in-Some.ensures.steps.1 in
    let w = rw c.in-Some.ensures.steps.0 at c.write_piece-text.ensures in
    (c.write_piece-text.auto.out ∙ c.loop-at.invariant.0, p.same, weighed_next c.args.names.now c.args.size c.loop-at.invariant.2 p.inside p.piece c.requires.2 w.size c.requires.1 (c.added-total.ensures ∙ ap (plus c.loop-at.total) c.weight_of.ensures) p.stop p.next)

pub returns : goal.returns
returns c = weighed_done c.loop-at.invariant.2 (omega (arith, c.in-None.ensures.steps.0, ap length c.loop-at.invariant.1))
