-- The loop keeps a walk: what is still to be written to the names, the values and the marks makes what was to be written at entry.
use Rattle.std.proofs.Common.{◌<◌, arith, refl, ap, ◌∙◌}
use lib.Seq.{set-get_or}
use Rattle.names_left.proofs.Turns.{walk_start, walk_as, walk_out, turn_fits, turn_kept, turn_gone, walk_end, sized, moved}
use Rattle.names_left.proofs.keep_marked.Goals as goal
use Rattle.names_left.proofs.keep_marked.Goals.{then-mark-ne0, else-mark-ne0}

pub loop-number-init : goal.loop-number-init
loop-number-init c = walk_start _ _ _ _ c.requires.0 c.requires.1

pub returns-then-at-name_bytes : goal.returns-then-at-name_bytes
returns-then-at-name_bytes c =
    let w = c.loop-number.invariant in
    walk_end (walk_as w refl refl (set-get_or c.loop-number.marks c.loop-number.number 0) refl refl) (omega arith)

pub move_value-requires : goal.move_value-requires
move_value-requires c =
    let w = c.loop-number.invariant in
    omega (arith, turn_fits w _ (omega (arith, w.reads)) (sized _ _ _ c.first_size-size.ensures.0))

pub loop-number-preserved : goal.loop-number-preserved
loop-number-preserved c =
    let w = c.loop-number.invariant in
    let inside : c.loop-number.at < c.args.name_bytes = omega (arith, w.reads) in
    let ends = sized c.loop-number.names c.args.name_bytes c.loop-number.at c.first_size-size.ensures.0 in
    elim c.if-mark-ne0.branch [
      | then-mark-ne0 k ↦ walk_as (turn_kept w _ inside ends k.if-mark-ne0.true (moved c.loop-number.names c.loop-number.left.name_bytes c.loop-number.at c.first_size-size.result k.carry_down.ensures) k.move_value.ensures refl) k.names-is k.values-is k.marks-is (omega (arith, ap (λ l. l.name_bytes) k.left-is)) (ap (λ l. l.name_count) k.left-is)
      | else-mark-ne0 k ↦ walk_as (turn_gone w _ inside ends k.if-mark-ne0.false) k.names-is k.values-is (k.marks-is ∙ set-get_or c.loop-number.marks c.loop-number.number 0) (ap (λ l. l.name_bytes) k.left-is) (ap (λ l. l.name_count) k.left-is)
    ]

pub returns : goal.returns
returns c = walk_end c.loop-number.invariant (walk_out c.loop-number.invariant (omega (arith, c.loop-number.auto.marks, c.loop-number-test.false)))
