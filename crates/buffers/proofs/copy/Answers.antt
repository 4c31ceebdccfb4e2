-- The bytes that fit are all that are written.
use Rattle.std.proofs.Common.{arith, ◌+◌, min, length, get_or, set, ℕ, List, refl, ap, ◌∙◌}
use Rattle.buffers.specs.Sets.{sets_more}
use Rattle.buffers.proofs.Room.{copied}
use Rattle.buffers.proofs.copy.Goals as goal

pub loop-i-init : goal.loop-i-init
loop-i-init c = refl

pub loop-i-preserved : goal.loop-i-preserved
loop-i-preserved c =
    let a = c.args in
    ap (λ (l : List ℕ). set l (a.at + c.loop-i.i) (get_or a.src.now c.loop-i.i 0)) c.loop-i.invariant ∙ sets_more a.out.now a.at a.src.now c.loop-i.i (omega (arith, c.loop-i-test.true, c.min-size.ensures))

pub returns : goal.returns
returns c =
    let a = c.args in
    copied a.out.now a.at c.loop-i.i a.src.now (c.min-size.ensures ∙ ap (min (length a.src.now)) c.saturating_sub.ensures) c.loop-i.auto.i-end c.loop-i-test.false c.loop-i.invariant
