-- The invariant: so many bytes are counted, no more than were passed; and over whatever names, they and those of the rest are all.
use native.Mathlib.Omega.{arith}
use Prim.Native.Nat.{ℕ}
use mathlib.Core.Path.{◌≡◌, ap, ◌∙◌}
use lib.ListN.{length, drop}
use Rattle.list_pieces.specs.Pieces.{end_after}
use Rattle.list_pieces.specs.Walk.{passes}
use Rattle.list_measure.proofs.PassingLaws.{fits, passing_shorter}
use Rattle.list_measure.proofs.MeasureLaws.{counting_first, counting_next, counting_so, counting_begins, counting_ends}
use Rattle.list_measure.proofs.to_next.Goals as goal

pub loop-pieces-init : goal.loop-pieces-init
loop-pieces-init c =
    let o = c.within-pieces.ensures in
    (o.0, o.2, omega (arith, o.1), omega (arith, o.1, c.requires.0), λ ns new p. rw o.1 (counting_first _ p))

pub returns-in_default : goal.returns-in_default
returns-in_default c =
    let m = c.loop-pieces.invariant in
    (omega (arith, m.2, m.3), λ ns new p. counting_ends (m.4 ns new p) (omega (arith, c.in_default.ensures.steps.0, ap length m.0)))

pub new_size-n-requires : goal.new_size-n-requires
new_size-n-requires c =
    let m = c.loop-pieces.invariant in
    let p = passes m.0 c.in-Some.ensures.steps.1 in
    omega (arith, fits c.args.line.now (m.4 _ _ c.requires.1.passing).passing _ p.inside (rw m.1 at p.piece))

pub overflow_add-n : goal.overflow_add-n
overflow_add-n c =
    let m = c.loop-pieces.invariant in
    let p = passes m.0 c.in-Some.ensures.steps.1 in
    omega (arith, c.new_size-n.ensures, fits c.args.line.now (m.4 _ _ c.requires.1.passing).passing _ p.inside (rw m.1 at p.piece), passing_shorter c.args.line.now (m.4 _ _ c.requires.1.passing).passing _ p.inside (rw m.1 at p.piece), m.2)

pub loop-pieces-preserved : goal.loop-pieces-preserved
loop-pieces-preserved c =
    let m = c.loop-pieces.invariant in
    let p = passes m.0 c.in-Some.ensures.steps.1 in
    let here = rw m.1 at p.piece in
    let within = λ (z : c.loop-pieces.pieces.at ≡ c.args.end). c.loop-pieces-test.true (omega (arith, z, m.1)) in
    let k = m.4 _ _ c.requires.1.passing in (
      p.same,
      p.stop ∙ ap (λ (e : ℕ). end_after e (drop c.loop-pieces.pieces.at c.args.line.now) c.in-Some.piece) m.1 ∙ counting_so k p.inside here within,
      omega (arith, p.next, c.new_size-n.ensures, passing_shorter c.args.line.now k.passing _ p.inside here, m.2),
      omega (arith, p.next, fits c.args.line.now k.passing _ p.inside here),
      λ ns new q. counting_next (m.4 ns new q) p.inside here within c.new_size-n.ensures p.next,
    )

pub returns : goal.returns
returns c =
    let m = c.loop-pieces.invariant in
    (omega (arith, m.2, m.3), λ ns new p. counting_begins (m.4 ns new p) (omega (arith, c.loop-pieces-test.false, m.1)))
