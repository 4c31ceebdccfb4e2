-- The invariant: over any names with these kinds, the line is well-formed exactly if the rest is.
use native.Mathlib.Omega.{arith}
use mathlib.Core.Path.{refl, sym, ◌∙◌}
use lib.ListN.{drop}
use Rattle.paper.specs.Line.{lawful_number?}
use Rattle.list_pieces.specs.PieceLaws.{piece_some}
use Rattle.list_alone.specs.FitLaws.{fitting_first, fitting_step, fitting_fails, fitting_open, fitting_ends}
use Rattle.list_alone.proofs.is_formed.Goals as goal

pub loop-at-init : goal.loop-at-init
loop-at-init c = (refl, λ ns nd ks. fitting_first lawful_number? ns c.args.line.now c.args.frames.now c.requires.0 (omega (arith, c.shared_slice_known-1.given 0)) c.requires.3)

pub check_next-requires : goal.check_next-requires
check_next-requires c = (c.loop-at-test.true, omega (arith, (c.loop-at.invariant.1 c.requires.1.names c.requires.1.numbered c.requires.1.kinds).shallow, c.loop-at.invariant.0, c.requires.2, c.requires.0.sized, c.shared_slice_known-1.given 2, c.loop-at-test.true), c.requires.1)

pub overflow_add-at : goal.overflow_add-at
overflow_add-at c = omega (arith, ((c.check_next.ensures c.requires.1.names c.requires.1.numbered c.requires.1.kinds).on _ c.in-Some.is).0, ((c.check_next.ensures c.requires.1.names c.requires.1.numbered c.requires.1.kinds).on _ c.in-Some.is).2.within, c.requires.0.sized, c.shared_slice_known-1.given 2)

pub loop-at-smaller : goal.loop-at-smaller
loop-at-smaller c = omega (arith, ((c.check_next.ensures c.requires.1.names c.requires.1.numbered c.requires.1.kinds).on _ c.in-Some.is).0, piece_some c.loop-at.at c.loop-at.end (drop c.loop-at.at c.args.line.now) _ refl, ((c.check_next.ensures c.requires.1.names c.requires.1.numbered c.requires.1.kinds).on _ c.in-Some.is).2.within, c.loop-at-test.true)

pub loop-at-preserved : goal.loop-at-preserved
loop-at-preserved c = (c.check_next.auto.frames ∙ c.loop-at.invariant.0, λ ns nd ks. fitting_step (c.loop-at.invariant.1 ns nd ks) ((c.check_next.ensures ns nd ks).on _ c.in-Some.is).2 ((c.check_next.ensures ns nd ks).on _ c.in-Some.is).1 ((c.check_next.ensures ns nd ks).on _ c.in-Some.is).0)

pub shape_of-frames-in_default : goal.shape_of-frames-in_default
shape_of-frames-in_default c = c.check_next.auto.frames ∙ c.loop-at.invariant.0

pub returns-in_default : goal.returns-in_default
returns-in_default c = λ ns nd ks. sym (fitting_fails (c.loop-at.invariant.1 ns nd ks) ((c.check_next.ensures ns nd ks).stops c.in_default.is))

pub shape_of-frames-then-end-at : goal.shape_of-frames-then-end-at
shape_of-frames-then-end-at c = c.loop-at.invariant.0

pub returns-then-end-at : goal.returns-then-end-at
returns-then-end-at c = λ ns nd ks. sym (fitting_open (c.loop-at.invariant.1 ns nd ks) c.loop-at-test.false c.if-end-at.true)

pub shape_of-frames : goal.shape_of-frames
shape_of-frames c = c.loop-at.invariant.0

pub returns : goal.returns
returns c = λ ns nd ks. fitting_ends (c.loop-at.invariant.1 ns nd ks) c.loop-at-test.false c.if-end-at.false
