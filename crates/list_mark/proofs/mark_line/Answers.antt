-- The invariant: over whatever names the line is well-formed, the marks that are set and those of the rest are the marks of all.
use native.Mathlib.Omega.{arith}
use mathlib.Core.Path.{ap}
use lib.ListN.{length}
use Rattle.list_pieces.specs.Walk.{passes}
use Rattle.list_mark.specs.MarkLaws.{marking_first, marking_next, marking_done}
use Rattle.list_mark.proofs.mark_line.Goals as goal

pub loop-piece-init : goal.loop-piece-init
loop-piece-init c = (c.of-pieces.ensures.0, λ ns o. rw (c.of-pieces.ensures.1, c.of-pieces.ensures.2) (marking_first _ o))

pub loop-piece-preserved : goal.loop-piece-preserved
loop-piece-preserved c = let p = passes c.loop-piece.invariant.0 c.in-Some.ensures.steps.1 in (p.same, λ ns o. marking_next (c.loop-piece.invariant.1 ns o) p.inside p.piece c.mark_piece.ensures p.stop p.next)

pub returns : goal.returns
returns c = λ ns o. marking_done (c.loop-piece.invariant.1 ns o) (omega (arith, c.in_default.ensures.steps.0, ap length c.loop-piece.invariant.0))
