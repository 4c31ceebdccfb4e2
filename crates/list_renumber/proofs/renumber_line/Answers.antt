-- The invariant: over whatever names, what is written and the bytes of the rest are the new line; and no more is written than was read.
use native.Mathlib.Omega.{arith}
use Prim.Native.Nat.{◌+◌}
use mathlib.Core.Path.{refl, sym, ◌∙◌}
use lib.ListN.{get_or}
use Rattle.list_pieces.specs.PieceLaws.{piece_some}
use Rattle.list_measure.proofs.PassingLaws.{fits, passing_shorter}
use Rattle.list_renumber.specs.RewriteLaws.{line_read, rewriting_first, rewriting_here, rewriting_turn, rewriting_done}
use Rattle.list_renumber.proofs.renumber_line.Goals as goal

pub bounds-room-from : goal.bounds-room-from
bounds-room-from c = omega arith

pub overflow_add-high : goal.overflow_add-high
overflow_add-high c = omega arith

pub bounds-room-from-2 : goal.bounds-room-from-2
bounds-room-from-2 c = omega arith

pub overflow_add-stop : goal.overflow_add-stop
overflow_add-stop c = omega arith

pub loop-at-init : goal.loop-at-init
loop-at-init c = (refl, c.requires.0, λ ns new m. rewriting_first _ m)

pub slice_bounds-line-count : goal.slice_bounds-line-count
slice_bounds-line-count c = omega arith

pub slice_bounds-line-start : goal.slice_bounds-line-start
slice_bounds-line-start c = omega (arith, c.loop-at.invariant.0)

pub slice_bounds-line-end : goal.slice_bounds-line-end
slice_bounds-line-end c = omega (arith, c.loop-at.invariant.0)

pub piece_at-piece-requires : goal.piece_at-piece-requires
piece_at-piece-requires c = (omega (arith, (line_read c.loop-at.room c.args.from c.args.size (omega (arith, c.loop-at.invariant.0))).1, c.loop-at-test.true))

pub end_after-next-requires : goal.end_after-next-requires
end_after-next-requires c = (omega (arith, (line_read c.loop-at.room c.args.from c.args.size (omega (arith, c.loop-at.invariant.0))).1, c.loop-at-test.true))

pub new_offset-offset-requires : goal.new_offset-offset-requires
new_offset-offset-requires c = ((omega (arith, (line_read c.loop-at.room c.args.from c.args.size (omega (arith, c.loop-at.invariant.0))).1, c.loop-at-test.true)), omega (arith, (line_read c.loop-at.room c.args.from c.args.size (omega (arith, c.loop-at.invariant.0))).1), (c.loop-at.invariant.2 _ _ c.requires.3.moving).below, sym c.piece_at-piece.ensures, c.end_after-next.ensures, record { names = c.requires.3.names; new = c.requires.3.new; passing = (rewriting_here c.args.from c.args.size _ (line_read c.loop-at.room c.args.from c.args.size (omega (arith, c.loop-at.invariant.0))).0 (c.loop-at.invariant.2 _ _ c.requires.3.moving)).passing })

pub overflow_add-from : goal.overflow_add-from
overflow_add-from c = omega arith

pub write_piece-requires : goal.write_piece-requires
write_piece-requires c = (omega (arith, (c.loop-at.invariant.2 _ _ c.requires.3.moving).below), omega (arith, c.loop-at.invariant.0, (line_read c.loop-at.room c.args.from c.args.size (omega (arith, c.loop-at.invariant.0))).1, fits _ (rewriting_here c.args.from c.args.size _ (line_read c.loop-at.room c.args.from c.args.size (omega (arith, c.loop-at.invariant.0))).0 (c.loop-at.invariant.2 _ _ c.requires.3.moving)).passing _ (omega (arith, (line_read c.loop-at.room c.args.from c.args.size (omega (arith, c.loop-at.invariant.0))).1, c.loop-at-test.true)) (sym c.piece_at-piece.ensures)))

pub new_size-to-requires : goal.new_size-to-requires
new_size-to-requires c = omega (arith, (line_read c.loop-at.room c.args.from c.args.size (omega (arith, c.loop-at.invariant.0))).1, fits _ (rewriting_here c.args.from c.args.size _ (line_read c.loop-at.room c.args.from c.args.size (omega (arith, c.loop-at.invariant.0))).0 (c.loop-at.invariant.2 _ _ c.requires.3.moving)).passing _ (omega (arith, (line_read c.loop-at.room c.args.from c.args.size (omega (arith, c.loop-at.invariant.0))).1, c.loop-at-test.true)) (sym c.piece_at-piece.ensures))

pub overflow_add-to : goal.overflow_add-to
overflow_add-to c = omega (arith, c.new_size-to.ensures, (c.loop-at.invariant.2 _ _ c.requires.3.moving).below, (line_read c.loop-at.room c.args.from c.args.size (omega (arith, c.loop-at.invariant.0))).1, fits _ (rewriting_here c.args.from c.args.size _ (line_read c.loop-at.room c.args.from c.args.size (omega (arith, c.loop-at.invariant.0))).0 (c.loop-at.invariant.2 _ _ c.requires.3.moving)).passing _ (omega (arith, (line_read c.loop-at.room c.args.from c.args.size (omega (arith, c.loop-at.invariant.0))).1, c.loop-at-test.true)) (sym c.piece_at-piece.ensures), passing_shorter _ (rewriting_here c.args.from c.args.size _ (line_read c.loop-at.room c.args.from c.args.size (omega (arith, c.loop-at.invariant.0))).0 (c.loop-at.invariant.2 _ _ c.requires.3.moving)).passing _ (omega (arith, (line_read c.loop-at.room c.args.from c.args.size (omega (arith, c.loop-at.invariant.0))).1, c.loop-at-test.true)) (sym c.piece_at-piece.ensures))

pub size_of-at-requires : goal.size_of-at-requires
size_of-at-requires c = omega (arith, (line_read c.loop-at.room c.args.from c.args.size (omega (arith, c.loop-at.invariant.0))).1, fits _ (rewriting_here c.args.from c.args.size _ (line_read c.loop-at.room c.args.from c.args.size (omega (arith, c.loop-at.invariant.0))).0 (c.loop-at.invariant.2 _ _ c.requires.3.moving)).passing _ (omega (arith, (line_read c.loop-at.room c.args.from c.args.size (omega (arith, c.loop-at.invariant.0))).1, c.loop-at-test.true)) (sym c.piece_at-piece.ensures))

pub overflow_add-at : goal.overflow_add-at
overflow_add-at c = omega (arith, c.size_of-at.ensures, (line_read c.loop-at.room c.args.from c.args.size (omega (arith, c.loop-at.invariant.0))).1, fits _ (rewriting_here c.args.from c.args.size _ (line_read c.loop-at.room c.args.from c.args.size (omega (arith, c.loop-at.invariant.0))).0 (c.loop-at.invariant.2 _ _ c.requires.3.moving)).passing _ (omega (arith, (line_read c.loop-at.room c.args.from c.args.size (omega (arith, c.loop-at.invariant.0))).1, c.loop-at-test.true)) (sym c.piece_at-piece.ensures))

pub loop-at-smaller : goal.loop-at-smaller
loop-at-smaller c = omega (arith, c.size_of-at.ensures, piece_some _ _ _ _ (sym c.piece_at-piece.ensures), (line_read c.loop-at.room c.args.from c.args.size (omega (arith, c.loop-at.invariant.0))).1, fits _ (rewriting_here c.args.from c.args.size _ (line_read c.loop-at.room c.args.from c.args.size (omega (arith, c.loop-at.invariant.0))).0 (c.loop-at.invariant.2 _ _ c.requires.3.moving)).passing _ (omega (arith, (line_read c.loop-at.room c.args.from c.args.size (omega (arith, c.loop-at.invariant.0))).1, c.loop-at-test.true)) (sym c.piece_at-piece.ensures), c.loop-at-test.true)

pub loop-at-preserved : goal.loop-at-preserved
loop-at-preserved c = (c.write_piece.auto.room ∙ c.loop-at.invariant.0, omega (arith, c.size_of-at.ensures, (line_read c.loop-at.room c.args.from c.args.size (omega (arith, c.loop-at.invariant.0))).1, fits _ (rewriting_here c.args.from c.args.size _ (line_read c.loop-at.room c.args.from c.args.size (omega (arith, c.loop-at.invariant.0))).0 (c.loop-at.invariant.2 _ _ c.requires.3.moving)).passing _ (omega (arith, (line_read c.loop-at.room c.args.from c.args.size (omega (arith, c.loop-at.invariant.0))).1, c.loop-at-test.true)) (sym c.piece_at-piece.ensures)), λ ns new m. rewriting_turn c.args.from c.args.size _ (line_read c.loop-at.room c.args.from c.args.size (omega (arith, c.loop-at.invariant.0))).0 (c.loop-at.invariant.2 ns new m) (omega (arith, (line_read c.loop-at.room c.args.from c.args.size (omega (arith, c.loop-at.invariant.0))).1, c.loop-at-test.true)) (line_read c.loop-at.room c.args.from c.args.size (omega (arith, c.loop-at.invariant.0))).1 (sym c.piece_at-piece.ensures) (c.new_offset-offset.ensures ns new (rewriting_here c.args.from c.args.size _ (line_read c.loop-at.room c.args.from c.args.size (omega (arith, c.loop-at.invariant.0))).0 (c.loop-at.invariant.2 ns new m)).passing) c.write_piece.ensures c.new_size-to.ensures c.end_after-next.ensures c.size_of-at.ensures)

pub overflow_cast-to : goal.overflow_cast-to
overflow_cast-to c = omega (arith, (c.loop-at.invariant.2 _ _ c.requires.3.moving).below, c.loop-at.invariant.1, c.requires.1)

pub shape_of-room : goal.shape_of-room
shape_of-room c = c.put-3.auto.out ∙ c.put-2.auto.out ∙ c.put.auto.out ∙ c.loop-at.invariant.0

pub returns : goal.returns
returns c = (omega (arith, (c.loop-at.invariant.2 _ _ c.requires.3.moving).below, c.loop-at.invariant.1), λ ns new m. rewriting_done ns new _ c.args.room.now c.args.from c.args.size c.requires.0 c.requires.2 (c.loop-at.invariant.2 ns new m) c.loop-at-test.false (omega (arith, (c.loop-at.invariant.2 _ _ c.requires.3.moving).below, c.loop-at.invariant.1)) (get_or c.args.room.now c.args.from 0) (get_or c.args.room.now (c.args.from + 1) 0) (omega (arith, c.slice_known-2-1.given c.args.from)) refl refl c.put.ensures c.put-2.ensures c.put-3.ensures)
