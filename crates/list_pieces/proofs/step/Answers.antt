use Prim.Native.Nat.{◌+◌}
use native.Mathlib.Omega.{arith}
use mathlib.Core.Path.{sym, ap}
use lib.ListN.{drop, length-drop}
use lib.Seq.{get_or-drop}
use Rattle.list_pieces.specs.PieceLaws.{piece_few}
use Rattle.list_pieces.proofs.step.Goals as goal

pub size_of-requires : goal.size_of-requires
size_of-requires c = let a = c.args in omega (arith, piece_few a.at a.end (drop a.at a.line.now) _ (omega (arith, get_or-drop a.at a.line.now 1 0, c.type_inv.line (a.at + 1))) (sym c.piece_at-piece.ensures), length-drop a.at a.line.now)

pub overflow_add-result : goal.overflow_add-result
overflow_add-result c = let a = c.args in omega (arith, c.size_of.ensures, piece_few a.at a.end (drop a.at a.line.now) _ (omega (arith, get_or-drop a.at a.line.now 1 0, c.type_inv.line (a.at + 1))) (sym c.piece_at-piece.ensures), length-drop a.at a.line.now)
