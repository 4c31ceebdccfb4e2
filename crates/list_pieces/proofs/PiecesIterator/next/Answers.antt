use native.Mathlib.Omega.{arith}
use Rattle.std.proofs.Common.{◌<◌, rules}
use Rattle.list_pieces.specs.PieceLaws.{piece_some}
use Rattle.list_pieces.proofs.PiecesIterator.next.Goals as goal

pub returns-clause-goes : goal.returns-clause-goes
returns-clause-goes c = let h : c.args.self.now.at < c.step-piece.result.1 = omega (arith, c.step-piece.ensures.1, piece_some _ _ _ _ c.step-piece.ensures.0) in search rules
