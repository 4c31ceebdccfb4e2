use Prim.Native.Nat.{◌+◌}
use native.Mathlib.Omega.{arith}
use mathlib.Core.Path.{sym}
use lib.ListN.{drop, length-drop}
use lib.Seq.{get_or-drop}
use Rattle.list_pieces.specs.PieceLaws.{piece_few}
use Rattle.list_check.proofs.Walking.{goes_on, goes_off}
use Rattle.list_check.proofs.check_next.Goals as goal

pub size_of-size-requires : goal.size_of-size-requires
size_of-size-requires c = let a = c.args in omega (arith, piece_few a.at a.end (drop a.at a.line.now) _ (omega (arith, get_or-drop a.at a.line.now 1 0, c.type_inv.line (a.at + 1))) (sym c.piece_at-piece.ensures), length-drop a.at a.line.now)

pub returns : goal.returns
returns c = λ ns nd ks. goes_on ns c.args.line.now c.args.at c.args.end _ _ _ _ _ c.piece_at-piece.ensures (c.check_kind.ensures ns nd (c.kind_listed-kind.ensures ns ks)) _ c.in_ok-depth.was c.size_of-size.ensures c.end_after-stop.ensures

pub returns-in_err-depth : goal.returns-in_err-depth
returns-in_err-depth c = rw c.from_residual.ensures (λ ns nd ks. goes_off ns c.args.line.now c.args.at c.args.end _ _ _ _ _ c.piece_at-piece.ensures (c.check_kind.ensures ns nd (c.kind_listed-kind.ensures ns ks)) c.in_err-depth.was)
