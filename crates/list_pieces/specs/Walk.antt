-- A walk over the pieces of a line: one step of it.
use Rattle.std.specs.Prelude.{ℕ, ◌+◌, ◌-◌, ◌≤◌, ◌<◌, ◌≡◌, length, drop, Option, Some, None}
use Rattle.std.proofs.Common.{arith, List, ap, sym, ◌∙◌}
use Rattle.std.specs.Iterator.{Count, at_most}
use Rattle.list_pieces.specs.declared.Piece.{Piece}
use Rattle.list_pieces.specs.declared.Pieces.{Pieces}
use Rattle.list_pieces.specs.Pieces.{piece_at, size_of, end_after}

-- no more pieces than bytes are left
abbrev pub pieces_left : Pieces → Count
pieces_left w = at_most (length w.line.now - w.at)

-- from the walk w the piece c comes, which stands where the walk was, and the walk v is past it
pub record Stands (w : Pieces) (c : Piece) (v : Pieces) : Type 0 where
  pub inside : w.at < length w.line.now
  pub piece : piece_at w.at w.end (drop w.at w.line.now) ≡ c
  pub same : v.line.now ≡ w.line.now
  pub next : v.at ≡ w.at + size_of c
  pub stop : v.end ≡ end_after w.end (drop w.at w.line.now) c

-- a step gives the piece that stands there, with its place, or nothing at the line's end
abbrev pub Steps : Pieces → Option (ℕ × Piece) → Pieces → Type 0
Steps w None v = (length w.line.now ≤ w.at) × (v ≡ w)
Steps w (Some p) v = (p.0 ≡ w.at) × Stands w p.1 v

-- the same over the line l that the walk is of
pub record Passes (l : List ℕ) (w : Pieces) (c : Piece) (v : Pieces) : Type 0 where
  pub inside : w.at < length l
  pub piece : piece_at w.at w.end (drop w.at l) ≡ c
  pub same : v.line.now ≡ l
  pub next : v.at ≡ w.at + size_of c
  pub stop : v.end ≡ end_after w.end (drop w.at l) c

pub passes : {l : List ℕ} {w : Pieces} {c : Piece} {v : Pieces} → w.line.now ≡ l → Stands w c v → Passes l w c v
passes {l} {w} {c} {v} e s = record {
  inside = omega (arith, ap length e, s.inside);
  piece = ap (λ (u : List ℕ). piece_at w.at w.end (drop w.at u)) (sym e) ∙ s.piece;
  same = s.same ∙ e;
  next = s.next;
  stop = s.stop ∙ ap (λ (u : List ℕ). end_after w.end (drop w.at u) c) e;
}
