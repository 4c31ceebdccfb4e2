-- The text of a piece, and what a writer of some text does.
use Rattle.std.specs.Prelude.{ℕ, ◌≡◌, List, leb, length}
use Rattle.std.proofs.lemmas.List.Edits.{sets}
use Rattle.paper.specs.Bytes.{pick}
use Rattle.paper.specs.Listing.{body_text}
use Rattle.list_pieces.specs.declared.Piece.{Piece}
use Rattle.list_pieces.specs.Pieces.{tokens_of_piece}

-- the text of a piece at the front of u
unfoldable pub piece_text : List (List ℕ) → List ℕ → Piece → List ℕ
piece_text ns u c = body_text (tokens_of_piece ns u c)

-- a text is written to place n of a buffer, as much as fits, and r is its length
pub record Writes (text : List ℕ) (n : ℕ) (old : List ℕ) (r : ℕ) (new : List ℕ) : Type 0 where
  pub size : r ≡ length text
  pub bytes : new ≡ sets old n text

-- how many of the five digits of a number stand before its first
unfoldable pub zeros : ℕ → ℕ
zeros n = pick (leb 10000 n) 0 (pick (leb 1000 n) 1 (pick (leb 100 n) 2 (pick (leb 10 n) 3 4)))
