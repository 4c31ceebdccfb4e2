-- The new bytes of a piece of a line whose names have new numbers, and those of the rest.
use Rattle.std.specs.Prelude.{ℕ, ◌+◌, ◌≤◌, ◌<◌, ◌≡◌, List, ◌++◌, T, length, take, drop}
use Rattle.std.proofs.Common.{arith, ap, ◌∙◌, length-drop}
use Rattle.paper.specs.Bytes.{every}
use Rattle.paper.specs.Tokens.{Token}
use Rattle.paper.specs.Line.{to_next, token_bytes}
use Rattle.laws.specs.Names.{name_passes}
use Rattle.list_pieces.specs.declared.Piece.{Piece}
use Rattle.list_pieces.specs.Pieces.{piece_at, tokens_of_piece, size_of, Holds}
use Rattle.list_pieces.specs.PieceLaws.{Is}
use Rattle.list_measure.specs.Numbers.{moves?, new_size, piece_bytes, Passing}
use Rattle.list_mark.specs.Walks.{tokens_at}
use Rattle.list_measure.proofs.SizeLaws.{bytes_long}
use Rattle.list_renumber.specs.PieceBytes.{bytes_of}
use Rattle.list_measure.proofs.PassingLaws.{at_front, after, parted, holds, named_so, is_so, there}

module _ {ns new : List (List ℕ)} {numbers : List ℕ} {at end : ℕ} (l : List ℕ) (k : Passing ns new numbers at end (drop at l)) (c : Piece) (h : at < length l) (e : piece_at at end (drop at l) ≡ c) where
  -- the tokens after the piece
  abbrev rest : List Token
  rest = after l k c h e

  -- so many bytes
  pub passing_long : (o : ℕ) → length (piece_bytes numbers o (take (size_of c) (drop at l)) c) ≡ new_size numbers c
  passing_long o = bytes_long ns new numbers k.numbered o (drop at l) c (holds l k c h e) (there l k c h e)

  -- its new bytes, and those of the rest
  pub passing_bytes : (o q : ℕ) → (at ≡ end → o ≡ q + new_size numbers c + to_next new rest)
      → token_bytes new q (tokens_at ns l at end) ≡ piece_bytes numbers o (take (size_of c) (drop at l)) c ++ token_bytes new (q + new_size numbers c) rest
  passing_bytes o q f =
      ap (token_bytes new q) (parted l k c h e)
      ∙ at_front (λ u. Is at end u c → Holds ns u c → size_of c ≤ length u → T (every (name_passes (moves? ns new numbers)) (tokens_of_piece ns u c))
      → token_bytes new q (tokens_of_piece ns u c ++ rest) ≡ piece_bytes numbers o (take (size_of c) u) c ++ token_bytes new (q + new_size numbers c) rest)
      (drop at l) (omega (arith, length-drop at l)) (λ b s i m n r. bytes_of ns new numbers k.numbered at end b s rest c o q i m n r f) (is_so l k c h e) (holds l k c h e) (there l k c h e) (named_so l k c h e)
