-- A piece over other names: its variable has a new number, no greater than the old one, and so the piece has new bytes, no more than the old ones.
use Rattle.std.specs.Prelude.{ℕ, ◌+◌, Bool, ◌&&◌, List, [], ◌∷◌, T, leb, eqb, length, drop, get_or}
use Rattle.paper.specs.Bytes.{every}
use Rattle.paper.specs.Names.{number_of}
use Rattle.paper.specs.Line.{number_bytes, tokens_from}
use Rattle.laws.specs.Names.{name_passes}
use Rattle.list_pieces.specs.declared.Piece.{Piece}
use Rattle.list_pieces.specs.declared.Piece.TheVariants.{Word, Text, Target, NoTarget, Variable, Constant, Quoted, Operator}
use Rattle.list_pieces.specs.Rest.{Numbered, Written}

-- a name's number among other names is the one noted at its number, and no greater
unfoldable pub moves? : List (List ℕ) → List (List ℕ) → List ℕ → List ℕ → Bool
moves? ns new numbers n = eqb (number_of new n) (get_or numbers (number_of ns n) 0) && leb (number_of new n) (number_of ns n)

-- how many bytes a piece is with the new numbers
unfoldable pub new_size : List ℕ → Piece → ℕ
new_size numbers (Word t) = 2
new_size numbers (Text t n) = 3 + n
new_size numbers (Target v) = 2 + length (number_bytes (get_or numbers v.number 0))
new_size numbers NoTarget = 3
new_size numbers (Variable v) = length (number_bytes (get_or numbers v.number 0))
new_size numbers Constant = 7
new_size numbers (Quoted n) = 2 + n
new_size numbers (Operator t) = 1

-- the new bytes of a piece that has the bytes s, with the offset o where it begins a statement
unfoldable pub piece_bytes : List ℕ → ℕ → List ℕ → Piece → List ℕ
piece_bytes numbers o s (Word t) = o ∷ t ∷ []
piece_bytes numbers o s (Text t n) = o ∷ drop 1 s
piece_bytes numbers o s (Target v) = o ∷ 0x36 ∷ number_bytes (get_or numbers v.number 0)
piece_bytes numbers o s NoTarget = []
piece_bytes numbers o s (Variable v) = number_bytes (get_or numbers v.number 0)
piece_bytes numbers o s Constant = s
piece_bytes numbers o s (Quoted n) = s
piece_bytes numbers o s (Operator t) = t ∷ []

-- the rest u of a well-formed line from a place on, in a statement that ends at `end`, whose names have new numbers
pub record Passing (ns new : List (List ℕ)) (numbers : List ℕ) (at end : ℕ) (u : List ℕ) : Type 0 where
  pub numbered : Numbered ns
  pub written : Written ns at end u (tokens_from ns 0 at end u)
  pub passes : T (every (name_passes (moves? ns new numbers)) (tokens_from ns 0 at end u))

-- it is so over some names
pub record Passes (numbers : List ℕ) (at end : ℕ) (u : List ℕ) : Type 0 where
  pub names : List (List ℕ)
  pub new : List (List ℕ)
  pub passing : Passing names new numbers at end u
