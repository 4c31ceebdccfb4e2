-- The marks of the variables that a line uses: one for each number, set where a variable with that number stands in the line.
use Rattle.std.specs.Prelude.{ℕ, ◌≡◌, true, List, [], ◌∷◌, set}
use Rattle.paper.specs.Tokens.{Token, statement, assigned, operator, variable, constant, string, raw, out_of_range, unreadable}
use Rattle.paper.specs.Names.{number_of}
use Rattle.paper.specs.Line.{line_tokens}
use Rattle.paper.specs.WellFormed.{well_formed?}
use Rattle.list_pieces.specs.declared.Piece.{Piece}
use Rattle.list_pieces.specs.declared.Piece.TheVariants.{Word, Text, Target, NoTarget, Variable, Constant, Quoted, Operator}
use Rattle.list_pieces.specs.Rest.{Numbered}

-- marks, with that of a token's variable
unfoldable pub marked_by : List (List ℕ) → Token → List ℕ → List ℕ
marked_by ns (statement t) m = m
marked_by ns (assigned n) m = set m (number_of ns n) 1
marked_by ns (operator t) m = m
marked_by ns (variable n) m = set m (number_of ns n) 1
marked_by ns (constant b) m = m
marked_by ns (string b) m = m
marked_by ns (raw b) m = m
marked_by ns out_of_range m = m
marked_by ns unreadable m = m

-- marks, with those of the variables of tokens
unfoldable pub marked : List (List ℕ) → List Token → List ℕ → List ℕ
marked ns [] m = m
marked ns (t ∷ ts) m = marked ns ts (marked_by ns t m)

-- marks, with that of a piece's variable
unfoldable pub marked_piece : Piece → List ℕ → List ℕ
marked_piece (Word t) m = m
marked_piece (Text t n) m = m
marked_piece (Target v) m = set m v.number 1
marked_piece NoTarget m = m
marked_piece (Variable v) m = set m v.number 1
marked_piece Constant m = m
marked_piece (Quoted n) m = m
marked_piece (Operator t) m = m

-- a line that is well-formed over names, each of which is found at its own number
pub record Over (ns : List (List ℕ)) (l : List ℕ) : Type 0 where
  pub numbered : Numbered ns
  pub formed : well_formed? ns l ≡ true

-- it is so over some names
pub record Readable (l : List ℕ) : Type 0 where
  pub names : List (List ℕ)
  pub over : Over names l

-- over whatever names the line is well-formed, its variables are marked
abbrev pub Marked : List ℕ → List ℕ → List ℕ → Type 0
Marked l m after = (ns : List (List ℕ)) → Over ns l → after ≡ marked ns (line_tokens ns l) m
