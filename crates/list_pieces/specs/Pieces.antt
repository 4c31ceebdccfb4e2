-- A line as pieces: what stands at a place, its tokens, its size, and where the statement that goes on after it ends.
use Rattle.std.specs.Prelude.{ℕ, ◌+◌, ◌≤◌, ◌<◌, not, ◌≡◌, List, [], ◌∷◌, T, eqb, length, take, drop, get_or}
use Rattle.paper.specs.Bytes.{pick, run, every}
use Rattle.paper.specs.Words.{statement_word?}
use Rattle.paper.specs.Tokens.{Token, statement, assigned, operator, variable, constant, string, raw}
use Rattle.paper.specs.Constants.{right_constant?}
use Rattle.paper.specs.Names.{less_open}
use Rattle.paper.specs.Items.{raw_byte?, string_byte?}
use Rattle.paper.specs.Line.{number_bytes, variable_name, raw_statement?}
use Rattle.list_pieces.specs.declared.Piece.{Piece}
use Rattle.list_pieces.specs.declared.Piece.TheVariants.{Word, Text, Target, NoTarget, Variable, Constant, Quoted, Operator}
use Rattle.list_pieces.specs.declared.VariableToken.{VariableToken}
use Rattle.list_pieces.specs.Variables.{variable_at}

-- the piece at the front of the bytes s, which begin at offset p of the line, in a statement that ends at `end`
unfoldable pub piece_at : ℕ → ℕ → List ℕ → Piece
piece_at p end s =
    let b = get_or s 0 0 in
    let t = get_or s 1 0 in
    let v = variable_at s in
    let w = variable_at (drop 2 s) in
    pick (eqb p end) (pick (eqb t 0x36) (pick (eqb w.size 0) NoTarget (Target w)) (pick (raw_statement? t) (Text t (run raw_byte? (drop 2 s))) (Word t)))
    (pick (eqb v.size 0) (pick (eqb b 0x0e) Constant (pick (eqb b 0x0f) (Quoted t) (Operator b))) (Variable v))

-- the tokens of a piece at the front of s
unfoldable pub tokens_of_piece : List (List ℕ) → List ℕ → Piece → List Token
tokens_of_piece ns s (Word t) = statement t ∷ []
tokens_of_piece ns s (Text t n) = statement t ∷ raw (take n (drop 2 s)) ∷ operator 0x9b ∷ []
tokens_of_piece ns s (Target v) = assigned (get_or ns v.number []) ∷ []
tokens_of_piece ns s NoTarget = assigned (variable_name ns (drop 2 s)) ∷ []
tokens_of_piece ns s (Variable v) = variable (get_or ns v.number []) ∷ []
tokens_of_piece ns s Constant = constant (take 6 (drop 1 s)) ∷ []
tokens_of_piece ns s (Quoted n) = string (take n (drop 2 s)) ∷ []
tokens_of_piece ns s (Operator t) = operator t ∷ []

-- how many bytes a piece is
unfoldable pub size_of : Piece → ℕ
size_of (Word t) = 2
size_of (Text t n) = 3 + n
size_of (Target v) = 2 + v.size
size_of NoTarget = 3
size_of (Variable v) = v.size
size_of Constant = 7
size_of (Quoted n) = 2 + n
size_of (Operator t) = 1

-- where the statement after a piece at the front of s ends: as the piece's own offset says, or as before
unfoldable pub end_after : ℕ → List ℕ → Piece → ℕ
end_after end s (Word t) = get_or s 0 0
end_after end s (Text t n) = get_or s 0 0
end_after end s (Target v) = get_or s 0 0
end_after end s NoTarget = get_or s 0 0
end_after end s (Variable v) = end
end_after end s Constant = end
end_after end s (Quoted n) = end
end_after end s (Operator t) = end

-- a variable's token at the front of s in a well-formed line: its number is that of a name, it has the form of its number, and its bytes are there
pub record Named (ns : List (List ℕ)) (s : List ℕ) (v : VariableToken) : Type 0 where
  pub name : v.number < length ns
  pub form : length (number_bytes v.number) ≡ v.size
  pub there : v.size ≤ length s

-- what a piece of a well-formed line has besides its place in the grammar: its bytes are there, its variable is one of the names, and so on
abbrev pub Holds : List (List ℕ) → List ℕ → Piece → Type 0
Holds ns s (Word t) = 2 ≤ length s
Holds ns s (Text t n) = 3 + n ≤ length s
Holds ns s (Target v) = Named ns (drop 2 s) v × T (not (statement_word? (less_open (get_or ns v.number []))))
Holds ns s NoTarget = ⊥
Holds ns s (Variable v) = Named ns s v
Holds ns s Constant = T (right_constant? (take 6 (drop 1 s)))
Holds ns s (Quoted n) = (2 + n ≤ length s) × T (every string_byte? (take n (drop 2 s)))
Holds ns s (Operator t) = Unit {0}
