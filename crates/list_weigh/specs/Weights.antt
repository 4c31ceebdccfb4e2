-- The weight of some bytes, in the code's own form: of tokens, of pieces and of lines.
use Rattle.std.specs.Prelude.{ℕ, suc, ◌+◌, ◌*◌, ◌≤◌, List, [], ◌∷◌, ◌++◌, length, Option, Some, None}
use Rattle.paper.specs.Bytes.{pick, bytes, blank}
use Rattle.paper.specs.Tokens.{Token}
use Rattle.paper.specs.Line.{line_number, lawful_number?, line_tokens}
use Rattle.paper.specs.Listing.{decimal, token_text}
use Rattle.paper.specs.Errors.{error_text, listable?, line_listing}
use Rattle.paper.specs.Weigh.{shares, in_else, line_variables, line_numbers, line_strings, line_raw, line_else}
use Rattle.list_pieces.specs.declared.Piece.{Piece}
use Rattle.list_pieces.specs.declared.Piece.TheVariants.{Word, Text, Target, NoTarget, Variable, Constant, Quoted, Operator}
use Rattle.list_weigh.specs.declared.Weight.{Weight}

-- nothing
abbrev pub nothing : Weight
nothing = record { listing = 0; variables = 0; numbers = 0; strings = 0; raw_text = 0; others = 0 }

-- two weights added
unfoldable pub plus : Weight → Weight → Weight
plus a b =
    record {
      listing = a.listing + b.listing;
      variables = a.variables + b.variables;
      numbers = a.numbers + b.numbers;
      strings = a.strings + b.strings;
      raw_text = a.raw_text + b.raw_text;
      others = a.others + b.others;
    }

-- a token
unfoldable pub token_weight : List (List ℕ) → Token → Weight
token_weight ns t =
    let s = shares ns t in
    record { listing = length (token_text t); variables = s.variables; numbers = s.numbers; strings = s.strings; raw_text = s.raw_text; others = in_else t }

-- tokens
unfoldable pub tokens_weight : List (List ℕ) → List Token → Weight
tokens_weight ns [] = nothing
tokens_weight ns (t ∷ ts) = plus (token_weight ns t) (tokens_weight ns ts)

-- a piece whose text has so many bytes
unfoldable pub piece_weight : Piece → ℕ → Weight
piece_weight (Word t) k = record { listing = k; variables = 0; numbers = 0; strings = 0; raw_text = 0; others = 2 }
piece_weight (Text t n) k = record { listing = k; variables = 0; numbers = 0; strings = 0; raw_text = n; others = 3 }
piece_weight (Target v) k = record { listing = k; variables = v.size; numbers = 0; strings = 0; raw_text = 0; others = 2 }
piece_weight NoTarget k = record { listing = k; variables = 0; numbers = 0; strings = 0; raw_text = 0; others = 3 }
piece_weight (Variable v) k = record { listing = k; variables = v.size; numbers = 0; strings = 0; raw_text = 0; others = 0 }
piece_weight Constant k = record { listing = k; variables = 0; numbers = 7; strings = 0; raw_text = 0; others = 0 }
piece_weight (Quoted n) k = record { listing = k; variables = 0; numbers = 0; strings = 2 + n; raw_text = 0; others = 0 }
piece_weight (Operator t) k = record { listing = k; variables = 0; numbers = 0; strings = 0; raw_text = 0; others = 1 }

-- a line's number and length; of its listing the number, the blank after it and the end byte
unfoldable pub head_weight : List ℕ → Weight
head_weight l = record { listing = suc (length (decimal 5 (line_number l) ++ blank ∷ [])); variables = 0; numbers = 0; strings = 0; raw_text = 0; others = 3 }

-- a well-formed line
unfoldable pub formed_weight : List (List ℕ) → List ℕ → Weight
formed_weight ns l = plus (head_weight l) (tokens_weight ns (line_tokens ns l))

-- an error line: what stands after its head, and then the whole
unfoldable pub error_weight : List ℕ → Weight
error_weight l =
    plus (head_weight l)
    (record { listing = length (bytes "ERROR- " ++ error_text l); variables = 0; numbers = 0; strings = 0; raw_text = length (error_text l); others = 3 })

-- a line, by the definitions of its columns
unfoldable pub line_weight : List (List ℕ) → List ℕ → Weight
line_weight ns l =
    record {
      listing = suc (length (line_listing ns l));
      variables = line_variables ns l;
      numbers = line_numbers ns l;
      strings = line_strings ns l;
      raw_text = line_raw ns l;
      others = line_else ns l;
    }

-- what weighing a line answers
unfoldable pub weighing : List (List ℕ) → List ℕ → Option Weight
weighing ns l = pick (listable? lawful_number? ns l) (Some (line_weight ns l)) None

-- a weight that n bytes may have, over a name table of at most 65,535 bytes
pub record Small (n : ℕ) (w : Weight) : Type 0 where
  pub listing : w.listing ≤ 65536 * n
  pub variables : w.variables ≤ n
  pub numbers : w.numbers ≤ n
  pub strings : w.strings ≤ n
  pub raw_text : w.raw_text ≤ n
  pub others : w.others ≤ n

-- an answer with such a weight
unfoldable pub Slight : ℕ → Option Weight → Type 0
Slight n None = Unit {0}
Slight n (Some w) = Small n w
