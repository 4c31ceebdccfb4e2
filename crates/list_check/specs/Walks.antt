-- How a walk over a line goes on after a piece, over a list of the kinds of all names.
use Rattle.std.specs.Prelude.{ℕ, ◌%◌, ◌≡◌, List, drop, Option, Some, None}
use Rattle.names_kinds.specs.Kinds.{kind_at, Kinds}
use Rattle.list_pieces.specs.declared.Piece.{Piece}
use Rattle.list_pieces.specs.declared.Piece.TheVariants.{Word, Text, Target, NoTarget, Variable, Constant, Quoted, Operator}
use Rattle.list_pieces.specs.Pieces.{piece_at, size_of, end_after}
use Rattle.list_pieces.specs.Rest.{Rest, Numbered}
use Rattle.grammar.specs.Stack.{stack}
use Rattle.list_check.specs.declared.Next.{Next}
use Rattle.list_check.specs.Passes.{Onward}

-- the kind of a piece's variable, if it has one: of one that does not come first in a statement, a number with its class
abbrev pub KindOf : List (List ℕ) → Piece → ℕ → Type 0
KindOf ns (Word t) k = Unit {0}
KindOf ns (Text t n) k = Unit {0}
KindOf ns (Target v) k = k ≡ kind_at ns v.number
KindOf ns NoTarget k = Unit {0}
KindOf ns (Variable v) k = k % 8 ≡ kind_at ns v.number % 8
KindOf ns Constant k = Unit {0}
KindOf ns (Quoted n) k = Unit {0}
KindOf ns (Operator t) k = Unit {0}

-- the kinds of some names, each of which is found at its own number
pub record Listed (ks : List ℕ) : Type 0 where
  pub names : List (List ℕ)
  pub numbered : Numbered names
  pub kinds : Kinds names ks

-- a walk goes on past the piece that stands at a place, and the line is well-formed exactly if the rest is; or it is not
pub record Goes (ns : List (List ℕ)) (l : List ℕ) (at end : ℕ) (old : List ℕ) (depth : ℕ) (r : Option Next) (new : List ℕ) : Type 0 where
  pub on : (n : Next) → r ≡ Some n
      → (n.size ≡ size_of (piece_at at end (drop at l))) × (n.end ≡ end_after end (drop at l) (piece_at at end (drop at l))) × Onward ns l at end (piece_at at end (drop at l)) old depth n.depth new
  pub stops : r ≡ None → Rest ns (stack old depth) at end (drop at l) → ⊥
