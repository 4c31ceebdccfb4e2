-- What the check of a piece says: that it is a part of a well-formed line if what comes after it is, or that it is not.
use Rattle.std.specs.Prelude.{ℕ, ◌+◌, ◌*◌, ◌≤◌, ◌≡◌, List, ◌∷◌, length, drop, Option, Some, None}
use Rattle.paper.specs.Tokens.{Token, operator, raw}
use Rattle.list_pieces.specs.declared.Piece.{Piece}
use Rattle.list_pieces.specs.Pieces.{piece_at, size_of, end_after, Holds}
use Rattle.list_pieces.specs.Rest.{Takes, Rest}
use Rattle.grammar.specs.Stack.{stack}

-- a stack takes raw text and its end, and has then n frames; or does not take both
pub record Ended (old : List ℕ) (depth : ℕ) (r : Option ℕ) (new : List ℕ) : Type 0 where
  pub fits : (n : ℕ) → r ≡ Some n → (n ≤ depth + 16) × ((b : List ℕ) (ts : List Token) → (Takes (stack old depth) (raw b ∷ operator 0x9b ∷ ts) → Takes (stack new n) ts) × (Takes (stack new n) ts → Takes (stack old depth) (raw b ∷ operator 0x9b ∷ ts)))
  pub fails : r ≡ None → (b : List ℕ) (ts : List Token) → Takes (stack old depth) (raw b ∷ operator 0x9b ∷ ts) → ⊥

-- the line l, at the piece c at `at`, is well-formed exactly if it is after the piece; the stack has then d frames in a new buffer
pub record Onward (ns : List (List ℕ)) (l : List ℕ) (at end : ℕ) (c : Piece) (old : List ℕ) (depth d : ℕ) (new : List ℕ) : Type 0 where
  pub within : at + size_of c ≤ length l
  pub few : d ≤ depth + 8 * size_of c
  pub holds : Holds ns (drop at l) c
  pub down : Rest ns (stack old depth) at end (drop at l) → Rest ns (stack new d) (at + size_of c) (end_after end (drop at l) c) (drop (at + size_of c) l)
  pub up : Rest ns (stack new d) (at + size_of c) (end_after end (drop at l) c) (drop (at + size_of c) l) → Rest ns (stack old depth) at end (drop at l)

-- a piece fits, or the line is not well-formed
pub record Passes (ns : List (List ℕ)) (l : List ℕ) (at end : ℕ) (c : Piece) (old : List ℕ) (depth : ℕ) (r : Option ℕ) (new : List ℕ) : Type 0 where
  pub fits : (d : ℕ) → r ≡ Some d → Onward ns l at end c old depth d new
  pub fails : r ≡ None → Rest ns (stack old depth) at end (drop at l) → ⊥

-- the same wherever the present statement ends, if this piece stands there
abbrev pub Checked : List (List ℕ) → List ℕ → ℕ → Piece → List ℕ → ℕ → Option ℕ → List ℕ → Type 0
Checked ns l at c old depth r new = (end : ℕ) → piece_at at end (drop at l) ≡ c → Passes ns l at end c old depth r new
