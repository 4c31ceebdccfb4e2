-- The head of a line, stored or direct (document 02, §1): the number that it may have, whether its head is right, and what stands at the front of its listing.
use Rattle.std.specs.Prelude.{ℕ, Bool, ◌&&◌, List, [], ◌∷◌, ◌++◌, leb, eqb, length, get_or}
use Rattle.paper.specs.Bytes.{blank, pick}
use Rattle.paper.specs.Line.{line_number, lawful_number?, direct_number?}
use Rattle.paper.specs.Listing.{decimal}

-- a number that a line may have, direct or stored
abbrev pub lawful_for : Bool → ℕ → Bool
lawful_for direct = pick direct direct_number? lawful_number?

-- the head of a line is right: its own length, and a number that passes a test
unfoldable pub right_head? : (ℕ → Bool) → List ℕ → Bool
right_head? lawful? l = leb 3 (length l) && (eqb (get_or l 2 0) (length l) && lawful? (line_number l))

-- what stands at the front of a listing: nothing, or the number and a blank
abbrev pub head_for : Bool → ℕ → List ℕ
head_for direct n = pick direct [] (decimal 5 n ++ blank ∷ [])
