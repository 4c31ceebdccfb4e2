-- Which of the two a line is listed as: an error line, or a well-formed one.
use mathlib.Core.Path.{◌≡◌, refl}
use mathlib.Core.Bool.{Bool, true, false, ◌&&◌, ◌||◌}
use mathlib.Core.List.{List, append_assoc}
use Prim.Native.Nat.{ℕ}
use Rattle.paper.specs.Line.{line_number}
use Rattle.paper.specs.WellFormed.{formed?}
use Rattle.paper.specs.Listing.{listing_text, listing, direct_listing}
use Rattle.paper.specs.Errors.{error_line?, listable?, line_text, line_listing}
use Rattle.paper.specs.Calls.{listed_if}
use Rattle.list_head.specs.Heads.{lawful_for}
use Rattle.list_outcome.specs.Outcomes.{error_listing}
use Rattle.list_line.specs.Listed.{formed_listing, lists}

no_other : (a b : Bool) → a || (b && false) ≡ a
no_other true b = refl
no_other false true = refl
no_other false false = refl

number_decides : (a b : Bool) → (a && b) || (a && true) ≡ a
number_decides true true = refl
number_decides true false = refl
number_decides false b = refl

-- a line that is no error line is listed as a well-formed one
pub as_formed : (direct : Bool) (ns : List (List ℕ)) (l out : List ℕ) → false ≡ error_line? l → listed_if (formed? (lawful_for direct) ns l) (formed_listing direct ns l) out ≡ lists direct ns l out
unfolding listable? line_text line_listing listing listing_text direct_listing
as_formed true ns l out e = rw (← e, no_other)
as_formed false ns l out e = rw (← e, no_other)

-- an error line is listed as such, if it may have its number
pub as_error : (direct : Bool) (ns : List (List ℕ)) (l out : List ℕ) → true ≡ error_line? l → listed_if (lawful_for direct (line_number l)) (error_listing direct l) out ≡ lists direct ns l out
unfolding listable? formed? line_text line_listing
as_error true ns l out e = rw (← e, number_decides)
as_error false ns l out e = rw (← e, number_decides, append_assoc)
