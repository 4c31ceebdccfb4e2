-- A line over other names: each variable has a new number, no greater than the old one, and the line is rewritten with them.
use Rattle.std.specs.Prelude.{ℕ, ◌≡◌, false, List, T, length}
use Rattle.paper.specs.Bytes.{every}
use Rattle.paper.specs.Line.{line_number, line_bytes, line_tokens}
use Rattle.paper.specs.Errors.{error_line?}
use Rattle.paper.specs.Store.{overwritten}
use Rattle.paper.specs.Collect.{renumbered}
use Rattle.laws.specs.Names.{name_passes}
use Rattle.list_mark.specs.Marks.{Over}
use Rattle.list_measure.specs.Numbers.{moves?}

-- a well-formed line whose names have new numbers
pub record Moving (ns new : List (List ℕ)) (numbers l : List ℕ) : Type 0 where
  pub over : Over ns l
  pub passes : T (every (name_passes (moves? ns new numbers)) (line_tokens ns l))

-- it is so over some names
pub record Movable (numbers l : List ℕ) : Type 0 where
  pub names : List (List ℕ)
  pub new : List (List ℕ)
  pub moving : Moving names new numbers l

-- over whatever names: the line with its new numbers stands at the front of the room, and has so many bytes
abbrev pub Rewritten : List ℕ → List ℕ → List ℕ → ℕ → List ℕ → Type 0
Rewritten numbers l room size after =
    (ns new : List (List ℕ)) → Moving ns new numbers l → (size ≡ length (line_bytes new (line_number l) (line_tokens ns l))) × (after ≡ overwritten (line_bytes new (line_number l) (line_tokens ns l)) room)

-- an error line, or a well-formed line whose names have new numbers
abbrev pub Ready : List (List ℕ) → List (List ℕ) → List ℕ → List ℕ → Type 0
Ready ns new numbers l = error_line? l ≡ false → Moving ns new numbers l

-- it is so over some names
pub record Portable (numbers l : List ℕ) : Type 0 where
  pub names : List (List ℕ)
  pub new : List (List ℕ)
  pub ready : Ready names new numbers l

-- over whatever names: the line over the new names stands at the front of the room, and has so many bytes
abbrev pub Carried : List ℕ → List ℕ → List ℕ → ℕ → List ℕ → Type 0
Carried numbers l room size after = (ns new : List (List ℕ)) → Ready ns new numbers l → (size ≡ length (renumbered ns new l)) × (after ≡ overwritten (renumbered ns new l) room)
