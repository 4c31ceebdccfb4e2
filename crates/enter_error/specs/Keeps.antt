-- Whether a refused line is kept.
use Rattle.std.specs.Prelude.{ℕ, Bool, not, ◌&&◌, List, eqb}
use Rattle.paper.specs.Line.{direct_number?}
use Rattle.paper.specs.Errors.{keepable?}

-- whether the line n, refused with k at a place of its text, is kept: where wrong lines are, if it has a number, with 4, and if its text can be
unfoldable pub keeps? : Bool → List ℕ → ℕ → ℕ → ℕ → Bool
keeps? keep text n k place = keep && (not (direct_number? n) && (eqb k 4 && keepable? place text))
