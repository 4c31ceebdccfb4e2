-- The marks of the variables that lines use: those of well-formed lines, and none of error lines.
use Rattle.std.specs.Prelude.{ℕ, List, [], ◌∷◌}
use Rattle.paper.specs.Bytes.{pick}
use Rattle.paper.specs.Line.{line_tokens}
use Rattle.paper.specs.Errors.{error_line?}
use Rattle.list_mark.specs.Marks.{marked}

-- marks, with those of a line
unfoldable pub marked_line : List (List ℕ) → List ℕ → List ℕ → List ℕ
marked_line ns l m = pick (error_line? l) m (marked ns (line_tokens ns l) m)

-- marks, with those of lines
unfoldable pub marked_lines : List (List ℕ) → List (List ℕ) → List ℕ → List ℕ
marked_lines ns [] m = m
marked_lines ns (l ∷ ls) m = marked_lines ns ls (marked_line ns l m)
