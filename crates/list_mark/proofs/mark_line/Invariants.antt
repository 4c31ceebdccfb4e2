-- The invariant: over whatever names the line is well-formed, the marks that are set and those of the rest are the marks of all.
use Prim.Native.Nat.{ℕ}
use mathlib.Core.Path.{◌≡◌}
use mathlib.Core.List.{List}
use Rattle.list_mark.specs.Marks.{Over}
use Rattle.list_mark.specs.MarkLaws.{Marking}
use Rattle.list_mark.proofs.mark_line.Given as goal

abbrev pub invariant-loop-piece : goal.invariant-loop-piece
invariant-loop-piece l = (l.pieces.line.now ≡ l.line) × ((ns : List (List ℕ)) → Over ns l.line → Marking ns l.line l.initial.marks l.pieces.at l.pieces.end l.marks)
