-- The invariant: so many bytes are counted, no more than were passed; and over whatever names, they and those of the rest are all.
use Prim.Native.Nat.{ℕ, ◌+◌, ◌≤◌}
use mathlib.Core.Path.{◌≡◌}
use mathlib.Core.List.{List}
use lib.ListN.{length, drop}
use Rattle.list_measure.specs.Numbers.{Passing}
use Rattle.list_measure.proofs.MeasureLaws.{Counting}
use Rattle.list_measure.proofs.to_next.Given as goal

abbrev pub invariant-loop-pieces : goal.invariant-loop-pieces
invariant-loop-pieces l = (l.pieces.line.now ≡ l.line) × (l.pieces.end ≡ l.end) × (l.from + l.n ≤ l.pieces.at) × (l.pieces.at ≤ length l.line)
    × ((ns new : List (List ℕ)) → Passing ns new l.numbers l.from l.end (drop l.from l.line) → Counting ns new l.numbers l.line l.from l.end l.pieces.at l.n)
