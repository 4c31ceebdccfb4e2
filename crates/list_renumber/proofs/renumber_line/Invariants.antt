-- The invariant: over whatever names, what is written and the bytes of the rest are the new line; and no more is written than was read.
use Prim.Native.Nat.{ℕ, ◌-◌, ◌≤◌}
use mathlib.Core.Path.{◌≡◌}
use mathlib.Core.List.{List}
use lib.ListN.{length, take, drop}
use Rattle.paper.specs.Line.{token_bytes, line_tokens}
use Rattle.list_renumber.specs.Lines.{Moving}
use Rattle.list_renumber.specs.RewriteLaws.{Rewriting}
use Rattle.list_renumber.proofs.renumber_line.Given as goal

abbrev pub invariant-loop-at : goal.invariant-loop-at
invariant-loop-at l = (length l.room ≡ length l.initial.room) × (l.at ≤ l.size) × ((ns new : List (List ℕ)) → Moving ns new l.numbers (take l.size (drop l.from l.initial.room)) → Rewriting ns new l.numbers (token_bytes new 3 (line_tokens ns (take l.size (drop l.from l.initial.room)))) l.initial.room l.at l.end l.to l.room (drop l.at (take l.size (drop l.from l.initial.room))))

abbrev pub decreases-loop-at : goal.decreases-loop-at
decreases-loop-at l = l.size - l.at
