-- The invariant: what is written is no more than was read; and over whatever names, it and the lines of the rest are all the lines.
use Prim.Native.Nat.{ℕ, ◌-◌, ◌≤◌}
use mathlib.Core.Path.{◌≡◌}
use mathlib.Core.List.{List}
use lib.Dec.{T}
use lib.ListN.{length, take}
use Rattle.paper.specs.Bytes.{every}
use Rattle.paper.specs.Store.{lines_in, whole_line?}
use Rattle.editor_collect.specs.Carries.{AllReady, from_on, Carrying}
use Rattle.editor_collect.proofs.carry.carry_lines.Given as goal

abbrev pub invariant-loop-from : goal.invariant-loop-from
invariant-loop-from l = (length l.store ≡ length l.initial.store) × (l.to ≤ l.from) × (l.from ≤ l.used) × T (every whole_line? (lines_in (from_on l.initial.store l.used l.from))) × ((ns new : List (List ℕ)) → AllReady ns new l.numbers (lines_in (take l.used l.initial.store)) → Carrying ns new l.numbers l.initial.store l.used l.from l.to l.store)

abbrev pub decreases-loop-from : goal.decreases-loop-from
decreases-loop-from l = l.used - l.from
