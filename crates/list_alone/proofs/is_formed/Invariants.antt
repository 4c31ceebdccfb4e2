-- The invariant: over any names with these kinds, the line is well-formed exactly if the rest is.
use Prim.Native.Nat.{ℕ, ◌-◌}
use mathlib.Core.Path.{◌≡◌}
use mathlib.Core.List.{List}
use lib.ListN.{length}
use Rattle.paper.specs.Line.{lawful_number?}
use Rattle.names_kinds.specs.Kinds.{Kinds}
use Rattle.list_pieces.specs.Rest.{Numbered}
use Rattle.list_alone.specs.FitLaws.{Fitting}
use Rattle.list_alone.proofs.is_formed.Given as goal

abbrev pub invariant-loop-at : goal.invariant-loop-at
invariant-loop-at l = (length l.frames ≡ length l.initial.frames) × ((ns : List (List ℕ)) → Numbered ns → Kinds ns l.kinds → Fitting lawful_number? ns l.line l.frames l.at l.end l.depth)

abbrev pub decreases-loop-at : goal.decreases-loop-at
decreases-loop-at l = length l.line - l.at
