-- The invariant: the kinds are those of the names; all lines can be listed exactly if the rest can, and the marks that are set and those of the rest are the marks
use mathlib.Core.Path.{◌≡◌}
use lib.ListN.{length, take}
use Rattle.paper.specs.Names.{names_in}
use Rattle.names_kinds.specs.Kinds.{Kinds}
use Rattle.editor_collect.specs.Lines.{Marking}
use Rattle.editor_collect.proofs.mark.mark_lines.Given as goal

abbrev pub invariant-loop-rest : goal.invariant-loop-rest
invariant-loop-rest l = Kinds (names_in (take l.size l.names)) l.kinds × (length l.frames ≡ 2056) × (length l.marks ≡ length l.initial.marks) × Marking (names_in (take l.size l.names)) l.lines l.initial.marks l.rest l.marks

abbrev pub decreases-loop-rest : goal.decreases-loop-rest
decreases-loop-rest l = length l.rest
