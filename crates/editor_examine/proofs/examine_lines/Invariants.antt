-- The invariant: what is found of the rest, whose numbers go on from the least one, is what is found of all lines.
use mathlib.Core.Path.{◌≡◌}
use lib.ListN.{length, take}
use Rattle.paper.specs.Names.{names_in}
use Rattle.editor_examine.specs.Verdicts.{lines_verdict}
use Rattle.editor_examine.proofs.examine_lines.Given as goal

abbrev pub invariant-loop-rest : goal.invariant-loop-rest
invariant-loop-rest l = (length l.frames ≡ 2056) × (lines_verdict (names_in (take l.name_bytes l.names)) l.least l.rest ≡ lines_verdict (names_in (take l.name_bytes l.names)) 0 l.lines)

abbrev pub decreases-loop-rest : goal.decreases-loop-rest
decreases-loop-rest l = length l.rest
