use mathlib.Core.Path.{◌≡◌}
use lib.ListN.{length, take}
use Rattle.paper.specs.Names.{names_in}
use Rattle.file_weigh.proofs.LinesLaws.{Going}
use Rattle.file_weigh.proofs.weigh_lines.Given as goal

abbrev pub invariant-loop-rest : goal.invariant-loop-rest
invariant-loop-rest l = (length l.frames ≡ 2056) × Going (names_in (take l.size l.names)) l.lines l.rest l.total

abbrev pub decreases-loop-rest : goal.decreases-loop-rest
decreases-loop-rest l = length l.rest
