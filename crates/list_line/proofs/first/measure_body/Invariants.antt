use mathlib.Core.Path.{◌≡◌}
use lib.ListN.{take}
use Rattle.paper.specs.Names.{names_in}
use Rattle.list_line.proofs.PassLaws.{Measuring}
use Rattle.list_line.proofs.first.measure_body.Given as goal

abbrev pub invariant-loop-at : goal.invariant-loop-at
invariant-loop-at l = (l.pieces.line.now ≡ l.line) × Measuring l.direct (names_in (take l.size l.names)) l.line l.room l.frames l.pieces.at l.pieces.end l.depth l.total
