use mathlib.Core.Path.{◌≡◌}
use lib.ListN.{take}
use Rattle.paper.specs.Names.{names_in}
use Rattle.list_line.proofs.PassLaws.{Writing}
use Rattle.list_line.proofs.second.write_line.Given as goal

abbrev pub invariant-loop-at : goal.invariant-loop-at
invariant-loop-at l = (l.pieces.line.now ≡ l.line) × Writing (names_in (take l.size l.names)) l.line l.initial.out l.initial.n l.pieces.at l.pieces.end l.n l.out
