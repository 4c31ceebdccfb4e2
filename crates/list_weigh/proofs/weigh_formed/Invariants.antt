use mathlib.Core.Path.{◌≡◌}
use lib.ListN.{length, take}
use Rattle.paper.specs.Names.{names_in}
use Rattle.list_weigh.proofs.Walk.{Weighed}
use Rattle.list_weigh.proofs.weigh_formed.Given as goal

abbrev pub invariant-loop-at : goal.invariant-loop-at
invariant-loop-at l = (length l.none ≡ 0) × (l.at-iterator.line.now ≡ l.line) × Weighed (names_in (take l.size l.names)) l.line l.at-iterator.at l.at-iterator.end l.total
