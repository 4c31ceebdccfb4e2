use Rattle.std.proofs.Common.{◌≡◌}
use Rattle.grammar.proofs.StackLaws.{Down}
use Rattle.grammar.proofs.take_item.Given as goal

abbrev pub invariant-loop-at : goal.invariant-loop-at
invariant-loop-at l = (l.frames ≡ l.initial.frames) × Down l.initial.frames l.depth l.class l.at
