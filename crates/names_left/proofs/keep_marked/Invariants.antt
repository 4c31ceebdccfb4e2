-- The loop keeps a walk: what is still to be written to the names, the values and the marks makes what was to be written at entry.
use Rattle.names_left.proofs.Turns.{Walk}
use Rattle.names_left.proofs.keep_marked.Given as goal

abbrev pub invariant-loop-number : goal.invariant-loop-number
invariant-loop-number l = Walk l.initial.names l.name_bytes l.initial.values l.initial.marks l.names l.values l.marks l.at l.number l.left.name_bytes l.left.name_count
