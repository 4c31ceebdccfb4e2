-- The loop keeps: the names passed are lawful and marked, and the rest decides with them.
use Rattle.std.specs.Iterator.Adapters.{enumerate_source, enumerate_count}
use Rattle.names_form.specs.Names.{coming}
use Rattle.names_sound.proofs.Soundness.{Passed}
use Rattle.names_sound.proofs.are_marked.Given as goal

abbrev pub invariant-loop-number : goal.invariant-loop-number
invariant-loop-number l = Passed l.bytes l.count l.marks (enumerate_count l.number-iterator) l.left (coming (enumerate_source l.number-iterator))
