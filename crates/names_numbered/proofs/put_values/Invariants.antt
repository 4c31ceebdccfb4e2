-- The loop keeps: the entries still to be written over the values as they are now make all that is to be written over those at entry.
use Rattle.std.proofs.Common.{◌≡◌, ◌+◌, ◌*◌, length}
use Rattle.std.proofs.lemmas.List.Edits.{sets}
use Rattle.std.specs.Iterator.Adapters.{enumerate_source, enumerate_count}
use Rattle.paper.specs.Names.{names_in, value_entries}
use Rattle.names_form.specs.Names.{coming}
use Rattle.names_numbered.proofs.put_values.Given as goal

abbrev pub invariant-loop-i : goal.invariant-loop-i
invariant-loop-i l =
    (length l.values ≡ length l.initial.values)
    × (length (names_in l.fresh) ≡ enumerate_count l.i-iterator + length (coming (enumerate_source l.i-iterator)))
    × (sets l.initial.values (8 * l.count) (value_entries l.count (names_in l.fresh)) ≡ sets l.values (8 * (l.count + enumerate_count l.i-iterator)) (value_entries (l.count + enumerate_count l.i-iterator) (coming (enumerate_source l.i-iterator))))
