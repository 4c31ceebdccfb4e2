-- The loop keeps: the names passed are counted, none of them is the name, so its number among all is that count and its number among those left.
use Rattle.std.proofs.Common.{◌≡◌, ◌+◌, length}
use Rattle.paper.specs.Names.{names_in, number_of}
use Rattle.names_form.specs.Names.{spelling, coming}
use Rattle.names_form.proofs.table.find.Given as goal

abbrev pub invariant-loop-known : goal.invariant-loop-known
invariant-loop-known l =
    (number_of (names_in l.table) (spelling l.name) ≡ l.count + number_of (coming l.known-iterator) (spelling l.name))
    × (length (names_in l.table) ≡ l.count + length (coming l.known-iterator))
