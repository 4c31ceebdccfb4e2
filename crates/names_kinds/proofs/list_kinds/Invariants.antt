-- The loop keeps: the kinds still to be listed over the list as it is now make all that are to be listed over that at entry.
use Rattle.std.proofs.Common.{◌≡◌, length}
use Rattle.std.proofs.lemmas.List.Edits.{sets}
use Rattle.std.specs.Iterator.Adapters.{enumerate_source, enumerate_count}
use Rattle.paper.specs.Names.{names_in}
use Rattle.names_form.specs.Names.{coming}
use Rattle.names_kinds.specs.Kinds.{kinds_of}
use Rattle.names_kinds.proofs.list_kinds.Given as goal

abbrev pub invariant-loop-number : goal.invariant-loop-number
invariant-loop-number l =
    (length l.kinds ≡ length l.initial.kinds)
    × (sets l.initial.kinds 0 (kinds_of (names_in l.names)) ≡ sets l.kinds (enumerate_count l.number-iterator) (kinds_of (coming (enumerate_source l.number-iterator))))
