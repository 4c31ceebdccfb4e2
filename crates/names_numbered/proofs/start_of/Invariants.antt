-- The loop keeps: the names asked for are those passed, up to `from`, and some of those that follow.
use Rattle.std.proofs.Common.{◌≡◌, ◌+◌, length, take}
use Rattle.std.specs.Iterator.Adapters.{take_source, take_count}
use Rattle.paper.specs.Bytes.{joined}
use Rattle.paper.specs.Names.{names_in}
use Rattle.names_form.specs.Names.{coming}
use Rattle.names_numbered.proofs.start_of.Given as goal

abbrev pub invariant-loop-name : goal.invariant-loop-name
invariant-loop-name l =
    length (joined (take l.number (names_in l.names))) ≡ l.from + length (joined (take (take_count l.name-iterator) (coming (take_source l.name-iterator))))
