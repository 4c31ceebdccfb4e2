-- The loop keeps: the first name goes on from the place.
use Rattle.std.proofs.Common.{◌≡◌, ◌+◌, drop}
use Rattle.names_form.specs.Tables.{first_size}
use Rattle.names_form.proofs.table.first_size.Given as goal

abbrev pub invariant-loop-i : goal.invariant-loop-i
invariant-loop-i l = first_size l.bytes ≡ l.i + first_size (drop l.i l.bytes)
