use mathlib.Core.Path.{◌≡◌}
use lib.ListN.{take}
use lib.Seq.{sets}
use Rattle.names_numbered.specs.Standing.{all_cleared}
use Rattle.list_text.proofs.write_cleared.Given as goal

abbrev pub invariant-loop-i : goal.invariant-loop-i
invariant-loop-i l = l.out ≡ sets l.initial.out l.n (take l.i (all_cleared l.src))
