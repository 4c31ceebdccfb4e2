-- What is left of the digits says the same as all of them.
use mathlib.Core.Path.{◌≡◌}
use lib.ListN.{drop}
use Rattle.paper.specs.Constants.{value}
use Rattle.buffers.specs.Numbers.{capped}
use Rattle.buffers.proofs.decimal.Given as goal

abbrev pub invariant-loop-b : goal.invariant-loop-b
invariant-loop-b l = capped (value l.n (drop l.b-index l.digits)) ≡ capped (value 0 l.digits)
