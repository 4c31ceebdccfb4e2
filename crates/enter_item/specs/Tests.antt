-- Tests of classes that the readers make.
use Rattle.std.specs.Prelude.{ℕ, Bool, true, false, eqb}
use Rattle.paper.specs.Bytes.{pick}
use Rattle.paper.specs.Classes.{equals, comparison}

-- an operator that compares
unfoldable pub compares? : ℕ → Bool
compares? c = pick (eqb c comparison) true (pick (eqb c equals) true false)
