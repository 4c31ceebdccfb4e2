use mathlib.Core.Path.{ap}
use Prim.Native.Nat.{ℕ}
use lib.Dec.{eqb}
use Rattle.paper.specs.Classes.{remark}
use Rattle.paper.specs.Line.{raw_statement?}
use Rattle.paper.specs.Tokens.{class}
use Rattle.tokens.proofs.is_raw_statement.Goals as goal

pub returns : goal.returns
unfolding raw_statement? class
returns c = ap (λ (x : ℕ). eqb x remark) c.statement_class.ensures
