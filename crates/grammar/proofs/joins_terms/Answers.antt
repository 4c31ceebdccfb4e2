use Rattle.std.proofs.Common.{arith}
use Rattle.grammar.specs.Joining.{joins_between, joins_or_and, joins_none}
use mathlib.Core.Logic.{inl, inr}
use Rattle.grammar.proofs.joins_terms.Goals as goal

pub returns-in_default : goal.returns-in_default
returns-in_default c = joins_none _ (inl (omega arith)) (λ e. omega arith)

pub returns-in_default-2 : goal.returns-in_default-2
returns-in_default-2 c = joins_none _ (inr (omega arith)) (λ e. omega arith)

pub returns-in-19 : goal.returns-in-19
returns-in-19 c = joins_or_and _ c.in-19.is

pub returns-in-19-2 : goal.returns-in-19-2
returns-in-19-2 c = joins_between _ (omega arith) (omega arith)
