use Rattle.std.proofs.Common.{rules}
use Rattle.paper.specs.Words.{reserved?}
use Rattle.names_form.proofs.Shapes.{long_reserved, some_reserved, found_short}
use Rattle.names_form.proofs.shape.Spelling.is_reserved.Goals as goal

pub returns : goal.returns
returns c = found_short c.bare.result reserved? _ _ long_reserved c.bare.ensures c.is_some_and.ensures (λ w k. search (rules, some_reserved))
