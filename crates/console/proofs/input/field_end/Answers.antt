-- `field_end` meets its contract: the first mark, or the end.
use Rattle.std.proofs.Common.{rules, tests, eqb}
use Rattle.std.proofs.lemmas.Iterator.{YieldsList-from_slice}
use Rattle.std.proofs.lemmas.Iterator.Search.{position_from_yields_List}
use Rattle.console.proofs.FieldLaws.{found, none_found}
use Rattle.console.proofs.input.field_end.Goals as goal

pub returns-in-Some : goal.returns-in-Some
returns-in-Some c =
    found c.args.mark c.args.at c.args.line.now c.requires c.position.result
    (position_from_yields_List (λ b. eqb b c.args.mark) _ _ c.position.result c.position.ensures.ran (YieldsList-from_slice _ c.iter.ensures.rest) (λ x b q k. search (rules, tests)))
    c.in-Some.size c.in-Some.is

pub returns-in-None : goal.returns-in-None
returns-in-None c =
    none_found c.args.mark c.args.at c.args.line.now c.requires c.position.result
    (position_from_yields_List (λ b. eqb b c.args.mark) _ _ c.position.result c.position.ensures.ran (YieldsList-from_slice _ c.iter.ensures.rest) (λ x b q k. search (rules, tests)))
    c.in-None.is
