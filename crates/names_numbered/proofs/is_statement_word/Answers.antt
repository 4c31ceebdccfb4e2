use Rattle.std.proofs.Common.{rules, ap, take, ◌∙◌}
use Rattle.std.proofs.lemmas.Iterator.Consumers.{nth_from_yields_List, YieldsList-from_first}
use Rattle.paper.specs.Names.{names_in}
use Rattle.names_form.specs.Names.{spelling, coming}
use Rattle.names_numbered.proofs.Stands.{word_there}
use Rattle.names_numbered.proofs.is_statement_word.Goals as goal

pub returns : goal.returns
returns c =
    let all = YieldsList-from_first spelling coming {s = c.names_in.result} (names_in (take c.args.size c.args.names.now)) (c.names_in.ensures ∙ ap names_in c.front.ensures) in
    word_there c.nth.result (names_in (take c.args.size c.args.names.now)) c.args.number _ (nth_from_yields_List c.nth.result c.nth.new.self c.args.number c.nth.ensures.ran all) c.is_some_and.ensures (λ n k. search rules)
