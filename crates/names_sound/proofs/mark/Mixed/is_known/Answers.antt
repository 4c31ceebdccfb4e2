use Rattle.std.proofs.Common.{◌≡◌, true, false, take, refl, sym, ◌∙◌, rules}
use Rattle.std.proofs.lemmas.Iterator.{YieldsList-from_take, cases_from_any}
use Rattle.std.proofs.lemmas.Iterator.Consumers.{YieldsList-from_first, YieldsList-at}
use Rattle.paper.specs.Bytes.{same}
use Rattle.paper.specs.Names.{names_in}
use Rattle.names_form.specs.Names.{spelling, coming, same_parts}
use Rattle.names_sound.proofs.Marking.{unmarked_unknown, any_known}
use Rattle.names_sound.proofs.mark.Mixed.is_known.Goals as goal

pub returns-then-mark-sign : goal.returns-then-mark-sign
returns-then-mark-sign c = unmarked_unknown _ c.requires c.place.ensures refl c.if-mark.true (λ z. c.if-mark-sign.true (z ∙ sym c.sign.ensures))

pub returns : goal.returns
returns c =
    let name = spelling c.args.self.name in
    let all = YieldsList-from_first spelling coming {s = c.names_in.result} (names_in c.args.bytes.now) c.names_in.ensures in
    any_known name (take c.args.number (names_in c.args.bytes.now)) c.any.result
    (cases_from_any c.any.new.self _ c.any.result (λ m. same m name ≡ true) (λ m. same m name ≡ false) c.any.ensures.ran (YieldsList-from_take c.args.number (YieldsList-at c.take.ensures.source all) c.take.ensures.count)
    (λ x q k. sym (same_parts _ _ _ _) ∙ search rules) (λ x q k. (search rules, sym (same_parts _ _ _ _) ∙ search rules)))
