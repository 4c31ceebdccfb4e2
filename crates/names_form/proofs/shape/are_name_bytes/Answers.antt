use Rattle.std.proofs.Common.{◌≡◌, true, false, rules}
use Rattle.std.proofs.lemmas.Iterator.{YieldsList-from_slice, cases_from_all}
use Rattle.paper.specs.Bytes.{letter_or_digit?}
use Rattle.names_form.proofs.Shapes.{every_cases}
use Rattle.names_form.proofs.shape.are_name_bytes.Goals as goal

pub returns : goal.returns
returns c =
    every_cases letter_or_digit? c.args.bytes.now c.all.result
    (cases_from_all _ _ _ (λ x. letter_or_digit? x ≡ true) (λ x. letter_or_digit? x ≡ false) c.all.ensures.ran (YieldsList-from_slice c.args.bytes.now cc) (λ x q k. search rules) (λ x q k. search rules))
