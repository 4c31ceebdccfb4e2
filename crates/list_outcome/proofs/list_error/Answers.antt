use native.Mathlib.Omega.{arith}
use mathlib.Core.Path.{sym, ◌∙◌}
use Rattle.paper.specs.Line.{line_number}
use Rattle.list_error.specs.ErrorLaws.{error_long}
use Rattle.list_head.specs.Heads.{lawful_for}
use Rattle.list_outcome.specs.Outcomes.{error_listing}
use Rattle.list_outcome.specs.AnswerLaws.{refused, too_long, written}
use Rattle.list_outcome.proofs.list_error.Goals as goal

pub is_lawful-requires : goal.is_lawful-requires
is_lawful-requires c = omega (arith, error_long c.args.line.now c.requires)

pub returns-then-not-is_lawful : goal.returns-then-not-is_lawful
returns-then-not-is_lawful c =
    let a = c.args in
    refused (lawful_for a.direct (line_number a.line.now)) (error_listing a.direct a.line.now) a.out.now (sym c.is_lawful.ensures ∙ c.if-not-is_lawful.true)

pub write_listing-requires : goal.write_listing-requires
write_listing-requires c = c.requires

pub returns-then-out-write_listing : goal.returns-then-out-write_listing
returns-then-out-write_listing c =
    let a = c.args in
    too_long (lawful_for a.direct (line_number a.line.now)) (error_listing a.direct a.line.now) a.out.now (sym c.is_lawful.ensures ∙ c.if-not-is_lawful.false) (omega (arith, c.if-out-write_listing.true, c.write_listing.ensures.size))

pub write_listing-requires-2 : goal.write_listing-requires-2
write_listing-requires-2 c = c.requires

pub returns : goal.returns
returns c =
    let a = c.args in
    let w = c.write_listing-2.ensures in
    written (lawful_for a.direct (line_number a.line.now)) (error_listing a.direct a.line.now) a.out.now _ _ (sym c.is_lawful.ensures ∙ c.if-not-is_lawful.false) (omega (arith, c.if-out-write_listing.false, c.write_listing.ensures.size)) w.size w.bytes
