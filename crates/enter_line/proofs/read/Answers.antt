use mathlib.Core.Path.{refl, ap, ◌∙◌}
use Rattle.std.proofs.Math.Seq.{sets}
use Rattle.enter_error.specs.ErrorLaws.{two_bytes}
use Rattle.enter_item.specs.DraftLaws.{high_byte}
use Rattle.std.proofs.Common.{Some}
use Rattle.paper.specs.Grammar.{start as start-frames}
use Rattle.enter_item.specs.Draft.{low}
use native.Mathlib.Omega.{arith}
use Rattle.enter_line.specs.Reading.{as_start}
use Rattle.enter_line.specs.ReadingLaws.{statements_within, told_nothing, told_delete, told_refused, told_read, translated_left, translated_bad, place_within, first_asks, line_whole}
use Rattle.enter_line.proofs.read.Goals as goal

pub returns-in_default : goal.returns-in_default
returns-in_default c = told_nothing c.in_default.ensures

pub returns-in-NumberAlone : goal.returns-in-NumberAlone
returns-in-NumberAlone c = told_delete (c.start_of.ensures ∙ ap as_start (c.in-Some.is ∙ ap Some c.in-NumberAlone.is))

pub overflow_cast-number : goal.overflow_cast-number
overflow_cast-number c = omega (arith, (statements_within c.args.direct c.args.text.now (c.start_of.ensures ∙ ap as_start (c.in-Some.is ∙ ap Some c.in-Statements.is))).0)

pub statements-requires : goal.statements-requires
statements-requires c =
    let args = c.args in
    let start = c.start_of.ensures ∙ ap as_start (c.in-Some.is ∙ ap Some c.in-Statements.is) in
    let fits = statements_within args.direct args.text.now start in
    first_asks args.text.now _ _ _ _ fits.1 c.requires.0 c.requires.1

pub refused-requires : goal.refused-requires
unfolding start-frames
refused-requires c =
    let args = c.args in
    let start = c.start_of.ensures ∙ ap as_start (c.in-Some.is ∙ ap Some c.in-Statements.is) in
    let fits = statements_within args.direct args.text.now start in
    let within = place_within args.text.now args.names.now _ (c.statements.ensures.stop _ c.in-Err.is) fits.1 in
    (fits.0, within.0, within.1, c.requires.0)

pub returns-in-Ok : goal.returns-in-Ok
unfolding low
returns-in-Ok c =
    let args = c.args in
    let start = c.start_of.ensures ∙ ap as_start (c.in-Some.is ∙ ap Some c.in-Statements.is) in
    let fits = statements_within args.direct args.text.now start in
    let names = args.names.now in
    let done = c.statements.ensures.done _ c.in-Ok.is in
    told_read start (translated_left args.text.now names _ 3 0 done)
    (line_whole args.draft.now.line names args.draft.now.fresh args.text.now _ _ c.requires.1 refl refl (c.copy.ensures ∙ ap (sets args.draft.now.line 0) (c.to_le_bytes.ensures ∙ two_bytes _)) (high_byte _ fits.0) done c.put.ensures c.low_byte.ensures)

pub returns-in-Err : goal.returns-in-Err
unfolding start-frames
returns-in-Err c =
    let args = c.args in
    let start = c.start_of.ensures ∙ ap as_start (c.in-Some.is ∙ ap Some c.in-Statements.is) in
    let names = args.names.now in
    told_refused start (translated_bad args.text.now names _ (c.statements.ensures.stop _ c.in-Err.is)) c.refused.ensures
