use native.Mathlib.Omega.{arith}
use mathlib.Core.Path.{sym, ◌∙◌}
use lib.ListN.{take}
use Rattle.paper.specs.Names.{names_in}
use Rattle.list_line.proofs.PassLaws.{says_length, says_none, lists_long, lists_fits}
use Rattle.list_outcome.specs.AnswerLaws.{refused, too_long, written}
use Rattle.list_line.proofs.EitherLaws.{as_formed, as_error}
use Rattle.list_line.proofs.list.Goals as goal

pub list_error-requires : goal.list_error-requires
list_error-requires c = sym c.is_error_line.ensures ∙ c.if-is_error_line.true

pub returns-then-is_error_line : goal.returns-then-is_error_line
returns-then-is_error_line c =
    let a = c.args in
    c.list_error.ensures ∙ as_error a.direct (names_in (take a.size a.names.now)) a.line.now a.out.now (sym c.if-is_error_line.true ∙ c.is_error_line.ensures)

pub measure_line-requires : goal.measure_line-requires
measure_line-requires c = (c.requires, omega (arith, c.well_formed))

pub returns-then-room-n : goal.returns-then-room-n
returns-then-room-n c =
    let a = c.args in
    let s = (says_length c.measure_line.ensures c.in-Some.is) in
    too_long _ _ a.out.now s.formed (lists_long a.direct (names_in (take a.size a.names.now)) a.line.now _ _ s c.if-room-n.true) ∙ as_formed a.direct (names_in (take a.size a.names.now)) a.line.now a.out.now (sym c.if-is_error_line.false ∙ c.is_error_line.ensures)

pub write_line-requires : goal.write_line-requires
write_line-requires c =
    let a = c.args in
    let s = (says_length c.measure_line.ensures c.in-Some.is) in
    (s.formed, (lists_fits a.direct (names_in (take a.size a.names.now)) a.line.now _ _ s c.if-room-n.false).1)

pub returns-in_default : goal.returns-in_default
returns-in_default c =
    let a = c.args in
    refused _ _ a.out.now (says_none a.direct (names_in (take a.size a.names.now)) a.line.now _ c.measure_line.ensures c.in_default.is) ∙ as_formed a.direct (names_in (take a.size a.names.now)) a.line.now a.out.now (sym c.if-is_error_line.false ∙ c.is_error_line.ensures)

pub returns : goal.returns
returns c =
    let a = c.args in
    let s = (says_length c.measure_line.ensures c.in-Some.is) in
    let f = lists_fits a.direct (names_in (take a.size a.names.now)) a.line.now _ _ s c.if-room-n.false in
    written _ _ a.out.now _ _ s.formed f.1 f.0 c.write_line.ensures ∙ as_formed a.direct (names_in (take a.size a.names.now)) a.line.now a.out.now (sym c.if-is_error_line.false ∙ c.is_error_line.ensures)
