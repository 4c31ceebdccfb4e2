use mathlib.Core.Path.{sym, ◌∙◌}
use lib.ListN.{take}
use Rattle.paper.specs.Names.{names_in}
use Rattle.list_pieces.specs.NameLaws.{sound_numbered}
use Rattle.list_weigh.specs.Weights.{Slight}
use Rattle.list_weigh.proofs.LineLaws.{error_refused, error_answered, other_refused, other_answered}
use Rattle.list_weigh.proofs.weigh.Goals as goal

pub returns-then-number-gt-GREATEST_NUMBER : goal.returns-then-number-gt-GREATEST_NUMBER
unfolding Slight
returns-then-number-gt-GREATEST_NUMBER c = (error_refused (names_in (take c.args.size c.args.names.now)) c.args.line.now (sym c.if-is_error_line.true ∙ c.is_error_line.ensures) _ c.number.ensures c.if-number-gt-GREATEST_NUMBER.true, tt)

pub weigh_error-requires : goal.weigh_error-requires
weigh_error-requires c = sym c.is_error_line.ensures ∙ c.if-is_error_line.true

pub returns-then-is_error_line : goal.returns-then-is_error_line
unfolding Slight
returns-then-is_error_line c = (error_answered (names_in (take c.args.size c.args.names.now)) c.args.line.now (sym c.if-is_error_line.true ∙ c.is_error_line.ensures) _ c.number.ensures c.if-number-gt-GREATEST_NUMBER.false _ c.weigh_error.ensures.0, c.weigh_error.ensures.1)

pub well_formed_over-requires : goal.well_formed_over-requires
well_formed_over-requires c = (record { names = _; numbered = sound_numbered _ _ c.requires.0; kinds = c.requires.2 }, c.requires.3)

pub returns-then-not-well_formed_over : goal.returns-then-not-well_formed_over
unfolding Slight
returns-then-not-well_formed_over c = (other_refused (names_in (take c.args.size c.args.names.now)) c.args.line.now (sym c.if-is_error_line.false ∙ c.is_error_line.ensures) (sym (c.well_formed_over.ensures _ (sound_numbered _ _ c.requires.0) c.requires.2) ∙ c.if-not-well_formed_over.true), tt)

pub weigh_formed-requires : goal.weigh_formed-requires
weigh_formed-requires c = (sym (c.well_formed_over.ensures _ (sound_numbered _ _ c.requires.0) c.requires.2) ∙ c.if-not-well_formed_over.false, c.requires.0, c.requires.1)

pub returns : goal.returns
unfolding Slight
returns c = (other_answered (names_in (take c.args.size c.args.names.now)) c.args.line.now (sym c.if-is_error_line.false ∙ c.is_error_line.ensures) (sym (c.well_formed_over.ensures _ (sound_numbered _ _ c.requires.0) c.requires.2) ∙ c.if-not-well_formed_over.false) _ c.weigh_formed.ensures.0, c.weigh_formed.ensures.1)
