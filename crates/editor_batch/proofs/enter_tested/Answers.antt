use mathlib.Core.Path.{sym, ◌∙◌}
use Rattle.laws.specs.Tests.{as_T}
use Rattle.editor_batch.proofs.AnswerLaws.{refused_unsound}
use Rattle.editor_batch.proofs.enter_tested.Goals as goal

pub enter_sound-requires : goal.enter_sound-requires
enter_sound-requires c = as_T _ (sym c.requires ∙ c.if-sound.true)

pub returns-then-sound : goal.returns-then-sound
returns-then-sound c = c.enter_sound.ensures

pub returns-else-sound : goal.returns-else-sound
returns-else-sound c =
    let args = c.args in
    refused_unsound args.keep args.line.now args.names.now args.values.now args.store.now args.e _ c.refused.ensures (sym c.requires ∙ c.if-sound.false)
