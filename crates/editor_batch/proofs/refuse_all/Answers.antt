use mathlib.Core.Path.{◌≡◌, ap, ◌∙◌}
use mathlib.Core.Bool.{false}
use mathlib.Core.List.{[]}
use Rattle.paper.specs.Batch.{batch}
use Rattle.editor_edit.specs.declared.Editor.{Editor}
use Rattle.editor_edit.specs.States.{state}
use Rattle.editor_batch.proofs.AnswerLaws.{all_refused, used_one}
use Rattle.editor_batch.proofs.refuse_all.Goals as goal

pub returns : goal.returns
returns c =
    let args = c.args in
    all_refused args.text.now _ _ _ _ args.e (c.batch-r.ensures ∙ ap (λ (z : Editor). batch false args.text.now (state [] [] [] (used_one z))) c.empty.ensures)
