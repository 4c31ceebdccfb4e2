-- The invariant: `sound` says whether the tables are sound now; no more lines are counted than bytes passed; and the call, going on with the lines left from the
-- answer so far, comes to what it comes to with all lines.
use mathlib.Core.Path.{◌≡◌, refl, sym, ap, ◌∙◌}
use native.Mathlib.Omega.{arith}
use lib.ListN.{length}
use Rattle.std.proofs.Common.{rules}
use Rattle.paper.specs.Calls.{sound_state}
use Rattle.paper.specs.Batch.{text_lines}
use Rattle.editor_edit.specs.States.{state}
use Rattle.editor_batch.specs.declared.Batched.{Batched}
use Rattle.editor_batch.specs.Answers.{batched}
use Rattle.editor_batch.specs.Lines.{coming}
use Rattle.editor_batch.proofs.TurnLaws.{going_on, begins, done, few, one_counted, as_sound, comes_to}
use Rattle.editor_batch.proofs.batch.Goals as goal

pub loop-line-init : goal.loop-line-init
loop-line-init c =
    let args = c.args in
    let all : coming c.into_iter-line-iterator.result ≡ text_lines args.text.now = search rules in (
      c.sound-sound.ensures ∙ ap (λ (b : Batched). sound_state (state args.names.now args.values.now args.store.now b.editor)) (sym c.no_lines-b.ensures),
      omega (arith, ap (λ (b : Batched). b.taken) c.no_lines-b.ensures, ap (λ (b : Batched). b.refused) c.no_lines-b.ensures, few args.text.now, ap length all),
      refl,
      refl,
      refl,
      ap (going_on args.keep (batched c.no_lines-b.result args.names.now args.values.now args.store.now)) all,
    )

pub enter_tested-answer-requires : goal.enter_tested-answer-requires
enter_tested-answer-requires c = c.loop-line.invariant.0

pub with_answer-b-requires : goal.with_answer-b-requires
with_answer-b-requires c = omega (arith, c.loop-line.invariant.1, ap length c.in-Some.ensures.steps, c.well_formed.0)

pub loop-line-preserved : goal.loop-line-preserved
loop-line-preserved c =
    let turn = c.loop-line in
    let answer = c.with_answer-b.ensures _ _ _ _ _ _ in
    let entry = c.enter_tested-answer.ensures in (
      turn.invariant.0 ∙ sym (as_sound _ _ _ answer _ _ entry),
      omega (arith, one_counted _ _ _ answer, ap length c.in-Some.ensures.steps, turn.invariant.1),
      omega (arith, c.enter_tested-answer.auto.names, turn.invariant.2),
      omega (arith, c.enter_tested-answer.auto.values, turn.invariant.3),
      omega (arith, c.enter_tested-answer.auto.store, turn.invariant.4),
      comes_to _ _ _ answer _ _ entry _ _ c.in-Some.ensures.steps ∙ turn.invariant.5,
    )

pub shape_of-names : goal.shape_of-names
shape_of-names c = c.loop-line.invariant.2

pub shape_of-values : goal.shape_of-values
shape_of-values c = c.loop-line.invariant.3

pub shape_of-store : goal.shape_of-store
shape_of-store c = c.loop-line.invariant.4

pub returns : goal.returns
returns c =
    let turn = c.loop-line in
    let args = c.args in
    sym (done args.keep _ _ c.in-None.ensures.steps.0) ∙ turn.invariant.5 ∙ begins args.keep _ args.e args.names.now args.values.now args.store.now args.text.now c.no_lines-b.ensures
