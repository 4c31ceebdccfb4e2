-- The invariant: `sound` says whether the tables are sound now; no more lines are counted than bytes passed; and the call, going on with the lines left from the
-- answer so far, comes to what it comes to with all lines.
use mathlib.Core.Path.{◌≡◌}
use Prim.Native.Nat.{◌+◌, ◌≤◌}
use lib.ListN.{length}
use Rattle.paper.specs.Calls.{sound_state}
use Rattle.paper.specs.Batch.{text_lines}
use Rattle.editor_batch.specs.Answers.{batched}
use Rattle.editor_batch.specs.Lines.{coming}
use Rattle.editor_batch.proofs.TurnLaws.{going_on}
use Rattle.editor_batch.proofs.batch.Given as goal

abbrev pub invariant-loop-line : goal.invariant-loop-line
invariant-loop-line l =
    (l.sound ≡ sound_state (batched l.b l.names l.values l.store).after)
    × (l.b.taken + l.b.refused + length (coming l.line-iterator) ≤ length l.text)
    × (length l.names ≡ length l.initial.names)
    × (length l.values ≡ length l.initial.values)
    × (length l.store ≡ length l.initial.store)
    × (going_on l.keep (batched l.b l.names l.values l.store) (coming l.line-iterator) ≡ going_on l.keep (batched l.initial.b l.initial.names l.initial.values l.initial.store) (text_lines l.text))
