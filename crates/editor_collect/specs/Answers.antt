-- What taking back unused names answers, as an outcome of `paper`.
use Rattle.std.specs.Prelude.{ℕ, List, Result, Ok, Err}
use Rattle.paper.specs.Collect.{Collected as Outcome}
use Rattle.editor_edit.specs.declared.Editor.{Editor}
use Rattle.editor_edit.specs.States.{state}
use Rattle.refusals.specs.Numbers.{number_of}
use Rattle.refusals.specs.declared.Refusal.{Refusal}

-- the number of an answer, 0 where nothing was refused
abbrev pub number_in : Result Editor Refusal → ℕ
number_in (Ok after) = 0
number_in (Err r) = number_of r

-- the record after a call over a record e: that of the names left, or after a refusal e as it was
abbrev pub record_after : Editor → Result Editor Refusal → Editor
record_after e (Ok after) = after
record_after e (Err r) = e

-- what a call over a record e answered, with what it left in names, values and store
abbrev pub outcome : Editor → Result Editor Refusal → List ℕ → List ℕ → List ℕ → Outcome
outcome e r names values store = record { number = number_in r; after = state names values store (record_after e r) }
