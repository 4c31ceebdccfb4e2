-- What the call answered, as an answer of `paper`.
use Rattle.std.specs.Prelude.{ℕ, List, Option, Some, None}
use Rattle.paper.specs.Items.{span, no_span}
use Rattle.paper.specs.Batch.{RefusedLine}
use Rattle.paper.specs.Batch.{Batched as Outcome}
use Rattle.refusals.specs.Numbers.{number_of}
use Rattle.editor_edit.specs.declared.Editor.{Editor}
use Rattle.editor_edit.specs.States.{state}
use Rattle.editor_batch.specs.declared.FirstRefusal.{FirstRefusal}
use Rattle.editor_batch.specs.declared.Batched.{Batched}

-- the first refusal among lines, all 0 if there is none
abbrev pub first_in : Option FirstRefusal → RefusedLine
first_in None = record { number = 0; place = no_span; line = 0 }
first_in (Some f) = record { number = number_of f.item.refusal; place = span f.item.place f.item.end; line = f.line }

-- what the call answered, with what it left in names, values and store
abbrev pub batched : Batched → List ℕ → List ℕ → List ℕ → Outcome
batched r names values store = record { taken = r.taken; refused = r.refused; first = first_in r.first; after = state names values store r.editor }

-- the answer before any line is entered
abbrev pub nothing_entered : Editor → Batched
nothing_entered e = record { taken = 0; refused = 0; first = None; editor = e }
