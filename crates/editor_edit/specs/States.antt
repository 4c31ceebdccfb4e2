-- The lent buffers and the record as a state of `paper`, and what a call answered and left as an outcome of `paper`.
use Rattle.std.specs.Prelude.{ℕ, ◌≡◌, List, Result, Ok, Err}
use Rattle.paper.specs.Items.{Span, span, no_span}
use Rattle.paper.specs.Calls.{State, lines_of}
use Rattle.paper.specs.Calls.{Entered as Outcome}
use Rattle.paper.specs.Direct.{Typed}
use Rattle.refusals.specs.Numbers.{number_of}
use Rattle.refusals.specs.declared.Refusal.{Refusal}
use Rattle.refusals.specs.declared.RefusedItem.{RefusedItem}
use Rattle.store.specs.declared.Counts.{Counts}
use Rattle.store.specs.declared.Place.{Place}
use Rattle.store.specs.Answers.{place_of}
use Rattle.editor_edit.specs.declared.Editor.{Editor}
use Rattle.editor_edit.specs.declared.Entered.{Entered}

-- names, values, store and the record
abbrev pub state : List ℕ → List ℕ → List ℕ → Editor → State
state names values store e =
    record { names = names; name_size = e.name_bytes; name_count = e.name_count; values = values; store = store; used = e.used; line_count = e.lines; greatest = e.greatest }

-- the record of empty tables and an empty store
abbrev pub empty_record : Editor
empty_record = record { used = 0; lines = 0; greatest = 0; name_count = 0; name_bytes = 0 }

-- what a record keeps of the store
abbrev pub counts_in : Editor → Counts
counts_in e = record { used = e.used; lines = e.lines; greatest = e.greatest }

-- a record with other counts of the store
abbrev pub counting : Editor → Counts → Editor
counting e after = record { used = after.used; lines = after.lines; greatest = after.greatest; name_count = e.name_count; name_bytes = e.name_bytes }

-- an answer in three numbers: document 01's, 0 where nothing was refused; the place of what was refused, with its end; and how many names were added
abbrev pub number_in : Result ℕ RefusedItem → ℕ
number_in (Ok added) = 0
number_in (Err i) = number_of i.refusal

abbrev pub place_in : Result ℕ RefusedItem → Span
place_in (Ok added) = no_span
place_in (Err i) = span i.place i.end

abbrev pub added_in : Result ℕ RefusedItem → ℕ
added_in (Ok added) = added
added_in (Err i) = 0

-- what a call answered, with what it left in names, values and store
abbrev pub entered : Entered → List ℕ → List ℕ → List ℕ → Outcome
entered r names values store = record { number = number_in r.added; place = place_in r.added; added = added_in r.added; after = state names values store r.editor }

-- the same of a call that was lent a line buffer, with what it left there
abbrev pub typed_outcome : Entered → List ℕ → List ℕ → List ℕ → List ℕ → Typed
typed_outcome r names values store line = record { entered = entered r names values store; line = line }

-- a refusal that has no place
abbrev pub no_place : Refusal → RefusedItem
no_place k = record { refusal = k; place = 0; end = 0 }

-- a refusal: nothing is added, and the record is as it was
abbrev pub refusing : RefusedItem → Editor → Entered
refusing i e = record { added = Err i; editor = e }

-- a place is that of a number in the store
abbrev pub Lies : Place → ℕ → State → Type 0
Lies p n s = p ≡ place_of n (lines_of s)
