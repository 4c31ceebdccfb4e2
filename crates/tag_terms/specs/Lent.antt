-- The lent slices as a state of `paper`, and what the calls leave in them.
use Rattle.std.specs.Prelude.{ℕ, ◌≡◌, refl, Bool, List, [], ◌∷◌, ltb, length, get_or}
use Rattle.std.proofs.lemmas.List.Edits.{sets}
use Rattle.paper.specs.Bytes.{pick}
use Rattle.paper.specs.Items.{no_span}
use Rattle.paper.specs.Calls.{State, refusal, not_listed, list}
use Rattle.paper.specs.Calls.{Entered as Outcome, Listed as WrittenOut}
use Rattle.paper.specs.Direct.{Typed, same_buffer, typed}
use Rattle.paper.specs.Batch.{text_lines, Batched, batch}
use Rattle.paper.specs.Examine.{Verdict, verdict_number, verdict_line}
use Rattle.paper.specs.Files.{Saved, not_saved, save, Loaded, not_loaded, load}
use Rattle.paper.specs.Collect.{Collected, collect}
use Rattle.requested.specs.RequestTerms.{all_unsound}
use Rattle.refusals.specs.declared.Refusal.{Refusal}
use Rattle.refusals.specs.Numbers.{number_of}
use Rattle.editor_edit.specs.declared.Editor.{Editor}
use Rattle.editor_edit.specs.States.{state}

-- the counts of a record, 0 for each that it lacks
abbrev pub editor_of : List ℕ → Editor
editor_of r = record { name_bytes = get_or r 0 0; name_count = get_or r 1 0; used = get_or r 2 0; lines = get_or r 3 0; greatest = get_or r 4 0 }

-- the counts of a state, as a record has them
abbrev pub counts : State → List ℕ
counts s = s.name_size ∷ s.name_count ∷ s.used ∷ s.line_count ∷ s.greatest ∷ []

-- the numbers that entering a text answers
abbrev pub entered_numbers : Outcome → List ℕ
entered_numbers o = o.number ∷ o.place.start ∷ o.place.end ∷ o.added ∷ o.after.used ∷ []

-- the numbers that listing a line answers
abbrev pub listed_numbers : WrittenOut → List ℕ
listed_numbers o = o.number ∷ o.written ∷ []

-- the numbers that entering many lines answers
abbrev pub batched_numbers : Batched → List ℕ
batched_numbers o = o.taken ∷ o.refused ∷ o.first.number ∷ o.first.place.start ∷ o.first.place.end ∷ o.first.line ∷ []

-- a text entered: a record that lacks a count is refused with 1
abbrev pub enter_by_counts : Bool → List ℕ → List ℕ → List ℕ → List ℕ → List ℕ → List ℕ → Typed
enter_by_counts keep text names values store line r =
    let s = state names values store (editor_of r) in
    pick (ltb (length r) 5) (same_buffer line (refusal 1 no_span s)) (typed keep text s line)

-- a line listed: a record that lacks a count is refused with 1
abbrev pub list_by_counts : ℕ → List ℕ → List ℕ → List ℕ → List ℕ → List ℕ → WrittenOut
list_by_counts line names values store r output =
    pick (ltb (length r) 5) (not_listed 1 output) (list line (state names values store (editor_of r)) output)

-- many lines entered: where the record lacks a count each is refused with 1
abbrev pub batch_by_counts : Bool → List ℕ → List ℕ → List ℕ → List ℕ → List ℕ → Batched
batch_by_counts keep text names values store r =
    let s = state names values store (editor_of r) in
    pick (ltb (length r) 5) (all_unsound (length (text_lines text)) s) (batch keep text s)

-- a file written: a record that lacks a count is refused with 1
abbrev pub save_by_counts : List ℕ → List ℕ → List ℕ → List ℕ → List ℕ → Saved
save_by_counts names values store r output = pick (ltb (length r) 5) (not_saved 1 output) (save (state names values store (editor_of r)) output)

-- a file read: a record that lacks a count is refused with 1
abbrev pub load_by_counts : List ℕ → List ℕ → List ℕ → List ℕ → List ℕ → Loaded
load_by_counts file names values store r = let s = state names values store (editor_of r) in pick (ltb (length r) 5) (not_loaded s 1) (load file s)

-- unused names taken back: a record that lacks a count is refused with 1
abbrev pub collect_by_counts : List ℕ → List ℕ → List ℕ → List ℕ → Collected
collect_by_counts names values store r =
    let s = state names values store (editor_of r) in
    let lacking : Collected = record { number = 1; after = s } in
    pick (ltb (length r) 5) lacking (collect s)

-- Entering left names, values, store, line buffer, record and answer so: as the outcome says. The record's counts and the answer's numbers stand at the front,
-- as many as there is room for; what stands behind them is as it was.
pub record Leaves (o : Typed) (r a names values store line r' a' : List ℕ) : Type 0 where
  pub names_so : names ≡ o.entered.after.names
  pub values_so : values ≡ o.entered.after.values
  pub store_so : store ≡ o.entered.after.store
  pub line_so : line ≡ o.line
  pub record_so : r' ≡ sets r 0 (counts o.entered.after)
  pub answer_so : a' ≡ sets a 0 (entered_numbers o.entered)

-- Entering many lines left names, values, store, record and answer so.
pub record LeavesAll (o : Batched) (r a names values store r' a' : List ℕ) : Type 0 where
  pub names_so : names ≡ o.after.names
  pub values_so : values ≡ o.after.values
  pub store_so : store ≡ o.after.store
  pub record_so : r' ≡ sets r 0 (counts o.after)
  pub answer_so : a' ≡ sets a 0 (batched_numbers o)

-- Listing left the output buffer and the answer so.
pub record Lists (o : WrittenOut) (a output a' : List ℕ) : Type 0 where
  pub output_so : output ≡ o.output
  pub answer_so : a' ≡ sets a 0 (listed_numbers o)

-- Examining left the answer so.
abbrev pub Examines : Verdict → List ℕ → List ℕ → Type 0
Examines v a a' = a' ≡ sets a 0 (verdict_number v ∷ verdict_line v ∷ [])

-- Writing a file left the buffer and the answer so.
pub record Saves (o : Saved) (a output a' : List ℕ) : Type 0 where
  pub output_so : output ≡ o.output
  pub answer_so : a' ≡ sets a 0 (o.number ∷ o.written ∷ [])

-- Reading a file left names, values, store, record and answer so.
pub record Loads (l : Loaded) (r a names values store r' a' : List ℕ) : Type 0 where
  pub names_so : names ≡ l.after.names
  pub values_so : values ≡ l.after.values
  pub store_so : store ≡ l.after.store
  pub record_so : r' ≡ sets r 0 (counts l.after)
  pub answer_so : a' ≡ sets a 0 (l.number ∷ [])

-- Taking back unused names left names, values, store, record and answer so.
pub record Collects (c : Collected) (r a names values store r' a' : List ℕ) : Type 0 where
  pub names_so : names ≡ c.after.names
  pub values_so : values ≡ c.after.values
  pub store_so : store ≡ c.after.store
  pub record_so : r' ≡ sets r 0 (counts c.after)
  pub answer_so : a' ≡ sets a 0 (c.number ∷ [])

-- A record that was made stands in the lent record, and 0 in the answer.
abbrev pub Holds : List ℕ → List ℕ → List ℕ → List ℕ → Editor → Type 0
Holds r r' a a' held = (r' ≡ sets r 0 (held.name_bytes ∷ held.name_count ∷ held.used ∷ held.lines ∷ held.greatest ∷ [])) × (a' ≡ sets a 0 (0 ∷ []))

-- The lent record is as it was, and the number of a refusal stands in the answer.
abbrev pub Keeps : List ℕ → List ℕ → List ℕ → List ℕ → Refusal → Type 0
Keeps r r' a a' k = (r' ≡ r) × (a' ≡ sets a 0 (number_of k ∷ []))

-- the counts of a record, written back, leave it as it was
pub kept : (r names values store : List ℕ) → sets r 0 (counts (state names values store (editor_of r))) ≡ r
kept [] names values store = refl
kept (a ∷ []) names values store = refl
kept (a ∷ b ∷ []) names values store = refl
kept (a ∷ b ∷ c ∷ []) names values store = refl
kept (a ∷ b ∷ c ∷ d ∷ []) names values store = refl
kept (a ∷ b ∷ c ∷ d ∷ e ∷ r) names values store = refl
