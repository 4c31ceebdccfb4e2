-- What writing a file answers, as an outcome of `paper`; and a program that its file has room for.
use Rattle.std.specs.Prelude.{ℕ, ◌+◌, ◌*◌, ◌≤◌, List, length, Result, Ok, Err}
use Rattle.paper.specs.Files.{Saved as Outcome}
use Rattle.editor_edit.specs.declared.Editor.{Editor}
use Rattle.refusals.specs.Numbers.{number_of}
use Rattle.refusals.specs.declared.Refusal.{Refusal}

-- an answer in two numbers: document 01's, 0 where nothing was refused; and how many bytes were written
abbrev pub number_in : Result ℕ Refusal → ℕ
number_in (Ok written) = 0
number_in (Err r) = number_of r

abbrev pub written_in : Result ℕ Refusal → ℕ
written_in (Ok written) = written
written_in (Err r) = 0

-- what a call answered, with what it left in the buffer
abbrev pub saved : Result ℕ Refusal → List ℕ → Outcome
saved r output = record { number = number_in r; written = written_in r; output = output }

-- the counts of a record lie within the lent buffers, and the last word of their file is at most 65,535
pub record Fitting (names values store : List ℕ) (e : Editor) : Type 0 where
  pub within_names : e.name_bytes ≤ length names
  pub within_values : 8 * e.name_count ≤ length values
  pub within_store : e.used ≤ length store
  pub in_words : e.name_bytes + 8 * e.name_count + e.used ≤ 65272
