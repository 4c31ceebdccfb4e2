-- What is found in a file, and what reading it answers, as outcomes of `paper`.
use Rattle.std.specs.Prelude.{ℕ, not, List, length, Result, Ok, Err}
use Rattle.paper.specs.Bytes.{pick, joined}
use Rattle.paper.specs.Names.{names_in}
use Rattle.paper.specs.Store.{greatest_number}
use Rattle.paper.specs.Calls.{State}
use Rattle.paper.specs.Files.{Parts, parts_of, no_head?, right_words?, sound_parts?, too_small?, loaded_state, not_loaded}
use Rattle.paper.specs.Files.{Loaded as Outcome}
use Rattle.editor_edit.specs.declared.Editor.{Editor}
use Rattle.editor_edit.specs.States.{state}
use Rattle.refusals.specs.declared.Refusal.{Refusal}
use Rattle.refusals.specs.declared.Refusal.TheVariants.{Unsound, NoProgram, Damaged}
use Rattle.refusals.specs.Numbers.{number_of}

-- the record of a program in its parts
unfoldable pub record_of_parts : Parts → Editor
record_of_parts p = record {
  used = length (joined p.lines);
  lines = length p.lines;
  greatest = greatest_number p.lines;
  name_count = length (names_in p.names);
  name_bytes = length p.names;
}

-- 1, or that record
unfoldable pub parted : List ℕ → Result Editor Refusal
parted file = let p = parts_of file in pick (not (sound_parts? p)) (Err Unsound) (Ok (record_of_parts p))

-- what is found in a file: 12, 13, 1, or that record
unfoldable pub opened : List ℕ → Result Editor Refusal
opened file = pick (no_head? file) (Err NoProgram) (pick (not (right_words? file)) (Err Damaged) (parted file))

-- the number of an answer, 0 where nothing was refused
abbrev pub number_in : Result Editor Refusal → ℕ
number_in (Ok held) = 0
number_in (Err r) = number_of r

-- the record after a call over a record e: that of the file, or after a refusal e as it was
abbrev pub record_after : Editor → Result Editor Refusal → Editor
record_after e (Ok held) = held
record_after e (Err r) = e

-- what a call over a record e answered, with what it left in names, values and store
abbrev pub loaded : Editor → Result Editor Refusal → List ℕ → List ℕ → List ℕ → Outcome
loaded e r names values store = record { number = number_in r; after = state names values store (record_after e r) }

-- of a file with nothing wrong: 8, or its program stands in the buffers
unfoldable pub placed : List ℕ → State → Outcome
placed file s = let p = parts_of file in let done : Outcome = record { number = 0; after = loaded_state p s } in pick (too_small? p s) (not_loaded s 8) done
