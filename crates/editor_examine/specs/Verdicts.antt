-- The answer of the code as that of the definitions, and what the walk over the lines finds.
use Rattle.std.specs.Prelude.{ℕ, List, Result, Ok, Err}
use Rattle.paper.specs.Bytes.{pick}
use Rattle.paper.specs.Store.{lines_in}
use Rattle.paper.specs.Examine.{yes, unsound_names, unsound_values, unsound_store, bad_line, first_bad}
use Rattle.paper.specs.Examine.{Verdict as Answer}
use Rattle.store.specs.Walks.{sound_lines_from}
use Rattle.editor_examine.specs.declared.Flaw.{Flaw}
use Rattle.editor_examine.specs.declared.Flaw.TheVariants as Flaw'

-- the answer of the code as that of the definitions
unfoldable pub verdict : Result (Unit {0}) Flaw → Answer
verdict (Ok u) = yes
verdict (Err Flaw'.UnsoundNames) = unsound_names
verdict (Err Flaw'.UnsoundValues) = unsound_values
verdict (Err Flaw'.UnsoundStore) = unsound_store
verdict (Err (Flaw'.BadLine n)) = bad_line n

-- what the walk finds of bytes that are lines with numbers from k on, over the names ns
unfoldable pub lines_verdict : List (List ℕ) → ℕ → List ℕ → Answer
lines_verdict ns k s = pick (sound_lines_from k (lines_in s)) (first_bad ns (lines_in s)) unsound_store
