-- What the searches of the store answer.
use Rattle.std.specs.Prelude.{ℕ, Bool, ◌&&◌, Option, Some, None, List, [], eqb, length, take}
use Rattle.paper.specs.Bytes.{pick, joined}
use Rattle.paper.specs.Store.{greatest_number, sound_lines, sound_store, lines_in, lines_below, stored?, line_at}
use Rattle.paper.specs.Files.{without_direct}
use Rattle.store.specs.declared.Counts.{Counts}
use Rattle.store.specs.declared.Place.{Place}

-- a sound store, with counts that are its own
unfoldable pub sound_counts : List ℕ → Counts → Bool
sound_counts store c = let ls = lines_in (take c.used store) in sound_store store c.used && (eqb c.lines (length ls) && eqb c.greatest (greatest_number ls))

-- where the line with a number begins, or would begin; its size, 0 if it is not stored; and the number of the line before it
unfoldable pub place_of : ℕ → List (List ℕ) → Place
place_of n ls = record { number = n; at = length (joined (lines_below n ls)); size = length (pick (stored? n ls) (line_at n ls) []); before = greatest_number (lines_below n ls) }

-- that place in a store that is sound and has these counts; none, for document 01's 1, in any other
unfoldable pub found_answer : List ℕ → Counts → ℕ → Option Place
found_answer store c n = let at = Some (place_of n (lines_in (take c.used store))) in pick (sound_counts store c) at None

-- what a record keeps of some lines
unfoldable pub counts_of : List (List ℕ) → Counts
counts_of ls = record { used = length (joined ls); lines = length ls; greatest = greatest_number ls }

-- that of the lines of a saved program, without a last one of number 32768, if they are sound
unfoldable pub program_answer : List ℕ → Option Counts
program_answer s = let ls = without_direct (lines_in s) in pick (sound_lines ls) (Some (counts_of ls)) None
