-- A walk over the lines that some bytes are: past whole lines, with rising numbers that are below a given one.
use Rattle.std.specs.Prelude.{ℕ, suc, pred, ◌+◌, ◌≤◌, Bool, true, ◌&&◌, Option, Some, None, List, [], ◌∷◌, leb, ltb, eqb, length, take, drop, get_or}
use Rattle.paper.specs.Bytes.{pick, every, joined}
use Rattle.paper.specs.Line.{line_number}
use Rattle.paper.specs.Store.{lines_in, whole_line?, rising_above}
use Rattle.store.specs.declared.Walked.{Walked}
use Rattle.store.specs.declared.Counts.{Counts}

-- a whole line whose number is from k on and below n
unfoldable pub passes? : ℕ → ℕ → List ℕ → Bool
passes? k n l = whole_line? l && (leb k (line_number l) && ltb (line_number l) n)

-- the size of the first line of some bytes, if it is one that is passed
unfoldable pub passing_size : ℕ → ℕ → List ℕ → Option ℕ
passing_size k n s = pick (passes? k n (take (get_or s 2 0) s)) (Some (get_or s 2 0)) None

-- the lines that are passed
unfoldable pub passed : ℕ → ℕ → List (List ℕ) → List (List ℕ)
passed k n [] = []
passed k n (l ∷ ls) = let r = l ∷ passed (suc (line_number l)) n ls in pick (passes? k n l) r []

-- the least number that a line after some may have; k if there are none
unfoldable pub least_after : ℕ → List (List ℕ) → ℕ
least_after k [] = k
least_after k (l ∷ ls) = least_after (suc (line_number l)) ls

-- numbers strictly rising, the first not below k
unfoldable pub rising_from : ℕ → List (List ℕ) → Bool
rising_from k [] = true
rising_from k (l ∷ ls) = leb k (line_number l) && rising_above (line_number l) ls

-- whole lines with such numbers
unfoldable pub sound_lines_from : ℕ → List (List ℕ) → Bool
sound_lines_from k ls = every whole_line? ls && rising_from k ls

-- a walk that has not begun
abbrev pub start : Walked
start = record { at = 0; lines = 0; least = 0 }

-- a walk that goes on past some lines
unfoldable pub past_lines : Walked → List (List ℕ) → Walked
past_lines w ls = record { at = w.at + length (joined ls); lines = w.lines + length ls; least = least_after w.least ls }

-- a walk that goes on, from its offset in some bytes, past the lines below a number
unfoldable pub walked_on : Walked → ℕ → List ℕ → Walked
walked_on w n s = past_lines w (passed w.least n (lines_in (drop w.at s)))

-- a walk that has not left some bytes; no line is empty
abbrev pub Within : Walked → List ℕ → Type 0
Within w s = (w.at ≤ length s) × (w.lines ≤ w.at)

-- what a record keeps of the lines that a walk has passed
abbrev pub counts_past : Walked → Counts
counts_past w = record { used = w.at; lines = w.lines; greatest = pred w.least }

-- a walk has passed all that is counted, with the greatest number last
unfoldable pub all_passed : Counts → Walked → Bool
all_passed c w = eqb c.used w.at && (eqb c.lines w.lines && eqb c.greatest (pred w.least))
