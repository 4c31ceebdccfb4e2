-- The store (document 01, "Tables"): lines end to end, in rising order of their numbers.
use Rattle.std.specs.Prelude.{ℕ, zero, suc, pred, Bool, true, false, ◌&&◌, List, [], ◌∷◌, ◌++◌, leb, ltb, eqb, length, take, drop, get_or}
use Rattle.paper.specs.Bytes.{pick, every}
use Rattle.paper.specs.Line.{line_number, lawful_number?}

-- bytes as lines, by the length byte of each; n bytes of the present line are to be passed over
unfoldable pub lines_from : ℕ → List ℕ → List (List ℕ)
lines_from n [] = []
lines_from (suc n) (b ∷ s) = lines_from n s
lines_from zero (b ∷ s) = take (get_or s 1 0) (b ∷ s) ∷ lines_from (pred (get_or s 1 0)) s

-- all lines of some bytes
unfoldable pub lines_in : List ℕ → List (List ℕ)
lines_in s = lines_from 0 s

-- a whole line: at least 6 bytes, as many as its length byte says, and a number of at most 32767
unfoldable pub whole_line? : List ℕ → Bool
whole_line? l = leb 6 (length l) && (eqb (get_or l 2 0) (length l) && lawful_number? (line_number l))

-- numbers strictly rising, each above the one before
unfoldable pub rising_above : ℕ → List (List ℕ) → Bool
rising_above n [] = true
rising_above n (l ∷ ls) = ltb n (line_number l) && rising_above (line_number l) ls

-- numbers strictly rising
unfoldable pub rising : List (List ℕ) → Bool
rising [] = true
rising (l ∷ ls) = rising_above (line_number l) ls

-- whole lines in rising order
unfoldable pub sound_lines : List (List ℕ) → Bool
sound_lines ls = every whole_line? ls && rising ls

-- the greatest number of some lines; 0 if there is none (document 02, §6)
unfoldable pub greatest_number : List (List ℕ) → ℕ
greatest_number [] = 0
greatest_number (l ∷ ls) = let g = greatest_number ls in pick (leb g (line_number l)) (line_number l) g

-- store room: the smaller of the lent length and 65,535
unfoldable pub room : List ℕ → ℕ
room store = pick (leb (length store) 65535) (length store) 65535

-- sound: the used count is within the room, and the used bytes are sound lines
unfoldable pub sound_store : List ℕ → ℕ → Bool
sound_store store used = leb used (room store) && sound_lines (lines_in (take used store))

-- ---- the first line whose number is not below the one asked for

-- the lines before it
unfoldable pub lines_below : ℕ → List (List ℕ) → List (List ℕ)
lines_below n [] = []
lines_below n (l ∷ ls) = let r = l ∷ lines_below n ls in pick (ltb (line_number l) n) r []

-- it, and the lines after it
unfoldable pub lines_not_below : ℕ → List (List ℕ) → List (List ℕ)
lines_not_below n [] = []
lines_not_below n (l ∷ ls) = let r = lines_not_below n ls in pick (ltb (line_number l) n) r (l ∷ ls)

-- the first of some lines has this number
unfoldable pub first_is? : ℕ → List (List ℕ) → Bool
first_is? n [] = false
first_is? n (l ∷ ls) = eqb (line_number l) n

-- a line with this number is stored
unfoldable pub stored? : ℕ → List (List ℕ) → Bool
stored? n ls = first_is? n (lines_not_below n ls)

-- the first of some lines, if there is one
unfoldable pub first_line : List (List ℕ) → List ℕ
first_line [] = []
first_line (l ∷ ls) = l

-- the line with a number, if it is stored
unfoldable pub line_at : ℕ → List (List ℕ) → List ℕ
line_at n ls = first_line (lines_not_below n ls)

-- the lines after it, or all that are not below if it is not stored
unfoldable pub lines_above : ℕ → List (List ℕ) → List (List ℕ)
lines_above n ls = let r = lines_not_below n ls in pick (first_is? n r) (drop 1 r) r

-- ---- edits

-- a line put in at its number, in the place of one with the same number
unfoldable pub put_line : List ℕ → List (List ℕ) → List (List ℕ)
put_line l ls = lines_below (line_number l) ls ++ l ∷ lines_above (line_number l) ls

-- the line with a number taken out
unfoldable pub take_out : ℕ → List (List ℕ) → List (List ℕ)
take_out n ls = lines_below n ls ++ lines_above n ls

-- a buffer whose first bytes are new; from their end on it is as it was
unfoldable pub overwritten : List ℕ → List ℕ → List ℕ
overwritten new old = new ++ drop (length new) old
