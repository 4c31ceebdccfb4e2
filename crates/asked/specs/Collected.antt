-- Take back unused names (document 02, §12): programs with what is left of them, worked out by hand.
use Rattle.std.specs.Prelude.{ℕ, suc, ◌≡◌, refl, Bool, ◌&&◌, List, [], ◌∷◌, ◌++◌, map, eqb, drop, replicate}
use Prim.Native.String.{String}
use Rattle.paper.specs.Bytes.{pick}
use Rattle.paper.specs.Hex.{hex}
use Rattle.paper.specs.Names.{names_in}
use Rattle.paper.specs.Calls.{State}
use Rattle.paper.specs.Collect.{renumbered, collect}
use Rattle.paper.specs.Open.{everything}
use Rattle.cases.specs.Answers.{agreeing, same_state}
use Rattle.limits.specs.Limits.{roomy, two_byte_names}

-- a program: names with their bytes and count, values, store with the bytes used, and what the record says of the lines
unfoldable pub holding : String → ℕ → ℕ → String → String → ℕ → State
holding names size count values store used = agreeing (hex names) size count (hex values) (hex store) used

-- the same with these two numbers in the record
unfoldable pub saying : ℕ → ℕ → State → State
saying lines greatest s = record { names = s.names; name_size = s.name_size; name_count = s.name_count; values = s.values; store = s.store; used = s.used; line_count = lines; greatest = greatest }

-- a collection: the number, and the state afterwards
pub record Collection : Type 0 where
  pub over : State
  pub number : ℕ
  pub leaves : State

-- this is left of a program
unfoldable pub leaves : State → State → Collection
leaves s t = record { over = s; number = 0; leaves = t }

-- a refusal leaves all as it was
unfoldable pub refuses : ℕ → State → Collection
refuses k s = record { over = s; number = k; leaves = s }

-- the definitions give the answer, and once more the same to what is left
unfoldable pub answers? : Collection → Bool
answers? c =
    let once = collect c.over in
    let twice = collect c.leaves in
    eqb once.number c.number && (same_state once.after c.leaves && (eqb twice.number c.number && same_state twice.after c.leaves))

-- the places in a table, from i on, of the collections that they do not answer so
unfoldable pub others : ℕ → List Collection → List ℕ
others i [] = []
others i (c ∷ cs) = let more = others (suc i) cs in pick (answers? c) more (i ∷ more)

-- the names A, B, C and D with these values and this store
unfoldable pub four : String → String → ℕ → State
four values store used = holding "C1 C2 C3 C4" 4 4 values store used

unfoldable pub four_values : String
four_values = "01 00 A2 A3 A4 A5 A6 A7  02 01 B2 B3 B4 B5 B6 B7  03 02 C2 C3 C4 C5 C6 C7  04 03 D2 D3 D4 D5 D6 D7"

-- ---- what is left

unfoldable pub taken_back : List Collection
taken_back =
    -- nothing is there, and all is used
    leaves (roomy 8 16 24) (roomy 8 16 24)
    ∷ leaves (holding "C1 C2" 2 2 "00 00 00 00 00 00 00 00 00 01 00 00 00 00 00 00" "0A 00 09 09 36 81 2D 80 16" 9) (holding "C1 C2" 2 2 "00 00 00 00 00 00 00 00 00 01 00 00 00 00 00 00" "0A 00 09 09 36 81 2D 80 16" 9)
    -- the number of a value is set where it stays too
    ∷ leaves (holding "C1" 1 1 "01 4D 02 03 04 05 06 07" "0A 00 07 07 09 80 16" 7) (holding "C1" 1 1 "01 00 02 03 04 05 06 07" "0A 00 07 07 09 80 16" 7)
    -- no line, and none that has a variable: every name goes, and its bytes stay
    ∷ leaves (four four_values "EE" 0) (holding "C1 C2 C3 C4" 0 0 four_values "EE" 0)
    ∷ leaves (four four_values "0A 00 06 06 15 16" 6) (holding "C1 C2 C3 C4" 0 0 four_values "0A 00 06 06 15 16" 6)
    -- a name in REM, in DATA, in a string is not used
    ∷ leaves (holding "C1" 1 1 "00 00 00 00 00 00 00 00" "0A 00 07 07 00 41 9B 14 00 07 07 01 41 9B 1E 00 09 09 20 0F 01 41 16" 23) (holding "C1" 0 0 "00 00 00 00 00 00 00 00" "0A 00 07 07 00 41 9B 14 00 07 07 01 41 9B 1E 00 09 09 20 0F 01 41 16" 23)
    -- C=D: two names and their values move, with new numbers; past them all stands as before
    ∷ leaves (four four_values "14 00 09 09 36 82 2D 83 16 EE" 9)
    (holding "C3 C4 C3 C4" 2 2 "03 00 C2 C3 C4 C5 C6 C7  04 01 D2 D3 D4 D5 D6 D7  03 02 C2 C3 C4 C5 C6 C7  04 03 D2 D3 D4 D5 D6 D7" "14 00 09 09 36 80 2D 81 16 EE" 9)
    -- B as the target alone, and D in the last line alone
    ∷ leaves (four four_values "0A 00 0F 0F 36 81 2D 0E 40 01 00 00 00 00 16 14 00 07 07 09 83 16" 22)
    (holding "C2 C4 C3 C4" 2 2 "02 00 B2 B3 B4 B5 B6 B7  04 01 D2 D3 D4 D5 D6 D7  03 02 C2 C3 C4 C5 C6 C7  04 03 D2 D3 D4 D5 D6 D7" "0A 00 0F 0F 36 80 2D 0E 40 01 00 00 00 00 16 14 00 07 07 09 81 16" 22)
    -- IF D THEN B=C: the order is that of the table, not of the line
    ∷ leaves (four four_values "0A 00 0D 07 07 83 1B 0D 36 81 2D 82 16" 13)
    (holding "C2 C3 C4 C4" 3 3 "02 00 B2 B3 B4 B5 B6 B7  03 01 C2 C3 C4 C5 C6 C7  04 02 D2 D3 D4 D5 D6 D7  04 03 D2 D3 D4 D5 D6 D7" "0A 00 0D 07 07 82 1B 0D 36 80 2D 81 16" 13)
    -- names of several lengths: AB and B$ of A, AB, B$ and C(
    ∷ leaves (holding "C1 41 C2 42 A4 43 A8 EE" 7 4 "00 00 01 01 01 01 01 01  00 01 02 02 02 02 02 02  80 02 03 03 03 03 03 03  40 03 04 04 04 04 04 04  EE" "0A 00 0B 0B 36 82 2E 0F 01 41 16 14 00 07 07 20 81 16" 18)
    (holding "41 C2 42 A4 A4 43 A8 EE" 4 2 "00 00 02 02 02 02 02 02  80 01 03 03 03 03 03 03  80 02 03 03 03 03 03 03  40 03 04 04 04 04 04 04  EE" "0A 00 0B 0B 36 81 2E 0F 01 41 16 14 00 07 07 20 80 16" 18)
    -- error lines pass and stay byte for byte; what their bytes would be as tokens is not used
    ∷ leaves (holding "C1 C2" 2 2 "00 00 00 00 00 00 00 00 00 01 00 00 00 00 00 00" "0A 00 0A 0A 37 20 41 81 C2 9B 14 00 07 07 09 81 16 1E 00 06 06 37 9B" 23)
    (holding "C2 C2" 1 1 "00 00 00 00 00 00 00 00 00 01 00 00 00 00 00 00" "0A 00 0A 0A 37 20 41 81 C2 9B 14 00 07 07 09 80 16 1E 00 06 06 37 9B" 23)
    ∷ []

-- ---- the longer form: 131 names, A0 to N0

-- N0=M9:A0=N0, PRINT M9, an error line with the bytes of N0's token, and END
unfoldable pub crowd : State
crowd = agreeing (two_byte_names 0 131) 262 131 (replicate 1048 0) (hex "0A 00 12 0B 36 00 02 2D 00 01 14 12 36 80 2D 00 02 16 14 00 08 08 20 00 01 16 1E 00 08 08 37 00 02 9B 28 00 06 06 15 16") 40

-- A0, M9 and N0 are left, and every token has one byte: two lines shrink, and those after them move down
unfoldable pub crowd_left : State
crowd_left = agreeing (hex "41 B0 4D B9 4E B0" ++ drop 6 (two_byte_names 0 131)) 6 3 (hex "00 00 00 00 00 00 00 00 00 01 00 00 00 00 00 00 00 02" ++ replicate 1030 0) (hex "0A 00 0F 09 36 82 2D 81 14 0F 36 80 2D 82 16 14 00 07 07 20 81 16 1E 00 08 08 37 00 02 9B 28 00 06 06 15 16 06 06 15 16") 36

-- where a name keeps a number from 128 on, it keeps the longer form: one of 131 names goes, and the last two move down
pub longer_again : map (λ l. renumbered (names_in (two_byte_names 0 131)) (drop 1 (names_in (two_byte_names 0 131))) (hex l)) ("0A 00 0B 0B 36 00 02 2D 00 01 16" ∷ "0A 00 0B 0B 36 00 02 2D 00 00 16" ∷ "0A 00 0D 08 07 00 00 1B 0D 20 00 02 16" ∷ [])
    ≡ map hex ("0A 00 0B 0B 36 00 01 2D 00 00 16" ∷ "0A 00 0A 0A 36 00 01 2D FF 16" ∷ "0A 00 0C 07 07 FF 1B 0C 20 00 01 16" ∷ [])
unfolding everything two_byte_names
longer_again = refl

-- ---- refusals

unfoldable pub refused : List Collection
refused =
    -- 1: a name twice, one uncounted; values a byte short; a line cut; the record's count of lines, and its greatest number
    refuses 1 (holding "C1 C1" 2 2 four_values "0A 00 06 06 15 16" 6)
    ∷ refuses 1 (holding "C1 C2" 2 1 four_values "0A 00 06 06 15 16" 6)
    ∷ refuses 1 (holding "C1" 1 1 "00 00 00 00 00 00 00" "0A 00 06 06 15 16" 6)
    ∷ refuses 1 (four four_values "0A 00 06 06 15 16" 5)
    ∷ refuses 1 (saying 2 10 (four four_values "0A 00 06 06 15 16" 6))
    ∷ refuses 1 (saying 1 20 (four four_values "0A 00 06 06 15 16" 6))
    -- 10: the only line, the first, the last after one that would have changed; a name that is not there; an error line with a 9B in it, and one with a statement after it
    ∷ refuses 10 (four four_values "14 00 09 09 03 82 2D 83 16" 9)
    ∷ refuses 10 (four four_values "0A 00 06 06 15 15 14 00 07 07 09 83 16" 13)
    ∷ refuses 10 (four four_values "0A 00 07 07 09 83 16 14 00 06 06 15 15" 13)
    ∷ refuses 10 (four four_values "0A 00 07 07 09 84 16" 7)
    ∷ refuses 10 (four four_values "0A 00 07 07 09 83 16 14 00 08 08 37 9B 41 9B" 15)
    ∷ refuses 10 (four four_values "0A 00 09 06 37 9B 09 15 16" 9)
    -- 1 before 10
    ∷ refuses 1 (saying 3 20 (four four_values "0A 00 07 07 09 83 16 14 00 06 06 15 15" 13))
    ∷ refuses 1 (holding "C1 C1" 2 2 four_values "0A 00 06 06 15 15" 6)
    ∷ []

-- the definitions answer them so
pub collections_met : others 0 (taken_back ++ (leaves crowd crowd_left ∷ refused)) ≡ []
unfolding everything agreeing same_state roomy two_byte_names holding saying leaves refuses answers? others four four_values taken_back crowd crowd_left refused
collections_met = refl
