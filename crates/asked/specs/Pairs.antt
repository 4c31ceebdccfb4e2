-- The record's count of lines and greatest number (document 02, §6): calls with their whole answers, worked out by hand.
use Rattle.std.specs.Prelude.{ℕ, ◌≡◌, refl, List, [], ◌∷◌, ◌++◌, replicate}
use Prim.Native.String.{String}
use Rattle.paper.specs.Bytes.{bytes}
use Rattle.paper.specs.Hex.{hex}
use Rattle.paper.specs.Calls.{State}
use Rattle.paper.specs.Open.{everything}
use Rattle.cases.specs.Answers.{Call, enters, lists, same_state, meets, failing}
use Rattle.limits.specs.Limits.{refuses_at, refuses, lists_not, padded}

-- no names, and no room for any; a store of which some bytes are used; a count of lines and a greatest number
unfoldable pub keeping : String → ℕ → ℕ → ℕ → State
keeping store used lines greatest =
    record { names = []; name_size = 0; name_count = 0; values = []; store = hex store; used = used; line_count = lines; greatest = greatest }

-- the same with room for one name and its value
unfoldable pub naming_one : String → String → ℕ → String → ℕ → ℕ → ℕ → State
naming_one name value count store used lines greatest =
    record { names = hex name; name_size = count; name_count = count; values = hex value; store = hex store; used = used; line_count = lines; greatest = greatest }

-- `10 END`, `20 CLR` and `30 POP`, with room for one line more
unfoldable pub three_lines : String
three_lines = "0A 00 06 06 15 16  14 00 06 06 12 16  1E 00 06 06 27 16  00 00 00 00 00 00"

-- these lines under a record with this count and greatest number
unfoldable pub three : ℕ → ℕ → State
three lines greatest = keeping three_lines 18 lines greatest

-- a text entered over the three lines and accepted: the store, the bytes used and the pair afterwards
unfoldable pub leaves : String → String → ℕ → ℕ → ℕ → Call
leaves text store used lines greatest = enters (bytes text) (three 3 30) 0 0 0 0 (keeping store used lines greatest)

unfoldable pub of_edits : List Call
of_edits =
    -- the first line, and one that brings in a name
    enters (bytes "7 END") (keeping "00 00 00 00 00 00" 0 0 0) 0 0 0 0 (keeping "07 00 06 06 15 16" 6 1 7)
    ∷ enters (bytes "40 NEXT A") (naming_one "00" "00 00 00 00 00 00 00 00" 0 "0A 00 06 06 15 16  00 00 00 00 00 00 00" 6 1 10) 0 0 0 1
    (naming_one "C1" "00 00 00 00 00 00 00 00" 1 "0A 00 06 06 15 16  28 00 07 07 09 80 16" 13 2 40)
    -- a line at the end, in front and between
    ∷ leaves "40 END" "0A 00 06 06 15 16  14 00 06 06 12 16  1E 00 06 06 27 16  28 00 06 06 15 16" 24 4 40
    ∷ leaves "5 END" "05 00 06 06 15 16  0A 00 06 06 15 16  14 00 06 06 12 16  1E 00 06 06 27 16" 24 4 30
    ∷ leaves "15 END" "0A 00 06 06 15 16  0F 00 06 06 15 16  14 00 06 06 12 16  1E 00 06 06 27 16" 24 4 30
    ∷ leaves "32767 END" "0A 00 06 06 15 16  14 00 06 06 12 16  1E 00 06 06 27 16  FF 7F 06 06 15 16" 24 4 32767
    -- a replacement counts no line more, whether the line is the first, another or the last one, longer or not
    ∷ leaves "10 STOP" "0A 00 06 06 26 16  14 00 06 06 12 16  1E 00 06 06 27 16  00 00 00 00 00 00" 18 3 30
    ∷ leaves "20 STOP" "0A 00 06 06 15 16  14 00 06 06 26 16  1E 00 06 06 27 16  00 00 00 00 00 00" 18 3 30
    ∷ leaves "30 STOP" "0A 00 06 06 15 16  14 00 06 06 12 16  1E 00 06 06 26 16  00 00 00 00 00 00" 18 3 30
    ∷ leaves "30 ?\"A\"" "0A 00 06 06 15 16  14 00 06 06 12 16  1E 00 09 09 28 0F 01 41 16  00 00 00" 21 3 30
    -- a deletion: of the first line, of another, and of the last one, which leaves the number of the line before it
    ∷ leaves "10" "14 00 06 06 12 16  1E 00 06 06 27 16  1E 00 06 06 27 16  00 00 00 00 00 00" 12 2 30
    ∷ leaves "20" "0A 00 06 06 15 16  1E 00 06 06 27 16  1E 00 06 06 27 16  00 00 00 00 00 00" 12 2 30
    ∷ leaves "30" "0A 00 06 06 15 16  14 00 06 06 12 16  1E 00 06 06 27 16  00 00 00 00 00 00" 12 2 20
    -- the only line: nothing is left, and the greatest number is 0
    ∷ enters (bytes "7") (keeping "07 00 06 06 15 16" 6 1 7) 0 0 0 0 (keeping "07 00 06 06 15 16" 0 0 0)
    -- line 0 alone is one line, and the greatest number is 0 as with none
    ∷ enters (bytes "0 END") (keeping "00 00 00 00 00 00" 0 0 0) 0 0 0 0 (keeping "00 00 06 06 15 16" 6 1 0)
    ∷ enters (bytes "0 STOP") (keeping "00 00 06 06 15 16" 6 1 0) 0 0 0 0 (keeping "00 00 06 06 26 16" 6 1 0)
    ∷ enters (bytes "0") (keeping "00 00 06 06 15 16" 6 1 0) 0 0 0 0 (keeping "00 00 06 06 15 16" 0 0 0)
    ∷ enters (bytes "7") (keeping "00 00 06 06 15 16  07 00 06 06 12 16" 12 2 7) 0 0 0 0 (keeping "00 00 06 06 15 16  07 00 06 06 12 16" 6 1 0)
    -- a refusal leaves both as they were
    ∷ refuses (padded 121 "40 END") (three 3 30) 2
    ∷ refuses (bytes "END") (three 3 30) 3
    ∷ refuses_at (bytes "40 GOTO") (three 3 30) 4 7 7
    ∷ refuses (bytes "40 REM X") (three 3 30) 8
    ∷ refuses (bytes "40") (three 3 30) 9
    ∷ []

unfoldable pub of_disagreements : List Call
of_disagreements =
    -- a count too small, too great, none; a greatest number too small, too great, none; the two exchanged
    refuses (bytes "40 END") (three 2 30) 1
    ∷ refuses (bytes "40 END") (three 4 30) 1
    ∷ refuses (bytes "40 END") (three 0 30) 1
    ∷ refuses (bytes "40 END") (three 3 20) 1
    ∷ refuses (bytes "40 END") (three 3 31) 1
    ∷ refuses (bytes "40 END") (three 3 0) 1
    ∷ refuses (bytes "40 END") (three 30 3) 1
    -- what would be right afterwards
    ∷ refuses (bytes "40 END") (three 4 40) 1
    -- a replacement and a deletion
    ∷ refuses (bytes "20 STOP") (three 2 30) 1
    ∷ refuses (bytes "30") (three 3 20) 1
    ∷ refuses (bytes "30") (three 0 0) 1
    ∷ refuses (bytes "30") (three 2 20) 1
    -- a store without lines, and with line 0 alone
    ∷ refuses (bytes "7 END") (keeping "00 00 00 00 00 00" 0 1 0) 1
    ∷ refuses (bytes "7 END") (keeping "00 00 00 00 00 00" 0 0 7) 1
    ∷ refuses (bytes "0") (keeping "00 00 06 06 15 16" 6 0 0) 1
    ∷ refuses (bytes "0") (keeping "00 00 06 06 15 16" 6 1 1) 1
    -- 1 comes before every other number of a text
    ∷ refuses (padded 121 "40 END") (three 4 30) 1
    ∷ refuses (bytes "END") (three 4 30) 1
    ∷ refuses (bytes "40 GOTO") (three 3 31) 1
    ∷ refuses (bytes "40 A=1E98") (three 3 31) 1
    ∷ refuses (bytes "40 NEXT A") (three 2 30) 1
    ∷ refuses (bytes "40 REM X") (three 2 30) 1
    ∷ refuses (bytes "40") (three 3 0) 1
    -- a record that agrees with the whole lines of an unsound store: a line cut off, and a number that does not rise
    ∷ refuses (bytes "40 END") (keeping "0A 00 06 06 15 16  14 00 06 06" 10 1 10) 1
    ∷ refuses (bytes "40 END") (keeping "0A 00 06 06 15 16  0A 00 06 06 12 16" 12 2 10) 1
    ∷ []

unfoldable pub of_listings : List Call
of_listings =
    -- a record that agrees
    lists 20 (three 3 30) (replicate 8 0) 0 7 (bytes "20 CLR " ++ 0 ∷ [])
    ∷ lists 0 (keeping "00 00 06 06 15 16" 6 1 0) (replicate 6 0) 0 6 (bytes "0 END ")
    ∷ lists_not 40 (three 3 30) (replicate 8 0) 9
    -- one that disagrees: 1, before 9, 10 and 11
    ∷ lists_not 20 (three 2 30) (replicate 8 0) 1
    ∷ lists_not 20 (three 3 20) (replicate 8 0) 1
    ∷ lists_not 20 (three 3 31) (replicate 8 0) 1
    ∷ lists_not 0 (keeping "00 00 06 06 15 16" 6 0 0) (replicate 6 0) 1
    ∷ lists_not 40 (three 4 40) (replicate 8 0) 1
    ∷ lists_not 10 (keeping "0A 00 06 05 15 16" 6 1 10) (replicate 8 0) 10
    ∷ lists_not 10 (keeping "0A 00 06 05 15 16" 6 1 0) (replicate 8 0) 1
    ∷ lists_not 20 (three 3 30) [] 11
    ∷ lists_not 20 (three 3 0) [] 1
    ∷ []

-- the definitions give each of them so
pub pairs : failing 0 (of_edits ++ of_disagreements ++ of_listings) ≡ []
unfolding everything refuses_at refuses lists_not padded keeping naming_one three_lines three leaves of_edits of_disagreements of_listings same_state meets failing
pairs = refl
