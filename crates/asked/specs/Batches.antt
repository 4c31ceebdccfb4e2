-- Many lines entered at once (document 02, §3): texts with their whole answers, worked out by hand.
use Rattle.std.specs.Prelude.{ℕ, suc, ◌≡◌, refl, Bool, true, false, ◌&&◌, List, [], ◌∷◌, ◌++◌, eqb, replicate}
use Prim.Native.String.{String}
use Rattle.paper.specs.Bytes.{pick, bytes}
use Rattle.paper.specs.Hex.{hex}
use Rattle.paper.specs.Calls.{State}
use Rattle.paper.specs.Batch.{batch}
use Rattle.paper.specs.Open.{everything}
use Rattle.cases.specs.Answers.{agreeing, same_state}
use Rattle.limits.specs.Limits.{roomy, padded}

-- A text sent over a state; the lines taken and refused; of the first refusal number, place, end and line; and the state afterwards.
pub record Sent : Type 0 where
  pub text : List ℕ
  pub over : State
  pub taken : ℕ
  pub refused : ℕ
  pub number : ℕ
  pub place : ℕ
  pub end : ℕ
  pub line : ℕ
  pub leaves : State

unfoldable pub sends : List ℕ → State → ℕ → ℕ → ℕ → ℕ → ℕ → ℕ → State → Sent
sends text over taken refused number place end line leaves =
    record { text = text; over = over; taken = taken; refused = refused; number = number; place = place; end = end; line = line; leaves = leaves }

-- the definitions give the answer, with wrong lines kept or not
unfoldable pub answers? : Bool → Sent → Bool
answers? keep c =
    let b = batch keep c.text c.over in
    eqb b.taken c.taken && (eqb b.refused c.refused && (eqb b.first.number c.number && (eqb b.first.place.start c.place
    && (eqb b.first.place.end c.end && (eqb b.first.line c.line && same_state b.after c.leaves)))))

-- the places in a table, from i on, of the texts that they do not answer so
unfoldable pub unanswered : Bool → ℕ → List Sent → List ℕ
unanswered keep i [] = []
unanswered keep i (c ∷ cs) = let more = unanswered keep (suc i) cs in pick (answers? keep c) more (i ∷ more)

-- lines, each with a 9B at its end
unfoldable pub ended : List String → List ℕ
ended [] = []
ended (l ∷ ls) = bytes l ++ 0x9b ∷ ended ls

-- room for 8 bytes of names, two values and 24 bytes of lines, all of it empty
unfoldable pub blank_state : State
blank_state = roomy 8 16 24

-- the same room with no names, and this store of which some bytes are used
unfoldable pub with_store : String → ℕ → State
with_store store used = agreeing (replicate 8 0) 0 0 (replicate 16 0) (hex store) used

-- names, their bytes and count, values, store and the bytes used
unfoldable pub holding : String → ℕ → ℕ → String → String → ℕ → State
holding names size count values store used = agreeing (hex names) size count (hex values) (hex store) used

-- a name table with one name twice
unfoldable pub unsound : State
unsound = holding "C1 C1 00 00" 2 2 "00 00 00 00 00 00 00 00  00 00 00 00 00 00 00 00" "00 00 00 00 00 00 00 00 00 00 00 00" 0

-- `10 END`, `20 CLR` and `30 POP` with room for one line more, under a record with this count of lines and this greatest number
unfoldable pub recorded_as : ℕ → ℕ → State
recorded_as lines greatest =
    record { names = []; name_size = 0; name_count = 0; values = []; store = hex "0A 00 06 06 15 16  14 00 06 06 12 16  1E 00 06 06 27 16  00 00 00 00 00 00"; used = 18; line_count = lines; greatest = greatest }

-- a text over what is refused as a whole: every line with 1
unfoldable pub all_refused : List ℕ → State → ℕ → Sent
all_refused text s lines = sends text s 0 lines 1 0 0 1 s

unfoldable pub of_partings : List Sent
of_partings =
    -- no bytes are no line; each 9B ends one; bytes after the last 9B are one too
    sends [] blank_state 0 0 0 0 0 0 blank_state
    ∷ sends (bytes "10 END") blank_state 1 0 0 0 0 0 (with_store "0A 00 06 06 15 16 00 00 00 00 00 00 00 00 00 00 00 00 00 00 00 00 00 00" 6)
    ∷ sends (ended ("10 END" ∷ [])) blank_state 1 0 0 0 0 0 (with_store "0A 00 06 06 15 16 00 00 00 00 00 00 00 00 00 00 00 00 00 00 00 00 00 00" 6)
    ∷ sends (ended ("10 END" ∷ []) ++ bytes "20 CLR") blank_state 2 0 0 0 0 0 (with_store "0A 00 06 06 15 16 14 00 06 06 12 16 00 00 00 00 00 00 00 00 00 00 00 00" 12)
    ∷ sends (ended ("10 END" ∷ "20 CLR" ∷ [])) blank_state 2 0 0 0 0 0 (with_store "0A 00 06 06 15 16 14 00 06 06 12 16 00 00 00 00 00 00 00 00 00 00 00 00" 12)
    -- an empty line, first, last and between; a blank one
    ∷ sends (0x9b ∷ []) blank_state 0 1 3 0 0 1 blank_state
    ∷ sends (0x9b ∷ 0x9b ∷ bytes "10 END") blank_state 1 2 3 0 0 1 (with_store "0A 00 06 06 15 16 00 00 00 00 00 00 00 00 00 00 00 00 00 00 00 00 00 00" 6)
    ∷ sends (ended ("10 END" ∷ "" ∷ "20 CLR" ∷ [])) blank_state 2 1 3 0 0 2 (with_store "0A 00 06 06 15 16 14 00 06 06 12 16 00 00 00 00 00 00 00 00 00 00 00 00" 12)
    ∷ sends (ended ("10 END" ∷ "" ∷ [])) blank_state 1 1 3 0 0 2 (with_store "0A 00 06 06 15 16 00 00 00 00 00 00 00 00 00 00 00 00 00 00 00 00 00 00" 6)
    ∷ sends (ended ("10 REM A" ∷ []) ++ bytes " ") blank_state 1 1 3 0 0 2 (with_store "0A 00 07 07 00 41 9B 00 00 00 00 00 00 00 00 00 00 00 00 00 00 00 00 00" 7)
    -- a 9B ends a line wherever it stands: in REM, and in a quote left open, whose string ends there
    ∷ sends (ended ("10 REM A" ∷ "B" ∷ [])) blank_state 1 1 3 0 0 2 (with_store "0A 00 07 07 00 41 9B 00 00 00 00 00 00 00 00 00 00 00 00 00 00 00 00 00" 7)
    ∷ sends (ended ("10 ?\"A" ∷ "20 ?\"B" ∷ [])) blank_state 2 0 0 0 0 0 (with_store "0A 00 09 09 28 0F 01 41 16 14 00 09 09 28 0F 01 42 16 00 00 00 00 00 00" 18)
    ∷ sends (ended ("10 ?\"A" ∷ []) ++ bytes "20\"") blank_state 1 1 4 2 3 2 (with_store "0A 00 09 09 28 0F 01 41 16 00 00 00 00 00 00 00 00 00 00 00 00 00 00 00" 9)
    -- the whole text has no limit
    ∷ sends (replicate 300 0x9b) blank_state 0 300 3 0 0 1 blank_state
    ∷ []

unfoldable pub of_answers : List Sent
of_answers =
    -- the first refusal with its place in its own line and its line, of two and more; after it the call goes on
    sends (ended ("10 END" ∷ []) ++ bytes "20 GOTO") blank_state 1 1 4 7 7 2 (with_store "0A 00 06 06 15 16 00 00 00 00 00 00 00 00 00 00 00 00 00 00 00 00 00 00" 6)
    ∷ sends (ended ("10 GOTO" ∷ "20 END" ∷ [])) blank_state 1 1 4 7 7 1 (with_store "14 00 06 06 15 16 00 00 00 00 00 00 00 00 00 00 00 00 00 00 00 00 00 00" 6)
    ∷ sends (ended ("10 END" ∷ "20 BORC" ∷ "30 A=1E98" ∷ "40" ∷ "50 CLR" ∷ [])) blank_state 2 3 4 7 7 2 (with_store "0A 00 06 06 15 16 32 00 06 06 12 16 00 00 00 00 00 00 00 00 00 00 00 00" 12)
    ∷ sends (ended ("30 A=1E98" ∷ "10 COLOR 1" ∷ [])) blank_state 0 2 5 5 9 1 blank_state
    ∷ sends (ended ("32768 END" ∷ "1 A B" ∷ [])) blank_state 0 2 3 0 0 1 blank_state
    -- a deletion is a line taken; one of a line that is not there is refused
    ∷ sends (ended ("10 END" ∷ "10" ∷ "10" ∷ [])) blank_state 2 1 9 0 0 3 (with_store "0A 00 06 06 15 16 00 00 00 00 00 00 00 00 00 00 00 00 00 00 00 00 00 00" 0)
    -- lines in any order, and a line that takes the place of an earlier one; the last is refused with a place
    ∷ sends (ended ("20 END" ∷ "10 POP" ∷ "20 CLR" ∷ "20 COLOR 1" ∷ [])) blank_state 3 1 4 3 8 4 (with_store "0A 00 06 06 27 16 14 00 06 06 12 16 00 00 00 00 00 00 00 00 00 00 00 00" 12)
    -- a line that does not fit, and one that fits after a deletion
    ∷ sends (ended ("10 END" ∷ "20 END" ∷ "30 END" ∷ "10" ∷ "30 END" ∷ [])) (roomy 0 0 12) 4 1 8 0 0 3 (agreeing [] 0 0 [] (hex "14 00 06 06 15 16 1E 00 06 06 15 16") 12)
    -- names: those of taken lines alone, in order; a line without a number adds none, and is 3
    ∷ sends (ended ("10 END" ∷ "20 A=B" ∷ [])) blank_state 2 0 0 0 0 0
    (holding "C1 C2 00 00 00 00 00 00" 2 2 "00 00 00 00 00 00 00 00  00 01 00 00 00 00 00 00" "0A 00 06 06 15 16 14 00 09 09 36 80 2D 81 16 00 00 00 00 00 00 00 00 00" 15)
    ∷ sends (ended ("PRINT A" ∷ "10 A=1E98" ∷ []) ++ bytes "20 B=A") blank_state 1 2 3 0 0 1
    (holding "C2 C1 00 00 00 00 00 00" 2 2 "00 00 00 00 00 00 00 00  00 01 00 00 00 00 00 00" "14 00 09 09 36 80 2D 81 16 00 00 00 00 00 00 00 00 00 00 00 00 00 00 00" 9)
    -- no room for a third name; a later line without new names is taken
    ∷ sends (ended ("10 A=B" ∷ "20 A=C" ∷ "30 B=A" ∷ [])) blank_state 2 1 6 0 0 2
    (holding "C1 C2 00 00 00 00 00 00" 2 2 "00 00 00 00 00 00 00 00  00 01 00 00 00 00 00 00" "0A 00 09 09 36 80 2D 81 16 1E 00 09 09 36 81 2D 80 16 00 00 00 00 00 00" 18)
    -- 2 before 3: a line of 121 bytes, without a number too; its 9B is none of them
    ∷ sends (padded 121 "" ++ 0x9b ∷ replicate 121 88 ++ 0x9b ∷ bytes "5 END") blank_state 1 2 2 0 0 1 (with_store "05 00 06 06 15 16 00 00 00 00 00 00 00 00 00 00 00 00 00 00 00 00 00 00" 6)
    ∷ sends (padded 120 "5 END" ++ 0x9b ∷ padded 120 "X" ++ 0x9b ∷ []) blank_state 1 1 3 0 0 2 (with_store "05 00 06 06 15 16 00 00 00 00 00 00 00 00 00 00 00 00 00 00 00 00 00 00" 6)
    -- over lines and a name that are there already
    ∷ sends (ended ("30 A=B" ∷ "40 A=1" ∷ []) ++ bytes "20")
    (holding "C1 00 00 00 00 00 00 00 00" 1 1 "00 00 00 00 00 00 00 00  00 00 00 00 00 00 00 00  00 00 00 00 00 00 00 00" "0A 00 07 07 20 80 16 14 00 06 06 15 16 00 00 00 00 00 00 00 00 00 00 00 00 00 00 00 00 00 00 00 00 00 00 00 00" 13)
    3 0 0 0 0 0
    (holding "C1 C2 00 00 00 00 00 00 00" 2 2 "00 00 00 00 00 00 00 00  00 01 00 00 00 00 00 00  00 00 00 00 00 00 00 00" "0A 00 07 07 20 80 16 1E 00 09 09 36 80 2D 81 16 28 00 0F 0F 36 80 2D 0E 40 01 00 00 00 00 16 01 00 00 00 00 16" 31)
    ∷ []

unfoldable pub of_unsound : List Sent
of_unsound =
    -- every line is refused with 1, before 2 and 3; no line, no refusal
    all_refused (ended ("10" ∷ []) ++ bytes "20") unsound 2
    ∷ all_refused (ended ("10 END" ∷ "" ∷ "PRINT A" ∷ [])) unsound 3
    ∷ all_refused (0x9b ∷ []) unsound 1
    ∷ all_refused (padded 121 "X") unsound 1
    ∷ sends [] unsound 0 0 0 0 0 0 unsound
    -- so it is under a record that disagrees with the store, and not under one that agrees
    ∷ all_refused (ended ("30" ∷ "40 END" ∷ [])) (recorded_as 2 30) 2
    ∷ all_refused (ended ("30" ∷ "40 END" ∷ [])) (recorded_as 3 20) 2
    ∷ sends (ended ("PRINT" ∷ "40 END" ∷ "50 END" ∷ [])) (recorded_as 3 30) 1 2 3 0 0 1
    (record { names = []; name_size = 0; name_count = 0; values = []; store = hex "0A 00 06 06 15 16  14 00 06 06 12 16  1E 00 06 06 27 16  28 00 06 06 15 16"; used = 24; line_count = 4; greatest = 40 })
    ∷ []

-- With wrong lines kept (§9): one that is kept counts as refused, and may be the first; one that would not fit is 8, and one that is too far 5; a line that is kept
-- takes the place of a good one, and a good line its place.
unfoldable pub of_kept : List Sent
of_kept =
    sends (ended ("10 )" ∷ "20 END" ∷ [])) blank_state 1 1 4 3 4 1 (with_store "0A 00 08 08 37 20 A9 9B  14 00 06 06 15 16 00 00 00 00 00 00 00 00 00 00" 14)
    ∷ sends (ended ("10 END" ∷ "10 )" ∷ "20 A=1E98" ∷ "A" ∷ [])) blank_state 1 3 4 3 4 2 (with_store "0A 00 08 08 37 20 A9 9B 00 00 00 00 00 00 00 00 00 00 00 00 00 00 00 00" 8)
    ∷ sends (ended ("10 )" ∷ "10 END" ∷ "10" ∷ [])) blank_state 2 1 4 3 4 1 (with_store "0A 00 06 06 15 16 A9 9B 00 00 00 00 00 00 00 00 00 00 00 00 00 00 00 00" 0)
    ∷ sends (ended ("10 CLR:CLR:CLR" ∷ "20 GOSUB" ∷ "30 )" ∷ [])) blank_state 1 2 8 0 0 2 (with_store "0A 00 0C 06 12 14 09 12 14 0C 12 16  1E 00 08 08 37 20 A9 9B 00 00 00 00" 20)
    ∷ all_refused (ended ("30 )" ∷ "40 END" ∷ [])) (recorded_as 2 30) 2
    ∷ []

-- the definitions give each of them so
pub batches : unanswered false 0 (of_partings ++ of_answers ++ of_unsound) ≡ []
unfolding everything sends answers? unanswered ended blank_state with_store holding unsound recorded_as all_refused of_partings of_answers of_unsound roomy padded agreeing same_state
batches = refl

-- and with wrong lines kept
pub batches_kept : unanswered true 0 of_kept ≡ []
unfolding everything sends answers? unanswered ended blank_state with_store recorded_as all_refused of_kept roomy agreeing same_state
batches_kept = refl
