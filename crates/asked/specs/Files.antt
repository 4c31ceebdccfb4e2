-- The saved program file (document 02, §7): files with their whole answers, worked out by hand.
use Rattle.std.specs.Prelude.{ℕ, suc, ◌+◌, ◌≡◌, refl, Bool, ◌&&◌, List, [], ◌∷◌, ◌++◌, eqb, length, replicate, set, take}
use Rattle.paper.specs.Bytes.{pick, same}
use Rattle.paper.specs.Hex.{hex}
use Rattle.paper.specs.Store.{overwritten}
use Rattle.paper.specs.Calls.{State}
use Rattle.paper.specs.Files.{save, load}
use Rattle.paper.specs.Open.{everything}
use Rattle.cases.specs.Answers.{agreeing, same_state}
use Rattle.limits.specs.Limits.{roomy}

-- ---- a program of two names and two lines, 10 A=B and 20 END, and its file part by part

unfoldable pub names : List ℕ
names = hex "C1 C2"

unfoldable pub values : List ℕ
values = hex "00 00 00 00 00 00 00 00 00 01 00 00 00 00 00 00"

unfoldable pub lines : List ℕ
lines = hex "0A 00 09 09 36 80 2D 81 16 14 00 06 06 15 16"

unfoldable pub words : List ℕ
words = hex "00 00 00 01 02 01 03 01 13 01 22 01 28 01"

-- END without a number
unfoldable pub last : List ℕ
last = hex "00 80 06 06 15 16"

-- these words, the tables, and this after the lines
unfoldable pub file_of : List ℕ → List ℕ → List ℕ
file_of head end = head ++ (names ++ 0 ∷ (values ++ (lines ++ end)))

unfoldable pub whole : List ℕ
whole = file_of words last

unfoldable pub program : State
program = agreeing names 2 2 values lines 15

-- it stands in buffers with so many bytes more, which are 0
unfoldable pub with_room : ℕ → State
with_room n = agreeing (names ++ replicate n 0) 2 2 (values ++ replicate n 0) (lines ++ replicate n 0) 15

-- ---- writing

-- a state written to a buffer of so many bytes EE: the number, and the file
pub record Writing : Type 0 where
  pub over : State
  pub room : ℕ
  pub number : ℕ
  pub file : List ℕ

unfoldable pub writes : State → ℕ → ℕ → List ℕ → Writing
writes s n k f = record { over = s; room = n; number = k; file = f }

unfoldable pub writes? : Writing → Bool
writes? c =
    let old : List ℕ = replicate c.room 0xee in
    let w = save c.over old in
    eqb w.number c.number && (eqb w.written (length c.file) && same w.output (overwritten c.file old))

unfoldable pub unwritten : ℕ → List Writing → List ℕ
unwritten i [] = []
unwritten i (c ∷ cs) = let more = unwritten (suc i) cs in pick (writes? c) more (i ∷ more)

-- the file, to the byte, and with room to spare; a byte too little, and no room; a record that disagrees, whatever the room; unsound names; the empty program
unfoldable pub writings : List Writing
writings =
    writes program 54 0 whole
    ∷ writes (with_room 3) 60 0 whole
    ∷ writes program 53 8 []
    ∷ writes program 0 8 []
    ∷ writes (record { names = names; name_size = 2; name_count = 2; values = values; store = lines; used = 15; line_count = 1; greatest = 20 }) 60 1 []
    ∷ writes (record { names = names; name_size = 2; name_count = 2; values = values; store = lines; used = 15; line_count = 2; greatest = 10 }) 0 1 []
    ∷ writes (agreeing names 2 1 values lines 15) 60 1 []
    ∷ writes (roomy 8 16 24) 21 0 (hex "00 00 00 01 00 01 01 01 01 01 01 01 07 01 00 00 80 06 06 15 16")
    ∷ []

-- the definitions write them so
pub writings_met : unwritten 0 writings ≡ []
unfolding everything agreeing same_state roomy names values lines words last file_of whole program with_room writes writes? unwritten writings
writings_met = refl

-- ---- reading

-- a file read over a state: the number, and the state afterwards
pub record Reading : Type 0 where
  pub file : List ℕ
  pub over : State
  pub number : ℕ
  pub leaves : State

unfoldable pub reads? : Reading → Bool
reads? c = let l = load c.file c.over in eqb l.number c.number && same_state l.after c.leaves

unfoldable pub unread : ℕ → List Reading → List ℕ
unread i [] = []
unread i (c ∷ cs) = let more = unread (suc i) cs in pick (reads? c) more (i ∷ more)

-- the program is read from this file into buffers with so many bytes more than it needs
unfoldable pub reads : ℕ → List ℕ → Reading
reads n f = record { file = f; over = roomy (2 + n) (16 + n) (15 + n); number = 0; leaves = with_room n }

-- a file is refused over a state, which it leaves
unfoldable pub refuses : ℕ → List ℕ → State → Reading
refuses k f s = record { file = f; over = s; number = k; leaves = s }

-- the file with another byte at a place
unfoldable pub with_byte : ℕ → ℕ → List ℕ
with_byte at b = set whole at b

-- buffers that are large enough, and such as hold nothing
unfoldable pub large : State
large = roomy 4 40 40

unfoldable pub none : State
none = roomy 0 0 0

unfoldable pub taken : List Reading
taken =
    -- into buffers with room to spare, and with none; over a program and a record that disagree
    reads 3 whole
    ∷ reads 0 whole
    ∷ record { file = whole; over = record { names = 7 ∷ 7 ∷ []; name_size = 9; name_count = 9; values = replicate 16 7; store = replicate 15 7; used = 9; line_count = 9; greatest = 9 }; number = 0; leaves = program }
    -- another second word, and one with which the last is 65,535; the current line at the statements, and at the end of all
    ∷ reads 1 (file_of (hex "00 00 2C 01 2E 01 2F 01 3F 01 4E 01 54 01") last)
    ∷ reads 1 (file_of (hex "00 00 D7 FF D9 FF DA FF EA FF F9 FF FF FF") last)
    ∷ reads 1 (file_of (hex "00 00 00 01 02 01 03 01 13 01 13 01 28 01") last)
    ∷ reads 1 (file_of (hex "00 00 00 01 02 01 03 01 13 01 28 01 28 01") last)
    -- a last line 32768 that holds anything, and none
    ∷ reads 1 (file_of words (hex "00 80 06 FF FF FF"))
    ∷ reads 1 (file_of (hex "00 00 00 01 02 01 03 01 13 01 22 01 22 01") [])
    -- the smallest file, and the writer's smallest
    ∷ record { file = hex "00 00 00 01 00 01 01 01 01 01 01 01 01 01 00"; over = none; number = 0; leaves = none }
    ∷ record { file = hex "00 00 00 01 00 01 01 01 01 01 01 01 07 01 00 00 80 06 06 15 16"; over = none; number = 0; leaves = none }
    ∷ []

unfoldable pub refused : List Reading
refused =
    -- 12: a file that is cut in its words, a first word that is not zero in its low byte or in its high byte; before 13, 1 and 8
    refuses 12 [] large
    ∷ refuses 12 (replicate 13 0) large
    ∷ refuses 12 (take 13 whole) large
    ∷ refuses 12 (with_byte 0 1) large
    ∷ refuses 12 (with_byte 1 1) none
    ∷ refuses 12 (set (take 50 whole) 0 1) none
    -- 13: a word below the one before it, at each place; a block one byte longer or shorter; the values not just past the zero byte, and no zero byte
    ∷ refuses 13 (replicate 14 0) large
    ∷ refuses 13 (with_byte 3 2) large
    ∷ refuses 13 (with_byte 5 2) large
    ∷ refuses 13 (with_byte 7 0) large
    ∷ refuses 13 (with_byte 9 0) large
    ∷ refuses 13 (with_byte 10 0x12) large
    ∷ refuses 13 (with_byte 10 0x29) large
    ∷ refuses 13 (with_byte 12 0x21) large
    ∷ refuses 13 (whole ++ 0 ∷ []) large
    ∷ refuses 13 (take 53 whole) none
    ∷ refuses 13 (with_byte 4 1) large
    ∷ refuses 13 (with_byte 6 4) large
    ∷ refuses 13 (with_byte 16 1) none
    -- 1: value bytes that are not eight a name, fewer and more; a name twice; a name without its end; lines that fall
    ∷ refuses 1 (with_byte 8 0x12) large
    ∷ refuses 1 (hex "00 00 00 01 02 01 03 01 1B 01 2A 01 30 01" ++ (names ++ 0 ∷ (values ++ (replicate 8 0 ++ (lines ++ last))))) large
    ∷ refuses 1 (with_byte 15 0xC1) none
    ∷ refuses 1 (with_byte 15 0x42) large
    ∷ refuses 1 (with_byte 42 5) large
    -- two lines 32768; one that is not last; one cut; a last line 32769
    ∷ refuses 1 (file_of (hex "00 00 00 01 02 01 03 01 13 01 22 01 2E 01") (last ++ last)) large
    ∷ refuses 1 (set (with_byte 33 0) 34 0x80) large
    ∷ refuses 1 (file_of (hex "00 00 00 01 02 01 03 01 13 01 22 01 27 01") (take 5 last)) large
    ∷ refuses 1 (with_byte 48 1) none
    -- 8: each buffer one byte too short
    ∷ refuses 8 whole (roomy 1 16 15)
    ∷ refuses 8 whole (roomy 2 15 15)
    ∷ refuses 8 whole (roomy 2 16 14)
    ∷ []

-- the definitions read them so
pub readings_met : unread 0 (taken ++ refused) ≡ []
unfolding everything agreeing same_state roomy names values lines words last file_of whole program with_room reads? unread reads refuses with_byte large none taken refused
readings_met = refl
