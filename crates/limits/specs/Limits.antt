-- Calls at each limit of document 01 and at the limit of names of document 02, one below and one above it; each pair of refusals that can meet; and tables that are unsound in one thing
-- alone. Each with its whole answer, worked out by hand.
use Rattle.std.specs.Prelude.{ℕ, zero, suc, ◌+◌, ◌*◌, ◌/◌, ◌%◌, ◌≡◌, refl, List, [], ◌∷◌, ◌++◌, length, drop, replicate}
use Prim.Native.String.{String}
use Rattle.paper.specs.Bytes.{bytes}
use Rattle.paper.specs.Hex.{hex}
use Rattle.paper.specs.Calls.{State}
use Rattle.paper.specs.Open.{everything}
use Rattle.cases.specs.Answers.{Call, enters, lists, agreeing, same_state, meets, failing}

-- a text refused with 4 or 5, with place and end: nothing changes
unfoldable pub refuses_at : List ℕ → State → ℕ → ℕ → ℕ → Call
refuses_at text s number place end = enters text s number place end 0 s

-- a text refused with any other number: it has no place
unfoldable pub refuses : List ℕ → State → ℕ → Call
refuses text s number = refuses_at text s number 0 0

-- a listing refused: nothing is written
unfoldable pub lists_not : ℕ → State → List ℕ → ℕ → Call
lists_not n s output number = lists n s output number 0 output

-- name bytes, all of them used, with their count; room for values; store bytes, of which some are used
unfoldable pub over : List ℕ → ℕ → ℕ → List ℕ → ℕ → State
over ns count room store used = agreeing ns (length ns) count (replicate room 0) store used

-- no names, and no room for any; a store that is used to its end
unfoldable pub storing : List ℕ → State
storing store = over [] 0 0 store (length store)

-- no names, no lines, and this much room for names, values and store
unfoldable pub roomy : ℕ → ℕ → ℕ → State
roomy names values store = record { names = replicate names 0; name_size = 0; name_count = 0; values = replicate values 0; store = replicate store 0; used = 0; line_count = 0; greatest = 0 }

-- these names, with values of 8 bytes each, and room for a line of 6 bytes
unfoldable pub naming : String → ℕ → State
naming ns count = over (hex ns) count 8 (replicate 6 0) 0

-- `10 END`, and how it is stored
unfoldable pub ten_end : List ℕ
ten_end = hex "0A 00 06 06 15 16"

-- the text `10 REM ` with n bytes after it
unfoldable pub remark : ℕ → List ℕ
remark n = bytes "10 REM " ++ replicate n 88

-- the text of n bytes that begins so, with blanks at its end
unfoldable pub padded : ℕ → String → List ℕ
padded n text = let s = bytes text in s ++ drop (length s) (replicate n 32)

-- `,1` n times
unfoldable pub ones : ℕ → List ℕ
ones zero = []
ones (suc n) = 44 ∷ 49 ∷ ones n

-- its tokens
unfoldable pub one_tokens : ℕ → List ℕ
one_tokens zero = []
one_tokens (suc n) = hex "12 0E 40 01 00 00 00 00" ++ one_tokens n

-- n names of two bytes, A0 to A9, B0 to B9 and so on, from number i on
unfoldable pub two_byte_names : ℕ → ℕ → List ℕ
two_byte_names i zero = []
two_byte_names i (suc n) = (65 + i / 10) ∷ (176 + i % 10) ∷ two_byte_names (suc i) n

-- n lines of 255 bytes, from number i on
unfoldable pub long_lines : ℕ → ℕ → List ℕ
long_lines i zero = []
long_lines i (suc n) = i % 256 ∷ i / 256 ∷ 255 ∷ replicate 252 0 ++ long_lines (suc i) n

-- ---- the length of a text, the number of a line, the length of a line

unfoldable pub of_texts : List Call
of_texts =
    -- 120 bytes; 121
    enters (remark 113) (roomy 0 0 120) 0 0 0 0 (over [] 0 0 (hex "0A 00 77 77 00" ++ replicate 113 88 ++ 0x9b ∷ 0 ∷ []) 119)
    ∷ refuses (remark 114) (roomy 0 0 120) 2
    ∷ enters (padded 120 "10 END") (roomy 0 0 6) 0 0 0 0 (storing ten_end)
    ∷ refuses (padded 121 "10 END") (roomy 0 0 6) 2
    -- 32767; 32768; 0
    ∷ enters (bytes "32767END") (roomy 0 0 6) 0 0 0 0 (storing (hex "FF 7F 06 06 15 16"))
    ∷ refuses (bytes "32768END") (roomy 0 0 6) 3
    ∷ enters (bytes "0END") (roomy 0 0 6) 0 0 0 0 (storing (hex "00 00 06 06 15 16"))
    ∷ enters (bytes "255END") (roomy 0 0 6) 0 0 0 0 (storing (hex "FF 00 06 06 15 16"))
    ∷ enters (bytes "256END") (roomy 0 0 6) 0 0 0 0 (storing (hex "00 01 06 06 15 16"))
    -- 255 bytes of tokens; 256
    ∷ enters (bytes "10 ON A GOTO 1" ++ ones 30) (roomy 1 8 255) 0 0 0 1 (over (hex "C1") 1 8 (hex "0A 00 FF FF 1E 80 17 0E 40 01 00 00 00 00" ++ one_tokens 30 ++ 0x16 ∷ []) 255)
    ∷ refuses (bytes "10 ON -A GOTO 1" ++ ones 30) (roomy 1 8 300) 7
    -- a tab, 0D, 9B: no blanks, and no part of a string
    ∷ refuses (hex "09 31 30 45 4E 44") (roomy 0 0 6) 3
    ∷ refuses_at (hex "31 30 09 45 4E 44") (roomy 0 0 6) 4 2 3
    ∷ refuses_at (hex "31 30 20 45 4E 44 09") (roomy 0 0 6) 4 6 7
    ∷ refuses_at (hex "31 30 09") (roomy 0 0 6) 4 2 3
    ∷ refuses_at (hex "31 30 45 4E 44 0D") (roomy 0 0 6) 4 5 6
    ∷ refuses_at (hex "31 30 45 4E 44 9B") (roomy 0 0 6) 4 5 6
    ∷ enters (hex "31 30 52 45 4D 09") (roomy 0 0 7) 0 0 0 0 (storing (hex "0A 00 07 07 00 09 9B"))
    ∷ refuses_at (hex "31 30 52 45 4D 20 41 9B 42") (roomy 0 0 20) 4 7 8
    ∷ refuses_at (hex "31 30 3F 22 41 9B 42 22") (roomy 0 0 20) 4 3 5
    ∷ enters (hex "31 30 3F 22 9A 9C 22") (roomy 0 0 10) 0 0 0 0 (storing (hex "0A 00 0A 0A 28 0F 02 9A 9C 16"))
    ∷ []

-- ---- room for names, values and lines

unfoldable pub of_rooms : List Call
of_rooms =
    -- name bytes: just room; one short
    enters (bytes "10 NEXT AB") (roomy 2 8 7) 0 0 0 1 (over (hex "41 C2") 1 8 (hex "0A 00 07 07 09 80 16") 7)
    ∷ refuses (bytes "10 NEXT AB") (roomy 1 8 7) 6
    -- value bytes
    ∷ refuses (bytes "10 NEXT AB") (roomy 2 7 7) 6
    ∷ enters (bytes "10 NEXT AB") (roomy 3 9 8) 0 0 0 1 (record { names = hex "41 C2 00"; name_size = 2; name_count = 1; values = replicate 9 0; store = hex "0A 00 07 07 09 80 16 00"; used = 7; line_count = 1; greatest = 10 })
    -- store bytes
    ∷ refuses (bytes "10 NEXT AB") (roomy 2 8 6) 8
    -- no name is new: no room is needed for any
    ∷ enters (bytes "10 NEXT A") (over (hex "C1") 1 8 (replicate 7 0) 0) 0 0 0 0 (over (hex "C1") 1 8 (hex "0A 00 07 07 09 80 16") 7)
    -- a name that stands twice in the text is one name
    ∷ enters (bytes "10 A=A") (roomy 1 8 9) 0 0 0 1 (over (hex "C1") 1 8 (hex "0A 00 09 09 36 80 2D 80 16") 9)
    -- two names: just room; one short
    ∷ enters (bytes "10 A$=B$") (roomy 4 16 9) 0 0 0 2 (record { names = hex "41 A4 42 A4"; name_size = 4; name_count = 2; values = hex "80 00 00 00 00 00 00 00 80 01 00 00 00 00 00 00"; store = hex "0A 00 09 09 36 80 2E 81 16"; used = 9; line_count = 1; greatest = 10 })
    ∷ refuses (bytes "10 A$=B$") (roomy 3 16 9) 6
    ∷ refuses (bytes "10 A$=B$") (roomy 4 15 9) 6
    -- the room of the line that is replaced is free
    ∷ enters (bytes "10 POP") (storing ten_end) 0 0 0 0 (storing (hex "0A 00 06 06 27 16"))
    ∷ refuses (bytes "10 REM X") (storing ten_end) 8
    ∷ enters (bytes "10 REM X") (over [] 0 0 (ten_end ++ 0 ∷ []) 6) 0 0 0 0 (storing (hex "0A 00 07 07 00 58 9B"))
    ∷ refuses (bytes "11 END") (storing ten_end) 8
    -- a line in front, between and behind; a shorter one leaves the bytes from the new end on
    ∷ enters (bytes "9 END") (over [] 0 0 (ten_end ++ replicate 6 7) 6) 0 0 0 0 (storing (hex "09 00 06 06 15 16 0A 00 06 06 15 16"))
    ∷ enters (bytes "11 END") (over [] 0 0 (ten_end ++ replicate 6 7) 6) 0 0 0 0 (storing (hex "0A 00 06 06 15 16 0B 00 06 06 15 16"))
    ∷ enters (bytes "10 END") (storing (hex "09 00 06 06 15 16 0A 00 07 07 00 58 9B 0B 00 06 06 15 16")) 0 0 0 0 (over [] 0 0 (hex "09 00 06 06 15 16 0A 00 06 06 15 16 0B 00 06 06 15 16 16") 18)
    ∷ enters (bytes " 10 ") (storing (hex "09 00 06 06 15 16 0A 00 06 06 15 16 0B 00 06 06 15 16")) 0 0 0 0 (over [] 0 0 (hex "09 00 06 06 15 16 0B 00 06 06 15 16 0B 00 06 06 15 16") 12)
    -- room for the listing: just room; one short; one more, which is left
    ∷ lists 10 (storing ten_end) (replicate 7 0) 0 7 (bytes "10 END ")
    ∷ lists_not 10 (storing ten_end) (replicate 6 0) 11
    ∷ lists 10 (storing ten_end) (replicate 8 0) 0 7 (bytes "10 END " ++ 0 ∷ [])
    ∷ lists 32767 (storing (hex "FF 7F 06 06 15 16")) (replicate 10 0) 0 10 (bytes "32767 END ")
    ∷ lists_not 32768 (storing (hex "FF 7F 06 06 15 16")) (replicate 10 0) 9
    ∷ []

-- ---- pairs of refusals

-- a store whose one line has no statement's offset: unsound; and one whose line is no statement's: sound, not well-formed
unfoldable pub unsound : State
unsound = storing (hex "0A 00 05 05 15")

unfoldable pub not_well_formed : State
not_well_formed = storing (hex "0A 00 06 06 03 16")

unfoldable pub of_pairs : List Call
of_pairs =
    -- 1 before 2, 3, 4, 5, 6, 8, 9
    refuses (remark 114) unsound 1
    ∷ refuses (bytes "END") unsound 1
    ∷ refuses (bytes "10 COLOR") unsound 1
    ∷ refuses (bytes "10 GOTO 1E98") unsound 1
    ∷ refuses (bytes "10 NEXT A") unsound 1
    ∷ refuses (bytes "11 END") unsound 1
    ∷ refuses (bytes "11") unsound 1
    -- 2 before 3, 4, 5, 6, 8, 9
    ∷ refuses (padded 121 "END") (roomy 0 0 6) 2
    ∷ refuses (padded 121 "10 COLOR") (roomy 0 0 6) 2
    ∷ refuses (padded 121 "10 GOTO 1E98") (roomy 0 0 20) 2
    ∷ refuses (padded 121 "10 NEXT A") (roomy 0 0 7) 2
    ∷ refuses (padded 121 "10 END") (roomy 0 0 5) 2
    ∷ refuses (padded 121 "10") (roomy 0 0 6) 2
    -- 3 before 4, 5, 6, 8, 9
    ∷ refuses (bytes "32768 COLOR") (roomy 0 0 6) 3
    ∷ refuses (bytes "32768 GOTO 1E98") (roomy 0 0 20) 3
    ∷ refuses (bytes "32768 NEXT A") (roomy 0 0 7) 3
    ∷ refuses (bytes "32768 END") (roomy 0 0 5) 3
    ∷ refuses (bytes "32768") (roomy 0 0 6) 3
    -- the leftmost of 4 and 5; 4 where both have one place
    ∷ refuses_at (bytes "10 GOTO 1E98 1") (roomy 0 0 20) 5 8 12
    ∷ refuses_at (bytes "10 GOTO 1 1E98") (roomy 0 0 20) 4 10 14
    ∷ refuses_at (bytes "10 NEXT 1E98") (roomy 0 0 20) 4 8 12
    -- 4 and 5 before 6, 8
    ∷ refuses_at (bytes "10 NEXT A A") (roomy 0 0 7) 4 10 11
    ∷ refuses_at (bytes "10 GOTO A+1E98") (roomy 0 0 20) 5 10 14
    ∷ refuses_at (bytes "10 END 1") (roomy 0 0 5) 4 7 8
    ∷ refuses_at (bytes "10 GOTO 1E98") (roomy 0 0 5) 5 8 12
    -- 6 before 7, 8; 7 before 8
    ∷ refuses (bytes "10 ON A GOTO 1" ++ ones 31) (roomy 0 0 300) 6
    ∷ refuses (bytes "10 NEXT A") (roomy 0 0 6) 6
    ∷ refuses (bytes "10 ON A GOTO 1" ++ ones 31) (roomy 1 8 200) 7
    -- in listing 1 before 9, 10, 11; 9 before 10, 11; 10 before 11
    ∷ lists_not 11 unsound [] 1
    ∷ lists_not 10 unsound [] 1
    ∷ lists_not 9 not_well_formed [] 9
    ∷ lists_not 11 (storing ten_end) [] 9
    ∷ lists_not 10 not_well_formed [] 10
    ∷ []

-- ---- sound tables and stores, and such as are unsound in one thing

unfoldable pub of_names : List Call
of_names =
    -- sound: A, A$, A(, the longest run, statement words
    refuses (bytes "10") (naming "C1" 1) 9
    ∷ refuses (bytes "10") (naming "41 A4" 1) 9
    ∷ refuses (bytes "10") (naming "41 A8" 1) 9
    ∷ refuses (bytes "10") (naming "5A 30 39 41 DA" 1) 9
    ∷ refuses (bytes "10") (naming "52 45 CD" 1) 9
    ∷ refuses (bytes "10") (naming "49 46 A8" 1) 9
    ∷ refuses (bytes "10") (naming "53 54 D2" 1) 9
    -- no name: `A$(`, `A($`, `A$B`, `1`, `$`, `@`, `[`, `a`, `A:`, `A/`
    ∷ refuses (bytes "10") (naming "41 24 A8" 1) 1
    ∷ refuses (bytes "10") (naming "41 28 A4" 1) 1
    ∷ refuses (bytes "10") (naming "41 24 C2" 1) 1
    ∷ refuses (bytes "10") (naming "B1" 1) 1
    ∷ refuses (bytes "10") (naming "A4" 1) 1
    ∷ refuses (bytes "10") (naming "C0" 1) 1
    ∷ refuses (bytes "10") (naming "DB" 1) 1
    ∷ refuses (bytes "10") (naming "E1" 1) 1
    ∷ refuses (bytes "10") (naming "41 BA" 1) 1
    ∷ refuses (bytes "10") (naming "41 AF" 1) 1
    -- reserved: NOT, NOT(, SIN(, STR$, USR
    ∷ refuses (bytes "10") (naming "4E 4F D4" 1) 1
    ∷ refuses (bytes "10") (naming "4E 4F 54 A8" 1) 1
    ∷ refuses (bytes "10") (naming "53 49 4E A8" 1) 1
    ∷ refuses (bytes "10") (naming "53 54 52 A4" 1) 1
    ∷ refuses (bytes "10") (naming "55 53 D2" 1) 1
    -- the last byte not marked; a count too great or too small; a name twice; A beside A$
    ∷ refuses (bytes "10") (naming "41" 1) 1
    ∷ refuses (bytes "10") (naming "C1 42" 1) 1
    ∷ refuses (bytes "10") (naming "C1" 0) 1
    ∷ refuses (bytes "10") (over (hex "C1") 2 16 [] 0) 1
    ∷ refuses (bytes "10") (over (hex "C1 C1") 2 16 [] 0) 1
    ∷ refuses (bytes "10") (over (hex "C1 41 A4 41 A8") 3 24 [] 0) 9
    -- name bytes past the lent ones; none used of some
    ∷ refuses (bytes "10") (record { names = hex "C1"; name_size = 2; name_count = 1; values = replicate 8 0; store = []; used = 0; line_count = 0; greatest = 0 }) 1
    ∷ refuses (bytes "10") (record { names = hex "41"; name_size = 0; name_count = 0; values = []; store = []; used = 0; line_count = 0; greatest = 0 }) 9
    ∷ refuses (bytes "10") (record { names = hex "41 C2"; name_size = 1; name_count = 1; values = replicate 8 0; store = []; used = 0; line_count = 0; greatest = 0 }) 1
    -- room for values: just room; one short, in entering and in listing
    ∷ refuses (bytes "10") (over (hex "C1 C2") 2 16 [] 0) 9
    ∷ refuses (bytes "10") (over (hex "C1 C2") 2 15 [] 0) 1
    ∷ lists_not 10 (over (hex "C1 C2") 2 15 ten_end 6) (replicate 7 0) 1
    ∷ lists 10 (over (hex "C1 C2") 2 16 ten_end 6) (replicate 7 0) 0 7 (bytes "10 END ")
    ∷ []

unfoldable pub of_stores : List Call
of_stores =
    -- a line of 6 bytes; of 5; of none; its head cut off; a byte more or less used than it has
    refuses (bytes "1") (storing ten_end) 9
    ∷ refuses (bytes "1") (storing (hex "0A 00 05 05 15")) 1
    ∷ refuses (bytes "1") (storing (hex "0A 00 00 06 15 16")) 1
    ∷ refuses (bytes "1") (over [] 0 0 ten_end 2) 1
    ∷ refuses (bytes "1") (over [] 0 0 ten_end 5) 1
    ∷ refuses (bytes "1") (over [] 0 0 (ten_end ++ 0 ∷ []) 7) 1
    ∷ refuses (bytes "1") (over [] 0 0 ten_end 7) 1
    ∷ refuses (bytes "1") (over [] 0 0 ten_end 0) 9
    -- rising, equal and falling numbers, by the low and by the high byte
    ∷ refuses (bytes "1") (storing (hex "0A 00 06 06 15 16 0B 00 06 06 15 16")) 9
    ∷ refuses (bytes "1") (storing (hex "0A 00 06 06 15 16 0A 00 06 06 15 16")) 1
    ∷ refuses (bytes "1") (storing (hex "0A 00 06 06 15 16 09 00 06 06 15 16")) 1
    ∷ refuses (bytes "1") (storing (hex "FF 00 06 06 15 16 00 01 06 06 15 16")) 9
    ∷ refuses (bytes "1") (storing (hex "00 01 06 06 15 16 FF 00 06 06 15 16")) 1
    ∷ refuses (bytes "1") (storing (hex "09 00 06 06 15 16 0B 00 06 06 15 16 0A 00 06 06 15 16")) 1
    -- 32767; 32768
    ∷ refuses (bytes "1") (storing (hex "FF 7F 06 06 15 16")) 9
    ∷ refuses (bytes "1") (storing (hex "00 80 06 06 15 16")) 1
    -- a number that no line has, between two and above all; deleted lines
    ∷ refuses (bytes "11") (storing (hex "0A 00 06 06 15 16 0C 00 06 06 15 16")) 9
    ∷ refuses (bytes "13") (storing (hex "0A 00 06 06 15 16 0C 00 06 06 15 16")) 9
    ∷ enters (bytes "12") (storing (hex "0A 00 06 06 15 16 0C 00 06 06 15 16")) 0 0 0 0 (over [] 0 0 (hex "0A 00 06 06 15 16 0C 00 06 06 15 16") 6)
    ∷ []

-- ---- stored lines that are well-formed, and such as are not in one thing

-- one line of this many bytes, listed over the names A, B( and REM: this text
unfoldable pub line_lists : String → String → Call
line_lists line text = let l = hex line in let t = bytes text in lists 10 (over (hex "C1 42 A8 52 45 CD") 3 24 l (length l)) t 0 (length t) t

-- the same, not well-formed
unfoldable pub line_not : String → Call
line_not line = let l = hex line in lists_not 10 (over (hex "C1 42 A8 52 45 CD") 3 24 l (length l)) (replicate 40 0) 10

unfoldable pub of_lines : List Call
of_lines =
    line_lists "0A 00 0D 0D 0A 0E 40 01 00 00 00 00 16" "10 GOTO 1"
    -- the first byte of a constant: 0F, 70; 0E, 71; the first pair; nibbles; zero
    ∷ line_lists "0A 00 0D 0D 0A 0E 0F 01 00 00 00 00 16" "10 GOTO 1E-98"
    ∷ line_lists "0A 00 0D 0D 0A 0E 70 99 99 99 99 99 16" "10 GOTO 9.999999999E+97"
    ∷ line_not "0A 00 0D 0D 0A 0E 0E 01 00 00 00 00 16"
    ∷ line_not "0A 00 0D 0D 0A 0E 71 01 00 00 00 00 16"
    ∷ line_not "0A 00 0D 0D 0A 0E 40 00 01 00 00 00 16"
    ∷ line_not "0A 00 0D 0D 0A 0E 40 0A 00 00 00 00 16"
    ∷ line_not "0A 00 0D 0D 0A 0E 40 A0 00 00 00 00 16"
    ∷ line_not "0A 00 0D 0D 0A 0E 40 01 00 00 00 0A 16"
    ∷ line_lists "0A 00 0D 0D 0A 0E 00 00 00 00 00 00 16" "10 GOTO 0"
    ∷ line_not "0A 00 0D 0D 0A 0E 00 00 00 00 00 01 16"
    ∷ line_not "0A 00 0D 0D 0A 0E 40 00 00 00 00 00 16"
    -- plain from 3F to 44
    ∷ line_lists "0A 00 0D 0D 0A 0E 3F 01 00 00 00 00 16" "10 GOTO 0.01"
    ∷ line_lists "0A 00 0D 0D 0A 0E 3E 99 00 00 00 00 16" "10 GOTO 9.9E-03"
    ∷ line_lists "0A 00 0D 0D 0A 0E 44 10 00 00 00 00 16" "10 GOTO 1000000000"
    ∷ line_lists "0A 00 0D 0D 0A 0E 45 01 00 00 00 00 16" "10 GOTO 1E+10"
    ∷ line_lists "0A 00 0D 0D 0A 0E 45 12 30 00 00 00 16" "10 GOTO 1.23E+11"
    ∷ line_lists "0A 00 0D 0D 0A 0E 40 10 05 00 00 00 16" "10 GOTO 10.05"
    -- offsets and length; an end inside; the wrong end; a statement with none
    ∷ line_not "0A 00 0D 0C 0A 0E 40 01 00 00 00 00 16"
    ∷ line_not "0A 00 0D 0E 0A 0E 40 01 00 00 00 00 16"
    ∷ line_not "0A 00 06 06 15 14"
    ∷ line_not "0A 00 06 06 15 9B"
    ∷ line_lists "0A 00 09 06 15 14 09 27 16" "10 END :POP "
    ∷ line_not "0A 00 09 09 15 14 09 27 16"
    ∷ line_not "0A 00 09 06 15 16 09 27 16"
    ∷ line_not "0A 00 07 06 15 16 16"
    -- variables: in the table; past its end; 36 before a statement word, and not before one
    ∷ line_lists "0A 00 07 07 0A 80 16" "10 GOTO A"
    ∷ line_lists "0A 00 07 07 0A 82 16" "10 GOTO REM"
    ∷ line_not "0A 00 07 07 0A 83 16"
    ∷ line_not "0A 00 07 07 0A FF 16"
    ∷ line_lists "0A 00 09 09 36 80 2D 82 16" "10 A=REM"
    ∷ line_not "0A 00 09 09 36 82 2D 80 16"
    ∷ line_lists "0A 00 09 09 06 82 2D 80 16" "10 LET REM=A"
    -- an array and its `(`, which is 38; with none, with 2B, 37 or 39; 3C and 12
    ∷ line_lists "0A 00 0A 0A 0A 81 38 80 2C 16" "10 GOTO B(A)"
    ∷ line_not "0A 00 09 09 0A 81 80 2C 16"
    ∷ line_not "0A 00 0A 0A 0A 81 2B 80 2C 16"
    ∷ line_not "0A 00 0A 0A 0A 81 37 80 2C 16"
    ∷ line_not "0A 00 0A 0A 0A 81 39 80 2C 16"
    ∷ line_not "0A 00 0A 0A 0A 80 38 80 2C 16"
    ∷ line_lists "0A 00 0C 0C 0A 81 38 80 3C 80 2C 16" "10 GOTO B(A,A)"
    ∷ line_not "0A 00 0C 0C 0A 81 38 80 12 80 2C 16"
    ∷ line_not "0A 00 09 09 14 81 80 2C 16"
    -- `=` as 22, 2D, 2E, 34; `<` as 20, 32; `-` as 26, 36
    ∷ line_not "0A 00 09 09 36 80 22 80 16"
    ∷ line_not "0A 00 09 09 36 80 2E 80 16"
    ∷ line_not "0A 00 09 09 36 80 34 80 16"
    ∷ line_lists "0A 00 09 09 0A 80 22 80 16" "10 GOTO A=A"
    ∷ line_not "0A 00 09 09 0A 80 2D 80 16"
    ∷ line_not "0A 00 09 09 0A 80 34 80 16"
    ∷ line_lists "0A 00 09 09 0A 80 20 80 16" "10 GOTO A<A"
    ∷ line_not "0A 00 09 09 0A 80 32 80 16"
    ∷ line_lists "0A 00 08 08 0A 36 80 16" "10 GOTO -A"
    ∷ line_not "0A 00 08 08 0A 26 80 16"
    ∷ line_lists "0A 00 09 09 0A 80 26 80 16" "10 GOTO A-A"
    ∷ line_not "0A 00 09 09 0A 80 36 80 16"
    ∷ line_lists "0A 00 08 08 0A 35 80 16" "10 GOTO +A"
    ∷ line_not "0A 00 08 08 0A 25 80 16"
    -- strings: 22 and 9B in one; a length past the line's end; raw text
    ∷ line_lists "0A 00 09 09 28 0F 01 58 16" "10 ? \"X\""
    ∷ line_not "0A 00 09 09 28 0F 01 22 16"
    ∷ line_not "0A 00 09 09 28 0F 01 9B 16"
    ∷ line_not "0A 00 09 09 28 0F 03 58 16"
    ∷ line_lists "0A 00 08 08 28 0F 00 16" "10 ? \"\""
    ∷ line_lists "0A 00 08 08 01 58 16 9B" "10 DATA X\u{16}"
    ∷ line_not "0A 00 08 08 00 58 59 16"
    ∷ line_not "0A 00 08 08 00 58 9B 9B"
    -- the words that have no statement, the operators that have no place, and bytes that are no token
    ∷ line_not "0A 00 06 06 03 16"
    ∷ line_not "0A 00 06 06 0B 16"
    ∷ line_not "0A 00 06 06 37 16"
    ∷ line_not "0A 00 08 08 0A 1C 80 16"
    ∷ line_not "0A 00 0A 0A 0A 3F 3A 80 2C 16"
    ∷ line_not "0A 00 0A 0A 0A 55 3A 80 2C 16"
    ∷ line_not "0A 00 08 08 0A 10 80 16"
    ∷ []

-- ---- 256 names (document 02, §11), 65,535 bytes of store

-- n names of two bytes, with room for a name of one byte more, and for a line of so many bytes
unfoldable pub nearly : ℕ → ℕ → State
nearly n room = record { names = two_byte_names 0 n ++ 0 ∷ []; name_size = n + n; name_count = n; values = replicate (8 * suc n) 0; store = replicate room 0; used = 0; line_count = 0; greatest = 0 }

-- the same with the name Z, its value, and this line
unfoldable pub with_z : ℕ → List ℕ → State
with_z n line = record { names = two_byte_names 0 n ++ 0xda ∷ []; name_size = n + n + 1; name_count = suc n; values = replicate (8 * n) 0 ++ 0 ∷ n ∷ replicate 6 0; store = line; used = length line; line_count = 1; greatest = 10 }

unfoldable pub of_many_names : List Call
of_many_names =
    -- the last name with a token of one byte; the first with two; the last name
    enters (bytes "10 NEXT Z") (nearly 127 7) 0 0 0 1 (with_z 127 (hex "0A 00 07 07 09 FF 16"))
    ∷ enters (bytes "10 NEXT Z") (nearly 128 8) 0 0 0 1 (with_z 128 (hex "0A 00 08 08 09 00 00 16"))
    ∷ enters (bytes "10 NEXT M7") (over (two_byte_names 0 128) 128 1024 (replicate 7 0) 0) 0 0 0 0 (over (two_byte_names 0 128) 128 1024 (hex "0A 00 07 07 09 FF 16") 7)
    ∷ enters (bytes "10 NEXT Z") (nearly 255 8) 0 0 0 1 (with_z 255 (hex "0A 00 08 08 09 00 7F 16"))
    -- one name more; a table of one name more
    ∷ refuses (bytes "10 NEXT Z") (nearly 256 8) 6
    ∷ refuses (bytes "10") (over (two_byte_names 0 257) 257 2056 [] 0) 1
    ∷ []

-- 65,529 bytes of lines, in a store of 65,536
unfoldable pub nearly_full : List ℕ
nearly_full = long_lines 0 256 ++ 0 ∷ 1 ∷ 249 ∷ replicate 246 0

unfoldable pub of_the_greatest_store : List Call
of_the_greatest_store =
    enters (bytes "257 END") (over [] 0 0 (nearly_full ++ replicate 7 0) 65529) 0 0 0 0 (over [] 0 0 (nearly_full ++ hex "01 01 06 06 15 16 00") 65535)
    ∷ refuses (bytes "257 REM X") (over [] 0 0 (nearly_full ++ replicate 7 0) 65529) 8
    ∷ refuses (bytes "300") (over [] 0 0 (nearly_full ++ hex "01 01 07 07 00 58 9B") 65536) 1
    ∷ []

-- the definitions give the answer of each of them
pub limits : failing 0 (of_texts ++ of_rooms ++ of_pairs ++ of_names ++ of_stores ++ of_lines ++ of_many_names ++ of_the_greatest_store) ≡ []
unfolding everything agreeing refuses_at refuses lists_not over storing roomy naming ten_end remark padded ones one_tokens two_byte_names long_lines of_texts of_rooms unsound not_well_formed of_pairs of_names of_stores line_lists line_not of_lines nearly with_z of_many_names nearly_full of_the_greatest_store same_state meets failing
limits = refl
