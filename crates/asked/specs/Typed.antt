-- Lines without a number (document 02, §1): texts that are typed and line buffers that are listed, each with its whole answer, worked out by hand.
use Rattle.std.specs.Prelude.{ℕ, ◌≡◌, refl, List, [], ◌∷◌, ◌++◌, length, replicate}
use Prim.Native.String.{String}
use Rattle.paper.specs.Bytes.{bytes}
use Rattle.paper.specs.Hex.{hex}
use Rattle.paper.specs.Calls.{State}
use Rattle.paper.specs.Open.{everything}
use Rattle.cases.specs.Answers.{Call, types, shows, agreeing, same_state, meets, failing}
use Rattle.limits.specs.Limits.{lists_not, over, storing, roomy, ten_end, padded, ones, one_tokens, unsound}

-- ---- calls

-- a line buffer of n bytes EE
unfoldable pub lent : ℕ → List ℕ
lent n = replicate n 0xee

-- a text typed and refused with 4 or 5, with place and end: nothing changes, the line buffer neither
unfoldable pub types_not_at : List ℕ → State → List ℕ → ℕ → ℕ → ℕ → Call
types_not_at text s buffer number place end = types text s buffer number place end 0 s buffer

-- a text typed and refused with any other number: it has no place
unfoldable pub types_not : List ℕ → State → List ℕ → ℕ → Call
types_not text s buffer number = types_not_at text s buffer number 0 0

-- a text without names, typed with a line buffer of n bytes where nothing else has any: the line buffer afterwards
unfoldable pub makes : String → ℕ → String → Call
makes text n line = types (bytes text) (roomy 0 0 0) (lent n) 0 0 0 0 (roomy 0 0 0) (hex line)

-- refused with 4 or 5 there
unfoldable pub makes_none : List ℕ → ℕ → ℕ → ℕ → Call
makes_none text number place end = types_not_at text (roomy 0 0 0) (lent 255) number place end

-- names A and B, with their values
unfoldable pub two_names : State
two_names = over (hex "C1 C2") 2 16 [] 0

-- a line buffer that lists over them as this text
unfoldable pub shows_as : String → String → Call
shows_as buffer text = let t = bytes text in shows (hex buffer) two_names t 0 (length t) t

-- a listing of a line buffer refused: nothing is written
unfoldable pub shows_not : String → State → List ℕ → ℕ → Call
shows_not buffer s output number = shows (hex buffer) s output number 0 output

-- the line `END` with number 32768
unfoldable pub direct_end : String
direct_end = "00 80 06 06 15 16"

-- `ON A GOTO` with 31 ones, whose line has 255 bytes; and with one byte more
unfoldable pub longest : List ℕ
longest = bytes "ON A GOTO 1" ++ ones 30

unfoldable pub too_long : List ℕ
too_long = bytes "ON -A GOTO 1" ++ ones 30

-- ---- texts

unfoldable pub of_direct_lines : List Call
of_direct_lines =
    -- number 32768; just room, and nothing past the line is written
    makes "END" 6 "00 80 06 06 15 16"
    ∷ makes "END" 8 "00 80 06 06 15 16 EE EE"
    ∷ makes "  END  " 6 "00 80 06 06 15 16"
    ∷ makes "REM X" 7 "00 80 07 07 00 58 9B"
    ∷ makes "DATA 10" 8 "00 80 08 08 01 31 30 9B"
    ∷ makes "GOTO 10" 13 "00 80 0D 0D 0A 0E 40 10 00 00 00 00 16"
    ∷ makes "END:POP" 9 "00 80 09 06 15 14 09 27 16"
    ∷ makes "?\"HI" 10 "00 80 0A 0A 28 0F 02 48 49 16"
    -- texts of 120 bytes; a line of 255
    ∷ types (padded 120 "END") (roomy 0 0 0) (lent 6) 0 0 0 0 (roomy 0 0 0) (hex direct_end)
    ∷ types (bytes "REM " ++ replicate 116 88) (roomy 0 0 0) (lent 122) 0 0 0 0 (roomy 0 0 0) (hex "00 80 7A 7A 00" ++ replicate 116 88 ++ 0x9b ∷ [])
    ∷ types longest (roomy 1 8 0) (lent 255) 0 0 0 1 (over (hex "C1") 1 8 [] 0) (hex "00 80 FF FF 1E 80 17 0E 40 01 00 00 00 00" ++ one_tokens 30 ++ 0x16 ∷ [])
    -- new names are added as for a stored line, and others are not; old values and bytes past the new ends stay
    ∷ types (bytes "PRINT A") (roomy 1 8 0) (lent 7) 0 0 0 1 (over (hex "C1") 1 8 [] 0) (hex "00 80 07 07 20 80 16")
    ∷ types (bytes "PRINT A") (over (hex "C1") 1 8 [] 0) (lent 7) 0 0 0 0 (over (hex "C1") 1 8 [] 0) (hex "00 80 07 07 20 80 16")
    ∷ types (bytes "B$=B$") (record { names = hex "C1 00 00 77"; name_size = 1; name_count = 1; values = replicate 8 5 ++ replicate 9 7; store = []; used = 0; line_count = 0; greatest = 0 }) (lent 9) 0 0 0 1
    (record { names = hex "C1 42 A4 77"; name_size = 3; name_count = 2; values = replicate 8 5 ++ hex "80 01 00 00 00 00 00 00 07"; store = []; used = 0; line_count = 0; greatest = 0 }) (hex "00 80 09 09 36 81 2E 81 16")
    -- a full store is untouched, and so is the record's pair
    ∷ types (bytes "END") (storing ten_end) (lent 6) 0 0 0 0 (storing ten_end) (hex direct_end)
    ∷ types (bytes "PRINT A") (over (hex "C1") 1 8 ten_end 6) (lent 8) 0 0 0 0 (over (hex "C1") 1 8 ten_end 6) (hex "00 80 07 07 20 80 16 EE")
    ∷ types (bytes "PRINT A") (record { names = 0 ∷ []; name_size = 0; name_count = 0; values = replicate 8 9; store = ten_end; used = 6; line_count = 1; greatest = 10 }) (lent 7) 0 0 0 1 (over (hex "C1") 1 8 ten_end 6) (hex "00 80 07 07 20 80 16")
    ∷ []

unfoldable pub of_other_texts : List Call
of_other_texts =
    -- a text with a number is entered; the line buffer is not looked at, and not written
    types (bytes "10 END") (roomy 0 0 6) [] 0 0 0 0 (storing ten_end) []
    ∷ types (bytes "10 END") (roomy 0 0 6) (lent 8) 0 0 0 0 (storing ten_end) (lent 8)
    ∷ types (bytes "  10 END") (roomy 0 0 6) (lent 8) 0 0 0 0 (storing ten_end) (lent 8)
    ∷ types (bytes "10 NEXT A") (roomy 1 8 7) (lent 8) 0 0 0 1 (over (hex "C1") 1 8 (hex "0A 00 07 07 09 80 16") 7) (lent 8)
    ∷ types (bytes "10") (storing ten_end) (lent 8) 0 0 0 0 (over [] 0 0 ten_end 0) (lent 8)
    ∷ types_not (bytes "11") (storing ten_end) (lent 8) 9
    ∷ types_not (bytes "11 END") (storing ten_end) (lent 255) 8
    ∷ types_not_at (bytes "10 GOTO") (roomy 0 0 6) (lent 8) 4 7 7
    ∷ types_not_at (bytes "10 GOTO 1E98") (roomy 0 0 6) (lent 8) 5 8 12
    -- 3: empty or blank, or a number above 32767
    ∷ types_not [] (roomy 0 0 6) (lent 8) 3
    ∷ types_not (bytes " ") (roomy 0 0 6) (lent 8) 3
    ∷ types_not (padded 120 "") (roomy 0 0 6) (lent 8) 3
    ∷ types_not (bytes "32768 END") (roomy 0 0 6) (lent 8) 3
    ∷ types_not (bytes "  32768") (roomy 0 0 6) (lent 8) 3
    ∷ types_not (bytes "99999 GOTO") (roomy 0 0 6) (lent 8) 3
    ∷ []

unfoldable pub of_direct_refusals : List Call
of_direct_refusals =
    -- 2
    types_not (padded 121 "END") (roomy 0 0 0) (lent 255) 2
    ∷ types_not (bytes "REM " ++ replicate 117 88) (roomy 0 0 0) (lent 255) 2
    -- 4, with places from the text's start: what was 3; other first items; the line's end; blanks in front; 9B
    ∷ makes_none (hex "09 31 30 20 45 4E 44") 4 0 1
    ∷ makes_none (bytes ".5 A=1") 4 0 2
    ∷ makes_none (bytes "-1 END") 4 0 1
    ∷ makes_none (bytes "\"X") 4 0 2
    ∷ makes_none (bytes "@") 4 0 1
    ∷ makes_none (hex "9B") 4 0 1
    ∷ makes_none (hex "20 9B") 4 1 2
    ∷ makes_none (bytes "COLOR 1") 4 0 5
    ∷ makes_none (bytes "GOTO") 4 4 4
    ∷ makes_none (bytes "  GOTO") 4 6 6
    ∷ makes_none (bytes "GOTO  ") 4 6 6
    ∷ makes_none (bytes "END:") 4 4 4
    ∷ makes_none (bytes "END 10") 4 4 6
    ∷ makes_none (bytes "A") 4 1 1
    ∷ makes_none (bytes "  PRINT A BORC") 4 10 14
    ∷ makes_none (hex "52 45 4D 20 41 9B 42") 4 5 6
    ∷ makes_none (hex "3F 22 41 9B 42 22") 4 1 3
    -- 5; 4 where both have one place
    ∷ makes_none (bytes "GOTO 1E98") 5 5 9
    ∷ makes_none (bytes "  GOTO 1E98") 5 7 11
    ∷ makes_none (bytes "NEXT 1E98") 4 5 9
    -- 6: name bytes and values one short
    ∷ types_not (bytes "NEXT AB") (roomy 1 8 0) (lent 7) 6
    ∷ types_not (bytes "NEXT AB") (roomy 2 7 0) (lent 7) 6
    ∷ types_not (bytes "A$=B$") (roomy 3 16 0) (lent 9) 6
    -- 7: a line of 256 bytes
    ∷ types_not too_long (roomy 1 8 0) (lent 300) 7
    -- 8: the line buffer one byte short, or none; no name is added
    ∷ types_not (bytes "END") (roomy 0 0 0) (lent 5) 8
    ∷ types_not (bytes "END") (roomy 0 0 300) [] 8
    ∷ types_not (bytes "PRINT A") (roomy 1 8 0) (lent 6) 8
    ∷ types_not longest (roomy 1 8 300) (lent 254) 8
    -- 1: names, values, store, a store that holds 32768, the count of lines, the greatest number
    ∷ types_not (bytes "END") (over (hex "C1 C1") 2 16 [] 0) (lent 6) 1
    ∷ types_not (bytes "END") (over (hex "C1") 1 7 [] 0) (lent 6) 1
    ∷ types_not (bytes "END") unsound (lent 6) 1
    ∷ types_not (bytes "END") (storing (hex direct_end)) (lent 6) 1
    ∷ types_not (bytes "END") (record { names = []; name_size = 0; name_count = 0; values = []; store = ten_end; used = 6; line_count = 2; greatest = 10 }) (lent 6) 1
    ∷ types_not (bytes "END") (record { names = []; name_size = 0; name_count = 0; values = []; store = ten_end; used = 6; line_count = 1; greatest = 0 }) (lent 6) 1
    ∷ []

unfoldable pub of_orders : List Call
of_orders =
    -- 1 before 2, 3, 4, 5, 6, 7, 8
    types_not (padded 121 "END") unsound (lent 6) 1
    ∷ types_not [] unsound (lent 6) 1
    ∷ types_not (bytes "GOTO") unsound (lent 6) 1
    ∷ types_not (bytes "GOTO 1E98") unsound (lent 20) 1
    ∷ types_not (bytes "NEXT A") unsound (lent 7) 1
    ∷ types_not too_long (over (hex "C1 C1") 2 24 [] 0) (lent 300) 1
    ∷ types_not (bytes "END") unsound [] 1
    -- 2 before 3, 4, 5, 6, 8
    ∷ types_not (padded 121 "") (roomy 0 0 0) (lent 6) 2
    ∷ types_not (padded 121 "GOTO") (roomy 0 0 0) (lent 6) 2
    ∷ types_not (padded 121 "GOTO 1E98") (roomy 0 0 0) (lent 20) 2
    ∷ types_not (padded 121 "NEXT A") (roomy 0 0 0) (lent 7) 2
    ∷ types_not (padded 121 "END") (roomy 0 0 0) [] 2
    -- 4 and 5 before 6 and 8
    ∷ types_not_at (bytes "NEXT A A") (roomy 0 0 0) (lent 7) 4 7 8
    ∷ types_not_at (bytes "END 1") (roomy 0 0 0) [] 4 4 5
    ∷ types_not_at (bytes "GOTO A+1E98") (roomy 0 0 0) (lent 20) 5 7 11
    ∷ types_not_at (bytes "GOTO 1E98") (roomy 0 0 0) [] 5 5 9
    -- 6 before 7, 8; 7 before 8
    ∷ types_not too_long (roomy 0 0 0) (lent 300) 6
    ∷ types_not (bytes "NEXT A") (roomy 0 0 0) [] 6
    ∷ types_not too_long (roomy 0 0 0) (lent 20) 6
    ∷ types_not too_long (roomy 1 8 0) (lent 20) 7
    ∷ []

-- ---- listings of line buffers

unfoldable pub of_showings : List Call
of_showings =
    -- no number, and no blank before the first statement; bytes past the line are not read
    shows_as "00 80 06 06 15 16" "END "
    ∷ shows_as "00 80 06 06 15 16 15 FF" "END "
    ∷ shows_as "00 80 09 09 20 80 15 81 16" "PRINT A;B"
    ∷ shows_as "00 80 0F 0F 36 80 2D 0E 40 01 00 00 00 00 16" "A=1"
    ∷ shows_as "00 80 09 06 15 14 09 27 16" "END :POP "
    ∷ shows_as "00 80 06 06 00 9B" "REM "
    ∷ shows_as "00 80 09 09 28 0F 01 20 16" "? \" \""
    -- room for the text: one more, which is left; one short; none
    ∷ shows (hex direct_end) two_names (replicate 5 7) 0 4 (bytes "END " ++ 7 ∷ [])
    ∷ shows_not direct_end two_names (replicate 3 7) 11
    ∷ shows_not direct_end two_names [] 11
    -- no store and no record has a part in it
    ∷ shows (hex direct_end) unsound (replicate 4 7) 0 4 (bytes "END ")
    ∷ shows (hex direct_end) (record { names = []; name_size = 0; name_count = 0; values = []; store = ten_end; used = 6; line_count = 0; greatest = 0 }) (replicate 4 7) 0 4 (bytes "END ")
    -- 10: too short for a line; cut; a length of 0, one less, one more
    ∷ shows_not "" two_names (replicate 20 7) 10
    ∷ shows_not "00 80" two_names (replicate 20 7) 10
    ∷ shows_not "00 80 06" two_names (replicate 20 7) 10
    ∷ shows_not "00 80 06 06 15" two_names (replicate 20 7) 10
    ∷ shows_not "00 80 00 06 15 16" two_names (replicate 20 7) 10
    ∷ shows_not "00 80 05 06 15 16" two_names (replicate 20 7) 10
    ∷ shows_not "00 80 07 06 15 16 16" two_names (replicate 20 7) 10
    -- another number: 10, 32767, 32769, 0
    ∷ shows_not "0A 00 06 06 15 16" two_names (replicate 20 7) 10
    ∷ shows_not "FF 7F 06 06 15 16" two_names (replicate 20 7) 10
    ∷ shows_not "01 80 06 06 15 16" two_names (replicate 20 7) 10
    ∷ shows_not "00 00 06 06 15 16" two_names (replicate 20 7) 10
    -- not well-formed: offset, end, statement, a name past the table
    ∷ shows_not "00 80 06 05 15 16" two_names (replicate 20 7) 10
    ∷ shows_not "00 80 06 06 15 14" two_names (replicate 20 7) 10
    ∷ shows_not "00 80 06 06 03 16" two_names (replicate 20 7) 10
    ∷ shows_not "00 80 07 07 20 82 16" two_names (replicate 20 7) 10
    -- 1: a name twice; a count too great; no room for the values
    ∷ shows_not direct_end (over (hex "C1 C1") 2 16 [] 0) (replicate 20 7) 1
    ∷ shows_not direct_end (over (hex "C1") 2 16 [] 0) (replicate 20 7) 1
    ∷ shows_not direct_end (over (hex "C1 C2") 2 15 [] 0) (replicate 20 7) 1
    -- 1 before 10, 11; 10 before 11
    ∷ shows_not "00 80 06 06 15 14" (over (hex "C1 C1") 2 16 [] 0) (replicate 20 7) 1
    ∷ shows_not "00 80 06 06 15 14" (over (hex "C1 C2") 2 15 [] 0) (replicate 20 7) 1
    ∷ shows_not direct_end (over (hex "C1 C1") 2 16 [] 0) [] 1
    ∷ shows_not "00 80 06 06 15 14" two_names [] 10
    -- no stored line has number 32768
    ∷ lists_not 32768 (storing ten_end) (replicate 10 0) 9
    ∷ lists_not 32768 (storing (hex direct_end)) (replicate 10 0) 1
    ∷ []

-- the definitions give each of them so
pub typed_so : failing 0 (of_direct_lines ++ of_other_texts ++ of_direct_refusals ++ of_orders ++ of_showings) ≡ []
unfolding everything agreeing lists_not over storing roomy ten_end padded ones one_tokens unsound lent types_not_at types_not makes makes_none two_names shows_as shows_not direct_end longest too_long of_direct_lines of_other_texts of_direct_refusals of_orders of_showings same_state meets failing
typed_so = refl
