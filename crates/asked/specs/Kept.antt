-- Error lines (document 02, §9): texts that are entered with wrong lines kept, and error lines that are listed, each with its whole answer, worked out by hand.
use Rattle.std.specs.Prelude.{ℕ, ◌≡◌, refl, List, [], ◌∷◌, ◌++◌, length, replicate}
use Prim.Native.String.{String}
use Rattle.paper.specs.Bytes.{bytes}
use Rattle.paper.specs.Hex.{hex}
use Rattle.paper.specs.Calls.{State}
use Rattle.paper.specs.Open.{everything}
use Rattle.cases.specs.Answers.{Call, lists, shows, keeps, agreeing, same_state, meets, failing}
use Rattle.limits.specs.Limits.{lists_not, over, storing, roomy, ten_end, padded, unsound}
use Rattle.asked.specs.Typed.{two_names, shows_not}

-- ---- calls

-- a text kept in a store of this many bytes, which it fills: where its item begins and ends, and the line
unfoldable pub keeps_as : List ℕ → ℕ → ℕ → ℕ → String → Call
keeps_as text size place end line = keeps text (roomy 0 0 size) 4 place end (storing (hex line))

-- a text refused with wrong lines kept: nothing changes
unfoldable pub keeps_not : List ℕ → State → ℕ → ℕ → ℕ → Call
keeps_not text s number place end = keeps text s number place end s

-- a store of one line that lists as this text, with just room for it
unfoldable pub error_lists : String → List ℕ → ℕ → Call
error_lists line text n = lists n (storing (hex line)) (replicate (length text) 0) 0 (length text) text

-- one that does not
unfoldable pub error_not : String → Call
error_not line = lists_not 10 (storing (hex line)) (replicate 20 7) 10

-- ---- texts

unfoldable pub of_kept_texts : List Call
of_kept_texts =
    -- the text after the digits, blanks and all; the byte at the place flipped, at the end A0 added
    keeps_as (bytes "30 GOTO") 12 7 7 "1E 00 0C 0C 37 20 47 4F 54 4F A0 9B"
    ∷ keeps_as (bytes "  030  GOTO  ") 15 13 13 "1E 00 0F 0F 37 20 20 47 4F 54 4F 20 20 A0 9B"
    ∷ keeps_as (bytes "10)") 7 2 3 "0A 00 07 07 37 A9 9B"
    ∷ keeps_as (bytes "10.5") 8 2 4 "0A 00 08 08 37 AE 35 9B"
    ∷ keeps_as (bytes "10 IF A<BORC GOTO 5") 23 13 17 "0A 00 17 17 37 20 49 46 20 41 3C 42 4F 52 43 20 C7 4F 54 4F 20 35 9B"
    ∷ keeps_as (bytes "32767 A") 9 7 7 "FF 7F 09 09 37 20 41 A0 9B"
    ∷ keeps_as (bytes "155 )") 8 4 5 "9B 00 08 08 37 20 A9 9B"
    -- any byte but 9B: above 7F, 1B elsewhere, a quote that is not closed
    ∷ keeps_as (bytes "10 " ++ 0xff ∷ 0x1b ∷ []) 9 3 4 "0A 00 09 09 37 20 7F 1B 9B"
    ∷ keeps_as (bytes "10 )" ++ 34 ∷ 0x1b ∷ []) 10 3 4 "0A 00 0A 0A 37 20 A9 22 1B 9B"
    -- a text of 120 bytes
    ∷ keeps (padded 120 "10 GOTO") (roomy 0 0 125) 4 120 120 (storing (hex "0A 00 7D 7D 37 20 47 4F 54 4F" ++ replicate 113 32 ++ hex "A0 9B"))
    -- no name is added, and none need have room
    ∷ keeps (bytes "10 A=B+") (over (hex "C3") 1 8 (replicate 12 0) 0) 4 7 7 (over (hex "C3") 1 8 (hex "0A 00 0C 0C 37 20 41 3D 42 2B A0 9B") 12)
    -- count of lines and greatest number: one more at the end, one more before it, one in the place of another
    ∷ keeps (bytes "20 )") (over [] 0 0 (ten_end ++ replicate 8 9) 6) 4 3 4 (over [] 0 0 (ten_end ++ hex "14 00 08 08 37 20 A9 9B") 14)
    ∷ keeps (bytes "5 )") (over [] 0 0 (ten_end ++ replicate 8 9) 6) 4 2 3 (over [] 0 0 (hex "05 00 08 08 37 20 A9 9B" ++ ten_end) 14)
    ∷ keeps (bytes "10 )") (over [] 0 0 (ten_end ++ hex "14 00 06 06 12 16 EE EE EE") 12) 4 3 4 (over [] 0 0 (hex "0A 00 08 08 37 20 A9 9B 14 00 06 06 12 16 EE") 14)
    -- a shorter line in the place of a longer: what stands past the new end stays
    ∷ keeps (bytes "10)") (storing (hex "0A 00 09 06 15 14 09 15 16")) 4 2 3 (over [] 0 0 (hex "0A 00 07 07 37 A9 9B 15 16") 7)
    ∷ []

unfoldable pub of_texts_not_kept : List Call
of_texts_not_kept =
    -- a 9B anywhere: after the place, before it in a string, in the text of REM, at the place; a 1B at the place
    keeps_not (bytes "10 )" ++ 0x9b ∷ []) (roomy 0 0 20) 4 3 4
    ∷ keeps_not (bytes "10 ?" ++ 34 ∷ 0x9b ∷ []) (roomy 0 0 20) 4 4 5
    ∷ keeps_not (bytes "10 REM" ++ 0x9b ∷ []) (roomy 0 0 20) 4 6 7
    ∷ keeps_not (bytes "10 " ++ 0x9b ∷ []) (roomy 0 0 20) 4 3 4
    ∷ keeps_not (bytes "10 " ++ 0x1b ∷ []) (roomy 0 0 20) 4 3 4
    ∷ keeps_not (bytes "10 A=" ++ 0x1b ∷ bytes "B") (roomy 8 8 20) 4 5 6
    -- only 4: not 1, 2, 3, 5, 6, 7, 8, 9
    ∷ keeps_not (bytes "20 )") unsound 1 0 0
    ∷ keeps_not (padded 121 "10 GOTO") (roomy 0 0 200) 2 0 0
    ∷ keeps_not (bytes "32768 )") (roomy 0 0 20) 3 0 0
    ∷ keeps_not [] (roomy 0 0 20) 3 0 0
    ∷ keeps_not (bytes ")") (roomy 0 0 20) 3 0 0
    ∷ keeps_not (bytes "10 A=1E98") (roomy 8 8 20) 5 5 9
    ∷ keeps_not (bytes "10 A=1E98)") (roomy 8 8 20) 5 5 9
    ∷ keeps_not (bytes "10 NEXT A") (roomy 0 0 20) 6 0 0
    ∷ keeps_not (bytes "10 END") (roomy 0 0 5) 8 0 0
    ∷ keeps_not (bytes "20") (storing ten_end) 9 0 0
    -- 8 in the place of 4, by one byte; the room of the line that is replaced counts as free
    ∷ keeps_not (bytes "10 )") (roomy 0 0 7) 8 0 0
    ∷ keeps_not (bytes "20 )") (over [] 0 0 (ten_end ++ replicate 7 0) 6) 8 0 0
    ∷ keeps_not (bytes "10 )") (over [] 0 0 (ten_end ++ 0 ∷ []) 6) 8 0 0
    ∷ keeps (bytes "10 )") (over [] 0 0 (ten_end ++ 0 ∷ 0 ∷ []) 6) 4 3 4 (storing (hex "0A 00 08 08 37 20 A9 9B"))
    -- what is accepted, or deletes, is so with the switch
    ∷ keeps (bytes "10 END") (roomy 0 0 6) 0 0 0 (storing ten_end)
    ∷ keeps (bytes "10") (storing (hex "0A 00 06 06 37 9B")) 0 0 0 (over [] 0 0 (hex "0A 00 06 06 37 9B") 0)
    ∷ []

-- ---- listings

unfoldable pub of_error_lines : List Call
of_error_lines =
    error_lists "1E 00 0C 0C 37 20 47 4F 54 4F A0 9B" (bytes "30 ERROR-  GOTO" ++ 0xa0 ∷ []) 30
    ∷ error_lists "0A 00 06 06 37 9B" (bytes "10 ERROR- ") 10
    ∷ error_lists "FF 7F 07 07 37 00 9B" (bytes "32767 ERROR- " ++ 0 ∷ []) 32767
    ∷ error_lists "9B 00 07 07 37 16 9B" (bytes "155 ERROR- " ++ 0x16 ∷ []) 155
    -- a line of 155 bytes, and of 255
    ∷ lists 10 (storing (hex "0A 00 9B 9B 37" ++ replicate 149 65 ++ 0x9b ∷ [])) [] 11 0 []
    ∷ lists 10 (storing (hex "0A 00 FF FF 37" ++ replicate 249 65 ++ 0x9b ∷ [])) (replicate 259 0) 0 259 (bytes "10 ERROR- " ++ replicate 249 65)
    -- 11 by one byte; 9 and 1 before it
    ∷ lists_not 10 (storing (hex "0A 00 07 07 37 41 9B")) (replicate 10 7) 11
    ∷ lists_not 11 (storing (hex "0A 00 07 07 37 41 9B")) (replicate 10 7) 9
    ∷ lists_not 10 (storing (hex "0A 00 08 07 37 41 9B")) (replicate 20 7) 1
    -- no error line: offset, a 9B in the text, another end, no end, a statement after it, another token
    ∷ error_not "0A 00 08 07 37 41 42 9B"
    ∷ error_not "0A 00 08 09 37 41 42 9B"
    ∷ error_not "0A 00 08 08 37 9B 41 9B"
    ∷ error_not "0A 00 08 08 37 41 9B 9B"
    ∷ error_not "0A 00 08 08 37 41 42 16"
    ∷ error_not "0A 00 09 06 37 9B 09 15 16"
    ∷ error_not "0A 00 08 08 36 41 42 9B"
    ∷ error_not "0A 00 08 08 38 41 42 9B"
    -- in a line buffer: number 32768 alone; bytes past the line are not read
    ∷ shows (hex "00 80 07 07 37 41 9B 9B") two_names (replicate 9 0) 0 8 (bytes "ERROR- A" ++ 0 ∷ [])
    ∷ shows (hex "00 80 06 06 37 9B") two_names (replicate 7 0) 0 7 (bytes "ERROR- ")
    ∷ shows_not "00 80 07 07 37 41 9B" two_names (replicate 7 7) 11
    ∷ shows_not "0A 00 07 07 37 41 9B" two_names (replicate 20 7) 10
    ∷ shows_not "01 80 07 07 37 41 9B" two_names (replicate 20 7) 10
    ∷ shows_not "00 80 07 07 37 41" two_names (replicate 20 7) 10
    ∷ shows_not "00 80 07 07 37 41 9B" (over (hex "C1 C1") 2 16 [] 0) (replicate 20 7) 1
    ∷ []

-- the definitions give each of them so
pub kept_lines_so : failing 0 (of_kept_texts ++ of_texts_not_kept ++ of_error_lines) ≡ []
unfolding everything agreeing lists_not over storing roomy ten_end padded unsound two_names shows_not keeps_as keeps_not error_lists error_not of_kept_texts of_texts_not_kept of_error_lines same_state meets failing
kept_lines_so = refl
