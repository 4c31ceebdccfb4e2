-- Texts with a quote left open (document 02, §2), each with its whole answer, worked out by hand.
use Rattle.std.specs.Prelude.{ℕ, ◌≡◌, refl, List, [], ◌∷◌, ◌++◌, replicate}
use Prim.Native.String.{String}
use Rattle.paper.specs.Bytes.{bytes}
use Rattle.paper.specs.Hex.{hex}
use Rattle.paper.specs.Open.{everything}
use Rattle.cases.specs.Answers.{Call, enters, lists, agreeing, same_state, meets, failing}
use Rattle.limits.specs.Limits.{refuses_at, refuses, over, storing, roomy}

-- a text without names that just fills the store with this line
unfoldable pub fills : ℕ → String → String → Call
fills n text line = enters (bytes text) (roomy 0 0 n) 0 0 0 0 (storing (hex line))

-- `10 ?"` and 115 bytes, the quote left open: 120 bytes, and the line of 123 that it is
unfoldable pub longest_open : List ℕ
longest_open = bytes "10 ?\"" ++ replicate 115 65

unfoldable pub longest_line : List ℕ
longest_line = hex "0A 00 7B 7B 28 0F 73" ++ replicate 115 65 ++ 0x16 ∷ []

unfoldable pub longest_listing : List ℕ
longest_listing = bytes "10 ? \"" ++ replicate 115 65 ++ 34 ∷ []

unfoldable pub of_quotes : List Call
of_quotes =
    -- to the text's end, blanks and all; a lone last quote
    fills 9 "10 ?\"A" "0A 00 09 09 28 0F 01 41 16"
    ∷ fills 11 "10 ?\"A  " "0A 00 0B 0B 28 0F 03 41 20 20 16"
    ∷ fills 8 "10 ?\"" "0A 00 08 08 28 0F 00 16"
    ∷ enters (bytes "10 A$=\"X") (roomy 2 8 11) 0 0 0 1 (record { names = hex "41 A4"; name_size = 2; name_count = 1; values = hex "80 00 00 00 00 00 00 00"; store = hex "0A 00 0B 0B 36 80 2E 0F 01 58 16"; used = 11; line_count = 1; greatest = 10 })
    -- the token of the closed string
    ∷ fills 9 "10 ?\"A\"" "0A 00 09 09 28 0F 01 41 16"
    -- all that stands after the quote is string
    ∷ fills 13 "10 ?\"B:END" "0A 00 0D 0D 28 0F 05 42 3A 45 4E 44 16"
    ∷ fills 13 "10 ?\"A\";\"B" "0A 00 0D 0D 28 0F 01 41 15 0F 01 42 16"
    ∷ refuses_at (bytes "10 A=LEN(\"A)") (roomy 8 8 30) 4 12 12
    ∷ refuses_at (bytes "10 ?\"A\"\"") (roomy 0 0 30) 4 7 8
    ∷ refuses_at (bytes "10 ?\"A\"B\"") (roomy 0 0 30) 4 7 8
    ∷ refuses_at (bytes "10 IF A$=\"X THEN 5") (roomy 8 8 30) 4 18 18
    -- where no string may stand
    ∷ refuses_at (bytes "10 NEXT \"A") (roomy 8 8 30) 4 8 10
    ∷ refuses_at (bytes "10 \"A") (roomy 8 8 30) 4 3 5
    ∷ refuses_at (bytes "10 READ A$\"") (roomy 8 8 30) 4 10 11
    -- 9B in it, closed or not, where a string may stand and where not
    ∷ refuses_at (hex "31 30 20 3F 22 41 9B 42") (roomy 0 0 30) 4 4 6
    ∷ refuses_at (hex "31 30 20 3F 22 41 9B 42 22") (roomy 0 0 30) 4 4 6
    ∷ refuses_at (hex "31 30 20 3F 22 41 9B") (roomy 0 0 30) 4 4 6
    ∷ refuses_at (hex "31 30 20 3F 22 9B") (roomy 0 0 30) 4 4 5
    ∷ refuses_at (hex "31 30 20 4E 45 58 54 20 22 9B") (roomy 0 0 30) 4 8 9
    ∷ refuses_at (hex "31 30 20 3F 22 41 22 3B 22 9B") (roomy 0 0 30) 4 8 9
    -- a 9B after the closing quote is an item of its own
    ∷ refuses_at (hex "31 30 20 3F 22 41 22 9B") (roomy 0 0 30) 4 7 8
    -- raw text as before
    ∷ fills 8 "10 REM \"A" "0A 00 08 08 00 22 41 9B"
    ∷ fills 8 "10 DATA \"A" "0A 00 08 08 01 22 41 9B"
    -- room in the store: just enough, one short
    ∷ fills 10 "10 ?\"AB" "0A 00 0A 0A 28 0F 02 41 42 16"
    ∷ refuses (bytes "10 ?\"AB") (roomy 0 0 9) 8
    -- the listing has the closing quote
    ∷ lists 10 (storing (hex "0A 00 0A 0A 28 0F 02 41 20 16")) (replicate 9 0) 0 9 (bytes "10 ? \"A \"")
    ∷ lists 10 (storing (hex "0A 00 0A 0A 28 0F 02 41 20 16")) (replicate 8 0) 11 0 (replicate 8 0)
    -- a text of 120 bytes may list in more, and the listing is then too long to be entered
    ∷ enters longest_open (roomy 0 0 123) 0 0 0 0 (storing longest_line)
    ∷ lists 10 (storing longest_line) (replicate 122 0) 0 122 longest_listing
    ∷ refuses longest_listing (storing longest_line) 2
    ∷ []

-- the definitions give each of them so
pub quotes : failing 0 of_quotes ≡ []
unfolding everything agreeing refuses_at refuses over storing roomy fills longest_open longest_line longest_listing of_quotes same_state meets failing
quotes = refl
