-- More than 128 names (document 02, §11): texts with their lines, lines with their listings, and calls, worked out by hand. The names are A0 to A9, B0 to B9
-- and so on, so that M7 has the number 127, M8 128 and Z5 255. The limit itself stands in crate `limits`.
use Rattle.std.specs.Prelude.{ℕ, ◌≡◌, refl, List, [], ◌∷◌, ◌++◌, map, replicate}
use Prim.Native.String.{String}
use Rattle.paper.specs.Bytes.{pick, bytes}
use Rattle.paper.specs.Hex.{hex}
use Rattle.paper.specs.Tokens.{Token}
use Rattle.paper.specs.Names.{names_in}
use Rattle.paper.specs.Line.{line_bytes}
use Rattle.paper.specs.WellFormed.{well_formed?}
use Rattle.paper.specs.Listing.{listing}
use Rattle.paper.specs.Calls.{Translated, tokens, refused_at, translate}
use Rattle.paper.specs.Open.{everything}
use Rattle.cases.specs.Answers.{Call, enters, agreeing, same_state, meets, failing}
use Rattle.limits.specs.Limits.{refuses_at, refuses, over, ones, one_tokens, two_byte_names}

-- the first n names
unfoldable pub names_to : ℕ → List (List ℕ)
names_to n = names_in (two_byte_names 0 n)

-- ---- what is written

unfoldable pub tokens_in : Translated → List Token
tokens_in (tokens ts) = ts
tokens_in (refused_at k p) = []

-- line 10 with the statements of a text, over all names
unfoldable pub line_of : String → List ℕ
line_of text = line_bytes (names_to 256) 10 (tokens_in (translate 0 (bytes text)))

-- In every place of a statement the name's own number tells the form, and offsets and length count both bytes.
pub lines_written : map line_of ("M7=M8" ∷ "M8=M7" ∷ "READ A0,Z5,M8" ∷ "FOR Z0=Z1 TO Z2" ∷ "IF Z0 THEN PRINT Z1" ∷ "IF Z0 THEN Z1=Z2" ∷ "Z5=Z4:A0=Z5" ∷ [])
    ≡ map hex ("0A 00 0A 0A 36 FF 2D 00 00 16" ∷ "0A 00 0A 0A 36 00 00 2D FF 16" ∷ "0A 00 0D 0D 22 80 12 00 7F 12 00 00 16" ∷ "0A 00 0E 0E 08 00 7A 2D 00 7B 19 00 7C 16"
    ∷ "0A 00 0D 08 07 00 7A 1B 0D 20 00 7B 16" ∷ "0A 00 10 08 07 00 7A 1B 10 36 00 7B 2D 00 7C 16" ∷ "0A 00 12 0B 36 00 7F 2D 00 7E 14 12 36 80 2D 00 7F 16" ∷ [])
unfolding everything two_byte_names names_to tokens_in line_of
lines_written = refl

-- ---- what is read

-- the listing of a line over some names, or nothing if it is not well-formed
unfoldable pub listed_over : List (List ℕ) → String → List ℕ
listed_over ns l = pick (well_formed? ns (hex l)) (listing ns (hex l)) []

-- Well-formed: the last number, the first after 36, and the forms that there were. REM's own token is no variable's.
pub lines_read : map (listed_over (names_to 256)) ("0A 00 08 08 20 00 7F 16" ∷ "0A 00 0A 0A 36 00 00 2D FF 16" ∷ "0A 00 07 07 20 FF 16" ∷ "0A 00 07 07 00 41 9B" ∷ [])
    ≡ map bytes ("10 PRINT Z5" ∷ "10 M8=M7" ∷ "10 PRINT M7" ∷ "10 REM A" ∷ [])
unfolding everything two_byte_names names_to listed_over
lines_read = refl

-- Not well-formed: 00 before 80 or FF, after 36 too; an offset or a length that counts one byte of it; a token that the line's end cuts off.
pub lines_not_read : map (listed_over (names_to 256))
    ("0A 00 08 08 20 00 80 16" ∷ "0A 00 08 08 20 00 FF 16" ∷ "0A 00 0A 0A 36 00 80 2D FF 16" ∷ "0A 00 08 07 20 00 7F 16" ∷ "0A 00 07 08 20 00 7F 16" ∷ "0A 00 06 06 20 00" ∷ "0A 00 06 06 36 00" ∷ [])
    ≡ replicate 7 []
unfolding everything two_byte_names names_to listed_over
lines_not_read = refl

-- A number needs its name: of 200 names the last has 00 47, and of 100 none has the longer form.
pub names_needed : (listed_over (names_to 200) "0A 00 08 08 20 00 47 16" ≡ bytes "10 PRINT T9") × (listed_over (names_to 200) "0A 00 08 08 20 00 48 16" ≡ []) × (listed_over (names_to 100) "0A 00 08 08 20 00 00 16" ≡ [])
unfolding everything two_byte_names names_to listed_over
names_needed = (refl, refl, refl)

-- The rule on names after 36 holds for both forms: PRINT as name 128 may stand after LET alone.
pub words_after_36 : map (listed_over (names_to 128 ++ bytes "PRINT" ∷ [])) ("0A 00 0A 0A 36 00 00 2D FF 16" ∷ "0A 00 0A 0A 06 00 00 2D FF 16" ∷ []) ≡ [] ∷ bytes "10 LET PRINT=M7" ∷ []
unfolding everything two_byte_names names_to listed_over
words_after_36 = refl

-- ---- 7 and 8 count both bytes

-- a line that has 255 bytes with the name 127 has 256 with the name 128; one of 7 bytes has 8
unfoldable pub sized : List Call
sized =
    enters (bytes "10 ON M7 GOTO 1" ++ ones 30) (over (two_byte_names 0 129) 129 1032 (replicate 256 0) 0) 0 0 0 0 (over (two_byte_names 0 129) 129 1032 (hex "0A 00 FF FF 1E FF 17 0E 40 01 00 00 00 00" ++ one_tokens 30 ++ 0x16 ∷ 0 ∷ []) 255)
    ∷ refuses (bytes "10 ON M8 GOTO 1" ++ ones 30) (over (two_byte_names 0 129) 129 1032 (replicate 256 0) 0) 7
    ∷ refuses (bytes "10 NEXT M8") (over (two_byte_names 0 129) 129 1032 (replicate 7 0) 0) 8
    ∷ enters (bytes "10 NEXT M8") (over (two_byte_names 0 129) 129 1032 (replicate 8 0) 0) 0 0 0 0 (over (two_byte_names 0 129) 129 1032 (hex "0A 00 08 08 09 00 00 16") 8)
    ∷ []

pub sizes_counted : failing 0 sized ≡ []
unfolding everything agreeing refuses_at refuses over ones one_tokens two_byte_names sized same_state meets failing
sizes_counted = refl
