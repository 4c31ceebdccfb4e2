-- Error lines (document 02, §9): a wrong line kept in the program, so that it can be listed and mended.
use Rattle.std.specs.Prelude.{ℕ, suc, ◌+◌, ◌/◌, ◌%◌, Bool, not, ◌&&◌, ◌||◌, List, [], ◌∷◌, ◌++◌, leb, eqb, length, take, drop, get_or}
use Rattle.paper.specs.Bytes.{pick, bytes, blank, run, every}
use Rattle.paper.specs.Items.{raw_byte?}
use Rattle.paper.specs.Line.{line_number}
use Rattle.paper.specs.WellFormed.{formed?}
use Rattle.paper.specs.Listing.{decimal, direct_listing}

-- the statement token of an error line
abbrev pub error_token : ℕ
error_token = 0x37

-- ---- how one is made

-- a byte with its top bit flipped (of a number that is no byte the low seven bits, so that 9B comes of 1B alone)
unfoldable pub flipped : ℕ → ℕ
flipped b = pick (leb 128 b) (b % 128) (b + 128)

-- a text with the byte at a place flipped; past its end a text has a blank, so that a place there adds a byte A0
unfoldable pub marked_at : ℕ → List ℕ → List ℕ
marked_at place text = take place text ++ flipped (get_or text place blank) ∷ drop (suc place) text

-- the error line with a number and a text: length, offset, 37, the text, 9B
unfoldable pub error_line : ℕ → List ℕ → List ℕ
error_line n text = n % 256 ∷ n / 256 ∷ (6 + length text) ∷ (6 + length text) ∷ error_token ∷ text ++ 0x9b ∷ []

-- a text that can be kept when it is refused at a place: it has no 9B, and no 1B at the place
unfoldable pub keepable? : ℕ → List ℕ → Bool
keepable? place text = every raw_byte? text && not (eqb (get_or text place blank) 0x1b)

-- ---- which lines are error lines

-- how long the text of an error line is: it runs to the first 9B
unfoldable pub error_size : List ℕ → ℕ
error_size l = run raw_byte? (drop 5 l)

-- the text
unfoldable pub error_text : List ℕ → List ℕ
error_text l = take (error_size l) (drop 5 l)

-- an error line: one statement 37, length and offset right, and 9B only at its end
unfoldable pub error_line? : List ℕ → Bool
error_line? l = eqb (6 + error_size l) (length l) && (eqb (get_or l 2 0) (length l) && (eqb (get_or l 3 0) (length l) && eqb (get_or l 4 0) error_token))

-- ---- lines that can be listed

-- such a line, with a number that it may have: well-formed, or an error line
unfoldable pub listable? : (ℕ → Bool) → List (List ℕ) → List ℕ → Bool
listable? lawful? ns l = formed? lawful? ns l || (lawful? (line_number l) && error_line? l)

-- its listing without the number: `ERROR-`, a blank and the text of an error line; the statements of any other
unfoldable pub line_text : List (List ℕ) → List ℕ → List ℕ
line_text ns l = pick (error_line? l) (bytes "ERROR- " ++ error_text l) (direct_listing ns l)

-- number, blank, and that
unfoldable pub line_listing : List (List ℕ) → List ℕ → List ℕ
line_listing ns l = decimal 5 (line_number l) ++ blank ∷ line_text ns l
