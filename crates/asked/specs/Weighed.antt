-- What tokens save (document 02, §13): files with their columns, and reports, worked out by hand.
use Rattle.std.specs.Prelude.{ℕ, suc, ◌*◌, ◌≡◌, refl, Bool, ◌&&◌, List, [], ◌∷◌, ◌++◌, eqb, length, replicate, set, take}
use Prim.Native.String.{String}
use Rattle.paper.specs.Bytes.{pick, bytes, same}
use Rattle.paper.specs.Hex.{hex}
use Rattle.paper.specs.Files.{saved_file}
use Rattle.paper.specs.Weigh.{Columns, weigh, opened, not_opened, Named, report}
use Rattle.paper.specs.Open.{everything}
use Rattle.cases.specs.Answers.{agreeing}

-- the file of a program of these names, so many, and these lines
unfoldable pub file_of : String → ℕ → String → List ℕ
file_of names count lines = saved_file (agreeing (hex names) (length (hex names)) count (replicate (8 * count) 0) (hex lines) (length (hex lines)))

-- ---- files

-- a file: the number, and the columns in the order in which they are printed
pub record Weighing : Type 0 where
  pub file : List ℕ
  pub number : ℕ
  pub columns : List ℕ

unfoldable pub weighs : List ℕ → List ℕ → Weighing
weighs f c = record { file = f; number = 0; columns = c }

unfoldable pub refuses : ℕ → List ℕ → Weighing
refuses k f = record { file = f; number = k; columns = replicate 9 0 }

unfoldable pub in_order : Columns → List ℕ
in_order c = c.lines ∷ c.names ∷ c.used ∷ c.listing ∷ c.variables ∷ c.numbers ∷ c.strings ∷ c.raw_text ∷ c.others ∷ []

unfoldable pub weighs? : Weighing → Bool
weighs? c = let w = weigh c.file in eqb w.number c.number && same (in_order w.columns) c.columns

unfoldable pub others : ℕ → List Weighing → List ℕ
others i [] = []
others i (c ∷ cs) = let more = others (suc i) cs in pick (weighs? c) more (i ∷ more)

-- `10 PRINT A`, and its file
unfoldable pub small : List ℕ
small = file_of "C1" 1 "0A 00 07 07 20 80 16"

unfoldable pub weighings : List Weighing
weighings =
    -- no line, and a name that none uses
    weighs (file_of "" 0 "") (0 ∷ 0 ∷ 0 ∷ 0 ∷ 0 ∷ 0 ∷ 0 ∷ 0 ∷ 0 ∷ [])
    ∷ weighs (file_of "C1" 1 "") (0 ∷ 1 ∷ 0 ∷ 0 ∷ 0 ∷ 0 ∷ 0 ∷ 0 ∷ 0 ∷ [])
    ∷ weighs small (1 ∷ 1 ∷ 7 ∷ 11 ∷ 1 ∷ 0 ∷ 0 ∷ 0 ∷ 6 ∷ [])
    -- 0 END; 32767 END
    ∷ weighs (file_of "" 0 "00 00 06 06 15 16 FF 7F 06 06 15 16") (2 ∷ 0 ∷ 12 ∷ 18 ∷ 0 ∷ 0 ∷ 0 ∷ 0 ∷ 12 ∷ [])
    -- 10 IF A$="" THEN B=-10:END
    ∷ weighs (file_of "41 A4 C2" 2 "0A 00 1A 0A 07 80 34 0F 00 1B 17 36 81 2D 36 0E 42 10 00 00 00 00 14 1A 15 16") (1 ∷ 2 ∷ 26 ∷ 32 ∷ 2 ∷ 7 ∷ 2 ∷ 0 ∷ 15 ∷ [])
    -- 10 GET #1,A:? #1;RND(A)
    ∷ weighs (file_of "C1" 1 "0A 00 20 10 29 1C 0E 40 01 00 00 00 00 12 80 14 20 28 1C 0E 40 01 00 00 00 00 15 48 3A 80 2C 16") (1 ∷ 1 ∷ 32 ∷ 24 ∷ 2 ∷ 14 ∷ 0 ∷ 0 ∷ 16 ∷ [])
    -- 10 ON A GOTO 1,2
    ∷ weighs (file_of "C1" 1 "0A 00 17 17 1E 80 17 0E 40 01 00 00 00 00 12 0E 40 02 00 00 00 00 16") (1 ∷ 1 ∷ 23 ∷ 17 ∷ 1 ∷ 14 ∷ 0 ∷ 0 ∷ 8 ∷ [])
    -- 10 DATA 1,2; 20 DATA; an error line with the text GOTO and a marked end; one without text
    ∷ weighs (file_of "" 0 "0A 00 09 09 01 31 2C 32 9B 14 00 06 06 01 9B 1E 00 0B 0B 37 47 4F 54 4F A0 9B 28 00 06 06 37 9B") (4 ∷ 0 ∷ 32 ∷ 48 ∷ 0 ∷ 0 ∷ 0 ∷ 8 ∷ 24 ∷ [])
    -- 12; 12 before 13; 13; 13 before 1; 1 before 10
    ∷ refuses 12 []
    ∷ refuses 12 (take 13 small)
    ∷ refuses 12 (set small 0 1 ++ 0 ∷ [])
    ∷ refuses 13 (small ++ 0 ∷ [])
    ∷ refuses 13 (file_of "C1 C1" 2 "" ++ 0 ∷ [])
    ∷ refuses 1 (file_of "C1 C1" 2 "0A 00 07 07 20 80 14")
    -- 10: a last line that is not well-formed, a number that no name has, a second 9B in an error line, an error line with a wrong offset
    ∷ refuses 10 (file_of "C1" 1 "0A 00 07 07 20 80 16 14 00 07 07 20 80 14")
    ∷ refuses 10 (file_of "C1" 1 "0A 00 07 07 20 81 16")
    ∷ refuses 10 (file_of "" 0 "0A 00 08 08 37 9B 41 9B")
    ∷ refuses 10 (file_of "" 0 "0A 00 07 06 37 41 9B")
    ∷ []

-- the definitions weigh them so
pub weighings_met : others 0 weighings ≡ []
unfolding everything agreeing file_of weighs refuses in_order weighs? others small weighings
weighings_met = refl

-- ---- reports

-- a name, and the file that stands under it
unfoldable pub under : String → List ℕ → Named
under name f = record { name = bytes name; found = opened f }

-- no file under a name, which may be empty
unfoldable pub lost : String → Named
lost name = record { name = bytes name; found = not_opened }

-- names as they are listed, with blanks; a name twice; refused programs first, between and last; a program named as the last line is
pub reports_met : report (lost "" ∷ under " a b " small ∷ under "x" [] ∷ under " a b " small ∷ under "total" (file_of "C1" 1 "") ∷ lost "lost" ∷ [])
    ≡ bytes
    "\trefused\t14\n a b \t1\t1\t7\t11\t1\t0\t0\t0\t6\nx\trefused\t12\n a b \t1\t1\t7\t11\t1\t0\t0\t0\t6\ntotal\t0\t1\t0\t0\t0\t0\t0\t0\t0\nlost\trefused\t14\ntotal\t2\t3\t14\t22\t2\t0\t0\t0\t12\n"
unfolding everything agreeing file_of small under lost
reports_met = refl

-- `total` alone: after no name, and after refused ones
pub nothing_met : report (lost "A" ∷ []) ≡ bytes "A\trefused\t14\n" ++ report []
unfolding everything lost
nothing_met = refl
