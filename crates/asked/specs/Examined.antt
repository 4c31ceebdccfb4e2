-- Programs from other tokenizers (document 02, §10): programs with their answers, worked out by hand.
use Rattle.std.specs.Prelude.{ℕ, suc, ◌≡◌, refl, Bool, ◌&&◌, List, [], ◌∷◌, eqb, length, replicate}
use Prim.Native.String.{String}
use Rattle.paper.specs.Bytes.{pick}
use Rattle.paper.specs.Hex.{hex}
use Rattle.paper.specs.Examine.{examine, verdict_number, verdict_line}
use Rattle.paper.specs.Open.{everything}

-- A program: its name table with the counts of bytes and names, how many bytes the value table has, its store with the bytes used; and the answer's two
-- numbers.
pub record Examined : Type 0 where
  pub names : List ℕ
  pub size : ℕ
  pub count : ℕ
  pub room : ℕ
  pub store : List ℕ
  pub used : ℕ
  pub which : ℕ
  pub line : ℕ

-- with all of its counts
unfoldable pub counted : String → ℕ → ℕ → ℕ → String → ℕ → ℕ → ℕ → Examined
counted names size count room store used which line = record { names = hex names; size = size; count = count; room = room; store = hex store; used = used; which = which; line = line }

-- a program that uses all bytes of its tables: names, with their count and eight bytes for each, and lines
unfoldable pub program : String → ℕ → ℕ → String → ℕ → ℕ → Examined
program names count room store which line = counted names (length (hex names)) count room store (length (hex store)) which line

-- the definitions give the answer
unfoldable pub answers? : Examined → Bool
answers? c =
    let v = examine c.names c.size c.count (replicate c.room 0) c.store c.used in
    eqb (verdict_number v) c.which && eqb (verdict_line v) c.line

-- the places in a table, from i on, of the programs that they do not answer so
unfoldable pub others : ℕ → List Examined → List ℕ
others i [] = []
others i (c ∷ cs) = let more = others (suc i) cs in pick (answers? c) more (i ∷ more)

-- `10 PRINT A`, `20 A$="X"` and `30 REM X`; and what is wrong with others
unfoldable pub programs : List Examined
programs =
    program "" 0 0 "" 0 0
    ∷ program "C1 41 A4" 2 16 "0A 00 07 07 20 80 16 14 00 0B 0B 36 81 2E 0F 01 58 16 1E 00 07 07 00 58 9B" 0 0
    -- bytes past the ends are not looked at
    ∷ counted "C1 41 A4 41" 3 2 24 "0A 00 07 07 20 80 16 14 00 0B 0B 36 81 2E 0F 01 58 16 1E 00 07 07 00 58 9B FF 00 00 37" 25 0 0
    -- names: one uncounted, one cut, one twice, a word, no letter first; and 128 are not passed by a count
    ∷ program "C1 41 A4" 1 16 "" 1 0
    ∷ counted "C1 41 A4" 2 2 16 "" 0 1 0
    ∷ counted "C1" 2 1 16 "" 0 1 0
    ∷ program "C1 C1" 2 16 "" 1 0
    ∷ program "4E 4F D4" 1 8 "" 1 0
    ∷ program "B1" 1 8 "" 1 0
    ∷ counted "C1" 1 129 2000 "" 0 1 0
    -- values: a byte short of eight for each name
    ∷ program "C1 C2" 2 15 "" 2 0
    ∷ program "C1 C2" 2 16 "" 0 0
    -- store: more used than there is, a line cut, one too short, numbers that fall or are equal, one above 32767
    ∷ counted "" 0 0 0 "0A 00 06 06 15 16" 7 3 0
    ∷ counted "" 0 0 0 "0A 00 06 06 15 16" 5 3 0
    ∷ program "" 0 0 "0A 00 05 05 16" 3 0
    ∷ program "" 0 0 "14 00 06 06 15 16 0A 00 06 06 15 16" 3 0
    ∷ program "" 0 0 "0A 00 06 06 15 16 0A 00 06 06 15 16" 3 0
    ∷ program "" 0 0 "00 80 06 06 15 16" 3 0
    -- the first of them in this order: names before values, these before the store, and all before any line
    ∷ counted "C1 C1" 2 2 0 "01" 1 1 0
    ∷ counted "C1" 1 1 0 "01" 1 2 0
    ∷ counted "C1" 1 1 8 "01" 1 3 0
    ∷ program "" 0 0 "0A 00 06 06 03 16 14 00 06 06 15 16 0F 00 06 06 15 16" 3 0
    -- lines: the first bad one, the last one, line 0, one whose variable is in no table, an offset that is wrong
    ∷ program "" 0 0 "0A 00 06 06 15 16 14 00 06 06 03 16 1E 00 06 06 03 16" 4 20
    ∷ program "" 0 0 "0A 00 06 06 15 16 14 00 06 06 15 16 1E 00 06 06 03 16" 4 30
    ∷ program "" 0 0 "00 00 06 06 03 16" 4 0
    ∷ program "C1" 1 8 "0A 00 07 07 20 80 16 14 00 07 07 20 81 16" 4 20
    ∷ program "" 0 0 "0A 00 06 05 15 16" 4 10
    -- a line of one statement 37 is bad, whatever its text, and if it has none
    ∷ program "" 0 0 "0A 00 06 06 15 16 14 00 0A 0A 37 20 47 4F A0 9B" 4 20
    ∷ program "" 0 0 "07 00 06 06 37 9B" 4 7
    ∷ []

-- all of them are answered so
pub examined_so : others 0 programs ≡ []
unfolding everything counted program answers? others programs
examined_so = refl
