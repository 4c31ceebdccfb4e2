-- Programs from other tokenizers (document 02, §10): tables and every line examined before a tag takes them.
use Rattle.std.specs.Prelude.{ℕ, ◌*◌, not, List, [], ◌∷◌, leb, length, take}
use Rattle.paper.specs.Bytes.{pick}
use Rattle.paper.specs.Names.{names_in, sound_table}
use Rattle.paper.specs.Line.{line_number}
use Rattle.paper.specs.WellFormed.{well_formed?}
use Rattle.paper.specs.Store.{lines_in, sound_store}

-- the answer: yes; or what is unsound; or the number of the first bad line
pub data Verdict : Type 0 where
  yes unsound_names unsound_values unsound_store : Verdict
  bad_line : ℕ → Verdict

-- of some lines the first that is not well-formed over the names; an error line (§9) is none that is
unfoldable pub first_bad : List (List ℕ) → List (List ℕ) → Verdict
first_bad ns [] = yes
first_bad ns (l ∷ ls) = let more = first_bad ns ls in pick (well_formed? ns l) more (bad_line (line_number l))

-- Names, room for their values, store, in this order, and then each line over the names. No record is lent but its counts of name bytes, names and bytes
-- used: the pair of §6 has no part in it.
unfoldable pub examine : List ℕ → ℕ → ℕ → List ℕ → List ℕ → ℕ → Verdict
examine names size count values store used =
    let lines = first_bad (names_in (take size names)) (lines_in (take used store)) in
    pick (not (sound_table names size count)) unsound_names
    (pick (not (leb (8 * count) (length values))) unsound_values
    (pick (not (sound_store store used)) unsound_store lines))

-- the answer's first number: 0 yes, 1 names, 2 values, 3 store, 4 a line
unfoldable pub verdict_number : Verdict → ℕ
verdict_number yes = 0
verdict_number unsound_names = 1
verdict_number unsound_values = 2
verdict_number unsound_store = 3
verdict_number (bad_line n) = 4

-- and its second: the number of the bad line, which may be 0 too, and 0 where there is none
unfoldable pub verdict_line : Verdict → ℕ
verdict_line yes = 0
verdict_line unsound_names = 0
verdict_line unsound_values = 0
verdict_line unsound_store = 0
verdict_line (bad_line n) = n
