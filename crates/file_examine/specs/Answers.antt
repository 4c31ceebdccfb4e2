-- What examining a saved program file answers: document 02's §10 over the parts of a file of §7.
use Rattle.std.specs.Prelude.{ℕ, suc, ◌*◌, not, List, [], ◌∷◌, leb, eqb, length, Result, Ok, Err}
use Rattle.paper.specs.Bytes.{pick, joined}
use Rattle.paper.specs.Names.{names_in, sound_table}
use Rattle.paper.specs.Files.{Parts, parts_of, no_head?, right_words?, sound_parts?}
use Rattle.paper.specs.Examine.{yes, unsound_names, unsound_values, unsound_store, examine}
use Rattle.paper.specs.Examine.{Verdict as Answer}
use Rattle.editor_examine.specs.Verdicts.{verdict}
use Rattle.refusals.specs.Numbers.{number_of}
use Rattle.file_examine.specs.declared.Fault.{Fault}
use Rattle.file_examine.specs.declared.Fault.TheVariants.{NotRead, Flawed}

-- the answer: the number of the refusal that reading the file gives, or the answer of its program
pub data Judged : Type 0 where
  not_read : ℕ → Judged
  program : Answer → Judged

-- of parts that are not sound, which is the first: the names, as many as they are; the values, eight bytes a name; or else the lines
unfoldable pub unsound_part : Parts → Answer
unsound_part p =
    let count = length (names_in p.names) in
    pick (not (sound_table p.names (length p.names) count)) unsound_names (pick (not (eqb (length p.values) (8 * count))) unsound_values unsound_store)

-- of parts that are sound, what examining them answers
unfoldable pub examined_parts : Parts → Answer
examined_parts p = let lines = joined p.lines in examine p.names (length p.names) (length (names_in p.names)) p.values lines (length lines)

-- a file examined: 12, 13, which part is unsound, or what examining them answers
unfoldable pub examine_file : List ℕ → Judged
examine_file file =
    let p = parts_of file in
    pick (no_head? file) (not_read 12) (pick (not (right_words? file)) (not_read 13) (pick (not (sound_parts? p)) (program (unsound_part p)) (program (examined_parts p))))

-- the answer of the code as that of the definitions
unfoldable pub examined : Result (Unit {0}) Fault → Judged
examined (Ok u) = program yes
examined (Err (NotRead r)) = not_read (number_of r)
examined (Err (Flawed f)) = program (verdict (Err f))

-- how many bytes have their top bit set
unfoldable pub name_ends : List ℕ → ℕ
name_ends [] = 0
name_ends (b ∷ bs) = let r = name_ends bs in pick (leb 128 b) (suc r) r
