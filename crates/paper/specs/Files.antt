-- The saved program file (document 02, §7). It begins with seven words of two bytes, low byte first: zero, and where the names lie, their end, the values, the
-- statements, the current line and the end of all (source document 000, chapter 10: they are the pointers to the tables less the first pointer). Then comes the
-- block of these tables, which begins where the second word says.
use Rattle.std.specs.Prelude.{ℕ, zero, suc, ◌+◌, ◌-◌, ◌*◌, ◌/◌, ◌%◌, Bool, true, not, ◌&&◌, ◌||◌, List, [], ◌∷◌, ◌++◌, leb, ltb, eqb, length, take, drop, get_or}
use Rattle.paper.specs.Bytes.{pick, joined}
use Rattle.paper.specs.Tokens.{statement, operator}
use Rattle.paper.specs.Names.{names_in, sound_table}
use Rattle.paper.specs.Line.{line_bytes, line_number, direct_number, direct_number?}
use Rattle.paper.specs.Store.{lines_in, greatest_number, sound_lines, room, overwritten}
use Rattle.paper.specs.Calls.{State, sound_state}

-- a number as two bytes, low byte first
unfoldable pub word_bytes : ℕ → List ℕ
word_bytes n = n % 256 ∷ n / 256 ∷ []

-- words as bytes
unfoldable pub words_bytes : List ℕ → List ℕ
words_bytes [] = []
words_bytes (n ∷ ns) = word_bytes n ++ words_bytes ns

-- word i of a file, counted from 0
unfoldable pub word_at : List ℕ → ℕ → ℕ
word_at file i = get_or file (2 * i) 0 + 256 * get_or file (suc (2 * i)) 0

-- how many bytes the words take
abbrev pub head_size : ℕ
head_size = 14

-- ---- writing: refusals 1, 8

-- the writer's current line: END alone, with number 32768
unfoldable pub end_line : List ℕ
end_line = line_bytes [] direct_number (statement 0x15 ∷ operator 0x16 ∷ [])

-- the writer's words: the names begin at 256, a zero byte stands after them, and the current line is the last
unfoldable pub saved_words : State → List ℕ
saved_words s =
    let names_end = 256 + s.name_size in
    let statements = names_end + 1 + 8 * s.name_count in
    let current = statements + s.used in
    0 ∷ 256 ∷ names_end ∷ (names_end + 1) ∷ statements ∷ current ∷ (current + length end_line) ∷ []

-- the writer's block: the names and their zero byte, the values, the stored lines, the current line
unfoldable pub saved_block : State → List ℕ
saved_block s = take s.name_size s.names ++ 0 ∷ (take (8 * s.name_count) s.values ++ (take s.used s.store ++ end_line))

-- the file of a program
unfoldable pub saved_file : State → List ℕ
saved_file s = words_bytes (saved_words s) ++ saved_block s

-- what writing a file answers: number and bytes written; and the buffer afterwards
pub record Saved : Type 0 where
  pub number : ℕ
  pub written : ℕ
  pub output : List ℕ

-- a refusal writes nothing
unfoldable pub not_saved : ℕ → List ℕ → Saved
not_saved number output = record { number = number; written = 0; output = output }

-- 8: the last word is above 65,535, or the lent buffer is too short for the file
unfoldable pub too_long? : State → List ℕ → Bool
too_long? s output = ltb 65535 (get_or (saved_words s) 6 0) || ltb (length output) (length (saved_file s))

-- 1, 8, or the file stands at the front of the buffer
unfoldable pub save : State → List ℕ → Saved
save s output =
    let file = saved_file s in
    let saved : Saved = record { number = 0; written = length file; output = overwritten file output } in
    pick (not (sound_state s)) (not_saved 1 output) (pick (too_long? s output) (not_saved 8 output) saved)

-- ---- reading: refusals 12, 13, 1, 8

-- words that never fall: from word i on, each of the next n is at least the one before it
unfoldable pub never_fall : List ℕ → ℕ → ℕ → Bool
never_fall file i zero = true
never_fall file i (suc n) = leb (word_at file i) (word_at file (suc i)) && never_fall file (suc i) n

-- The parts of a file's block: the names, without the zero byte after them; the values; the lines, without a last one of number 32768.
pub record Parts : Type 0 where
  pub names : List ℕ
  pub values : List ℕ
  pub lines : List (List ℕ)

-- a whole line with number 32768
unfoldable pub direct_whole? : List ℕ → Bool
direct_whole? l = leb 6 (length l) && (eqb (get_or l 2 0) (length l) && direct_number? (line_number l))

-- lines without a last one of number 32768, whatever that holds
unfoldable pub without_direct : List (List ℕ) → List (List ℕ)
without_direct [] = []
without_direct (l ∷ []) = pick (direct_whole? l) [] (l ∷ [])
without_direct (l ∷ m ∷ ms) = l ∷ without_direct (m ∷ ms)

-- the parts of a file
unfoldable pub parts_of : List ℕ → Parts
parts_of file =
    let block = drop head_size file in
    let from = word_at file 1 in
    record {
      names = take (word_at file 2 - from) block;
      values = take (word_at file 4 - word_at file 3) (drop (word_at file 3 - from) block);
      lines = without_direct (lines_in (drop (word_at file 4 - from) block));
    }

-- 12: a file of less than 14 bytes, or a first word that is not zero
unfoldable pub no_head? : List ℕ → Bool
no_head? file = ltb (length file) head_size || not (eqb (word_at file 0) 0)

-- 13 if not: words that never fall, a block as long as the last less the second, the values just past the place of the third, and a zero byte there
unfoldable pub right_words? : List ℕ → Bool
right_words? file =
    let block = drop head_size file in
    let from = word_at file 1 in
    never_fall file 0 6
    && (eqb (length block) (word_at file 6 - from) && (eqb (word_at file 3) (suc (word_at file 2)) && eqb (get_or block (word_at file 2 - from) 1) 0))

-- 1 if not: sound names, eight value bytes a name, sound lines
unfoldable pub sound_parts? : Parts → Bool
sound_parts? p =
    let count = length (names_in p.names) in
    sound_table p.names (length p.names) count && (eqb (length p.values) (8 * count) && sound_lines p.lines)

-- 12, 13, 1, in this order; or what comes of a file with nothing wrong
unfoldable pub unless_faulty : {A : Type 0} → (ℕ → A) → List ℕ → A → A
unless_faulty refuse file accepted = pick (no_head? file) (refuse 12) (pick (not (right_words? file)) (refuse 13) (pick (not (sound_parts? (parts_of file))) (refuse 1) accepted))

-- 8: a lent buffer is too small
unfoldable pub too_small? : Parts → State → Bool
too_small? p s = ltb (length s.names) (length p.names) || (ltb (length s.values) (length p.values) || ltb (room s.store) (length (joined p.lines)))

-- the lent buffers with the parts at their fronts, and the record of these
unfoldable pub loaded_state : Parts → State → State
loaded_state p s =
    let lines = joined p.lines in record {
      names = overwritten p.names s.names;
      name_size = length p.names;
      name_count = length (names_in p.names);
      values = overwritten p.values s.values;
      store = overwritten lines s.store;
      used = length lines;
      line_count = length p.lines;
      greatest = greatest_number p.lines;
    }

-- what reading a file answers, and the state afterwards
pub record Loaded : Type 0 where
  pub number : ℕ
  pub after : State

-- a refusal changes nothing
unfoldable pub not_loaded : State → ℕ → Loaded
not_loaded s number = record { number = number; after = s }

-- a file read into lent buffers, whatever they held: 12, 13, 1, 8, or its program stands there
unfoldable pub load : List ℕ → State → Loaded
load file s =
    let p = parts_of file in
    let loaded : Loaded = record { number = 0; after = loaded_state p s } in
    unless_faulty (not_loaded s) file (pick (too_small? p s) (not_loaded s 8) loaded)
