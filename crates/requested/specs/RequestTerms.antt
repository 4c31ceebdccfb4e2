-- The terms in which the promises about document 02 are stated, beside those of `promises`.
use Rattle.std.specs.Prelude.{ℕ, zero, suc, ◌+◌, ◌-◌, ◌*◌, ◌≤◌, ◌<◌, ◌≡◌, Bool, not, ◌&&◌, ◌⊎◌, T, eqb, leb, length, take, drop, get_or}
use mathlib.Core.List.{List, [], ◌∷◌, ◌++◌, map, Memᴰ}
use Rattle.paper.specs.Bytes.{pick, every, joined}
use Rattle.paper.specs.Tokens.{Token, assigned, variable}
use Rattle.paper.specs.Names.{names_in, sound_names, name_bytes, number_of}
use Rattle.paper.specs.Items.{no_span, items, raw_byte?}
use Rattle.paper.specs.Line.{line_number, direct_number, direct_number?, tokens_from, line_tokens}
use Rattle.paper.specs.WellFormed.{WellFormed}
use Rattle.paper.specs.Listing.{listing}
use Rattle.paper.specs.Errors.{error_line?, line_text, line_listing}
use Rattle.paper.specs.Store.{sound_lines, room}
use Rattle.paper.specs.Calls.{State, names_of, lines_of, sound_state, Entered, enter_with}
use Rattle.paper.specs.Direct.{typed, line_in}
use Rattle.paper.specs.Batch.{text_lines, answers_to, RefusedLine, none_refused, Batched, no_lines, batch}
use Rattle.paper.specs.Examine.{Verdict, examine}
use Rattle.paper.specs.Files.{saved_words, saved_file, Saved, word_at, head_size, Parts, parts_of, Loaded, load}
use Rattle.paper.specs.Collect.{collect}
use Rattle.paper.specs.Weigh.{sum, Columns, columns_of, weigh_found, Named}
use Rattle.promises.specs.Terms.{AtFront, Exactly, Giving, HoldsWellFormed, LineTooLong, Listable, LongForm, NamesLackRoom, SomeUnlistable, SoundTable, TextTooLong, TooFar, Unread, Unsound, direct?, line_with, names_with, number_in, text_refusals, with_lines}

-- ---- when each number is answered

-- 8 of a line without a number: the line buffer is shorter than the line
abbrev pub BufferTooShort : List ℕ → State → List Token → Type 0
BufferTooShort buffer s ts = length buffer < length (line_with s direct_number ts)

-- typing a line without a number, whose items are those of the whole text
abbrev pub direct_refusals : List ℕ → State → List ℕ → List (ℕ × Type 0)
direct_refusals text s buffer =
    (1, Unsound s)
    ∷ (2, TextTooLong text)
    ∷ (4, Unread (items 0 text))
    ∷ (5, TooFar (items 0 text))
    ∷ (6, Giving (items 0 text) (λ ts. NamesLackRoom s (names_with s ts)))
    ∷ (7, Giving (items 0 text) (LineTooLong s direct_number))
    ∷ (8, Giving (items 0 text) (BufferTooShort buffer s))
    ∷ []

-- typing any text
abbrev pub typed_refusals : Bool → List ℕ → State → List ℕ → List (ℕ × Type 0)
typed_refusals keep text s buffer = pick (direct? text) (direct_refusals text s buffer) (text_refusals keep text s)

-- listing a line buffer; 1: the names are unsound, or the values lack room for all; 10: the line at its front is neither well-formed nor an error line
-- with number 32768
abbrev pub show_refusals : List ℕ → List ℕ → ℕ → ℕ → List ℕ → List ℕ → List (ℕ × Type 0)
show_refusals buffer names size count values output =
    (1, SoundTable (names_in (take size names)) names size count × (8 * count ≤ length values) → ⊥)
    ∷ (10, Listable direct_number? (names_in (take size names)) (line_in buffer) → ⊥)
    ∷ (11, length output < length (line_text (names_in (take size names)) (line_in buffer)))
    ∷ []

-- 8 of the writer: the last word is above 65,535, or the buffer is shorter than the file
abbrev pub FileTooLong : State → List ℕ → Type 0
FileTooLong s output = (65535 < get_or (saved_words s) 6 0) ⊎ (length output < length (saved_file s))

-- writing a file
abbrev pub save_refusals : State → List ℕ → List (ℕ × Type 0)
save_refusals s output = (1, Unsound s) ∷ (8, FileTooLong s output) ∷ []

-- 12: a file under 14 bytes, or a first word that is not zero
abbrev pub NoHead : List ℕ → Type 0
NoHead file = (length file < 14) ⊎ (word_at file 0 ≡ 0 → ⊥)

-- 13 if not: words never fall, the block is as long as the last word less the second, the values start just past the place of the third, and a zero byte
-- stands there
pub record RightWords (file : List ℕ) : Type 0 where
  pub rise : (i : ℕ) → i < 6 → word_at file i ≤ word_at file (suc i)
  pub block : length (drop head_size file) ≡ word_at file 6 - word_at file 1
  pub values : word_at file 3 ≡ suc (word_at file 2)
  pub zero_byte : get_or (drop head_size file) (word_at file 2 - word_at file 1) 1 ≡ 0

-- 1 if not: the bytes of the names are sound names, the values are eight bytes a name, the lines are sound
pub record SoundParts (p : Parts) : Type 0 where
  pub bytes : name_bytes (names_in p.names) ≡ p.names
  pub names : T (sound_names (names_in p.names))
  pub values : length p.values ≡ 8 * length (names_in p.names)
  pub lines : T (sound_lines p.lines)

-- 8 of the reader: a lent buffer is too small
abbrev pub BufferTooSmall : Parts → State → Type 0
BufferTooSmall p s = (length s.names < length p.names) ⊎ ((length s.values < length p.values) ⊎ (room s.store < length (joined p.lines)))

-- reading a file
abbrev pub load_refusals : List ℕ → State → List (ℕ × Type 0)
load_refusals file s = (12, NoHead file) ∷ (13, (RightWords file → ⊥)) ∷ (1, (SoundParts (parts_of file) → ⊥)) ∷ (8, BufferTooSmall (parts_of file) s) ∷ []

-- taking back unused names
abbrev pub collect_refusals : State → List (ℕ × Type 0)
collect_refusals s = (1, Unsound s) ∷ (10, SomeUnlistable (names_of s) (lines_of s)) ∷ []

-- weighing a file (document 02, §13); 14: it is over 65,535 bytes; then 12, 13 and 1 of the reader; 10 of its lines
abbrev pub weigh_refusals : List ℕ → List (ℕ × Type 0)
weigh_refusals file =
    let p = parts_of file in
    (14, 65535 < length file) ∷ (12, NoHead file) ∷ (13, (RightWords file → ⊥)) ∷ (1, (SoundParts p → ⊥)) ∷ (10, SomeUnlistable (names_in p.names) p.lines) ∷ []

-- ---- the record

-- A record that is reached from an empty one by calls, with wrong lines kept or not, whatever they answer. An empty record has no bytes used and two zeros; nothing is asked of
-- its tables.
pub data Reached : State → Type 0 where
  empty_record : (s : State) → s.used ≡ 0 → s.line_count ≡ 0 → s.greatest ≡ 0 → Reached s
  after_typed : (keep : Bool) (text : List ℕ) (s : State) (buffer : List ℕ) → Reached s → Reached (typed keep text s buffer).entered.after
  after_batch : (keep : Bool) (text : List ℕ) (s : State) → Reached s → Reached (batch keep text s).after
  after_file : (file : List ℕ) (s : State) → Reached s → Reached (load file s).after
  after_collection : (s : State) → Reached s → Reached (collect s).after

-- ---- a whole listing at once (document 02, §3)

-- A parting of texts into lines: no bytes are no line; a line and its 9B stand before the lines of what follows; bytes without a 9B are one line.
pub record Parting (lines : List ℕ → List (List ℕ)) : Type 0 where
  pub none : lines [] ≡ []
  pub ended : (l rest : List ℕ) → T (every raw_byte? l) → lines (l ++ 0x9b ∷ rest) ≡ l ∷ lines rest
  pub last : (b : ℕ) (l : List ℕ) → T (every raw_byte? (b ∷ l)) → lines (b ∷ l) ≡ (b ∷ l) ∷ []

-- Answers to lines, a line each: its number is exactly that of the first condition that holds of the line, over the state that the lines before it left.
pub data EachExactly (keep : Bool) : List (List ℕ) → State → List Entered → Type 1 where
  no_answer : (s : State) → EachExactly keep [] s []
  answer_and : {l : List ℕ} {ls : List (List ℕ)} {s : State} {e : Entered} {es : List Entered} → Exactly (text_refusals keep l s) e.number → EachExactly keep ls e.after es → EachExactly keep (l ∷ ls) s (e ∷ es)

-- an answer that takes its line
unfoldable pub takes? : Entered → Bool
takes? e = eqb e.number 0

-- how many answers pass a test
unfoldable pub how_many : (Entered → Bool) → List Entered → ℕ
how_many p [] = 0
how_many p (e ∷ es) = let n = how_many p es in pick (p e) (suc n) n

-- the state after calls with these answers: the last one's, or that before them if there is none
unfoldable pub state_after : State → List Entered → State
state_after s [] = s
state_after s (e ∷ es) = state_after e.after es

-- the first refusal among answers, the first of which is that of line i: all before it take their lines
pub record FirstRefused (i : ℕ) (es : List Entered) (first : RefusedLine) : Type 0 where
  pub before : List Entered
  pub here : Entered
  pub rest : List Entered
  pub answers : es ≡ before ++ here ∷ rest
  pub none_before : T (every takes? before)
  pub refuses : here.number ≡ 0 → ⊥
  pub is : first ≡ record { number = here.number; place = here.place; line = i + length before }

-- what the one call for many lines says of their answers: how many take their lines and how many do not, the first that does not, and the state after all
pub record Summed (s : State) (es : List Entered) (b : Batched) : Type 0 where
  pub taken : b.taken ≡ how_many takes? es
  pub refused : b.refused ≡ how_many (λ e. not (takes? e)) es
  pub first : (T (every takes? es) × (b.first ≡ none_refused)) ⊎ FirstRefused 1 es b.first
  pub after : b.after ≡ state_after s es

-- The answer to two texts, one after the other, from the answer to each: the counts are added; the first refusal is that of the first text, or if it has
-- none that of the second, with its line counted on.
unfoldable pub one_then : Batched → Batched → Batched
one_then x y =
    let counted_on : RefusedLine = record { number = y.first.number; place = y.first.place; line = x.taken + x.refused + y.first.line } in
    let in_second : RefusedLine = pick (eqb y.refused 0) none_refused counted_on in
    record { taken = x.taken + y.taken; refused = x.refused + y.refused; first = pick (eqb x.refused 0) in_second x.first; after = y.after }

-- n lines, each refused with 1, the first of them as the first refusal
unfoldable pub all_unsound : ℕ → State → Batched
all_unsound zero s = no_lines s
all_unsound (suc n) s = record { taken = 0; refused = suc n; first = record { number = 1; place = no_span; line = 1 }; after = s }

-- ---- programs from other tokenizers (document 02, §10)

-- what is answered to the tables and the store of a state; the record's pair has no part in it
abbrev pub examined : State → Verdict
examined s = examine s.names s.name_size s.name_count s.values s.store s.used

-- examining a program; 1: the names are unsound; 2: the values lack room for all; 3: more bytes are used than there is room for, or they are no sound lines;
-- 4: a line is not well-formed over the names
abbrev pub faults : State → List (ℕ × Type 0)
faults s =
    (1, SoundTable (names_of s) s.names s.name_size s.name_count → ⊥)
    ∷ (2, 8 * s.name_count ≤ length s.values → ⊥)
    ∷ (3, (s.used ≤ room s.store) × T (sound_lines (lines_of s)) → ⊥)
    ∷ (4, HoldsWellFormed s → ⊥)
    ∷ []

-- the first bad line: it has this number and is not well-formed, and all before it are
pub record FirstBad (s : State) (n : ℕ) : Type 0 where
  pub before : List (List ℕ)
  pub line : List ℕ
  pub after : List (List ℕ)
  pub lines : lines_of s ≡ before ++ line ∷ after
  pub number : line_number line ≡ n
  pub good_before : (l : List ℕ) → Memᴰ l before → WellFormed (names_of s) l
  pub bad : WellFormed (names_of s) line → ⊥

-- a line that can be entered again: it has at most 255 bytes (where the entries of the store are bytes every line has), and its listing at most 120
unfoldable pub short? : List (List ℕ) → List ℕ → Bool
short? ns l = leb (length l) 255 && leb (length (listing ns l)) 120

-- an answer that takes its line and adds no name
unfoldable pub adds_none? : Entered → Bool
adds_none? e = takes? e && eqb e.added 0

-- The answers es rebuild the program of s from the state with its tables and an empty store: each takes its line and adds no name, they leave the tables as
-- they were, with the lines in the store, and the same bytes are used.
pub record Rebuilt (s empty : State) (es : List Entered) : Type 0 where
  pub taken : T (every adds_none? es)
  pub after : state_after empty es ≡ with_lines empty (lines_of s)
  pub used_bytes : take (state_after empty es).used (state_after empty es).store ≡ take s.used s.store

-- ---- more than 128 names (document 02, §11)

-- The two forms of a variable's token: one byte, 80 and the number; from number 128 on two, 00 and the number less 128.
pub data Form (i : ℕ) (v : List ℕ) : Type 0 where
  one_byte : i < 128 → v ≡ (0x80 + i) ∷ [] → Form i v
  two_bytes : 128 ≤ i → i < 256 → v ≡ 0 ∷ (i - 128) ∷ [] → Form i v

-- a line in whose reading 00 and `byte` stand where a variable's token does
pub record ReadsLong (ns : List (List ℕ)) (l : List ℕ) (byte : ℕ) : Type 0 where
  pub before : List Token
  pub at : ℕ
  pub end : ℕ
  pub bytes : List ℕ
  pub read : line_tokens ns l ≡ before ++ tokens_from ns 0 at end bytes
  pub long : LongForm byte at end bytes

-- ---- the saved program file (document 02, §7)

-- What an accepted call writes: the program is sound; its file stands at the buffer's front, no other byte has changed, and its length is answered.
pub record SavedWritten (s : State) (output : List ℕ) (e : Saved) : Type 0 where
  pub sound : T (sound_state s)
  pub count : e.written ≡ length (saved_file s)
  pub there : AtFront (saved_file s) output e.output

-- What an accepted file leaves: a sound state, whose record agrees; the file's names, values and lines stand at the fronts of the buffers, just the bytes that
-- the record counts, and no other byte has changed.
pub record Holding (p : Parts) (s after : State) : Type 0 where
  pub sound : T (sound_state after)
  pub name_size : after.name_size ≡ length p.names
  pub value_size : 8 * after.name_count ≡ length p.values
  pub used : after.used ≡ length (joined p.lines)
  pub lines : lines_of after ≡ p.lines
  pub names : AtFront p.names s.names after.names
  pub values : AtFront p.values s.values after.values
  pub store : AtFront (joined p.lines) s.store after.store

-- buffers with room for a program
pub record RoomFor (s t : State) : Type 0 where
  pub names : s.name_size ≤ length t.names
  pub values : 8 * s.name_count ≤ length t.values
  pub store : s.used ≤ room t.store

-- a program read back: names, values, lines and the whole record are as they were
pub record ReadBack (s : State) (l : Loaded) : Type 0 where
  pub number : l.number ≡ 0
  pub names : take s.name_size l.after.names ≡ take s.name_size s.names
  pub values : take (8 * s.name_count) l.after.values ≡ take (8 * s.name_count) s.values
  pub lines : take s.used l.after.store ≡ take s.used s.store
  pub name_size : l.after.name_size ≡ s.name_size
  pub name_count : l.after.name_count ≡ s.name_count
  pub used : l.after.used ≡ s.used
  pub line_count : l.after.line_count ≡ s.line_count
  pub greatest : l.after.greatest ≡ s.greatest

-- ---- unused names taken back (document 02, §12)

-- a well-formed line of the store uses a name: one of its tokens is the variable with it
pub record Uses (s : State) (n : List ℕ) : Type 0 where
  pub line : List ℕ
  pub stored : Memᴰ line (lines_of s)
  pub formed : WellFormed (names_of s) line
  pub used : Memᴰ (variable n) formed.tokens ⊎ Memᴰ (assigned n) formed.tokens

-- of some names exactly those of which P holds, in their order
pub data Those (P : List ℕ → Type 0) : List (List ℕ) → List (List ℕ) → Type 0 where
  none_left : Those P [] []
  one_stays : {n : List ℕ} {ns left : List (List ℕ)} → P n → Those P ns left → Those P (n ∷ ns) (n ∷ left)
  one_goes : {n : List ℕ} {ns left : List (List ℕ)} → (P n → ⊥) → Those P ns left → Those P (n ∷ ns) left

-- A line before and after: an error line stays byte for byte; a well-formed one is well-formed over the new names (so its length and offsets are right), with
-- the number and the tokens that it had, and no longer.
pub data Rewritten (ns new : List (List ℕ)) (l after : List ℕ) : Type 0 where
  error_stays : T (error_line? l) → after ≡ l → Rewritten ns new l after
  same_tokens : (w : WellFormed ns l) (v : WellFormed new after) → v.tokens ≡ w.tokens → v.number ≡ w.number → length after ≤ length l → Rewritten ns new l after

-- each line so, one after the other
pub data AllRewritten (ns new : List (List ℕ)) : List (List ℕ) → List (List ℕ) → Type 0 where
  no_lines_more : AllRewritten ns new [] []
  line_and_more : {l after : List ℕ} {ls more : List (List ℕ)} → Rewritten ns new l after → AllRewritten ns new ls more → AllRewritten ns new (l ∷ ls) (after ∷ more)

-- What a collection leaves: a sound state, whose record agrees and has the pair that it had; exactly the names that were used; every line over these names; no
-- count grows, from the new ends on every byte of names, values and store is as it was, and no buffer has another length.
pub record CollectedState (s after : State) : Type 0 where
  pub sound : T (sound_state after)
  pub line_count : after.line_count ≡ s.line_count
  pub greatest : after.greatest ≡ s.greatest
  pub names : Those (Uses s) (names_of s) (names_of after)
  pub lines : AllRewritten (names_of s) (names_of after) (lines_of s) (lines_of after)
  pub name_bytes_less : after.name_size ≤ s.name_size
  pub names_less : after.name_count ≤ s.name_count
  pub used_less : after.used ≤ s.used
  pub past_names : drop after.name_size after.names ≡ drop after.name_size s.names
  pub past_values : drop (8 * after.name_count) after.values ≡ drop (8 * after.name_count) s.values
  pub past_lines : drop after.used after.store ≡ drop after.used s.store
  pub names_size : length after.names ≡ length s.names
  pub values_size : length after.values ≡ length s.values
  pub store_size : length after.store ≡ length s.store

-- the eight bytes of a name's value
abbrev pub value_of : State → List ℕ → List ℕ
value_of s n = take 8 (drop (8 * number_of (names_of s) n) s.values)

-- the same with another number in the second
abbrev pub with_number : ℕ → List ℕ → List ℕ
with_number j v = take 1 v ++ j ∷ drop 2 v

-- ---- what tokens save (document 02, §13)

-- the five byte columns add up to the store bytes used
abbrev pub AddsUp : Columns → Type 0
AddsUp c = c.variables + c.numbers + c.strings + c.raw_text + c.others ≡ c.used

-- the columns are those of a state's program, and its bytes used are the state's
abbrev pub ColumnsOf : State → Columns → Type 0
ColumnsOf s c = (c ≡ columns_of (names_of s) (lines_of s)) × (c.used ≡ s.used)

-- what is answered to a name of the list, and its columns, all 0 where it is refused
abbrev pub number_found : Named → ℕ
number_found p = (weigh_found p.found).number

unfoldable pub columns_found : Named → Columns
columns_found p = (weigh_found p.found).columns

-- each column is the sum of that column over all names of the list
pub record Sums (ps : List Named) (c : Columns) : Type 0 where
  pub lines : c.lines ≡ sum (λ p. (columns_found p).lines) ps
  pub names : c.names ≡ sum (λ p. (columns_found p).names) ps
  pub used : c.used ≡ sum (λ p. (columns_found p).used) ps
  pub listing : c.listing ≡ sum (λ p. (columns_found p).listing) ps
  pub variables : c.variables ≡ sum (λ p. (columns_found p).variables) ps
  pub numbers : c.numbers ≡ sum (λ p. (columns_found p).numbers) ps
  pub strings : c.strings ≡ sum (λ p. (columns_found p).strings) ps
  pub raw_text : c.raw_text ≡ sum (λ p. (columns_found p).raw_text) ps
  pub others : c.others ≡ sum (λ p. (columns_found p).others) ps

-- ---- two engineers, one program (document 02, §14)

-- Two states hold the same program: the store's used bytes, names, values and the whole record. (Bytes of the store past the used ones may differ.)
pub record SameProgram (x y : State) : Type 0 where
  pub used_bytes : take x.used x.store ≡ take y.used y.store
  pub names : x.names ≡ y.names
  pub values : x.values ≡ y.values
  pub used : x.used ≡ y.used
  pub name_size : x.name_size ≡ y.name_size
  pub name_count : x.name_count ≡ y.name_count
  pub line_count : x.line_count ≡ y.line_count
  pub greatest : x.greatest ≡ y.greatest

-- the state after one text and then another
abbrev pub after_both : Bool → List ℕ → List ℕ → State → State
after_both keep a b s = (enter_with keep b (enter_with keep a s).after).after

-- Two texts, entries or deletions, with different line numbers: each is accepted first, and each after the other.
pub record EitherOrder (keep : Bool) (a b : List ℕ) (s : State) : Type 0 where
  pub different : number_in a ≡ number_in b → ⊥
  pub a_first : (enter_with keep a s).number ≡ 0
  pub then_b : (enter_with keep b (enter_with keep a s).after).number ≡ 0
  pub b_first : (enter_with keep b s).number ≡ 0
  pub then_a : (enter_with keep a (enter_with keep b s).after).number ≡ 0

-- neither adds a name, in either order
pub record NoNames (keep : Bool) (a b : List ℕ) (s : State) : Type 0 where
  pub a_first : (enter_with keep a s).added ≡ 0
  pub then_b : (enter_with keep b (enter_with keep a s).after).added ≡ 0
  pub b_first : (enter_with keep b s).added ≡ 0
  pub then_a : (enter_with keep a (enter_with keep b s).after).added ≡ 0

-- the listings of all lines, in their order
abbrev pub listings_of : State → List (List ℕ)
listings_of s = map (line_listing (names_of s)) (lines_of s)

-- no line of one has the number of a line of the other
abbrev pub NoneShared : List (List ℕ) → List (List ℕ) → Type 0
NoneShared ts us = (t : List ℕ) → Memᴰ t ts → (u : List ℕ) → Memᴰ u us → number_in t ≡ number_in u → ⊥

-- each line, entered in order, is taken and adds no name
abbrev pub AllTaken : Bool → List (List ℕ) → State → Type 0
AllTaken keep ts s = T (every adds_none? (answers_to keep ts s))

-- Two texts of many lines (§3) that have no number in common: of each every line is taken first, and after the other, and adds no name.
pub record EitherBatch (keep : Bool) (a b : List ℕ) (s : State) : Type 0 where
  pub apart : NoneShared (text_lines a) (text_lines b)
  pub a_first : AllTaken keep (text_lines a) s
  pub then_b : AllTaken keep (text_lines b) (batch keep a s).after
  pub b_first : AllTaken keep (text_lines b) s
  pub then_a : AllTaken keep (text_lines a) (batch keep b s).after
