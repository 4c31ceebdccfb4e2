-- Nothing of document 01's grammar stands untried: every row is used by the reading of some case; without any one of the frames that a row wants
-- some case is read otherwise; and if any one frame more might be empty some case is read otherwise, but for the few frames listed below.
use Rattle.std.specs.Prelude.{ℕ, zero, suc, ◌+◌, ◌*◌, ◌≡◌, refl, Bool, false, not, ◌&&◌, ◌||◌, List, [], ◌∷◌, ◌++◌, length}
use Rattle.paper.specs.Bytes.{pick, bytes, same, among}
use Rattle.paper.specs.Classes.{channel_sign, input_word, open_word, xio_word, close_word, get_status, put_word, note_point}
use Rattle.paper.specs.Frames.{want_statement, want_after_then, want_end, want_raw_text, want_raw_end, want_array_open, want_let_target, want_dim_array_open, want_channel, want_input_channel, want_input_separator, want_parameters}
use Rattle.paper.specs.Tokens.{class}
use Rattle.paper.specs.Items.{Item, items}
use Rattle.paper.specs.Machine.{Row, row, find_row, Taken, Run, left, done, bad, read}
use Rattle.paper.specs.Grammar.{Gives, itself, for_strings, as_prefix, put, grammar, may_be_empty, start}
use Rattle.paper.specs.Calls.{Head, numbered, too_great, only_blanks, unnumbered, head_of}
use Rattle.paper.specs.Open.{everything}
use Rattle.paper.specs.Cases.{Case, stores, refuses}
use Rattle.cases.specs.Worked.{incomplete}
use Rattle.cases.specs.Following.{Walk, walks, all_walks}

-- ---- the texts of cases, as the classes of their items

-- the classes of items
unfoldable pub classes : List Item → List ℕ
classes [] = []
classes (i ∷ is) = class i.token ∷ classes is

-- the classes of a numbered text, in front of those of others
unfoldable pub and_text : Head → List (List ℕ) → List (List ℕ)
and_text (numbered n p rest) more = classes (items p rest) ∷ more
and_text too_great more = more
and_text only_blanks more = more
and_text unnumbered more = more

-- the texts of worked cases
unfoldable pub texts_of_cases : List Case → List (List ℕ)
texts_of_cases [] = []
texts_of_cases (c ∷ cs) = and_text (head_of (bytes c.text)) (texts_of_cases cs)

-- the texts at each place of which what may follow is tried
unfoldable pub texts_of_walks : List Walk → List (List ℕ)
texts_of_walks [] = []
texts_of_walks (w ∷ ws) = and_text (head_of (bytes w.text)) (texts_of_walks ws)

-- ---- readings by some rows and some frames that may be empty

-- a row's frame and class, as one number
unfoldable pub key : Row Gives → ℕ
key r = 100 * r.frame + r.class

-- the same rows, each giving its key
unfoldable pub traced : List (Row Gives) → List (Row ℕ)
traced [] = []
traced (r ∷ rs) = row r.frame r.class (key r) r.wants ∷ traced rs

-- the keys of the rows by which classes were taken
unfoldable pub keys_of : List (Taken ℕ ℕ) → List ℕ
keys_of [] = []
keys_of (t ∷ ts) = t.gave ∷ keys_of ts

-- what a row gives, as a number
unfoldable pub give_number : Gives → ℕ
give_number itself = 0
give_number for_strings = 1
give_number as_prefix = 2
give_number (put k) = k

-- what taken classes gave
unfoldable pub gave_numbers : List (Taken Gives ℕ) → List ℕ
gave_numbers [] = []
gave_numbers (t ∷ ts) = give_number t.gave ∷ gave_numbers ts

-- what a reading comes to: read, with what is still wanted and what was given; or refused, with how many items are left
unfoldable pub verdict : Run Gives ℕ → List ℕ
verdict (left ts s) = 0 ∷ length s ∷ gave_numbers ts
verdict (done ts r) = 1 ∷ length r ∷ []
verdict (bad k ts r) = 1 ∷ length r ∷ []

-- a text: its classes, the keys of the rows by which they are taken, up to the end or to the refusal, and what its reading comes to
pub record Text : Type 0 where
  pub classes_of : List ℕ
  pub keys : List ℕ
  pub comes_to : List ℕ

-- the keys of the rows that a run used
unfoldable pub keys_of_run : Run ℕ ℕ → List ℕ
keys_of_run (left ts s) = keys_of ts
keys_of_run (done ts r) = keys_of ts
keys_of_run (bad k ts r) = keys_of ts

-- a text, read
unfoldable pub read_text : List ℕ → Text
read_text t = record { classes_of = t; keys = keys_of_run (read (find_row (traced grammar) may_be_empty) start t); comes_to = verdict (read (find_row grammar may_be_empty) start t) }

-- texts, read
unfoldable pub read_texts : List (List ℕ) → List Text
read_texts [] = []
read_texts (t ∷ ts) = read_text t ∷ read_texts ts

-- a text is read otherwise by these rows, with these frames that may be empty
unfoldable pub read_otherwise : List (Row Gives) → List ℕ → Text → Bool
read_otherwise rows empty t = not (same (verdict (read (find_row rows empty) start t.classes_of)) t.comes_to)

-- ---- every row is used

-- a row is used by the reading of some text
unfoldable pub used? : Row Gives → List Text → Bool
used? r [] = false
used? r (t ∷ ts) = among (key r) t.keys || used? r ts

-- the keys of the rows that are not used
unfoldable pub unused : List (Row Gives) → List Text → List ℕ
unused [] ts = []
unused (r ∷ rs) ts = let more = unused rs ts in pick (used? r ts) more (key r ∷ more)

-- ---- every frame that a row wants is needed

-- some text that uses a row is read otherwise with another in front of it, of the same frame and class
unfoldable pub other_row_shows : Row Gives → List Text → Bool
other_row_shows r [] = false
other_row_shows r (t ∷ ts) = (among (key r) t.keys && read_otherwise (r ∷ grammar) may_be_empty t) || other_row_shows r ts

-- the frames, among those that a row wants after `before`, without which no text is read otherwise; each with the row's key
unfoldable pub not_needed : Row Gives → List ℕ → List ℕ → List Text → List (List ℕ)
not_needed r before [] ts = []
not_needed r before (w ∷ ws) ts =
    let more = not_needed r (before ++ w ∷ []) ws ts in
    pick (other_row_shows (row r.frame r.class r.gives (before ++ ws)) ts) more ((key r ∷ w ∷ []) ∷ more)

-- all frames that a row wants and no text needs
unfoldable pub all_not_needed : List (Row Gives) → List Text → List (List ℕ)
all_not_needed [] ts = []
all_not_needed (r ∷ rs) ts = not_needed r [] r.wants ts ++ all_not_needed rs ts

-- ---- every frame of which something must come is needed

-- some text is read otherwise if a frame may be empty: one that is refused, for others stay as they are
unfoldable pub empty_shows : ℕ → List Text → Bool
empty_shows f [] = false
empty_shows f (t ∷ ts) = read_otherwise grammar (f ∷ may_be_empty) t || empty_shows f ts

-- of n frames from k on, the greatest first, those that may not be empty, and without which no text is read otherwise
unfoldable pub not_missed : ℕ → ℕ → List Text → List ℕ
not_missed k zero ts = []
not_missed k (suc n) ts = let more = not_missed k n ts in pick (among (k + n) may_be_empty || empty_shows (k + n) ts) more ((k + n) ∷ more)

-- Frames of which a text never shows that something must come. An array's name is one only before `(`, and text always follows REM and DATA, so
-- that three frames find in every text what they want (`Following` tries them with other items too). Below the other five nothing is wanted, so
-- that what they leave is refused all the same, at the same place.
unfoldable pub never_missed : List ℕ
never_missed = want_dim_array_open ∷ want_let_target ∷ want_array_open ∷ want_raw_end ∷ want_raw_text ∷ want_end ∷ want_after_then ∷ want_statement ∷ []

-- the keys of the rows that no text uses, the frames that a row wants and no text needs, and the frames that no text misses
pub record Untried : Type 0 where
  pub rows : List ℕ
  pub wanted : List (List ℕ)
  pub frames : List ℕ

-- what whole texts and incomplete ones leave untried of some rows and of n frames from k on
unfoldable pub untried : List (Row Gives) → ℕ → ℕ → List Text → List Text → Untried
untried rows k n whole cut = record { rows = unused rows whole; wanted = all_not_needed rows whole; frames = not_missed k n cut }

-- a row of a device statement (document 02, §4), of `#`, or of INPUT, which `#` may follow
unfoldable pub of_device? : Row Gives → Bool
of_device? r =
    among r.frame (want_channel ∷ want_input_channel ∷ want_input_separator ∷ want_parameters ∷ [])
    || among r.class (channel_sign ∷ input_word ∷ open_word ∷ xio_word ∷ close_word ∷ get_status ∷ put_word ∷ note_point ∷ [])

-- the rows that pass a test
unfoldable pub rows_that : (Row Gives → Bool) → List (Row Gives) → List (Row Gives)
rows_that q [] = []
rows_that q (r ∷ rs) = let more = rows_that q rs in pick (q r) (r ∷ more) more

-- to unfold it is to unfold all that tells what is untried
unfoldable pub all_Coverage : Unit {0}
unfolding classes and_text texts_of_cases texts_of_walks key traced keys_of give_number gave_numbers verdict keys_of_run read_text read_texts read_otherwise used? unused other_row_shows not_needed all_not_needed empty_shows not_missed untried of_device? rows_that
all_Coverage = tt

-- of document 01's rows and frames nothing is untried
pub nothing_untried : untried (rows_that (λ r. not (of_device? r)) grammar) 0 want_channel (read_texts (texts_of_walks walks)) (read_texts (texts_of_cases incomplete)) ≡ record { rows = []; wanted = []; frames = never_missed }
unfolding everything all_Coverage never_missed stores refuses incomplete all_walks
nothing_untried = refl
