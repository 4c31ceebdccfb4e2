-- The two calls (document 01, "Numbers returned"): entering a line of text, and listing a stored line; each with its answer and what it
-- leaves in the lent buffers. Refusals are tested in document 01's order.
use Rattle.std.specs.Prelude.{ℕ, ◌+◌, ◌-◌, ◌*◌, Bool, not, ◌&&◌, ◌||◌, List, [], ◌∷◌, ◌++◌, leb, ltb, eqb, length, take, drop}
use Rattle.paper.specs.Bytes.{pick, digit?, blank?, run, joined}
use Rattle.paper.specs.Tokens.{Token}
use Rattle.paper.specs.Constants.{value}
use Rattle.paper.specs.Names.{names_in, most_names, sound_table, add_names, name_bytes, value_entries}
use Rattle.paper.specs.Items.{Item, Span, span_of, no_span, items}
use Rattle.paper.specs.Machine.{Run, left, done, bad, read}
use Rattle.paper.specs.Grammar.{Gives, look_in_range, start}
use Rattle.paper.specs.Line.{line_bytes, lawful_number?}
use Rattle.paper.specs.WellFormed.{tokens_of}
use Rattle.paper.specs.Errors.{marked_at, error_line, keepable?, listable?, line_listing}
use Rattle.paper.specs.Store.{lines_in, greatest_number, sound_store, room, stored?, line_at, put_line, take_out, overwritten}

-- the lent buffers and counts; the last two are how many lines are stored, and their greatest number (document 02, §6)
pub record State : Type 0 where
  pub names : List ℕ
  pub name_size : ℕ
  pub name_count : ℕ
  pub values : List ℕ
  pub store : List ℕ
  pub used : ℕ
  pub line_count : ℕ
  pub greatest : ℕ

-- the names of a state
unfoldable pub names_of : State → List (List ℕ)
names_of s = names_in (take s.name_size s.names)

-- the lines of a state
unfoldable pub lines_of : State → List (List ℕ)
lines_of s = lines_in (take s.used s.store)

-- the tables are sound: names, room for their values, store
unfoldable pub sound_tables : State → Bool
sound_tables s = sound_table s.names s.name_size s.name_count && (leb (8 * s.name_count) (length s.values) && sound_store s.store s.used)

-- the record agrees with the store: a walk over the lines finds its count and its greatest number (document 02, §6)
unfoldable pub agrees : State → Bool
agrees s = eqb s.line_count (length (lines_of s)) && eqb s.greatest (greatest_number (lines_of s))

-- the whole of what is lent is sound
unfoldable pub sound_state : State → Bool
sound_state s = sound_tables s && agrees s

-- what a call to enter answers: number, place with its end (document 02, §8), names added; and the state afterwards, with the bytes used
pub record Entered : Type 0 where
  pub number : ℕ
  pub place : Span
  pub added : ℕ
  pub after : State

-- a refusal changes nothing
unfoldable pub refusal : ℕ → Span → State → Entered
refusal number place s = record { number = number; place = place; added = 0; after = s }

-- ---- the translation: refusals 4 and 5, the leftmost first

-- the statements of a line as tokens; or a refusal's number, and where the item stands
pub data Translated : Type 0 where
  tokens : List Token → Translated
  refused_at : ℕ → Span → Translated

-- where the first of some items stands
unfoldable pub place_of : List Item → Span
place_of [] = no_span
place_of (i ∷ is) = span_of i

-- What a run means: tokens, if all items are taken and nothing more is wanted; else the refusal of an item. Over the items of a text a run has no other
-- end than these two (`Ending.settled` of crate `promises`), so that the second case and the third say nothing.
unfoldable pub outcome : Run Gives Item → Translated
outcome (left ts []) = tokens (tokens_of ts)
outcome (left ts (f ∷ fs)) = refused_at 4 no_span
outcome (done ts r) = refused_at 4 (place_of r)
outcome (bad k ts r) = refused_at k (place_of r)

-- the statements of a text, from place p on
unfoldable pub translate : ℕ → List ℕ → Translated
translate p s = outcome (read look_in_range start (items p s))

-- ---- an accepted text: refusals 6, 7, 8

-- the state with these names, and the store as it was
unfoldable pub with_names : State → List (List ℕ) → State
with_names s ns =
    let new_names = drop (length (names_of s)) ns in record {
      names = overwritten (take s.name_size s.names ++ name_bytes new_names) s.names;
      name_size = s.name_size + length (name_bytes new_names);
      name_count = length ns;
      values = overwritten (take (8 * s.name_count) s.values ++ value_entries s.name_count new_names) s.values;
      store = s.store;
      used = s.used;
      line_count = s.line_count;
      greatest = s.greatest;
    }

-- the state with these names and lines
unfoldable pub stored : State → List (List ℕ) → List (List ℕ) → State
stored s ns ls =
    let named = with_names s ns in
    let lines = joined ls in record {
      names = named.names;
      name_size = named.name_size;
      name_count = named.name_count;
      values = named.values;
      store = overwritten lines s.store;
      used = length lines;
      line_count = length ls;
      greatest = greatest_number ls;
    }

-- 6: names would pass 256, or lack name or value room; never when no name is new
unfoldable pub lacks_room : State → List (List ℕ) → Bool
lacks_room s ns =
    let old = names_of s in
    let new_names = drop (length old) ns in
    ltb (length old) (length ns)
    && (ltb most_names (length ns) || (ltb (length s.names) (s.name_size + length (name_bytes new_names)) || ltb (length s.values) (8 * length ns)))

-- 6, 7, 8, in this order: names lack room, the line has over 255 bytes, it does not fit where it is to stand; or what comes of it
unfoldable pub unless_short : {A : Type 0} → (ℕ → A) → Bool → List ℕ → Bool → A → A
unless_short refuse lacking line unfitting accepted = pick lacking (refuse 6) (pick (ltb 255 (length line)) (refuse 7) (pick unfitting (refuse 8) accepted))

-- 6, 7, 8, or the line is stored
unfoldable pub accept : State → ℕ → List Token → Entered
accept s n ts =
    let ns = add_names (names_of s) ts in
    let line = line_bytes ns n ts in
    let lines = put_line line (lines_of s) in
    let entered : Entered = record { number = 0; place = no_span; added = length ns - length (names_of s); after = stored s ns lines } in
    unless_short (λ k. refusal k no_span s) (lacks_room s ns) line (ltb (room s.store) (length (joined lines))) entered

-- the answer to a translation
unfoldable pub answered : State → ℕ → Translated → Entered
answered s n (tokens ts) = accept s n ts
answered s n (refused_at k p) = refusal k p s

-- a text with only a number deletes
unfoldable pub delete : State → ℕ → Entered
delete s n =
    let gone : Entered = record { number = 0; place = no_span; added = 0; after = stored s (names_of s) (take_out n (lines_of s)) } in
    pick (stored? n (lines_of s)) gone (refusal 9 no_span s)

-- ---- the line's number: refusal 3

-- how a text begins: its number, the place past the digits and what stands there; digits worth too much; no digit, in a text of blanks alone
-- or in any other, which is a line without a number (document 02, §1)
pub data Head : Type 0 where
  numbered : ℕ → ℕ → List ℕ → Head
  too_great only_blanks unnumbered : Head

-- the number is the digit run after blanks
unfoldable pub head_of : List ℕ → Head
head_of text =
    let blanks = run blank? text in
    let t = drop blanks text in
    let digits = run digit? t in
    let n = value 0 (take digits t) in
    let without = pick (eqb blanks (length text)) only_blanks unnumbered in
    pick (eqb digits 0) without (pick (lawful_number? n) (numbered n (blanks + digits) (drop digits t)) too_great)

-- by what stands after the number: nothing but blanks deletes; a text without a number is none for the store
unfoldable pub at_head : State → Head → Entered
at_head s (numbered n p rest) =
    let deleted = delete s n in
    let translated = answered s n (translate p rest) in
    pick (eqb (run blank? rest) (length rest)) deleted translated
at_head s too_great = refusal 3 no_span s
at_head s only_blanks = refusal 3 no_span s
at_head s unnumbered = refusal 3 no_span s

-- ---- entering a text: refusals 1 and 2

-- over sound tables and store: 2, then 3 and the others
unfoldable pub enter_sound : List ℕ → State → Entered
enter_sound text s = let entered = at_head s (head_of text) in pick (ltb 120 (length text)) (refusal 2 no_span s) entered

-- 1, and then over sound tables and store
unfoldable pub enter : List ℕ → State → Entered
enter text s = let entered = enter_sound text s in pick (sound_state s) entered (refusal 1 no_span s)

-- ---- a wrong line kept (document 02, §9)

-- 8, or the error line is stored: it adds no name, and the answer is still 4 with the place
unfoldable pub keep_line : State → List ℕ → Span → Entered
keep_line s line place =
    let lines = put_line line (lines_of s) in
    let kept : Entered = record { number = 4; place = place; added = 0; after = stored s (names_of s) lines } in
    pick (ltb (room s.store) (length (joined lines))) (refusal 8 no_span s) kept

-- a numbered line refused with 4 that can be kept is kept: the text after the number's digits, with the byte at the place flipped
unfoldable pub kept : List ℕ → State → Head → Entered → Entered
kept text s (numbered n p rest) e =
    let place = e.place.start in
    let this_kept = keep_line s (error_line n (drop p (marked_at place text))) e.place in
    pick (eqb e.number 4 && keepable? place text) this_kept e
kept text s too_great e = e
kept text s only_blanks e = e
kept text s unnumbered e = e

-- a text entered; the switch says whether wrong lines are kept
unfoldable pub enter_with : Bool → List ℕ → State → Entered
enter_with keep text s = let e = enter text s in pick keep (kept text s (head_of text) e) e

-- ---- listing: refusals 1, 9, 10, 11

pub record Listed : Type 0 where
  pub number : ℕ
  pub written : ℕ
  pub output : List ℕ

-- a refusal writes nothing
unfoldable pub not_listed : ℕ → List ℕ → Listed
not_listed number output = record { number = number; written = 0; output = output }

-- 10 for a line that cannot be listed, 11 for a text longer than the output, or the text stands at its front
unfoldable pub listed_if : Bool → List ℕ → List ℕ → Listed
listed_if listable text output =
    let listed : Listed = record { number = 0; written = length text; output = overwritten text output } in
    pick (not listable) (not_listed 10 output) (pick (ltb (length output) (length text)) (not_listed 11 output) listed)

-- over sound tables and store: 9, 10, 11, or the listing
unfoldable pub list_sound : ℕ → State → List ℕ → Listed
list_sound n s output =
    let l = line_at n (lines_of s) in
    let listed = listed_if (listable? lawful_number? (names_of s) l) (line_listing (names_of s) l) output in
    pick (not (stored? n (lines_of s))) (not_listed 9 output) listed

-- 1, and then over sound tables and store
unfoldable pub list : ℕ → State → List ℕ → Listed
list n s output = let listed = list_sound n s output in pick (sound_state s) listed (not_listed 1 output)
