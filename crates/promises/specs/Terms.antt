-- The terms in which the promises are stated.
use Rattle.std.specs.Prelude.{ℕ, ◌+◌, ◌*◌, ◌^◌, ◌≤◌, ◌<◌, ◌≡◌, Bool, false, not, ◌&&◌, ◌↔◌, ◌⊎◌, T, eqb, length, take, drop}
use mathlib.Core.List.{List, [], ◌∷◌, ◌++◌, Memᴰ}
use Rattle.paper.specs.Bytes.{pick, bytes, blank, every, joined, blank?, digit?, run}
use Rattle.paper.specs.Tokens.{Token, out_of_range, out_of_range?}
use Rattle.paper.specs.Constants.{value, five, six}
use Rattle.paper.specs.Names.{most_names, sound_names, name_bytes, add_names, value_entries}
use Rattle.paper.specs.Items.{Item, Span, span_of, no_span, size_at, items}
use Rattle.paper.specs.Line.{line_bytes, line_number, lawful_number?, direct_number}
use Rattle.paper.specs.WellFormed.{Lawful, Formed, WellFormed, WellFormedDirect}
use Rattle.paper.specs.Listing.{decimal}
use Rattle.paper.specs.Errors.{marked_at, error_line, keepable?, error_line?, line_listing}
use Rattle.paper.specs.Store.{greatest_number, sound_lines, room, stored?, line_at, overwritten}
use Rattle.paper.specs.Calls.{State, names_of, lines_of, sound_state, Entered, refusal, enter, Listed}
use Rattle.paper.specs.Direct.{Typed}

-- ---- a text's number and items

-- what stands after a text's blanks
unfoldable pub after_blanks : List ℕ → List ℕ
after_blanks text = drop (run blank? text) text

-- how many digits stand there
unfoldable pub digit_count : List ℕ → ℕ
digit_count text = run digit? (after_blanks text)

-- the number of a text: what those digits are worth
unfoldable pub number_in : List ℕ → ℕ
number_in text = value 0 (take (digit_count text) (after_blanks text))

-- the place past it
unfoldable pub number_end : List ℕ → ℕ
number_end text = run blank? text + digit_count text

-- what stands there
unfoldable pub past_number : List ℕ → List ℕ
past_number text = drop (digit_count text) (after_blanks text)

-- the items of a text: those after its number, with places counted from the whole text's start
abbrev pub items_in : List ℕ → List Item
items_in text = items (number_end text) (past_number text)

-- a line without a number (document 02, §1): after its blanks no digit stands, and it is not blank
unfoldable pub direct? : List ℕ → Bool
direct? text = eqb (digit_count text) 0 && not (every blank? text)

-- ---- the place of a refusal

-- a sequence of items is lawful: it gives some tokens
abbrev pub LawfulItems : List Item → Type 0
LawfulItems is = (ts : List Token) × Lawful is ts

-- an item that is no constant out of range
unfoldable pub in_range? : Item → Bool
in_range? i = not (out_of_range? i.token)

-- Of the items `is`, the one at the place is the first such that no lawful sequence begins with the items up to it: none does, and some
-- lawful sequence begins with the items before it. No constant before it is out of range.
pub record NoReading (is : List Item) (place : Span) : Type 0 where
  pub before : List Item
  pub here : Item
  pub rest : List Item
  pub items : is ≡ before ++ here ∷ rest
  pub at : span_of here ≡ place
  pub none_begins : (more : List Item) → LawfulItems (before ++ here ∷ more) → ⊥
  pub some_begins : (more : List Item) × LawfulItems (before ++ more)
  pub in_range : T (every in_range? before)

-- Of the items `is`, the one at the place is the first constant out of range; some lawful sequence begins with the items up to it, so that
-- any place for refusal 4 stands further right.
pub record OutOfRange (is : List Item) (place : Span) : Type 0 where
  pub before : List Item
  pub here : Item
  pub rest : List Item
  pub items : is ≡ before ++ here ∷ rest
  pub at : span_of here ≡ place
  pub out : here.token ≡ out_of_range
  pub some_begins : (more : List Item) × LawfulItems (before ++ here ∷ more)
  pub in_range : T (every in_range? before)

-- a place in a text, with the end of the item that stands there
abbrev pub EndsThere : List ℕ → Span → Type 0
EndsThere text place = place.end ≡ place.start + size_at (drop place.start text)

-- items that are a lawful sequence, with every constant in range
abbrev pub Readable : List Item → Type 0
Readable is = LawfulItems is × T (every in_range? is)

-- ---- when each number is answered

-- Of numbers with their conditions, in the order of the tests, the number of the first condition that holds; 0 if none does.
pub data FirstHolding : List (ℕ × Type 0) → ℕ → Type 1 where
  none_holds : FirstHolding [] 0
  this_holds : {k : ℕ} {C : Type 0} {cs : List (ℕ × Type 0)} → C → FirstHolding ((k, C) ∷ cs) k
  later_holds : {j k : ℕ} {C : Type 0} {cs : List (ℕ × Type 0)} → (C → ⊥) → FirstHolding cs k → FirstHolding ((j, C) ∷ cs) k

-- no condition of a list holds
abbrev pub NoneHolds : List (ℕ × Type 0) → Type 0
NoneHolds [] = Unit {0}
NoneHolds (c ∷ cs) = (c.1 → ⊥) × NoneHolds cs

-- A call answers k exactly when k is the number of the first condition that holds, and 0 exactly when none does.
pub record Exactly (cs : List (ℕ × Type 0)) (number : ℕ) : Type 1 where
  pub each : (k : ℕ) → (number ≡ k) ↔ FirstHolding cs k
  pub done : (number ≡ 0) ↔ NoneHolds cs

-- The record agrees with the store: it has the count of the stored lines, and their greatest number (document 02, §6).
pub record Agrees (s : State) : Type 0 where
  pub counted : s.line_count ≡ length (lines_of s)
  pub greatest : s.greatest ≡ greatest_number (lines_of s)

-- A sound table of names, in the parts that document 01 ("Tables") lists: the counted names end exactly at the byte count given, and are sound.
pub record SoundTable (ns : List (List ℕ)) (table : List ℕ) (size count : ℕ) : Type 0 where
  pub fits : size ≤ length table
  pub bytes : name_bytes ns ≡ take size table
  pub counted : length ns ≡ count
  pub names : T (sound_names ns)

-- Sound tables and store: the names; the values have room for all; the bytes used are within the room, and are sound lines. And the record agrees
-- with the store.
pub record SoundState (s : State) : Type 0 where
  pub table : SoundTable (names_of s) s.names s.name_size s.name_count
  pub values_fit : 8 * s.name_count ≤ length s.values
  pub used_fits : s.used ≤ room s.store
  pub lines : T (sound_lines (lines_of s))
  pub agrees : Agrees s

-- 1: tables or store are unsound, or the record disagrees with the store
abbrev pub Unsound : State → Type 0
Unsound s = SoundState s → ⊥

-- 2: the text is over 120 bytes
abbrev pub TextTooLong : List ℕ → Type 0
TextTooLong text = 120 < length text

-- 3: after blanks no digit stands, or the digit run exceeds 32767
abbrev pub NoLineNumber : List ℕ → Type 0
NoLineNumber text = (digit_count text ≡ 0) ⊎ (32767 < number_in text)

-- 4: the grammar has no reading, and no constant further left is out of range
abbrev pub Unread : List Item → Type 0
Unread is = (place : Span) × NoReading is place

-- 5: a constant is out of range, and the grammar has a reading up to it
abbrev pub TooFar : List Item → Type 0
TooFar is = (place : Span) × OutOfRange is place

-- the items are a lawful sequence, and this holds of the tokens that they give
abbrev pub Giving : List Item → (List Token → Type 0) → Type 0
Giving is P = (ts : List Token) × Lawful is ts × P ts

-- the names of the table, with those of the tokens added
abbrev pub names_with : State → List Token → List (List ℕ)
names_with s ts = add_names (names_of s) ts

-- 6: names would pass 256, or lack name or value room
abbrev pub NamesLackRoom : State → List (List ℕ) → Type 0
NamesLackRoom s ns = (most_names < length ns) ⊎ ((length s.names < length (name_bytes ns)) ⊎ (length s.values < 8 * length ns))

-- the token line of a number and tokens
abbrev pub line_with : State → ℕ → List Token → List ℕ
line_with s n ts = line_bytes (names_with s ts) n ts

-- 7: the token line would pass 255 bytes
abbrev pub LineTooLong : State → ℕ → List Token → Type 0
LineTooLong s n ts = 255 < length (line_with s n ts)

-- how many bytes the line with a number takes in the store, 0 if none is stored
unfoldable pub old_size : ℕ → State → ℕ
old_size n s = length (pick (stored? n (lines_of s)) (line_at n (lines_of s)) [])

-- the store would pass its room with this line as the one with a number; a replaced line's room counts as free
abbrev pub LineLacksRoom : State → ℕ → List ℕ → Type 0
LineLacksRoom s n line = room s.store + old_size n s < s.used + length line

-- 8: it would with the line of these tokens
abbrev pub StoreLacksRoom : State → ℕ → List Token → Type 0
StoreLacksRoom s n ts = LineLacksRoom s n (line_with s n ts)

-- the error line that a text refused at a place is kept as (document 02, §9): what stands after its number, with the byte at the place flipped
unfoldable pub error_line_for : List ℕ → ℕ → List ℕ
error_line_for text place = error_line (number_in text) (drop (number_end text) (marked_at place text))

-- 8 of a text that 4 is said of and that can be kept: its error line has no room
abbrev pub KeptLacksRoom : List ℕ → State → Type 0
KeptLacksRoom text s = (place : Span) × NoReading (items_in text) place × T (keepable? place.start text) × LineLacksRoom s (number_in text) (error_line_for text place.start)

-- 9: the line is not there
abbrev pub NoSuchLine : ℕ → State → Type 0
NoSuchLine n s = (l : List ℕ) → Memᴰ l (lines_of s) → line_number l ≡ n → ⊥

-- this holds of a stored line with this number
abbrev pub OfLine : ℕ → State → (List ℕ → Type 0) → Type 0
OfLine n s P = (l : List ℕ) × Memᴰ l (lines_of s) × (line_number l ≡ n) × P l

-- entering a text, where 4 and 8 are asked so
abbrev pub entry_list : List ℕ → State → Type 0 → Type 0 → List (ℕ × Type 0)
entry_list text s Four Eight =
    (1, Unsound s)
    ∷ (2, TextTooLong text)
    ∷ (3, NoLineNumber text)
    ∷ (4, Four)
    ∷ (5, TooFar (items_in text))
    ∷ (6, Giving (items_in text) (λ ts. NamesLackRoom s (names_with s ts)))
    ∷ (7, Giving (items_in text) (LineTooLong s (number_in text)))
    ∷ (8, Eight)
    ∷ []

-- entering a text; of 4 and 5 the leftmost, for they never hold together
abbrev pub entry_refusals : List ℕ → State → List (ℕ × Type 0)
entry_refusals text s = entry_list text s (Unread (items_in text)) (Giving (items_in text) (StoreLacksRoom s (number_in text)))

-- the same with wrong lines kept (document 02, §9): 4 is said of one that is kept or cannot be, and 8 of one that can be and would not fit
abbrev pub kept_refusals : List ℕ → State → List (ℕ × Type 0)
kept_refusals text s = entry_list text s (Unread (items_in text) × (KeptLacksRoom text s → ⊥)) (Giving (items_in text) (StoreLacksRoom s (number_in text)) ⊎ KeptLacksRoom text s)

-- deleting a line
abbrev pub deletion_refusals : List ℕ → State → List (ℕ × Type 0)
deletion_refusals text s = (1, Unsound s) ∷ (2, TextTooLong text) ∷ (3, NoLineNumber text) ∷ (9, NoSuchLine (number_in text) s) ∷ []

-- a text with nothing but blanks after its number deletes, every other is entered; the switch says whether wrong lines are kept
abbrev pub text_refusals : Bool → List ℕ → State → List (ℕ × Type 0)
text_refusals keep text s = pick (every blank? (past_number text)) (deletion_refusals text s) (pick keep (kept_refusals text s) (entry_refusals text s))

-- a line that can be listed: well-formed, or an error line with a number that it may have
abbrev pub Listable : (ℕ → Bool) → List (List ℕ) → List ℕ → Type 0
Listable lawful? ns l = Formed lawful? ns l ⊎ (T (lawful? (line_number l)) × T (error_line? l))

-- listing a line; 10: it is neither well-formed nor an error line; 11: its listing is longer than the output buffer
abbrev pub listing_refusals : ℕ → State → List ℕ → List (ℕ × Type 0)
listing_refusals n s output =
    (1, Unsound s)
    ∷ (9, NoSuchLine n s)
    ∷ (10, OfLine n s (λ l. Listable lawful_number? (names_of s) l → ⊥))
    ∷ (11, OfLine n s (λ l. length output < length (line_listing (names_of s) l)))
    ∷ []

-- every line of a list can be listed over the names
abbrev pub AllListable : List (List ℕ) → List (List ℕ) → Type 0
AllListable ns ls = (l : List ℕ) → Memᴰ l ls → Listable lawful_number? ns l

-- 10 of lines: some line is neither well-formed over the names nor an error line
abbrev pub SomeUnlistable : List (List ℕ) → List (List ℕ) → Type 0
SomeUnlistable ns ls = (l : List ℕ) × Memᴰ l ls × (Listable lawful_number? ns l → ⊥)

-- ---- what an edit leaves

-- What an edit that adds these names carries over: the state is sound again; the old names and values stand as they did, and the new ones
-- after them; from the new ends on every byte of names, values and store is as it was, and no buffer has another length.
pub record Carried (s after : State) (new : List (List ℕ)) : Type 0 where
  pub sound : T (sound_state after)
  pub names : names_of after ≡ names_of s ++ new
  pub old_names : take s.name_size after.names ≡ take s.name_size s.names
  pub old_values : take (8 * s.name_count) after.values ≡ take (8 * s.name_count) s.values
  pub new_values : take (8 * length new) (drop (8 * s.name_count) after.values) ≡ value_entries s.name_count new
  pub past_names : drop after.name_size after.names ≡ drop after.name_size s.names
  pub past_values : drop (8 * after.name_count) after.values ≡ drop (8 * after.name_count) s.values
  pub past_store : drop after.used after.store ≡ drop after.used s.store
  pub names_size : length after.names ≡ length s.names
  pub values_size : length after.values ≡ length s.values
  pub store_size : length after.store ≡ length s.store

-- no line, or one with this number
pub data AtMostOne (n : ℕ) : List (List ℕ) → Type 0 where
  no_line : AtMostOne n []
  one_line : (l : List ℕ) → line_number l ≡ n → AtMostOne n (l ∷ [])

-- A line put in: where it stands now stood no line, or one with its number; all lines below and above are the same.
pub record PutIn (n : ℕ) (line : List ℕ) (old new : List (List ℕ)) : Type 0 where
  pub below : List (List ℕ)
  pub replaced : List (List ℕ)
  pub above : List (List ℕ)
  pub was : old ≡ below ++ (replaced ++ above)
  pub is : new ≡ below ++ line ∷ above
  pub number : line_number line ≡ n
  pub same_number : AtMostOne n replaced

-- A line taken out: it had the number; all lines below and above are the same.
pub record TakenOut (n : ℕ) (old new : List (List ℕ)) : Type 0 where
  pub below : List (List ℕ)
  pub line : List ℕ
  pub above : List (List ℕ)
  pub was : old ≡ below ++ line ∷ above
  pub is : new ≡ below ++ above
  pub number : line_number line ≡ n

-- What an accepted text did. Its items are a lawful sequence, and the line of their tokens over the new names, well-formed, was put in, and
-- the names that are new were added in order; or nothing but blanks stands after its number, and the line with that number was taken out.
pub data Edited (text : List ℕ) (s : State) (e : Entered) : Type 0 where
  line_put : (ts : List Token) (new : List (List ℕ)) → Lawful (items_in text) ts → names_of e.after ≡ names_with s ts → e.added ≡ length new → Carried s e.after new
      → PutIn (number_in text) (line_with s (number_in text) ts) (lines_of s) (lines_of e.after) → WellFormed (names_of e.after) (line_with s (number_in text) ts) → Edited text s e
  line_gone : T (every blank? (past_number text)) → e.added ≡ 0 → Carried s e.after [] → TakenOut (number_in text) (lines_of s) (lines_of e.after) → Edited text s e

-- every line of the store is well-formed over the names
abbrev pub HoldsWellFormed : State → Type 0
HoldsWellFormed s = (l : List ℕ) → Memᴰ l (lines_of s) → WellFormed (names_of s) l

-- every line of the store is well-formed over the names or an error line (document 02, §9)
abbrev pub HoldsListable : State → Type 0
HoldsListable s = AllListable (names_of s) (lines_of s)

-- a text that is refused with 4 and can be kept
unfoldable pub can_keep? : List ℕ → State → Bool
can_keep? text s = let e = enter text s in eqb e.number 4 && keepable? e.place.start text

-- What is left of a text that is refused with 4 and kept: the answer is that of a text that is not kept, and no name is added; its error line, which lists as its
-- number, `ERROR-` and the text after the number's digits with the byte at the place flipped, was put in, and all else is carried over.
pub record LineKept (text : List ℕ) (s : State) (e : Entered) : Type 0 where
  pub number : e.number ≡ 4
  pub place : e.place ≡ (enter text s).place
  pub added : e.added ≡ 0
  pub carried : Carried s e.after []
  pub put : PutIn (number_in text) (error_line_for text e.place.start) (lines_of s) (lines_of e.after)
  pub lawful : T (lawful_number? (number_in text))
  pub error : T (error_line? (error_line_for text e.place.start))
  pub lists : line_listing (names_of e.after) (error_line_for text e.place.start) ≡ decimal 5 (number_in text) ++ blank ∷ (bytes "ERROR- " ++ drop (number_end text) (marked_at e.place.start text))

-- What the switch makes of a text, three cases: one that is not refused with 4, or cannot be kept, is answered as without it; one whose error line has room is
-- kept; one whose error line has none is answered 8.
pub data Switched (text : List ℕ) (s : State) : Entered → Type 0 where
  as_without : can_keep? text s ≡ false → Switched text s (enter text s)
  kept_there : T (can_keep? text s) → (LineLacksRoom s (number_in text) (error_line_for text (enter text s).place.start) → ⊥) → (e : Entered) → LineKept text s e → Switched text s e
  no_room_there : T (can_keep? text s) → LineLacksRoom s (number_in text) (error_line_for text (enter text s).place.start) → Switched text s (refusal 8 no_span s)

-- Bytes written at the front of a buffer: they stand there, and every other byte is as it was
pub record AtFront (written old new : List ℕ) : Type 0 where
  pub front : take (length written) new ≡ written
  pub past : drop (length written) new ≡ drop (length written) old
  pub same_size : length new ≡ length old

-- a text changed nothing and added no name
abbrev pub Unchanged : State → Entered → Type 0
Unchanged s e = (e.after ≡ s) × (e.added ≡ 0)

-- what a refused text leaves: all as it was; or with the switch on its error line, the one refusal that changes anything (document 02, §9)
abbrev pub RefusedLeaves : Bool → List ℕ → State → Entered → Type 0
RefusedLeaves keep text s e = Unchanged s e ⊎ (T keep × LineKept text s e)

-- The store is untouched: its bytes, how many are used, and the record's pair.
pub record SameStore (s after : State) : Type 0 where
  pub store : after.store ≡ s.store
  pub used : after.used ≡ s.used
  pub line_count : after.line_count ≡ s.line_count
  pub greatest : after.greatest ≡ s.greatest

-- the state with another store, and the record's pair for it
unfoldable pub over_store : List ℕ → ℕ → ℕ → ℕ → State → State
over_store store used lines greatest s =
    record { names = s.names; name_size = s.name_size; name_count = s.name_count; values = s.values; store = store; used = used; line_count = lines; greatest = greatest }

-- the same answer, and the state that is left with another store
unfoldable pub typed_over_store : List ℕ → ℕ → ℕ → ℕ → Typed → Typed
typed_over_store store used lines greatest e =
    let after = over_store store used lines greatest e.entered.after in
    record { entered = record { number = e.entered.number; place = e.entered.place; added = e.entered.added; after = after }; line = e.line }

-- What an accepted line without a number did. Its items are a lawful sequence, and the line of their tokens over the new names, well-formed with
-- number 32768, stands at the front of the line buffer, and the names that are new were added in order.
pub record LineMade (text : List ℕ) (s : State) (buffer : List ℕ) (e : Typed) : Type 0 where
  pub tokens : List Token
  pub new : List (List ℕ)
  pub lawful : Lawful (items 0 text) tokens
  pub names : names_of e.entered.after ≡ names_with s tokens
  pub added : e.entered.added ≡ length new
  pub carried : Carried s e.entered.after new
  pub same_store : SameStore s e.entered.after
  pub well_formed : WellFormedDirect (names_of e.entered.after) (line_with s direct_number tokens)
  pub line : AtFront (line_with s direct_number tokens) buffer e.line

-- what an accepted listing answers and leaves in the output
pub record Written (text output : List ℕ) (e : Listed) : Type 0 where
  pub count : e.written ≡ length text
  pub there : AtFront text output e.output

-- ---- constants

-- The six bytes of a value v * 10 ^ u / 10 ^ d that is not zero. The first is k + 15, which is 64 + e where k = e + 49. The other five are the
-- ten digits of q, the first two of them not both zero. And q is the value in units of its last digit, with what is less than one unit cut
-- off: q * unit <= value < (q + 1) * unit, where unit is 100 ^ k / 100 ^ 53.
pub record CutTo (v u d : ℕ) : Type 0 where
  pub k : ℕ
  pub q : ℕ
  pub bytes : six v u d ≡ (k + 15) ∷ five q
  pub in_bounds : k ≤ 97
  pub two_digits : 100000000 ≤ q
  pub ten_digits : q < 10000000000
  pub not_less : q * (10 ^ d * 100 ^ k) ≤ v * 10 ^ u * 100 ^ 53
  pub not_more : v * 10 ^ u * 100 ^ 53 < (q + 1) * (10 ^ d * 100 ^ k)

-- ---- re-entry

-- the state with these lines in the store, and nothing else changed
unfoldable pub with_lines : State → List (List ℕ) → State
with_lines s ls =
    record { names = s.names; name_size = s.name_size; name_count = s.name_count; values = s.values; store = overwritten (joined ls) s.store; used = length (joined ls); line_count = length ls; greatest = greatest_number ls }

-- the answer of a text that is accepted and adds no name
unfoldable pub accepted_with : State → Entered
accepted_with after = record { number = 0; place = no_span; added = 0; after = after }

-- ---- more than 128 names (document 02, §11)

-- bytes in which a variable's token begins with 00 and `byte`: at their front, within a statement, or after the offset and 36 that begin one
pub data LongForm (byte : ℕ) : ℕ → ℕ → List ℕ → Type 0 where
  within : (at end : ℕ) (rest : List ℕ) → (at ≡ end → ⊥) → LongForm byte at end (0 ∷ byte ∷ rest)
  assigned_to : (at offset : ℕ) (rest : List ℕ) → LongForm byte at at (offset ∷ 0x36 ∷ 0 ∷ byte ∷ rest)
