-- The promises, about the definitions of `paper`. The terms in which they are stated are in Terms.antt.
-- Of the call that is lent a line buffer and a switch (document 02, §1 and §9) those about `enter` hold for every text but a line without a number and one that is
-- kept: `Requests.typed_as_entered`, `Requests.switched`.
use Rattle.std.specs.Prelude.{ℕ, zero, ◌+◌, ◌≤◌, ◌<◌, ◌≡◌, Bool, false, ◌↔◌, ◌⊎◌, T, length, take}
use mathlib.Core.List.{List, Memᴰ}
use Rattle.paper.specs.Tokens.{constant}
use Rattle.paper.specs.Constants.{in_range, six, zero_bytes, right_constant?, constant_text}
use Rattle.paper.specs.Names.{sound_names}
use Rattle.paper.specs.Items.{Item, Span, no_span, item, item_at}
use Rattle.paper.specs.Line.{line_number}
use Rattle.paper.specs.WellFormed.{WellFormed, well_formed?}
use Rattle.paper.specs.Listing.{listing}
use Rattle.paper.specs.Errors.{error_line?, line_listing}
use Rattle.paper.specs.Store.{room, line_at, put_line}
use Rattle.paper.specs.Calls.{State, names_of, lines_of, sound_state, enter, list}
use Rattle.promises.specs.Terms.{number_end, past_number, items_in, NoReading, OutOfRange, Readable, Exactly, Unread, TooFar, text_refusals, listing_refusals, Edited, Written, HoldsWellFormed, CutTo, old_size, with_lines, accepted_with}
use Rattle.promises.proofs.ConstantRight as ConstantRight'
use Rattle.grounds.specs.ConstantSize as ConstantSize'
use Rattle.grounds.proofs.RoundTrip as RoundTrip'
use Rattle.grounds.proofs.WellFormedTest as WellFormedTest'
use Rattle.promises.proofs.Answers as Answers'
use Rattle.promises.proofs.Listings as Listings'
use Rattle.promises.proofs.Editing as Editing'
use Rattle.promises.proofs.WellFormedLines as WellFormedLines'
use Rattle.promises.proofs.ReEntry as ReEntry'
use Rattle.promises.proofs.ListedAgain as ListedAgain'
use Rattle.promises.proofs.OnePlace as OnePlace'
use Rattle.promises.proofs.Exactly as Exactly'

-- 1. Place. At the place of refusal 4 stands the first item such that no lawful sequence begins with the items up to it. At the place of
-- refusal 5 stands the first constant out of range; the grammar takes it there, so that no place for 4 stands left of it, or there.
-- Every other answer has no place: 0, and 0 for its end.
pub place_of_4 : (text : List ℕ) (s : State) → (enter text s).number ≡ 4 → NoReading (items_in text) (enter text s).place
place_of_4 text s h = Answers'.place_four text s h

-- refusal 5
pub place_of_5 : (text : List ℕ) (s : State) → (enter text s).number ≡ 5 → OutOfRange (items_in text) (enter text s).place
place_of_5 text s h = Answers'.place_five text s h

-- every other answer
pub no_place : (text : List ℕ) (s : State) → ((enter text s).number ≡ 4 → ⊥) → ((enter text s).number ≡ 5 → ⊥) → (enter text s).place ≡ no_span
no_place text s h k = Answers'.no_place text s h k

-- 2. A refused call leaves every buffer and count as given, and answers counts 0. An accepted listing writes the text of the line and leaves
-- every other byte as it was. (A well-formed line's text is its `listing`: `Requests.well_formed_text`.)
pub refused_text : (text : List ℕ) (s : State) → ((enter text s).number ≡ 0 → ⊥) → ((enter text s).after ≡ s) × ((enter text s).added ≡ 0)
refused_text text s h = Answers'.unchanged text s h

-- a refused listing
pub refused_listing : (n : ℕ) (s : State) (output : List ℕ) → ((list n s output).number ≡ 0 → ⊥) → ((list n s output).output ≡ output) × ((list n s output).written ≡ 0)
refused_listing n s output h = Listings'.unwritten _ output (list n s output) (Listings'.list_answer n s output) h

-- an accepted listing
pub accepted_listing : (n : ℕ) (s : State) (output : List ℕ) → (list n s output).number ≡ 0 → Written (line_listing (names_of s) (line_at n (lines_of s))) output (list n s output)
accepted_listing n s output h = Listings'.writes _ output (list n s output) (Listings'.list_answer n s output) h

-- 3. The store. An accepted text has put one line in, in the place of the one with its number if there was one, or taken one out. Every
-- other line's bytes are the same; the whole state is sound, so the numbers rise; old names and values stand; the new names come after
-- them in order of first appearance, with their value entries; and from the new ends on no byte of any buffer has changed.
pub accepted_text : (text : List ℕ) (s : State) → (enter text s).number ≡ 0 → Edited text s (enter text s)
accepted_text text s h = Editing'.edited text s h

-- So a sound state stays sound, whatever is entered: after one test of tables and store, the calls that follow need none.
pub stays_sound : (text : List ℕ) (s : State) → T (sound_state s) → T (sound_state (enter text s).after)
stays_sound text s h = Editing'.stays_sound text s h

-- 4. Constants. Six right bytes are listed in at most 15 bytes, and that text is read as the same six bytes. The six bytes of a value in
-- range are its first ten digits, with the lower ones cut, never rounded; zero is six zero bytes.
pub constant_listed : (b : List ℕ) → T (right_constant? b) → length (constant_text b) ≤ 15
constant_listed b h = ConstantSize'.fifteen b h

-- and read again
pub constant_read : (b : List ℕ) → T (right_constant? b) → (first : Bool) (p : ℕ) → item_at first p (constant_text b) ≡ item p (length (constant_text b)) (constant b)
constant_read b h first p = ConstantSize'.reads_back b h first p

-- the lower digits are cut
pub constant_cut : (v u d : ℕ) → zero < v → T (in_range v u d) → CutTo v u d
constant_cut v u d h r = ConstantRight'.cut v u d h r

-- zero
pub constant_zero : (u d : ℕ) → six 0 u d ≡ zero_bytes
constant_zero u d = ConstantRight'.cut_zero u d

-- and what is made of a value is right
pub constant_right : (v u d : ℕ) → T (in_range v u d) → T (right_constant? (six v u d))
constant_right v u d r = ConstantRight'.six_right v u d r

-- 5. Entry stores only well-formed lines: after an accepted text every line of the store stood there before, or is well-formed over the names
-- after the call; and a store of well-formed lines stays one, whatever is entered.
pub stored_line : (text : List ℕ) (s : State) → (enter text s).number ≡ 0 → (l : List ℕ) → Memᴰ l (lines_of (enter text s).after) → Memᴰ l (lines_of s) ⊎ WellFormed (names_of (enter text s).after) l
stored_line text s h l m = WellFormedLines'.lines_after text s (enter text s) (Editing'.edited text s h) l m

-- over any number of calls
pub stored_lines : (text : List ℕ) (s : State) → HoldsWellFormed s → HoldsWellFormed (enter text s).after
stored_lines text s h = WellFormedLines'.stays_well_formed text s h

-- The test that a listing makes before it answers 10 says what the definition of well-formed says.
pub well_formed_test : (ns : List (List ℕ)) (l : List ℕ) → (T (well_formed? ns l) → WellFormed ns l) × (WellFormed ns l → T (well_formed? ns l))
well_formed_test ns l = (WellFormedTest'.test_says ns l, WellFormedTest'.says_test ns l)

-- 6. Re-entry. Over sound tables with room for it, and a record that agrees with the store, a well-formed line of at most 255 bytes whose listing
-- has at most 120 is put in, byte for byte, by entering that listing; no name is added, and nothing else changes. So a line that is listed from the
-- store, entered again, leaves the state as it is, unless it is an error line (document 02, §9). (Its length byte counts it, so where the entries of the store are bytes it has no more than 255.)
pub re_entry : (s : State) → T (sound_state s) → (l : List ℕ) → length l ≤ 255 → WellFormed (names_of s) l → length (listing (names_of s) l) ≤ 120 → s.used + length l ≤ room s.store + old_size (line_number l) s
    → enter (listing (names_of s) l) s ≡ accepted_with (with_lines s (put_line l (lines_of s)))
re_entry s o l b w h r = ReEntry'.entered_again s o l w h b r

-- listed, and entered again
pub listed_again : (n : ℕ) (s : State) (output : List ℕ) → length (line_at n (lines_of s)) ≤ 255 → error_line? (line_at n (lines_of s)) ≡ false → (list n s output).number ≡ 0 → (list n s output).written ≤ 120
    → enter (take (list n s output).written (list n s output).output) s ≡ accepted_with s
listed_again n s output b x h k = ListedAgain'.listed_again n s output x h k b

-- 7. No two different well-formed lines over one sound name table have the same listing, of any length.
pub one_listing : (ns : List (List ℕ)) → T (sound_names ns) → (l m : List ℕ) → WellFormed ns l → WellFormed ns m → listing ns l ≡ listing ns m → l ≡ m
one_listing ns s l m v w e = RoundTrip'.one_listing ns s l m v w e

-- 8. Exactly when. Terms.antt lists the numbers of each call with their conditions, in the order and the words of document 01: of a text that is
-- entered, of one that deletes, of a listing. A call answers k exactly when k's condition holds and none before it does, and 0 exactly when none holds.
pub text_exactly : (text : List ℕ) (s : State) → Exactly (text_refusals false text s) (enter text s).number
text_exactly text s = Exactly'.text_exactly text s

-- the same of a listing
pub listing_exactly : (n : ℕ) (s : State) (output : List ℕ) → Exactly (listing_refusals n s output) (list n s output).number
listing_exactly n s output = Exactly'.listing_exactly n s output

-- Neither 4 nor 5 is there exactly when the text's own items are a lawful sequence with every constant in range.
pub neither_4_nor_5 : (text : List ℕ) → ((Unread (items_in text) → ⊥) × (TooFar (items_in text) → ⊥)) ↔ Readable (items_in text)
neither_4_nor_5 text = OnePlace'.neither (number_end text) (past_number text)

-- The two are never there together, and each has one place.
pub one_place : (is : List Item) (p q : Span) → (NoReading is p → OutOfRange is q → ⊥) × (NoReading is p → NoReading is q → p ≡ q) × (OutOfRange is p → OutOfRange is q → p ≡ q)
one_place is p q = (OnePlace'.not_both is p q, OnePlace'.one_4 is p q, OnePlace'.one_5 is p q)
