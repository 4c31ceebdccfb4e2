-- The promises that document 02 adds, a section for each request in the order in which they landed. The terms in which they are stated are in RequestTerms.antt, and in Terms.antt of `promises`.
use Rattle.std.specs.Prelude.{ℕ, ◌≤◌, ◌<◌, ◌+◌, ◌≡◌, refl, Bool, true, false, ◌↔◌, ◌⊎◌, List, [], ◌∷◌, ◌++◌, map, T, length, take}
use Rattle.std.proofs.Common.{arith, ap}
use Rattle.paper.specs.Bytes.{bytes, blank?, every, joined}
use Rattle.paper.specs.Tokens.{string, unreadable}
use Rattle.paper.specs.Names.{names_in, number_of, known?, sound_names}
use Rattle.paper.specs.Items.{Item, no_span, item, string_byte?, item_at, size_at, items}
use Rattle.paper.specs.Line.{direct_number?, variable_bytes}
use Rattle.paper.specs.WellFormed.{Formed, WellFormedDirect, formed?}
use Rattle.paper.specs.Listing.{listing, direct_listing}
use Rattle.paper.specs.Errors.{flipped, error_line?, listable?, line_text, line_listing}
use Rattle.paper.specs.Store.{overwritten, room, whole_line?}
use Rattle.paper.specs.Calls.{State, names_of, sound_state, enter, enter_with, Listed, list, refusal, lines_of, sound_tables}
use Rattle.paper.specs.Direct.{same_buffer, typed, line_in, show}
use Rattle.laws.specs.Runs.{all_every}
use Rattle.promises.specs.Terms.{number_in, direct?, NoReading, OutOfRange, EndsThere, Readable, Exactly, NoLineNumber, Unread, TooFar, text_refusals, Listable, HoldsListable, Switched, RefusedLeaves, LineMade, over_store, typed_over_store, Written, Agrees, accepted_with, digit_count, HoldsWellFormed, AllListable}
use Rattle.requested.specs.RequestTerms.{typed_refusals, show_refusals, Reached, Parting, EachExactly, Summed, one_then, all_unsound, examined, faults, FirstBad, short?, Rebuilt, Form, ReadsLong, save_refusals, load_refusals, SavedWritten, Holding, RoomFor, ReadBack, collect_refusals, CollectedState, value_of, with_number, weigh_refusals, AddsUp, ColumnsOf, number_found, columns_found, Sums, SameProgram, after_both, EitherOrder, NoNames, listings_of, EitherBatch}
use Rattle.paper.specs.Batch.{text_lines, answers_to, batch}
use Rattle.paper.specs.Examine.{yes, bad_line, verdict_number}
use Rattle.paper.specs.Files.{save, direct_whole?, without_direct, parts_of, load}
use Rattle.paper.specs.Collect.{collect}
use Rattle.paper.specs.Weigh.{line_variables, line_numbers, line_strings, line_raw, line_else, columns_of, weigh, unweighed, field, columns_text, total_line, Named, not_opened, weigh_found, totals, named_line, report}
use Rattle.laws.specs.Ends as Ends'
use Rattle.grounds.specs.Strings as Strings'
use Rattle.promises.proofs.Answers as Answers'
use Rattle.requested.proofs.Agreeing as Agreeing'
use Rattle.promises.proofs.DirectLines as DirectLines'
use Rattle.requested.proofs.DirectAgain as DirectAgain'
use Rattle.requested.proofs.ShownAgain as ShownAgain'
use Rattle.promises.proofs.Listings as Listings'
use Rattle.grounds.proofs.WellFormedTest as WellFormedTest'
use Rattle.promises.proofs.WellFormedLines as WellFormedLines'
use Rattle.promises.proofs.ErrorLines as ErrorLines'
use Rattle.promises.proofs.KeptLines as KeptLines'
use Rattle.promises.proofs.OnePlace as OnePlace'
use Rattle.promises.proofs.ExactlyKept as ExactlyKept'
use Rattle.requested.proofs.ExactlyTyped as ExactlyTyped'
use Rattle.requested.proofs.Batches as Batches'
use Rattle.requested.proofs.Examining as Examining'
use Rattle.requested.proofs.Rebuilding as Rebuilding'
use Rattle.requested.proofs.VariableForms as VariableForms'
use Rattle.requested.proofs.Saving as Saving'
use Rattle.requested.proofs.Loading as Loading'
use Rattle.requested.proofs.SavedAgain as SavedAgain'
use Rattle.requested.proofs.Collecting as Collecting'
use Rattle.requested.proofs.Weighing as Weighing'
use Rattle.requested.proofs.Reporting as Reporting'
use Rattle.requested.proofs.TwoOrders as TwoOrders'
use Rattle.requested.proofs.ListedAlike as ListedAlike'

-- ---- §2 A quote left open

-- A string that no quote closes runs to the text's end, blanks and all, and is the token that a closing quote would make it.
pub open_string : (first : Bool) (p : ℕ) (t : List ℕ) → T (every string_byte? t) → item_at first p (34 ∷ t) ≡ item p (length (34 ∷ t)) (string t)
open_string first p t h = Strings'.open_string first p t (all_every string_byte? t h)

-- with its closing quote
pub closed_string : (first : Bool) (p : ℕ) (t rest : List ℕ) → T (every string_byte? t) → item_at first p (34 ∷ (t ++ 34 ∷ []) ++ rest) ≡ item p (length (34 ∷ t ++ 34 ∷ [])) (string t)
closed_string first p t rest h = Strings'.closed_string first p t rest (all_every string_byte? t h)

-- A 9B in it, before any quote that could close it, makes it no item: one that begins at the opening quote, ends before the 9B and fits nowhere.
pub marked_string : (first : Bool) (p : ℕ) (t rest : List ℕ) → T (every string_byte? t) → item_at first p (34 ∷ t ++ 0x9b ∷ rest) ≡ item p (length (34 ∷ t)) unreadable
marked_string first p t rest h = Strings'.marked_string first p t rest (all_every string_byte? t h)

-- ---- §8 Show the whole bad item

-- Refusals 4 and 5 answer the refused item's start and end (`Main.place_of_4`, `place_of_5`: `at` in `NoReading` and `OutOfRange`). The end is past the item that stands at
-- the start in the text, whatever was read before it.
pub place_ends : (text : List ℕ) (s : State) → ((enter text s).number ≡ 4) ⊎ ((enter text s).number ≡ 5) → EndsThere text (enter text s).place
place_ends text s h = Answers'.place_ends text s h

-- At the line's end stands nothing.
pub nothing_there : size_at [] ≡ 0
nothing_there = Ends'.end_size

-- A 9B has one byte, as in the text after REM and DATA.
pub mark_there : (s : List ℕ) → size_at (0x9b ∷ s) ≡ 1
mark_there s = Ends'.mark_size s

-- So has a byte that starts no item, unless it is a quote.
pub unfit_there : (b : ℕ) (s : List ℕ) → (item_at false 0 (b ∷ s)).token ≡ unreadable → (b ≡ 34 → ⊥) → size_at (b ∷ s) ≡ 1
unfit_there b s h q = Ends'.unfit_size b s h q

-- A string with a 9B in it, closed or open, ends at the first 9B.
pub marked_there : (t rest : List ℕ) → T (every string_byte? t) → size_at (34 ∷ t ++ 0x9b ∷ rest) ≡ length (34 ∷ t)
unfolding size_at item
marked_there t rest h = ap (λ (i : Item). i.size) (Strings'.marked_string false 0 t rest (all_every string_byte? t h))

-- An open one ends at the text's end.
pub open_there : (t : List ℕ) → T (every string_byte? t) → size_at (34 ∷ t) ≡ length (34 ∷ t)
unfolding size_at item
open_there t h = ap (λ (i : Item). i.size) (Strings'.open_string false 0 t (all_every string_byte? t h))

-- ---- §6 Line count and last number kept

-- A record that agrees with the store stays so, whatever is entered.
pub stays_agreeing : (keep : Bool) (text : List ℕ) (s : State) → Agrees s → Agrees (enter_with keep text s).after
stays_agreeing keep text s a = Agreeing'.stays_agreeing keep text s a

-- In every record reached from an empty one by calls, the count of lines and the greatest number are what a walk of the store finds.
pub record_agrees : (s : State) → Reached s → Agrees s
record_agrees s r = Agreeing'.reached_agrees s r

-- A record that disagrees is refused with 1, before any other number, whatever is entered. (`Main.text_exactly` says when 1 is answered, and `Main.refused_text`
-- that nothing changes.)
pub disagreeing_text : (text : List ℕ) (s : State) → (Agrees s → ⊥) → (enter text s).number ≡ 1
disagreeing_text text s h = Agreeing'.text_refused text s h

-- and whatever is listed
pub disagreeing_listing : (n : ℕ) (s : State) (output : List ℕ) → (Agrees s → ⊥) → (list n s output).number ≡ 1
disagreeing_listing n s output h = Agreeing'.listing_refused n s output h

-- ---- §1 Lines without a number

-- The call is now `typed`, which is lent a line buffer as well, and the switch of §9. Every text but a line without a number (`Terms.direct?`) is entered, and the
-- line buffer stays as it was: so each promise about `enter`, and of §9 about `enter_with`, holds of the call. What follows is said of every text that is typed, or of
-- lines without a number.
pub typed_as_entered : (keep : Bool) (text : List ℕ) (s : State) (buffer : List ℕ) → direct? text ≡ false → ((typed keep text s buffer).entered ≡ enter_with keep text s) × ((typed keep text s buffer).line ≡ buffer)
unfolding same_buffer
typed_as_entered keep text s buffer d = let e = DirectLines'.other_typed keep text s buffer d in rw e (refl, refl)

-- Places are those of `Main`, 1. In a line without a number they are counted from the text's start, among the items of the whole text.
pub direct_place_of_4 : (keep : Bool) (text : List ℕ) (s : State) (buffer : List ℕ) → T (direct? text) → (typed keep text s buffer).entered.number ≡ 4 → NoReading (items 0 text) (typed keep text s buffer).entered.place
direct_place_of_4 keep text s buffer d h = DirectLines'.direct_four text s buffer _ (DirectLines'.direct_answer keep text s buffer d) h

-- refusal 5
pub direct_place_of_5 : (keep : Bool) (text : List ℕ) (s : State) (buffer : List ℕ) → T (direct? text) → (typed keep text s buffer).entered.number ≡ 5 → OutOfRange (items 0 text) (typed keep text s buffer).entered.place
direct_place_of_5 keep text s buffer d h = DirectLines'.direct_five text s buffer _ (DirectLines'.direct_answer keep text s buffer d) h

-- The end is past the item that stands there.
pub typed_place_ends : (keep : Bool) (text : List ℕ) (s : State) (buffer : List ℕ) → ((typed keep text s buffer).entered.number ≡ 4) ⊎ ((typed keep text s buffer).entered.number ≡ 5) → EndsThere text (typed keep text s buffer).entered.place
typed_place_ends keep text s buffer h = DirectLines'.typed_ends keep text s buffer h

-- Every other answer has no place.
pub typed_no_place : (keep : Bool) (text : List ℕ) (s : State) (buffer : List ℕ) → ((typed keep text s buffer).entered.number ≡ 4 → ⊥) → ((typed keep text s buffer).entered.number ≡ 5 → ⊥) → (typed keep text s buffer).entered.place ≡ no_span
typed_no_place keep text s buffer h k = DirectLines'.typed_no_place keep text s buffer h k

-- A refused text leaves the line buffer as it was, and every other buffer and count too, and answers no name added, unless it is kept (§9).
pub refused_typed : (keep : Bool) (text : List ℕ) (s : State) (buffer : List ℕ) → ((typed keep text s buffer).entered.number ≡ 0 → ⊥)
    → RefusedLeaves keep text s (typed keep text s buffer).entered × ((typed keep text s buffer).line ≡ buffer)
refused_typed keep text s buffer h = DirectLines'.typed_refused keep text s buffer h

-- An accepted line without a number stands at the front of the line buffer, well-formed with number 32768, and nothing past it is written; its new names are
-- added as for a stored line; store, bytes used and the record's pair are untouched.
pub accepted_direct : (keep : Bool) (text : List ℕ) (s : State) (buffer : List ℕ) → T (direct? text) → (typed keep text s buffer).entered.number ≡ 0 → LineMade text s buffer (typed keep text s buffer)
accepted_direct keep text s buffer d h = DirectLines'.made_so text s buffer _ (DirectLines'.direct_answer keep text s buffer d) h

-- No store has any part in it, as long as it is sound: over any other the answer, the names and the line are the same.
pub direct_any_store : (store : List ℕ) (used lines greatest : ℕ) (keep : Bool) (text : List ℕ) (s : State) (buffer : List ℕ) → T (direct? text) → T (sound_state s) → T (sound_state (over_store store used lines greatest s))
    → typed keep text (over_store store used lines greatest s) buffer ≡ typed_over_store store used lines greatest (typed keep text s buffer)
direct_any_store store used lines greatest keep text s buffer d o t = DirectLines'.any_store store used lines greatest s buffer keep text d o t

-- A sound state stays sound, whatever is typed;
pub typed_stays_sound : (keep : Bool) (text : List ℕ) (s : State) (buffer : List ℕ) → T (sound_state s) → T (sound_state (typed keep text s buffer).entered.after)
typed_stays_sound keep text s buffer h = DirectLines'.typed_stays_sound keep text s buffer h

-- a record that agrees with the store stays so (and `record_agrees` holds after typed texts too);
pub typed_stays_agreeing : (keep : Bool) (text : List ℕ) (s : State) (buffer : List ℕ) → Agrees s → Agrees (typed keep text s buffer).entered.after
typed_stays_agreeing keep text s buffer a = Agreeing'.typed_stays_agreeing keep text s buffer a

-- and a store whose lines are well-formed or error lines (§9) stays one.
pub typed_stored_lines : (keep : Bool) (text : List ℕ) (s : State) (buffer : List ℕ) → HoldsListable s → HoldsListable (typed keep text s buffer).entered.after
typed_stored_lines keep text s buffer h = WellFormedLines'.typed_stays_listable text s h keep buffer

-- Demand 3, with 32768 allowed and the line buffer in the store's place. Over sound tables and store, a well-formed line of at most 255 bytes whose listing has
-- at most 120 is put in the line buffer, byte for byte, by typing that listing; no name is added, and nothing else changes.
pub direct_re_entry : (keep : Bool) (s : State) → T (sound_state s) → (l buffer : List ℕ) → length l ≤ 255 → WellFormedDirect (names_of s) l → length (direct_listing (names_of s) l) ≤ 120 → length l ≤ length buffer
    → typed keep (direct_listing (names_of s) l) s buffer ≡ record { entered = accepted_with s; line = overwritten l buffer }
direct_re_entry keep s o l buffer b w h fits = DirectAgain'.typed_again keep s o l buffer w b h fits

-- No two different ones over one sound name table have the same listing, of any length.
pub one_direct_listing : (ns : List (List ℕ)) → T (sound_names ns) → (l m : List ℕ) → WellFormedDirect ns l → WellFormedDirect ns m → direct_listing ns l ≡ direct_listing ns m → l ≡ m
one_direct_listing ns s l m v w e = DirectAgain'.one_direct_listing ns s l m v w e

-- The test that is made before a line buffer is listed says what the definition says.
pub direct_test : (ns : List (List ℕ)) (l : List ℕ) → (T (formed? direct_number? ns l) → WellFormedDirect ns l) × (WellFormedDirect ns l → T (formed? direct_number? ns l))
direct_test ns l = (WellFormedTest'.test_says ns l, WellFormedTest'.says_test ns l)

-- The listing of a line buffer: refused, it writes nothing and answers a count of 0.
pub refused_showing : (buffer names : List ℕ) (size count : ℕ) (values output : List ℕ) → ((show buffer names size count values output).number ≡ 0 → ⊥)
    → ((show buffer names size count values output).output ≡ output) × ((show buffer names size count values output).written ≡ 0)
refused_showing buffer names size count values output h = Listings'.unwritten _ output _ (Listings'.show_answer buffer names size count values output) h

-- Accepted, it writes the text of the line at the buffer's front, and leaves every other byte as it was.
pub accepted_showing : (buffer names : List ℕ) (size count : ℕ) (values output : List ℕ) → (show buffer names size count values output).number ≡ 0
    → Written (line_text (names_in (take size names)) (line_in buffer)) output (show buffer names size count values output)
accepted_showing buffer names size count values output h = Listings'.writes _ output _ (Listings'.show_answer buffer names size count values output) h

-- What was shown, typed again, leaves tables, store and line buffer as they are, unless it is an error line (§9).
pub shown_again : (keep : Bool) (s : State) → T (sound_state s) → (buffer output : List ℕ) → length (line_in buffer) ≤ 255 → error_line? (line_in buffer) ≡ false
    → (e : Listed) → e ≡ show buffer s.names s.name_size s.name_count s.values output → e.number ≡ 0 → e.written ≤ 120 → typed keep (take e.written e.output) s buffer ≡ record { entered = accepted_with s; line = buffer }
shown_again keep s o buffer output b x e is h k = ShownAgain'.shown_again keep s o buffer output b x e is h k

-- Exactly when (see `Main`, 8). RequestTerms.antt lists the numbers of `typed`: for a line without a number 1, 2, 4, 5, 6, 7 and 8, which is asked of the line buffer
-- alone, and for any other text those of `enter`; and the numbers of `show`: 1, 10, 11.
pub typed_exactly : (keep : Bool) (text : List ℕ) (s : State) (buffer : List ℕ) → Exactly (typed_refusals keep text s buffer) (typed keep text s buffer).entered.number
typed_exactly keep text s buffer = ExactlyTyped'.typed_exactly keep text s buffer

-- So 3 is answered only to an empty or blank text, or a number above 32767.
pub typed_3 : (text : List ℕ) → direct? text ≡ false → NoLineNumber text ↔ (T (every blank? text) ⊎ (32767 < number_in text))
typed_3 text d = ExactlyTyped'.no_number text d

-- Of a line without a number, neither 4 nor 5 is there exactly when its items are a lawful sequence with every constant in range.
pub direct_neither_4_nor_5 : (text : List ℕ) → ((Unread (items 0 text) → ⊥) × (TooFar (items 0 text) → ⊥)) ↔ Readable (items 0 text)
direct_neither_4_nor_5 text = OnePlace'.neither 0 text

-- the listing of a line buffer
pub show_exactly : (buffer names : List ℕ) (size count : ℕ) (values output : List ℕ) → Exactly (show_refusals buffer names size count values output) (show buffer names size count values output).number
show_exactly buffer names size count values output = ExactlyTyped'.show_exactly buffer names size count values output

-- ---- §3 A whole listing at once

-- A text is parted into lines: each 9B ends one, and bytes after the last 9B, if any, are one too.
pub lines_of_text : Parting text_lines
lines_of_text = Batches'.lines_of_text

-- Each line is answered as the single call answers it over the state that the lines before it left, and so exactly when its condition is the first that holds
-- there, whether those lines were taken or refused.
pub lines_exactly : (keep : Bool) (text : List ℕ) (s : State) → EachExactly keep (text_lines text) s (answers_to keep (text_lines text) s)
lines_exactly keep text s = Batches'.lines_exactly keep text s

-- The one call says of these answers how many take their lines, deletions among them, and how many do not; number, place in its line and line of the first
-- refusal, all 0 if there is none; and it leaves the state that the last line left.
pub batch_answers : (keep : Bool) (text : List ℕ) (s : State) → Summed s (answers_to keep (text_lines text) s) (batch keep text s)
batch_answers keep text s = Batches'.batch_answers keep text s

-- Every line is taken or refused.
pub batch_counts : (keep : Bool) (text : List ℕ) (s : State) → (batch keep text s).taken + (batch keep text s).refused ≡ length (text_lines text)
batch_counts keep text s = Batches'.batch_counts keep text s

-- A text may be sent in two parts, the first with its last 9B: the second call goes on where the first one ended.
pub batch_in_two : (keep : Bool) (a b : List ℕ) (s : State) → batch keep (a ++ 0x9b ∷ b) s ≡ one_then (batch keep (a ++ 0x9b ∷ []) s) (batch keep b (batch keep (a ++ 0x9b ∷ []) s).after)
batch_in_two keep a b s = Batches'.batch_in_two keep a b s

-- Tables, store and record are sound after a text, and after any number of lines, exactly when they were before: one test serves all lines.
pub same_soundness : (keep : Bool) (text : List ℕ) (s : State) → sound_state (enter_with keep text s).after ≡ sound_state s
same_soundness keep text s = Batches'.same_soundness keep text s

-- many lines
pub batch_soundness : (keep : Bool) (text : List ℕ) (s : State) → sound_state (batch keep text s).after ≡ sound_state s
batch_soundness keep text s = Batches'.batch_soundness keep text s

-- Where they are unsound every line is refused with 1; a text without a line is not.
pub batch_unsound : (keep : Bool) (text : List ℕ) (s : State) → sound_state s ≡ false → batch keep text s ≡ all_unsound (length (text_lines text)) s
batch_unsound keep text s u = Batches'.batch_unsound keep text s u

-- A line without a number, the empty one too, is refused with 3 after 1 and 2, and adds no name.
pub unnumbered_line : (keep : Bool) (l : List ℕ) (s : State) → T (sound_state s) → length l ≤ 120 → digit_count l ≡ 0 → enter_with keep l s ≡ refusal 3 no_span s
unnumbered_line keep l s o h d = Batches'.unnumbered_line keep l s o h d

-- ---- §9 Error lines that stay in the program

-- With the switch off `enter_with` is `enter`. With it on a text that is not refused with 4, or cannot be kept (a 9B in it, a 1B at the place), is answered as
-- without it; one that can is kept if its error line has room, and else answered 8, as a refusal that changes nothing. (`text_exactly_with` has the numbers.)
pub switched : (text : List ℕ) (s : State) → Switched text s (enter_with true text s)
switched text s = KeptLines'.switched text s

-- So whatever is accepted is accepted alike,
pub accepted_alike : (keep : Bool) (text : List ℕ) (s : State) → (enter_with keep text s).number ≡ 0 → enter_with keep text s ≡ enter text s
accepted_alike keep text s h = KeptLines'.accepted_alike text s keep h

-- and a refused text changes nothing, with one exception: a line that is kept.
pub refused_with : (keep : Bool) (text : List ℕ) (s : State) → ((enter_with keep text s).number ≡ 0 → ⊥) → RefusedLeaves keep text s (enter_with keep text s)
refused_with keep text s h = KeptLines'.refused_leaves text s keep h

-- Exactly when (see `Main`, 8), with wrong lines kept or not.
pub text_exactly_with : (keep : Bool) (text : List ℕ) (s : State) → Exactly (text_refusals keep text s) (enter_with keep text s).number
text_exactly_with keep text s = ExactlyKept'.text_exactly_with text s keep

-- The byte at the place can be mended: flipped twice, it is as it was.
pub flipped_twice : (b : ℕ) → b < 256 → flipped (flipped b) ≡ b
flipped_twice b h = ErrorLines'.flipped_twice b h

-- Demand 3's last sentence: a store whose lines are well-formed or error lines stays one, whatever is entered.
pub stored_listable : (keep : Bool) (text : List ℕ) (s : State) → HoldsListable s → HoldsListable (enter_with keep text s).after
stored_listable keep text s h = WellFormedLines'.stays_listable text s h keep

-- No line is both, whatever its number may be;
pub never_both : {lawful? : ℕ → Bool} (ns : List (List ℕ)) (l : List ℕ) → Formed lawful? ns l → error_line? l ≡ false
never_both ns l w = ErrorLines'.never_both ns l w

-- so a well-formed line lists as it did.
pub well_formed_text : {lawful? : ℕ → Bool} (ns : List (List ℕ)) (l : List ℕ) → Formed lawful? ns l → (line_text ns l ≡ direct_listing ns l) × (line_listing ns l ≡ listing ns l)
well_formed_text ns l w = let e = ErrorLines'.never_both ns l w in (ErrorLines'.text_else ns l e, ErrorLines'.listing_else ns l e)

-- The test that is made before a line is listed says what 10 is asked of.
pub listable_test : {lawful? : ℕ → Bool} (ns : List (List ℕ)) (l : List ℕ) → (T (listable? lawful? ns l) → Listable lawful? ns l) × (Listable lawful? ns l → T (listable? lawful? ns l))
listable_test ns l = (ErrorLines'.listable_says ns l, ErrorLines'.says_listable ns l)

-- ---- §10 Programs from other tokenizers

-- Yes exactly when the tables are sound and each line is well-formed over them.
pub examine_yes : (s : State) → (examined s ≡ yes) ↔ (T (sound_tables s) × HoldsWellFormed s)
examine_yes s = Examining'.examine_yes s

-- Otherwise the first unsound one of names, values and store, in that order, or a line: exactly when (see `Main`, 8), over the numbers of the answers, with 4 for
-- a line.
pub examine_exactly : (s : State) → Exactly (faults s) (verdict_number (examined s))
examine_exactly s = Examining'.examine_exactly s

-- The number of a line is that of the first bad one. (An error line of §9 is bad: `never_both`.)
pub examine_line : (s : State) (n : ℕ) → examined s ≡ bad_line n → T (sound_tables s) × FirstBad s n
examine_line s n e = Examining'.examine_line s n e

-- For a yes with every listing at most 120 bytes and store room for the lines, entering all listings in order into an empty store, under those name and value
-- tables, takes every line, adds no name and rebuilds the same used bytes, whatever the switch of §9 says.
pub examined_rebuilt : (keep : Bool) (s : State) (store : List ℕ) → examined s ≡ yes → T (every (short? (names_of s)) (lines_of s)) → s.used ≤ room store
    → Rebuilt s (over_store store 0 0 0 s) (answers_to keep (map (listing (names_of s)) (lines_of s)) (over_store store 0 0 0 s))
examined_rebuilt keep s store e h r = Rebuilding'.rebuilt s store keep e h r

-- ---- §11 More than 128 names

-- Over a sound table a name's token has one of two forms, by the name's number, and both are bytes. (Demand 3, `Main` 5 to 7, and what is said of it above hold of
-- both: their proofs ask of a variable's token only what `VariableToken` of crate `laws` says of either form.)
pub two_forms : (ns : List (List ℕ)) (n : List ℕ) → T (sound_names ns) → T (known? ns n) → Form (number_of ns n) (variable_bytes ns n)
two_forms ns n s k = VariableForms'.two_forms ns n s k

-- 00 before 128 or more is not well-formed: no well-formed line, with a number or without one, has it where a variable's token stands.
pub no_higher_form : (lawful? : ℕ → Bool) (ns : List (List ℕ)) (l : List ℕ) (byte : ℕ) → T (sound_names ns) → 128 ≤ byte → ReadsLong ns l byte → Formed lawful? ns l → ⊥
no_higher_form lawful? ns l byte s h r w = VariableForms'.no_higher_form lawful? ns l byte s h r w

-- Stored programs and files mean what they did: over a table of at most 128 names each name has the token that it had,
pub old_forms : (ns : List (List ℕ)) (n : List ℕ) → length ns ≤ 128 → T (known? ns n) → variable_bytes ns n ≡ (0x80 + number_of ns n) ∷ []
old_forms ns n h k = VariableForms'.old_forms ns n h k

-- and 00 before any byte stands for no variable in a well-formed line, as it did not.
pub no_long_form : (lawful? : ℕ → Bool) (ns : List (List ℕ)) (l : List ℕ) (byte : ℕ) → T (sound_names ns) → length ns ≤ 128 → ReadsLong ns l byte → Formed lawful? ns l → ⊥
no_long_form lawful? ns l byte s h r w = VariableForms'.no_such_form lawful? ns l byte s (omega arith) r w

-- ---- §7 The saved program file

-- The writer: an accepted call writes the file of a sound program to the front of the buffer, answers its length, and writes no other byte.
pub file_written : (s : State) (output : List ℕ) → (save s output).number ≡ 0 → SavedWritten s output (save s output)
file_written s output h = Saving'.file_written s output h

-- A refused one writes nothing.
pub refused_saving : (s : State) (output : List ℕ) → ((save s output).number ≡ 0 → ⊥) → ((save s output).output ≡ output) × ((save s output).written ≡ 0)
refused_saving s output h = Saving'.nothing_written s output h

-- The reader: an accepted file leaves a sound state, whose record agrees, and which holds the file's names, values and lines, with every byte past the new ends
-- as it was.
pub accepted_file : (file : List ℕ) (s : State) → (load file s).number ≡ 0 → Holding (parts_of file) s (load file s).after
accepted_file file s h = Loading'.file_held file s h

-- A refused one leaves every buffer and count as given.
pub refused_file : (file : List ℕ) (s : State) → ((load file s).number ≡ 0 → ⊥) → (load file s).after ≡ s
refused_file file s h = Loading'.file_refused file s h

-- A last line of number 32768 is left out, whatever it holds;
pub last_left_out : (ls : List (List ℕ)) (l : List ℕ) → direct_whole? l ≡ true → without_direct (ls ++ l ∷ []) ≡ ls
last_left_out ls l e = Loading'.last_out ls l e

-- lines that a store may hold are kept, where there is none.
pub lines_kept : (ls : List (List ℕ)) → T (every whole_line? ls) → without_direct ls ≡ ls
lines_kept ls t = Loading'.all_kept ls t

-- Reading what was written gives back the names, values and stored lines, into any buffers with room for them, whatever those held; the record comes back whole.
pub saved_loads : (s t : State) (output : List ℕ) → (save s output).number ≡ 0 → RoomFor s t → ReadBack s (load (take (save s output).written (save s output).output) t)
saved_loads s t output h r = SavedAgain'.reads_back s t output h r

-- Exactly when (see `Main`, 8): the writer's 1 and 8;
pub saved_exactly : (s : State) (output : List ℕ) → Exactly (save_refusals s output) (save s output).number
saved_exactly s output = Saving'.saved_exactly s output

-- the reader's 12, 13, 1 and 8.
pub loaded_exactly : (file : List ℕ) (s : State) → Exactly (load_refusals file s) (load file s).number
loaded_exactly file s = Loading'.loaded_exactly file s

-- ---- §12 Take back unused names

-- A collection that is not refused leaves a sound state, whose record agrees and has the pair that it had. The names that are left are exactly those that a
-- well-formed line uses, in their order. Every line is written over them with the number and the tokens that it had: well-formed, so that its length and offsets
-- follow, and no longer; an error line stays byte for byte. Bytes past the new ends stay as they were.
pub collected_state : (s : State) → (collect s).number ≡ 0 → CollectedState s (collect s).after
collected_state s h = Collecting'.collected_state s h

-- The eight bytes of the value of each name that is left are as they were, but for the number, which is its new one.
pub collected_values : (s : State) (n : List ℕ) → (collect s).number ≡ 0 → T (known? (names_of (collect s).after) n)
    → value_of (collect s).after n ≡ with_number (number_of (names_of (collect s).after) n) (value_of s n)
collected_values s n h k = Collecting'.collected_values s n h k

-- Each line's listing is the same before and after: whatever is listed, into whatever buffer, the call answers and writes the same.
pub collected_lists : (s : State) (n : ℕ) (output : List ℕ) → list n (collect s).after output ≡ list n s output
collected_lists s n output = Collecting'.collected_lists s n output

-- A second collection changes nothing more: it answers what the first did, and leaves the same.
pub collected_twice : (s : State) → collect (collect s).after ≡ collect s
collected_twice s = Collecting'.collected_twice s

-- A refused one leaves all as it was.
pub collected_refused : (s : State) → ((collect s).number ≡ 0 → ⊥) → (collect s).after ≡ s
collected_refused s h = Collecting'.collected_refused s h

-- Exactly when (see `Main`, 8): 1, and 10 for any line that is neither well-formed nor an error line.
pub collect_exactly : (s : State) → Exactly (collect_refusals s) (collect s).number
collect_exactly s = Collecting'.collect_exactly s

-- A record that disagrees is refused with 1; one that agrees stays so (and `record_agrees` holds after collections too).
pub disagreeing_collection : (s : State) → (Agrees s → ⊥) → (collect s).number ≡ 1
disagreeing_collection s h = Agreeing'.collection_refused s h

-- Tables, store and record are sound after a collection exactly when they were before;
pub collected_soundness : (s : State) → sound_state (collect s).after ≡ sound_state s
collected_soundness s = Collecting'.collected_soundness s

-- a store whose lines are well-formed stays one,
pub collected_well_formed : (s : State) → HoldsWellFormed s → HoldsWellFormed (collect s).after
collected_well_formed s h = Collecting'.collected_well_formed s h

-- and so does one whose lines are well-formed or error lines.
pub collected_listable : (s : State) → HoldsListable s → HoldsListable (collect s).after
collected_listable s h = Collecting'.collected_listable s h

-- ---- §13 What tokens save us

-- The last column has a definition of its own, `Weigh.line_else`, and no column is what the others leave. The five byte columns of a line that can be listed add
-- up to its bytes;
pub line_adds_up : {lawful? : ℕ → Bool} (ns : List (List ℕ)) (l : List ℕ) → Listable lawful? ns l → line_variables ns l + line_numbers ns l + line_strings ns l + line_raw ns l + line_else ns l ≡ length l
line_adds_up ns l w = Weighing'.line_adds_up ns l w

-- those of such lines to the bytes of all;
pub lines_add_up : (ns ls : List (List ℕ)) → AllListable ns ls → AddsUp (columns_of ns ls)
lines_add_up ns ls h = Weighing'.columns_add_up ns ls h

-- those of a program to its store bytes used (of one that is refused all are 0).
pub columns_add_up : (file : List ℕ) → AddsUp (weigh file).columns
columns_add_up file = Weighing'.file_adds_up file

-- The columns are those of the program that the file loads as (§7), and so are the bytes used.
pub columns_loaded : (file : List ℕ) (s : State) → (weigh file).number ≡ 0 → (load file s).number ≡ 0 → ColumnsOf (load file s).after (weigh file).columns
columns_loaded file s h k = Weighing'.columns_loaded file s h k

-- Exactly when (see `Main`, 8): 14 of a file that is too long, then 12, 13 and 1 of §7, then 10;
pub weighed_exactly : (file : List ℕ) → Exactly (weigh_refusals file) (weigh file).number
weighed_exactly file = Weighing'.weighed_exactly file

-- and 14 of one that cannot be opened.
pub not_opened_14 : (weigh_found not_opened).number ≡ 14
unfolding weigh_found unweighed
not_opened_14 = refl

-- The report is a definition, `Weigh.report`: from the names of the list, each with what was found under it, to the bytes printed. It has a line for each name, in the
-- order of the list, and `total` last.
pub report_lines : (ps : List Named) → report ps ≡ joined (map named_line ps) ++ total_line (totals ps)
unfolding report
report_lines ps = refl

-- The line of a program that is read is its name and its columns;
pub report_counted : (p : Named) → number_found p ≡ 0 → named_line p ≡ (p.name ++ columns_text (columns_found p)) ++ 0x0a ∷ []
report_counted p h = Reporting'.line_counted p h

-- of one that is refused its name, `refused` and the number.
pub report_refused : (p : Named) → (number_found p ≡ 0 → ⊥) → named_line p ≡ (p.name ++ (9 ∷ bytes "refused" ++ field (number_found p))) ++ 0x0a ∷ []
report_refused p h = Reporting'.line_refused p h

-- The last line sums each column over all names;
pub report_sums : (ps : List Named) → Sums ps (totals ps)
report_sums ps = Reporting'.summed ps

-- a refused program adds nothing to it, wherever it stands;
pub refused_adds_nothing : (ps qs : List Named) (p : Named) → (number_found p ≡ 0 → ⊥) → totals (ps ++ p ∷ qs) ≡ totals (ps ++ qs)
refused_adds_nothing ps qs p h = Reporting'.refused_adds_nothing ps qs p h

-- and its byte columns too add up to its store bytes used.
pub totals_add_up : (ps : List Named) → AddsUp (totals ps)
totals_add_up ps = Reporting'.totals_add_up ps

-- ---- §14 Two engineers, one program

-- Two texts with different line numbers, entries or deletions, each accepted first and each accepted after the other, of which neither adds a name in either order:
-- the store's used bytes, names, values and the whole record come out the same both ways. (Of every such text the call is `enter_with`: `typed_as_entered`.)
pub same_both_ways : (keep : Bool) (a b : List ℕ) (s : State) → EitherOrder keep a b s → NoNames keep a b s → SameProgram (after_both keep a b s) (after_both keep b a s)
same_both_ways keep a b s orders none = TwoOrders'.same_both_ways keep a b s orders none

-- Where a name is added the numbers may differ. The listing of every line is the same whichever came first, if every earlier line is well-formed or an error line;
pub same_listings : (keep : Bool) (a b : List ℕ) (s : State) → EitherOrder keep a b s → HoldsListable s → listings_of (after_both keep a b s) ≡ listings_of (after_both keep b a s)
same_listings keep a b s orders h = ListedAlike'.same_listings keep a b s orders h

-- whatever is listed, into whatever buffer, the call answers and writes the same.
pub same_lists : (keep : Bool) (a b : List ℕ) (s : State) → EitherOrder keep a b s → HoldsListable s → (n : ℕ) (output : List ℕ) → list n (after_both keep a b s) output ≡ list n (after_both keep b a s) output
same_lists keep a b s orders h n output = ListedAlike'.same_lists keep a b s orders h n output

-- Our addition: two texts of many lines (§3) that have no line number in common, with every line of each taken, first and after the other, and adding no name, leave
-- the same program whichever is entered first.
pub same_batches : (keep : Bool) (a b : List ℕ) (s : State) → EitherBatch keep a b s → SameProgram (batch keep b (batch keep a s).after).after (batch keep a (batch keep b s).after).after
same_batches keep a b s orders = TwoOrders'.same_batches keep a b s orders
