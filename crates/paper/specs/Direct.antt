-- Lines without a number (document 02, §1): a text with no leading digit becomes a token line with number 32768 in a lent line buffer.
use Rattle.std.specs.Prelude.{ℕ, ◌-◌, ◌*◌, Bool, true, false, ◌&&◌, List, leb, ltb, length, take, get_or}
use Rattle.paper.specs.Bytes.{pick}
use Rattle.paper.specs.Tokens.{Token}
use Rattle.paper.specs.Names.{names_in, sound_table, add_names}
use Rattle.paper.specs.Items.{no_span}
use Rattle.paper.specs.Line.{line_bytes, direct_number, direct_number?}
use Rattle.paper.specs.Errors.{listable?, line_text}
use Rattle.paper.specs.Store.{overwritten}
use Rattle.paper.specs.Calls.{State, names_of, sound_state, Entered, enter_with, refusal, Translated, tokens, refused_at, translate, with_names, lacks_room, unless_short, Head, numbered, too_great, only_blanks, unnumbered, head_of, Listed, not_listed, listed_if}

-- what a call answers that is lent a line buffer: what `enter` does, and the buffer afterwards
pub record Typed : Type 0 where
  pub entered : Entered
  pub line : List ℕ

-- a call that leaves the line buffer as it was
unfoldable pub same_buffer : List ℕ → Entered → Typed
same_buffer buffer e = record { entered = e; line = buffer }

-- 6 and 7 as for a stored line, 8 for a short line buffer; or the line stands at its front, new names are added, and the store is untouched
unfoldable pub accept_direct : State → List ℕ → List Token → Typed
accept_direct s buffer ts =
    let ns = add_names (names_of s) ts in
    let line = line_bytes ns direct_number ts in
    let entered : Entered = record { number = 0; place = no_span; added = length ns - length (names_of s); after = with_names s ns } in
    let typed : Typed = record { entered = entered; line = overwritten line buffer } in
    unless_short (λ k. same_buffer buffer (refusal k no_span s)) (lacks_room s ns) line (ltb (length buffer) (length line)) typed

-- the answer to a translation
unfoldable pub answered_direct : State → List ℕ → Translated → Typed
answered_direct s buffer (tokens ts) = accept_direct s buffer ts
answered_direct s buffer (refused_at k p) = same_buffer buffer (refusal k p s)

-- a text that begins so is a line without a number
unfoldable pub unnumbered? : Head → Bool
unnumbered? (numbered n p rest) = false
unnumbered? too_great = false
unnumbered? only_blanks = false
unnumbered? unnumbered = true

-- A text typed at the tag: over a sound state, and not too long, a line without a number goes to the line buffer, with places counted from the
-- text's start; all else is entered. The switch says whether wrong lines are kept (§9).
unfoldable pub typed : Bool → List ℕ → State → List ℕ → Typed
typed keep text s buffer =
    let direct = answered_direct s buffer (translate 0 text) in
    let other = same_buffer buffer (enter_with keep text s) in
    pick (sound_state s && (leb (length text) 120 && unnumbered? (head_of text))) direct other

-- ---- the listing of a line buffer

-- the line at the front of a line buffer, as long as its third byte says
unfoldable pub line_in : List ℕ → List ℕ
line_in buffer = take (get_or buffer 2 0) buffer

-- over sound names with room for their values: 10, 11, or the listing
unfoldable pub show_sound : List ℕ → List (List ℕ) → List ℕ → Listed
show_sound buffer ns output = let l = line_in buffer in listed_if (listable? direct_number? ns l) (line_text ns l) output

-- 1, and then over sound names with room for their values
unfoldable pub show : List ℕ → List ℕ → ℕ → ℕ → List ℕ → List ℕ → Listed
show buffer names size count values output =
    let listed = show_sound buffer (names_in (take size names)) output in
    pick (sound_table names size count && leb (8 * count) (length values)) listed (not_listed 1 output)
