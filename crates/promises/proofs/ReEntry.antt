-- The listing of a well-formed line, entered: the line itself is put in, and nothing else changes.
use Rattle.std.specs.Prelude.{ℕ, ◌+◌, ◌-◌, ◌*◌, ◌≤◌, ◌≡◌, false, List, [], ◌∷◌, ◌++◌, T, length, take, drop}
use Rattle.std.proofs.Common.{add-zero, arith, sym, ap, ◌∙◌, append-nil, length-append, take-append-drop, length-take-le, le-ltb}
use Rattle.std.proofs.Math.Seq.{drop-length}
use Rattle.paper.specs.Bytes.{joined}
use Rattle.paper.specs.Tokens.{Token}
use Rattle.paper.specs.Names.{name_bytes, add_names, value_entries}
use Rattle.paper.specs.Line.{line_bytes, line_number}
use Rattle.paper.specs.Listing.{listing}
use Rattle.paper.specs.WellFormed.{WellFormed}
use Rattle.paper.specs.Store.{room, lines_below, lines_above, put_line, overwritten}
use Rattle.paper.specs.Calls.{State, names_of, lines_of, sound_state, with_names, stored, lacks_room, unless_short, accept, enter}
use Rattle.laws.specs.Lines.{joined_append, old_line, three_parts, room_lent}
use Rattle.promises.specs.Terms.{SoundState, old_size, with_lines, accepted_with}
use Rattle.grounds.proofs.RoundTrip.{no_new_names}
use Rattle.promises.proofs.States.{state_says}
use Rattle.promises.proofs.Entering.{enter_listing}
use Rattle.promises.proofs.Editing.{used_bytes}

-- ---- the size of the store with a line put in

used_in : (s : State) → T (sound_state s) → s.used ≤ length s.store
used_in s o = omega (arith, (state_says s o).used_fits, room_lent s.store)

-- the lines take as many bytes as are used
pub lines_size : (s : State) → T (sound_state s) → length (joined (lines_of s)) ≡ s.used
lines_size s o = ap length (used_bytes s o) ∙ length-take-le s.used s.store (used_in s o)

-- the bytes of all lines with one put in, and of the one that it replaces
pub put_size : (s : State) → T (sound_state s) → (l : List ℕ) → length (joined (put_line l (lines_of s))) + old_size (line_number l) s ≡ s.used + length l
unfolding put_line old_size old_line joined
put_size s o l =
    let n : ℕ = line_number l in
    let ls : List (List ℕ) = lines_of s in
    let below : List ℕ = joined (lines_below n ls) in
    let above : List ℕ = joined (lines_above n ls) in
    let new = ap length (joined_append (lines_below n ls) (l ∷ lines_above n ls)) in
    let old = ap length (three_parts n ls) in
    omega (arith, lines_size s o, length-append below (l ++ above), length-append l above, length-append below (old_line n ls ++ above), length-append (old_line n ls) above)

-- ---- no new name: the tables stay

same_over : (k : ℕ) (l : List ℕ) → k ≤ length l → overwritten (take k l ++ []) l ≡ l
unfolding overwritten
same_over k l h =
    ap (λ (z : List ℕ). z ++ drop (length z) l) (append-nil (take k l)) ∙ ap (λ (z : ℕ). take k l ++ drop z l) (length-take-le k l h) ∙ take-append-drop k l

-- the tables stay
pub tables_stay : (s : State) → SoundState s → (ls : List (List ℕ)) → stored s (names_of s) ls ≡ with_lines s ls
unfolding stored with_names name_bytes value_entries with_lines
tables_stay s o ls =
    rw (drop-length (names_of s), same_over s.name_size s.names o.table.fits, same_over (8 * s.name_count) s.values o.values_fit, o.table.counted, add-zero s.name_size)

-- ---- the listing entered

-- and no room is lacking
pub no_lack : (s : State) → lacks_room s (names_of s) ≡ false
unfolding lacks_room
no_lack s = rw (le-ltb (length (names_of s)) (length (names_of s)) (omega arith))

accepted : (s : State) → SoundState s → (n : ℕ) (ts : List Token) (l : List ℕ) → add_names (names_of s) ts ≡ names_of s → line_bytes (names_of s) n ts ≡ l → length l ≤ 255 → length (joined (put_line l (lines_of s))) ≤ room s.store
    → accept s n ts ≡ accepted_with (with_lines s (put_line l (lines_of s)))
unfolding accept unless_short accepted_with
accepted s o n ts l names line short fits =
    let none : length (names_of s) - length (names_of s) ≡ 0 = omega arith in
    rw (names, line, no_lack s, le-ltb 255 (length l) short, le-ltb (room s.store) (length (joined (put_line l (lines_of s)))) fits, tables_stay s o (put_line l (lines_of s)), none)

-- the listing of a well-formed line, entered over a sound state with room, puts that line in, and nothing else changes
pub entered_again : (s : State) → T (sound_state s) → (l : List ℕ) → WellFormed (names_of s) l → length (listing (names_of s) l) ≤ 120 → length l ≤ 255 → s.used + length l ≤ room s.store + old_size (line_number l) s
    → enter (listing (names_of s) l) s ≡ accepted_with (with_lines s (put_line l (lines_of s)))
entered_again s o l w h b r =
    enter_listing s o l w h
    ∙ accepted s (state_says s o) w.number w.tokens l (no_new_names (names_of s) w.tokens w.right) w.bytes b (omega (arith, put_size s o l))

-- ---- a state's own lines

-- the state with its own lines
pub store_same : (s : State) → T (sound_state s) → with_lines s (lines_of s) ≡ s
unfolding with_lines overwritten
store_same s o = rw (used_bytes s o, length-take-le s.used s.store (used_in s o), take-append-drop s.used s.store, sym (state_says s o).agrees.counted, sym (state_says s o).agrees.greatest)
