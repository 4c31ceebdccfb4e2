-- The listing of a line without a number (document 02, §1), typed: the line itself stands in the line buffer, and nothing else changes.
use Rattle.std.specs.Prelude.{ℕ, ◌-◌, ◌≤◌, ◌≡◌, Bool, List, T, length}
use Rattle.std.proofs.Common.{arith, sym, ap, ◌∙◌, eqb→eq, le-ltb}
use Rattle.paper.specs.Tokens.{Token}
use Rattle.paper.specs.Names.{sound_names, add_names}
use Rattle.paper.specs.Line.{line_bytes, direct_number, direct_number?}
use Rattle.paper.specs.Listing.{body_text, direct_listing}
use Rattle.paper.specs.WellFormed.{WellFormedDirect}
use Rattle.paper.specs.Store.{overwritten}
use Rattle.paper.specs.Calls.{State, names_of, lines_of, sound_state, tokens, translate, with_names, unless_short}
use Rattle.paper.specs.Direct.{accept_direct, answered_direct, typed}
use Rattle.laws.specs.Tests.{is_true}
use Rattle.promises.specs.Terms.{accepted_with}
use Rattle.grounds.proofs.RoundTrip.{translated_again, no_new_names, decoded, tokens_apart}
use Rattle.promises.proofs.States.{state_says}
use Rattle.promises.proofs.Beginning.{translated_direct}
use Rattle.promises.proofs.ReEntry.{tables_stay, no_lack, store_same}
use Rattle.promises.proofs.DirectLines.{direct_typed, named_stored}

-- ---- the line of a listing

-- its listing is translated into its tokens
direct_again : (ns : List (List ℕ)) → T (sound_names ns) → (l : List ℕ) (w : WellFormedDirect ns l) → translate 0 (direct_listing ns l) ≡ tokens w.tokens
unfolding direct_listing
direct_again ns s l w = ap (λ (z : List Token). translate 0 (body_text z)) (decoded ns l w) ∙ translated_again ns s w.items w.tokens w.lawful w.right 0

-- its bytes are those of its tokens, with number 32768
direct_bytes : (ns : List (List ℕ)) (l : List ℕ) (w : WellFormedDirect ns l) → line_bytes ns direct_number w.tokens ≡ l
unfolding direct_number?
direct_bytes ns l w = ap (λ (z : ℕ). line_bytes ns z w.tokens) (sym (eqb→eq w.number direct_number w.lawful_number)) ∙ w.bytes

-- one listing, one line
pub one_direct_listing : (ns : List (List ℕ)) → T (sound_names ns) → (l m : List ℕ) → WellFormedDirect ns l → WellFormedDirect ns m → direct_listing ns l ≡ direct_listing ns m → l ≡ m
one_direct_listing ns s l m v w e =
    let ts : v.tokens ≡ w.tokens = tokens_apart v.tokens w.tokens (sym (direct_again ns s l v) ∙ ap (translate 0) e ∙ direct_again ns s m w) in
    sym (direct_bytes ns l v) ∙ ap (line_bytes ns direct_number) ts ∙ direct_bytes ns m w

-- ---- typed again

-- no new name: the state stays
none_named : (s : State) → T (sound_state s) → with_names s (names_of s) ≡ s
none_named s o = sym (named_stored s (names_of s) o) ∙ tables_stay s (state_says s o) (lines_of s) ∙ store_same s o

accepted : (s : State) → T (sound_state s) → (buffer : List ℕ) (ts : List Token) (l : List ℕ) → add_names (names_of s) ts ≡ names_of s → line_bytes (names_of s) direct_number ts ≡ l → length l ≤ 255 → length l ≤ length buffer
    → accept_direct s buffer ts ≡ record { entered = accepted_with s; line = overwritten l buffer }
unfolding accept_direct unless_short accepted_with
accepted s o buffer ts l names line short fits =
    let none : length (names_of s) - length (names_of s) ≡ 0 = omega arith in
    rw (names, line, no_lack s, le-ltb 255 (length l) short, le-ltb (length buffer) (length l) fits, none_named s o, none)

-- over a sound state, the listing of a line without a number, typed, puts that line in the line buffer, and nothing else changes
pub typed_again : (keep : Bool) (s : State) → T (sound_state s) → (l buffer : List ℕ) → WellFormedDirect (names_of s) l → length l ≤ 255 → length (direct_listing (names_of s) l) ≤ 120 → length l ≤ length buffer
    → typed keep (direct_listing (names_of s) l) s buffer ≡ record { entered = accepted_with s; line = overwritten l buffer }
unfolding answered_direct
typed_again keep s o l buffer w b h fits =
    let ns : List (List ℕ) = names_of s in
    let text : List ℕ = direct_listing ns l in
    let tr : translate 0 text ≡ tokens w.tokens = direct_again ns (state_says s o).table.names l w in
    rw (direct_typed keep text s buffer (translated_direct 0 text w.tokens tr), is_true (sound_state s) o, le-ltb 120 (length text) h, tr) (accepted s o buffer w.tokens l (no_new_names ns w.tokens w.right) (direct_bytes ns l w) b fits)
