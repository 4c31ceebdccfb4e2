-- The listing of a well-formed line, entered, comes to the tokens of that line.
use Rattle.std.specs.Prelude.{ℕ, suc, ◌+◌, ◌/◌, ◌%◌, ◌≤◌, ◌≡◌, refl, Bool, true, false, ◌&&◌, List, [], ◌∷◌, ◌++◌, T, leb, ltb, length, take, drop}
use Rattle.std.proofs.Common.{arith, subst, sym, ap, ap₂, ◌∙◌, length-append, ne_eqb, le-ltb}
use Rattle.std.proofs.Math.Seq.{take-append_seam, drop-append_seam}
use Rattle.paper.specs.Bytes.{pick, digit?, blank, blank?, run}
use Rattle.paper.specs.Tokens.{Token}
use Rattle.paper.specs.Constants.{value}
use Rattle.paper.specs.Line.{lawful_number?}
use Rattle.paper.specs.Listing.{decimal, body_text, listing_text, listing}
use Rattle.paper.specs.WellFormed.{WellFormed}
use Rattle.paper.specs.Calls.{State, names_of, sound_state, tokens, translate, accept, answered, numbered, head_of, at_head, enter_sound, enter}
use Rattle.laws.specs.Tests.{is_true}
use Rattle.laws.specs.Runs.{All, run_all}
use Rattle.grounds.specs.Lists.{run_whole}
use Rattle.promises.proofs.Beginning.{not_blank, after_blank}
use Rattle.grounds.proofs.RoundTrip.{blank_no_digit, number_text, translated_again, decoded, numbered_so}
use Rattle.promises.proofs.States.{state_says}

digit_no_blank : (x : ℕ) → digit? x ≡ true → blank? x ≡ false
unfolding digit? blank?
digit_no_blank x h = ne_eqb x 32 (λ e. two_values (sym h ∙ ap (λ (z : ℕ). leb 48 z && leb z 57) e))
  where
    two_values : ◌≡◌ {A = Bool} true false → ⊥
    two_values e = let z : ◌≡◌ {A = ℕ} 0 1 = cc in omega arith

no_blanks : (l ys : List ℕ) → All digit? l → (length l ≡ 0 → ⊥) → run blank? (l ++ ys) ≡ 0
unfolding run
no_blanks [] ys a n = absurd (n refl)
no_blanks (x ∷ l) ys a n = rw (digit_no_blank x a.0)

decimal_some : (n : ℕ) → length (decimal 5 n) ≡ 0 → ⊥
unfolding decimal
decimal_some n = go (ltb n 10)
  where
    go : (b : Bool) → length (pick b ((48 + n) ∷ []) (decimal 4 (n / 10) ++ (48 + n % 10) ∷ [])) ≡ 0 → ⊥
    go true e = omega arith
    go false e = omega (arith, length-append (decimal 4 (n / 10)) ((48 + n % 10) ∷ []), e)

-- digits, and then something that is no digit
head_is : (n : ℕ) (ds rest : List ℕ) → run blank? (ds ++ rest) ≡ 0 → run digit? (ds ++ rest) ≡ length ds → take (length ds) (ds ++ rest) ≡ ds → drop (length ds) (ds ++ rest) ≡ rest → value 0 ds ≡ n
    → (length ds ≡ 0 → ⊥) → T (lawful_number? n) → head_of (ds ++ rest) ≡ numbered n (0 + length ds) rest
unfolding head_of
head_is n ds rest b0 dg tk dr wo so at = rw (b0, dg, tk, dr, wo, ne_eqb (length ds) 0 so, is_true (lawful_number? n) at)

entered : (s : State) (n p : ℕ) (ts : List Token) (text rest : List ℕ) → T (sound_state s) → length text ≤ 120 → head_of text ≡ numbered n p rest → translate p rest ≡ tokens ts → enter text s ≡ accept s n ts
unfolding enter enter_sound at_head answered
entered s n p ts text rest o h hd tr = rw (is_true (sound_state s) o, le-ltb 120 (length text) h, hd, run_whole blank? rest, not_blank p rest ts tr, tr)

-- Over a sound state, the listing of a well-formed line, if it is no longer than a text may be, is entered as the tokens of that line.
pub enter_listing : (s : State) → T (sound_state s) → (l : List ℕ) (w : WellFormed (names_of s) l) → length (listing (names_of s) l) ≤ 120 → enter (listing (names_of s) l) s ≡ accept s w.number w.tokens
unfolding listing listing_text
enter_listing s o l w h =
    let ns = (state_says s o).table.names in
    let n : ℕ = w.number in
    let ts : List Token = w.tokens in
    let text : List ℕ = decimal 5 n ++ blank ∷ body_text ts in
    let te : listing (names_of s) l ≡ text = ap₂ listing_text (numbered_so (names_of s) l w) (decoded (names_of s) l w) in
    let d = number_text n w.lawful_number in
    let k : ℕ = length (decimal 5 n) in
    let b0 : run blank? text ≡ 0 = no_blanks (decimal 5 n) (blank ∷ body_text ts) d.digits (decimal_some n) in
    let dg : run digit? text ≡ k = run_all digit? (decimal 5 n) (blank ∷ body_text ts) d.digits blank_no_digit in
    let tk : take k text ≡ decimal 5 n = take-append_seam (decimal 5 n) (blank ∷ body_text ts) in
    let dr : drop k text ≡ blank ∷ body_text ts = drop-append_seam (decimal 5 n) (blank ∷ body_text ts) in
    let tr : (p : ℕ) → translate p (blank ∷ body_text ts) ≡ tokens ts = (λ p. after_blank p (body_text ts) ∙ translated_again (names_of s) ns w.items ts w.lawful w.right (suc p)) in
    let short : length text ≤ 120 = subst (λ (z : List ℕ). length z ≤ 120) te h in
    ap (λ (z : List ℕ). enter z s) te
    ∙ entered s n (0 + k) ts text (blank ∷ body_text ts) o short (head_is n (decimal 5 n) (blank ∷ body_text ts) b0 dg tk dr d.worth (decimal_some n) w.lawful_number) (tr (0 + k))
