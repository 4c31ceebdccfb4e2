-- A line buffer that is listed, and that text typed (document 02, §1): all is left as it was.
use Rattle.std.specs.Prelude.{ℕ, zero, suc, ◌≤◌, ◌≡◌, refl, Bool, false, List, [], ◌∷◌, ◌++◌, T, length, take, drop, get_or}
use Rattle.std.proofs.Common.{arith, subst, sym, ap, ◌∙◌}
use Rattle.paper.specs.Listing.{direct_listing}
use Rattle.paper.specs.Errors.{error_line?, line_text}
use Rattle.paper.specs.Store.{overwritten}
use Rattle.paper.specs.Calls.{State, names_of, sound_state, Listed}
use Rattle.paper.specs.Direct.{typed, line_in, show}
use Rattle.promises.specs.Terms.{accepted_with}
use Rattle.promises.proofs.ErrorLines.{formed_else, text_else}
use Rattle.promises.proofs.Listings.{ListAnswer, ShownLine, show_answer, writes, written_so}
use Rattle.requested.proofs.DirectAgain.{typed_again}

-- the front of a buffer, written over it
front_same : (k : ℕ) (l : List ℕ) → take k l ++ drop (length (take k l)) l ≡ l
front_same zero l = refl
front_same (suc k) [] = refl
front_same (suc k) (x ∷ l) = ap (λ (z : List ℕ). x ∷ z) (front_same k l)

front_short : (k : ℕ) (l : List ℕ) → length (take k l) ≤ length l
front_short zero l = omega arith
front_short (suc k) [] = omega arith
front_short (suc k) (x ∷ l) = omega (arith, front_short k l)

line_same : (buffer : List ℕ) → (overwritten (line_in buffer) buffer ≡ buffer) × (length (line_in buffer) ≤ length buffer)
unfolding overwritten line_in
line_same buffer = (front_same (get_or buffer 2 0) buffer, front_short (get_or buffer 2 0) buffer)

-- all is left as it was, unless it is an error line
pub shown_again : (keep : Bool) (s : State) → T (sound_state s) → (buffer output : List ℕ) → length (line_in buffer) ≤ 255 → error_line? (line_in buffer) ≡ false
    → (e : Listed) → e ≡ show buffer s.names s.name_size s.name_count s.values output → e.number ≡ 0 → e.written ≤ 120 → typed keep (take e.written e.output) s buffer ≡ record { entered = accepted_with s; line = buffer }
unfolding names_of
shown_again keep s o buffer output b x e is z short =
    let l : List ℕ = line_in buffer in
    let text : List ℕ = direct_listing (names_of s) l in
    let a : ListAnswer (ShownLine buffer (names_of s)) text output e =
    subst (λ (t : List ℕ). ListAnswer (ShownLine buffer (names_of s)) t output e) (text_else (names_of s) l x)
    (subst (ListAnswer (ShownLine buffer (names_of s)) (line_text (names_of s) l) output) (sym is) (show_answer buffer s.names s.name_size s.name_count s.values output)) in
    let w = writes text output e a z in
    let same = line_same buffer in
    ap (λ (k : ℕ). typed keep (take k e.output) s buffer) w.count
    ∙ ap (λ (t : List ℕ). typed keep t s buffer) w.there.front
    ∙ typed_again keep s o l buffer (formed_else (names_of s) l x (written_so text output e a z)) b (subst (λ (k : ℕ). k ≤ 120) w.count short) same.1
    ∙ ap (λ (t : List ℕ). record { entered = accepted_with s; line = t }) same.0
