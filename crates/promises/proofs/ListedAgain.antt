-- A line of the store, listed and entered again: it leaves the state as it is.
use Rattle.std.specs.Prelude.{ℕ, ◌≤◌, ◌≡◌, refl, Bool, false, List, [], ◌∷◌, ◌++◌, T, length, take, drop}
use Rattle.std.proofs.Common.{arith, subst, sym, ap, ◌∙◌, eqb→eq, eq-eqb}
use Rattle.paper.specs.Bytes.{pick}
use Rattle.paper.specs.Line.{line_number}
use Rattle.paper.specs.Errors.{error_line?}
use Rattle.paper.specs.Listing.{listing}
use Rattle.paper.specs.Store.{lines_below, lines_not_below, lines_above, first_is?, first_line, stored?, line_at, put_line}
use Rattle.paper.specs.Calls.{State, names_of, lines_of, enter, list}
use Rattle.laws.specs.Tests.{is_true}
use Rattle.laws.specs.Lines.{both_sides}
use Rattle.promises.specs.Terms.{old_size, with_lines, accepted_with}
use Rattle.promises.proofs.States.{state_says}
use Rattle.promises.proofs.Listings.{ListAnswer, ListedLine, list_answer, writes, written_so}
use Rattle.promises.proofs.ErrorLines.{formed_else, listing_else}
use Rattle.promises.proofs.ReEntry.{entered_again, store_same}

-- a stored line put in again
put_there : (n : ℕ) (ls : List (List ℕ)) (l : List ℕ) (r : List (List ℕ)) → lines_not_below n ls ≡ l ∷ r → line_number l ≡ n → put_line l ls ≡ ls
unfolding put_line lines_above first_is?
put_there n ls l r h e =
    ap (λ (m : ℕ). lines_below m ls ++ l ∷ pick (first_is? m (lines_not_below m ls)) (drop 1 (lines_not_below m ls)) (lines_not_below m ls)) e
    ∙ ap (λ (z : List (List ℕ)). lines_below n ls ++ l ∷ pick (first_is? n z) (drop 1 z) z) h
    ∙ ap (λ (b : Bool). lines_below n ls ++ l ∷ pick b r (l ∷ r)) (eq-eqb (line_number l) n e)
    ∙ ap (λ (z : List (List ℕ)). lines_below n ls ++ z) (sym h)
    ∙ both_sides n ls

same_go : (n : ℕ) (ls r : List (List ℕ)) → lines_not_below n ls ≡ r → T (first_is? n r) → (line_number (first_line r) ≡ n) × (put_line (first_line r) ls ≡ ls)
unfolding first_is? first_line
same_go n ls [] h t = absurd t
same_go n ls (l ∷ r) h t = let e : line_number l ≡ n = eqb→eq (line_number l) n t in (e, put_there n ls l r h e)

put_same : (n : ℕ) (ls : List (List ℕ)) → T (stored? n ls) → (line_number (line_at n ls) ≡ n) × (put_line (line_at n ls) ls ≡ ls)
unfolding stored? line_at
put_same n ls t = same_go n ls (lines_not_below n ls) refl t

size_there : (n : ℕ) (s : State) → T (stored? n (lines_of s)) → old_size n s ≡ length (line_at n (lines_of s))
unfolding old_size
size_there n s t = rw (is_true (stored? n (lines_of s)) t)

-- a line of the store that is listed and no error line, entered again, leaves the state as it is
pub listed_again : (n : ℕ) (s : State) (output : List ℕ) → error_line? (line_at n (lines_of s)) ≡ false → (list n s output).number ≡ 0 → (list n s output).written ≤ 120 → length (line_at n (lines_of s)) ≤ 255
    → enter (take (list n s output).written (list n s output).output) s ≡ accepted_with s
listed_again n s output x z short b =
    let l : List ℕ = line_at n (lines_of s) in
    let text : List ℕ = listing (names_of s) l in
    let a : ListAnswer (ListedLine n s) text output (list n s output) = subst (λ (t : List ℕ). ListAnswer (ListedLine n s) t output (list n s output)) (listing_else (names_of s) l x) (list_answer n s output) in
    let so : ListedLine n s = written_so text output (list n s output) a z in
    let w = writes text output (list n s output) a z in
    let p = put_same n (lines_of s) so.1 in
    let size : old_size (line_number l) s ≡ length l = ap (λ (z : ℕ). old_size z s) p.0 ∙ size_there n s so.1 in
    ap (λ (z : ℕ). enter (take z (list n s output).output) s) w.count
    ∙ ap (λ (z : List ℕ). enter z s) w.there.front
    ∙ entered_again s so.0 l (formed_else (names_of s) l x so.2) (subst (λ (z : ℕ). z ≤ 120) w.count short) b (omega (arith, (state_says s so.0).used_fits))
    ∙ ap accepted_with (ap (with_lines s) p.1 ∙ store_same s so.0)
