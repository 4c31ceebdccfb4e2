-- A search begins at the first word that has the first byte and the length of the name.
use Prim.Native.Nat.{ℕ, zero, suc, ◌+◌, ◌-◌, ◌≤◌}
use native.Mathlib.Omega.{arith}
use mathlib.Core.Path.{◌≡◌, refl, sym, ap, ◌∙◌, subst}
use mathlib.Core.Bool.{Bool, true, false, not, ◌&&◌, ◌||◌}
use mathlib.Core.List.{List, [], ◌∷◌}
use lib.Dec.{T, eqb, leb}
use lib.ListN.{length, take, drop, get_or, length-drop}
use lib.Seq.{drop-drop, take_all}
use borrow.Author.Tests.{eq-eqb, eqb-true, leb-true}
use Rattle.paper.specs.Bytes.{pick, same, among, every}
use Rattle.paper.specs.Classes.{unfit}
use Rattle.paper.specs.Words.{Word, word, Found, found, nowhere, find_word, statements, operators, read_operators, functions}
use Rattle.std.specs.Prelude.{Option, Some, None}
use Rattle.laws.specs.Names.{same_ne}
use Rattle.laws.specs.Tests.{and_left, and_right, is_true}
use Rattle.tokens.specs.Tables.{tabulated, total, read_words, fixed_words, statement_lengths, operator_lengths, words_of, begins, first_word, token_found, statement_found, reserved_found}
use Rattle.tokens.specs.Same.{no_bool}
use Rattle.tokens.specs.Words.{find_read, token_within}
use Rattle.tokens.proofs.Keys.{Rest, no_keys}
use Rattle.tokens.proofs.Cuts.{statement_bytes, operator_bytes}
use Rattle.tokens.proofs.Search.{find_statement, find_operator, first_statement, first_operator}

-- ---- the arms of the two matches

-- the token of the first word with a first byte and a length
abbrev pub token_at : List Word → ℕ → ℕ → Option ℕ
token_at ws b n = token_found (first_word ws b n)

-- an arm's token
pub first_at : (ws : List Word) (n k : ℕ) {b m : ℕ} → m ≡ n → b ≡ k → token_at ws k n ≡ token_at ws b m
first_at ws n k {b} {m} e f = sym (ap (λ (x : ℕ). token_at ws x m) f ∙ ap (token_at ws k) e)

-- a test of a word's first byte and length
abbrev tested : (ℕ → ℕ → Bool) → Word → Bool
tested p w = p (get_or w.spelling 0 0) (length w.spelling)

-- a first byte and a length that fail a test, where each word passes it, are no word's
no_first : (ws : List Word) (p : ℕ → ℕ → Bool) (b n : ℕ) → T (every (λ w. tested p w) ws) → p b n ≡ false → None ≡ token_at ws b n
unfolding token_found every first_word begins
no_first ws p b n a h = sym (ap token_found (go ws a))
  where
    one : (w : Word) (f : Found) → T (tested p w) → f ≡ nowhere → (x y : Bool) → eqb (get_or w.spelling 0 0) b ≡ x → eqb (length w.spelling) n ≡ y → pick (x && y) (found w.token) f ≡ nowhere
    one w f t i true true d e =
        let q : tested p w ≡ p b n = ap (λ (x : ℕ). p x (length w.spelling)) (eqb-true (get_or w.spelling 0 0) b d) ∙ ap (p b) (eqb-true (length w.spelling) n e) in
        no_bool (sym h ∙ sym q ∙ is_true (tested p w) t)
    one w f t i true false d e = i
    one w f t i false y d e = i

    go : (vs : List Word) → T (every (λ w. tested p w) vs) → first_word vs b n ≡ nowhere
    go [] a = refl
    go (w ∷ vs) a =
        one w (first_word vs b n) (and_left (tested p w) (every (λ v. tested p v) vs) a) (go vs (and_right (tested p w) (every (λ v. tested p v) vs) a))
        (eqb (get_or w.spelling 0 0) b) (eqb (length w.spelling) n) refl refl

-- a last arm within a length: all words of n bytes begin with one of some bytes, and this is none of them
pub no_byte : (ws : List Word) (n : ℕ) (ks : List ℕ) → T (every (λ w. among (get_or w.spelling 0 0) ks || not (eqb (length w.spelling) n)) ws) → (b : ℕ) {m : ℕ} → m ≡ n → Rest ks b → None ≡ token_at ws b m
no_byte ws n ks a b {m} e r = no_first ws (λ x y. among x ks || not (eqb y n)) b m a (rw (no_keys b ks r, eq-eqb m n e))

-- the last arm: all words have one of some lengths, and this is none of them
pub no_length : (ws : List Word) (ks : List ℕ) → T (every (λ w. among (length w.spelling) ks) ws) → (b n : ℕ) → Rest ks n → None ≡ token_at ws b n
no_length ws ks a b n r = no_first ws (λ x y. among y ks) b n a (no_keys n ks r)

-- ---- the search from there on

-- does a word have the first byte and the length of a name, and the first that does
abbrev like : List ℕ → List ℕ → Bool
like s w = begins (get_or s 0 0) (length s) w

abbrev first_like : List ℕ → List Word → Found
first_like s ws = first_word ws (get_or s 0 0) (length s)

-- the name itself does
like_same : {w s : List ℕ} → w ≡ s → like s w ≡ true
unfolding begins
like_same {w} {s} e = subst (λ (x : List ℕ). like x w ≡ true) e (rw (eq-eqb (get_or w 0 0) (get_or w 0 0) refl, eq-eqb (length w) (length w) refl))

-- so one that does not is not the name
not_like : (s w : List ℕ) (t : ℕ) (f : Found) → like s w ≡ false → pick (same w s) (found t) f ≡ f
not_like s w t f p = rw (same_ne w s (λ q. no_bool (sym p ∙ like_same q)))

-- where no word does, the name is no word
no_word : (ws : List Word) (s : List ℕ) → first_like s ws ≡ nowhere → find_word ws s ≡ nowhere
unfolding first_word find_word
no_word [] s e = refl
no_word (w ∷ ws) s e = go (like s w.spelling) refl e (λ x. no_word ws s x)
  where
    go : (x : Bool) → like s w.spelling ≡ x → pick x (found w.token) (first_like s ws) ≡ nowhere → (first_like s ws ≡ nowhere → find_word ws s ≡ nowhere)
        → pick (same w.spelling s) (found w.token) (find_word ws s) ≡ nowhere
    go true p e ih = let z : ◌≡◌ {A = ℕ} 0 1 = cc in absurd (omega arith)
    go false p e ih = not_like s w.spelling w.token (find_word ws s) p ∙ ih e

-- the words of a table from its i-th on
abbrev words_from : ℕ → List ℕ → List ℕ → ℕ → List Word
words_from k ls bs i = words_of (k + i) (drop i ls) (drop (total (take i ls)) bs)

-- past a word that does not, where the words after it are known
module _ (k l : ℕ) (ls bs s : List ℕ) (i : ℕ) (later : first_like s (words_of (suc k) ls (drop l bs)) ≡ found (suc k + i) → find_word (words_of (suc k) ls (drop l bs)) s ≡ find_word (words_from (suc k) ls (drop l bs) i) s) where
  abbrev more : List Word
  more = words_of (suc k) ls (drop l bs)

  first_later : first_like s more ≡ found (k + suc i) → find_word more s ≡ find_word (words_from k (l ∷ ls) bs (suc i)) s
  unfolding total
  first_later e =
      let z : k + suc i ≡ suc k + i = omega arith in
      later (e ∙ ap found z)
      ∙ ap (λ (x : ℕ). find_word (words_of x (drop i ls) (drop (total (take i ls)) (drop l bs))) s) (sym z)
      ∙ ap (λ (x : List ℕ). find_word (words_of (k + suc i) (drop i ls) x) s) (drop-drop (total (take i ls)) l bs)

  first_passed : (x : Bool) → like s (take l bs) ≡ x → pick x (found k) (first_like s more) ≡ found (k + suc i)
      → pick (same (take l bs) s) (found k) (find_word more s) ≡ find_word (words_from k (l ∷ ls) bs (suc i)) s
  first_passed true p e = let z : k ≡ k + suc i = cc in absurd (omega arith)
  first_passed false p e = not_like s (take l bs) k (find_word more s) p ∙ first_later e

  first_step : (x : Bool) → first_like s (pick x more (record { token = k; spelling = take l bs; class = unfit } ∷ more)) ≡ found (k + suc i)
      → find_word (pick x more (record { token = k; spelling = take l bs; class = unfit } ∷ more)) s ≡ find_word (words_from k (l ∷ ls) bs (suc i)) s
  unfolding first_word find_word
  first_step true e = first_later e
  first_step false e = first_passed (like s (take l bs)) refl e

-- the words before the first one that does are not the name
from_first : (k : ℕ) (ls bs s : List ℕ) (i : ℕ) → first_like s (words_of k ls bs) ≡ found (k + i) → find_word (words_of k ls bs) s ≡ find_word (words_from k ls bs i) s
unfolding words_of total
from_first k ls bs s zero e = let z : k ≡ k + 0 = omega arith in ap (λ (x : ℕ). find_word (words_of x ls bs) s) z
from_first k [] bs s (suc i) e = refl
from_first k (l ∷ ls) bs s (suc i) e = first_step k l ls bs s i (λ h. from_first (suc k) ls (drop l bs) s i h) (eqb l 0) e

-- what holds of each word's token holds of the first one's
first_token : (ws : List Word) (b n : ℕ) (p : ℕ → Bool) → T (every (λ w. p w.token) ws) → (t : ℕ) → first_word ws b n ≡ found t → T (p t)
unfolding every first_word
first_token [] b n p a t h = let z : ◌≡◌ {A = ℕ} 0 1 = cc in absurd (omega arith)
first_token (w ∷ ws) b n p a t h = go (begins b n w.spelling) (λ x y. first_token ws b n p x t y) h
  where
    go : (x : Bool) → (T (every (λ v. p v.token) ws) → first_word ws b n ≡ found t → T (p t)) → pick x (found w.token) (first_word ws b n) ≡ found t → T (p t)
    go true ih h = let e : w.token ≡ t = cc in subst (λ (x : ℕ). T (p x)) e (and_left (p w.token) (every (λ v. p v.token) ws) a)
    go false ih h = ih (and_right (p w.token) (every (λ v. p v.token) ws) a) h

-- so within the bounds of a table's tokens
first_bounds : (low high : ℕ) (ws : List Word) (b n : ℕ) → T (every (λ w. token_within low high w.token) ws) → (t : ℕ) → first_word ws b n ≡ found t → (low ≤ t) × (t ≤ high)
unfolding token_within
first_bounds low high ws b n a t h =
    let w = first_token ws b n (token_within low high) a t h in
    (leb-true low t (is_true (leb low t) (and_left (leb low t) (leb t high) w)), leb-true t high (is_true (leb t high) (and_right (leb low t) (leb t high) w)))

-- a token that is found is the first one's
pub first_found : {r b : ℕ} (ws : List Word) (s : List ℕ) → b ≡ get_or s 0 0 → Some r ≡ token_at ws b (length s) → first_like s ws ≡ found r
unfolding token_found
first_found {r} {b} ws s e p = go (first_like s ws) refl (p ∙ ap (λ (x : ℕ). token_at ws x (length s)) e)
  where
    go : (f : Found) → first_like s ws ≡ f → Some r ≡ token_found f → first_like s ws ≡ found r
    go (found t) h q = let i : t ≡ r = cc in h ∙ ap found i
    go nowhere h q = let z : ◌≡◌ {A = ℕ} 0 1 = cc in absurd (omega arith)

-- where none is found, the name is no word
none_found : {b : ℕ} (ws : List Word) (s : List ℕ) → b ≡ get_or s 0 0 → None ≡ token_at ws b (length s) → find_word ws s ≡ nowhere
unfolding token_found
none_found {b} ws s e p = no_word ws s (go (first_like s ws) refl (p ∙ ap (λ (x : ℕ). token_at ws x (length s)) e))
  where
    go : (f : Found) → first_like s ws ≡ f → None ≡ token_found f → first_like s ws ≡ nowhere
    go (found t) h q = let z : ◌≡◌ {A = ℕ} 0 1 = cc in absurd (omega arith)
    go nowhere h q = h

-- ---- the two searches

-- the lengths of words before a place and from there on
total_parts : (i : ℕ) (ls : List ℕ) → total (take i ls) + total (drop i ls) ≡ total ls
unfolding total
total_parts zero ls = omega arith
total_parts (suc i) [] = refl
total_parts (suc i) (l ∷ ls) = omega (arith, total_parts i ls)

-- the rest of a list is all of it from there on
rest_all : (n : ℕ) (ls : List ℕ) (i : ℕ) → length ls ≡ n → take (n - i) (drop i ls) ≡ drop i ls
rest_all n ls i e = take_all (n - i) (drop i ls) (omega (arith, length-drop i ls))

-- what a search of the words from the i-th on asks: their bytes and their tokens are there
fits : (n : ℕ) (ls : List ℕ) (i : ℕ) → length ls ≡ n → i ≤ n → (total (take i ls) + total (take (n - i) (drop i ls)) ≤ total ls) × (i + length (take (n - i) (drop i ls)) ≤ n)
fits n ls i e h = rw (rest_all n ls i e) (omega (arith, total_parts i ls), omega (arith, length-drop i ls))

-- ---- statements

pub statement_nowhere : {b : ℕ} (s : List ℕ) → b ≡ get_or s 0 0 → None ≡ token_at statements b (length s) → None ≡ statement_found (find_word statements s)
unfolding statement_found
statement_nowhere s e p = sym (ap statement_found (none_found statements s e p))

module _ {t : ℕ} (s : List ℕ) (f : first_like s statements ≡ found t) where
  pub statement_bound : t ≤ 0x35
  unfolding every token_within statements word
  statement_bound = (first_bounds 0 0x35 statements (get_or s 0 0) (length s) tt t f).1

  module _ {start : ℕ} (r : start ≡ total (take t statement_lengths)) where
    pub statement_fits : (start + total (take (0x36 - t) (drop t statement_lengths)) ≤ 355) × (t + length (take (0x36 - t) (drop t statement_lengths)) ≤ 255)
    unfolding statement_lengths tabulated
    statement_fits =
        let g = fits 0x36 statement_lengths t refl (omega (arith, statement_bound)) in
        (omega (arith, g.0, statement_bytes), omega (arith, g.1))

    pub statement_from : find_word (words_of t (take (0x36 - t) (drop t statement_lengths)) (drop start fixed_words)) s ≡ find_word statements s
    unfolding statement_lengths tabulated
    statement_from =
        let z : t ≡ 0 + t = omega arith in
        ap (λ (ls : List ℕ). find_word (words_of t ls (drop start fixed_words)) s) (rest_all 0x36 statement_lengths t refl)
        ∙ ap (λ (x : ℕ). find_word (words_of t (drop t statement_lengths) (drop x fixed_words)) s) r
        ∙ ap (λ (x : ℕ). find_word (words_of x (drop t statement_lengths) (drop (total (take t statement_lengths)) fixed_words)) s) z
        ∙ sym (from_first 0 statement_lengths (drop 0 fixed_words) s t (first_statement (get_or s 0 0) (length s) ∙ f ∙ ap found z))
        ∙ find_statement s

-- ---- operators and functions

pub reserved_nowhere : {b : ℕ} (s : List ℕ) → b ≡ get_or s 0 0 → None ≡ token_at read_words b (length s) → None ≡ reserved_found (find_word operators s)
unfolding reserved_found
reserved_nowhere s e p = sym (ap reserved_found (find_read s ∙ none_found read_words s e p))

module _ {t : ℕ} (s : List ℕ) (f : first_like s read_words ≡ found t) where
  pub reserved_bounds : (0x12 ≤ t) × (t ≤ 0x54)
  unfolding every token_within read_words read_operators functions word
  reserved_bounds = first_bounds 0x12 0x54 read_words (get_or s 0 0) (length s) tt t f

  module _ {start : ℕ} (r : start ≡ total (take (t - 0x12) operator_lengths)) where
    pub reserved_fits : (223 + start + total (take (0x43 - (t - 0x12)) (drop (t - 0x12) operator_lengths)) ≤ 355) × (t + length (take (0x43 - (t - 0x12)) (drop (t - 0x12) operator_lengths)) ≤ 255)
    unfolding operator_lengths tabulated
    reserved_fits =
        let h = reserved_bounds in
        let g = fits 0x43 operator_lengths (t - 0x12) refl (omega (arith, h.0, h.1)) in
        (omega (arith, g.0, operator_bytes), omega (arith, g.1, h.0, h.1))

    pub reserved_from : find_word (words_of t (take (0x43 - (t - 0x12)) (drop (t - 0x12) operator_lengths)) (drop (223 + start) fixed_words)) s ≡ find_word operators s
    unfolding operator_lengths tabulated
    reserved_from =
        let z : t ≡ 0x12 + (t - 0x12) = omega (arith, reserved_bounds.0) in
        ap (λ (ls : List ℕ). find_word (words_of t ls (drop (223 + start) fixed_words)) s) (rest_all 0x43 operator_lengths (t - 0x12) refl)
        ∙ ap (λ (x : ℕ). find_word (words_of t (drop (t - 0x12) operator_lengths) (drop (223 + x) fixed_words)) s) r
        ∙ ap (λ (bs : List ℕ). find_word (words_of t (drop (t - 0x12) operator_lengths) bs) s) (sym (drop-drop (total (take (t - 0x12) operator_lengths)) 223 fixed_words))
        ∙ ap (λ (x : ℕ). find_word (words_of x (drop (t - 0x12) operator_lengths) (drop (total (take (t - 0x12) operator_lengths)) (drop 223 fixed_words))) s) z
        ∙ sym (from_first 0x12 operator_lengths (drop 223 fixed_words) s (t - 0x12) (first_operator (get_or s 0 0) (length s) ∙ f ∙ ap found z))
        ∙ find_operator s
