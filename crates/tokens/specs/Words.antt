-- Searches of word tables: parts of a table, words of other lengths, tables in which no spelling stands twice.
use Rattle.std.specs.Prelude.{ℕ, zero, suc, ◌≤◌, ◌<◌, ◌≡◌, refl, Bool, true, false, not, ◌&&◌, List, [], ◌∷◌, ◌++◌, T, eqb, leb, length, get_or}
use Rattle.std.proofs.Common.{not-suc-le-zero, le_of_suc-le-suc, arith, sym, ap, ◌∙◌, subst, eq-eqb, eqb-true, le-leb}
use Rattle.std.proofs.lemmas.Bool.{lt-leb}
use Rattle.paper.specs.Bytes.{pick, bytes, same, every}
use Rattle.paper.specs.Classes.{unfit}
use Rattle.paper.specs.Words.{Word, word, Found, found, nowhere, found?, find_word, word_of, statements, operators, read_operators, functions, placed_operators}
use Rattle.laws.specs.Names.{same_self, same_eq, same_ne}
use Rattle.laws.specs.Tests.{and_left, and_right, is_true, is_false}
use Rattle.tokens.specs.Tables.{read_words}
use Rattle.tokens.specs.Same.{no_bool, same_of}

-- ---- a table in two parts

-- what one search gave, or else another
unfoldable pub or_else : Found → Found → Found
or_else (found t) f = found t
or_else nowhere f = f

append_go : (b : Bool) (t : ℕ) (f g h : Found) → f ≡ or_else g h → pick b (found t) f ≡ or_else (pick b (found t) g) h
unfolding or_else
append_go true t f g h e = refl
append_go false t f g h e = e

pub find_append : (vs ws : List Word) (s : List ℕ) → find_word (vs ++ ws) s ≡ or_else (find_word vs s) (find_word ws s)
unfolding find_word or_else
find_append [] ws s = refl
find_append (v ∷ vs) ws s = append_go (same v.spelling s) v.token _ _ _ (find_append vs ws s)

-- ---- only words of the same length matter

-- the words of one length
unfoldable pub of_length : ℕ → List Word → List Word
of_length n [] = []
of_length n (w ∷ ws) = let r = of_length n ws in pick (eqb (length w.spelling) n) (w ∷ r) r

length_go : (w : Word) (r : List Word) (s : List ℕ) (f : Found) (b : Bool) → eqb (length w.spelling) (length s) ≡ b → f ≡ find_word r s
    → pick (same w.spelling s) (found w.token) f ≡ find_word (pick b (w ∷ r) r) s
unfolding find_word
length_go w r s f true e h = ap (pick (same w.spelling s) (found w.token)) h
length_go w r s f false e h =
    rw (same_ne w.spelling s (λ x. no_bool (sym e ∙ eq-eqb (length w.spelling) (length s) (ap length x)))) h

pub find_of_length : (ws : List Word) (s : List ℕ) → find_word ws s ≡ find_word (of_length (length s) ws) s
unfolding find_word of_length
find_of_length [] s = refl
find_of_length (w ∷ ws) s = length_go w (of_length (length s) ws) s (find_word ws s) (eqb (length w.spelling) (length s)) refl (find_of_length ws s)

-- ---- the operators that the grammar places have spellings that are read before them

-- what holds of each word's spelling holds of one that is found
pub found_spelling : (vs : List Word) (s : List ℕ) (p : List ℕ → Bool) → T (every (λ w. p w.spelling) vs) → T (found? (find_word vs s)) → T (p s)
unfolding every find_word found?
found_spelling [] s p a h = absurd h
found_spelling (v ∷ vs) s p a h = go (same v.spelling s) refl (λ x y. found_spelling vs s p x y) h
  where
    go : (b : Bool) → same v.spelling s ≡ b → (T (every (λ w. p w.spelling) vs) → T (found? (find_word vs s)) → T (p s))
        → T (found? (pick b (found v.token) (find_word vs s))) → T (p s)
    go true e ih h = subst (λ (x : List ℕ). T (p x)) (same_eq v.spelling s e) (and_left (p v.spelling) (every (λ w. p w.spelling) vs) a)
    go false e ih h = ih (and_right (p v.spelling) (every (λ w. p w.spelling) vs) a) h

-- what holds of each word's token holds of one that is found
pub found_token : (vs : List Word) (s : List ℕ) (p : ℕ → Bool) → T (every (λ w. p w.token) vs) → (t : ℕ) → find_word vs s ≡ found t → T (p t)
unfolding every find_word
found_token [] s p a t h = let z : ◌≡◌ {A = ℕ} 0 1 = cc in absurd (omega arith)
found_token (v ∷ vs) s p a t h = go (same v.spelling s) (λ x y. found_token vs s p x t y) h
  where
    go : (b : Bool) → (T (every (λ w. p w.token) vs) → find_word vs s ≡ found t → T (p t)) → pick b (found v.token) (find_word vs s) ≡ found t → T (p t)
    go true ih h = let e : v.token ≡ t = cc in subst (λ (x : ℕ). T (p x)) e (and_left (p v.token) (every (λ w. p w.token) vs) a)
    go false ih h = ih (and_right (p v.token) (every (λ w. p w.token) vs) a) h

read_first : T (every (λ w. found? (find_word read_words w.spelling)) placed_operators)
unfolding every found? find_word read_words read_operators functions placed_operators word bytes same
read_first = tt

else_go : (f g : Found) → (T (found? g) → T (found? f)) → or_else f g ≡ f
unfolding or_else found?
else_go (found t) g h = refl
else_go nowhere (found t) h = absurd (h tt)
else_go nowhere nowhere h = refl

-- so the words that are read are all that a search of the operators can find
pub find_read : (s : List ℕ) → find_word operators s ≡ find_word read_words s
unfolding operators read_words
find_read s =
    find_append (read_operators ++ functions) placed_operators s
    ∙ else_go (find_word read_words s) (find_word placed_operators s) (λ h. found_spelling placed_operators s (λ x. found? (find_word read_words x)) read_first h)

-- ---- no spelling twice

-- a spelling is none of a table's
unfoldable pub absent : List ℕ → List Word → Bool
absent s ws = every (λ w. not (same w.spelling s)) ws

-- no spelling stands twice in a table
unfoldable pub distinct : List Word → Bool
distinct [] = true
distinct (w ∷ ws) = absent w.spelling ws && distinct ws

-- the one test of each table
pub statements_distinct : T (distinct statements)
unfolding distinct absent every statements word bytes same
statements_distinct = tt

pub read_words_distinct : T (distinct read_words)
unfolding distinct absent every read_words read_operators functions word bytes same
read_words_distinct = tt

absent_at : (s : List ℕ) (ws : List Word) (d : Word) → T (every (λ w. not (same w.spelling s)) ws) → (k : ℕ) → k < length ws → same (get_or ws k d).spelling s ≡ false
unfolding every
absent_at s [] d a k h = absurd (not-suc-le-zero h)
absent_at s (w ∷ ws) d a zero h = is_false (same w.spelling s) (and_left (not (same w.spelling s)) (every (λ v. not (same v.spelling s)) ws) a)
absent_at s (w ∷ ws) d a (suc k) h = absent_at s ws d (and_right (not (same w.spelling s)) (every (λ v. not (same v.spelling s)) ws) a) k (le_of_suc-le-suc h)

-- In a table where no spelling stands twice, each word is found by its spelling: the place found is the only one.
pub found_at_once : (ws : List Word) (d : Word) → T (distinct ws) → (k : ℕ) → k < length ws → find_word ws (get_or ws k d).spelling ≡ found (get_or ws k d).token
unfolding distinct absent find_word
found_at_once [] d a k h = absurd (not-suc-le-zero h)
found_at_once (w ∷ ws) d a zero h = rw (same_self w.spelling)
found_at_once (w ∷ ws) d a (suc k) h =
    let x = absent_at w.spelling ws d (and_left (every (λ v. not (same v.spelling w.spelling)) ws) (distinct ws) a) k (le_of_suc-le-suc h) in
    let y : same w.spelling (get_or ws k d).spelling ≡ false = same_ne w.spelling (get_or ws k d).spelling (λ e. no_bool (sym x ∙ same_of (sym e))) in
    rw y (found_at_once ws d (and_right (every (λ v. not (same v.spelling w.spelling)) ws) (distinct ws) a) k (le_of_suc-le-suc h))

-- ---- tokens with no word

-- a token within bounds
unfoldable pub token_within : ℕ → ℕ → ℕ → Bool
token_within low high t = leb low t && leb t high

outside_go : (w : Word) (r d : Word) (low high t : ℕ) (b : Bool) → eqb w.token t ≡ b → T (token_within low high w.token) → token_within low high t ≡ false → r ≡ d → pick b w r ≡ d
outside_go w r d low high t true e a h i =
    no_bool (sym h ∙ is_true (token_within low high t) (subst (λ (x : ℕ). T (token_within low high x)) (eqb-true w.token t e) a))
outside_go w r d low high t false e a h i = i

-- a token outside the bounds of a table has no word
pub outside : (low high : ℕ) (ws : List Word) → T (every (λ w. token_within low high w.token) ws) → (t : ℕ) → token_within low high t ≡ false → word_of ws t ≡ word t "" unfit
unfolding every word_of
outside low high [] a t h = refl
outside low high (w ∷ ws) a t h =
    outside_go w (word_of ws t) (word t "" unfit) low high t (eqb w.token t) refl (and_left (token_within low high w.token) (every (λ v. token_within low high v.token) ws) a) h
    (outside low high ws (and_right (token_within low high w.token) (every (λ v. token_within low high v.token) ws) a) t h)

pub past_statements : (t : ℕ) → 0x36 ≤ t → word_of statements t ≡ word t "" unfit
unfolding every token_within statements word
past_statements t h = let l : 0 ≤ t = omega arith in outside 0 0x35 statements tt t (rw (le-leb 0 t l, lt-leb t 0x35 h))

pub past_operators : (t : ℕ) → 0x55 ≤ t → word_of operators t ≡ word t "" unfit
unfolding every token_within operators read_operators functions placed_operators word
past_operators t h = let l : 0x12 ≤ t = omega arith in outside 0x12 0x54 operators tt t (rw (le-leb 0x12 t l, lt-leb t 0x54 h))
