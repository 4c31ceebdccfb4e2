-- The search of a table, word by word.
use Prim.Native.Nat.{ℕ, suc, ◌+◌, ◌-◌, ◌≤◌, ◌<◌}
use native.Mathlib.Numerals.{add-one}
use native.Mathlib.Omega.{arith}
use mathlib.Core.Path.{◌≡◌, refl, sym, ap, ◌∙◌}
use mathlib.Core.Bool.{Bool, true, false, not, ◌&&◌}
use mathlib.Core.List.{List, [], ◌∷◌}
use lib.Dec.{eqb}
use lib.ListN.{length, take, drop, get_or, drop_of_length-le, length-drop}
use lib.Seq.{drop-cons, drop-drop, length-take-le}
use borrow.Author.Tests.{lt-ltb, le-ltb}
use Rattle.paper.specs.Bytes.{pick, bytes, same}
use Rattle.paper.specs.Classes.{unfit}
use Rattle.paper.specs.Words.{Word, word, Found, found, nowhere, find_word, word_of, statements, operators, read_operators, functions}
use Rattle.std.specs.Prelude.{Option, Some, None}
use Rattle.tokens.specs.declared.StatementToken.{StatementToken}
use Rattle.tokens.specs.declared.Reserved.TheVariants.{Operator, Function}
use Rattle.tokens.specs.Tables.{tabulated, total, end_to_end, read_words, fixed_words, word_size, statement_lengths, operator_lengths, words_of, begins, first_word, token_found, statement_found, reserved_found}
use Rattle.tokens.specs.Words.{find_read}

-- ---- one word

-- a word in the table at a place: some bytes, and those of the name
abbrev pub stands : List ℕ → ℕ → ℕ → List ℕ → Bool
stands bs from size s = not (eqb size 0) && same (take size (drop from bs)) s

-- the test of the bytes there is that
pub stands_is : {r : Bool} (bs s : List ℕ) (from size : ℕ) → from + size ≤ length bs
    → r ≡ (not (eqb (length (take (from + size - from) (drop from bs))) 0) && same (take (from + size - from) (drop from bs)) s) → r ≡ stands bs from size s
stands_is bs s from size h e =
    let n : from + size - from ≡ size = omega arith in
    let l : length (take size (drop from bs)) ≡ size = length-take-le size (drop from bs) (omega (arith, length-drop from bs)) in
    e ∙ ap (λ (k : ℕ). not (eqb (length (take k (drop from bs))) 0) && same (take k (drop from bs)) s) n
    ∙ ap (λ (k : ℕ). not (eqb k 0) && same (take size (drop from bs)) s) l

-- ---- the table from its i-th word on

module _ (ls bs s : List ℕ) (i from token : ℕ) (h : i < length ls) where
  pub total_step : total (drop i ls) ≡ get_or ls i 0 + total (drop (i + 1) ls)
  unfolding total
  total_step = rw (add-one i, drop-cons ls i 0 h)

  step_go : (l : ℕ) (more : List Word) (b : Bool) → eqb l 0 ≡ b
      → find_word (pick b more (record { token = token; spelling = take l (drop from bs); class = unfit } ∷ more)) s
      ≡ pick (not b && same (take l (drop from bs)) s) (found token) (find_word more s)
  unfolding find_word
  step_go l more true e = refl
  step_go l more false e = refl

  step : find_word (words_of token (drop i ls) (drop from bs)) s
      ≡ pick (stands bs from (get_or ls i 0) s) (found token) (find_word (words_of (token + 1) (drop (i + 1) ls) (drop (from + get_or ls i 0) bs)) s)
  unfolding words_of
  step =
      rw (drop-cons ls i 0 h, drop-drop (get_or ls i 0) from bs, add-one i, add-one token)
      (step_go (get_or ls i 0) (words_of (suc token) (drop (suc i) ls) (drop (from + get_or ls i 0) bs)) (eqb (get_or ls i 0) 0) refl)

  pub hit : {all : Found} → all ≡ find_word (words_of token (drop i ls) (drop from bs)) s → stands bs from (get_or ls i 0) s ≡ true → Some token ≡ token_found all
  unfolding token_found
  hit {all} e t = sym (ap token_found (e ∙ step ∙ ap (λ (b : Bool). pick b (found token) (find_word (words_of (token + 1) (drop (i + 1) ls) (drop (from + get_or ls i 0) bs)) s)) t))

  pub miss : {all : Found} → all ≡ find_word (words_of token (drop i ls) (drop from bs)) s → stands bs from (get_or ls i 0) s ≡ false
      → all ≡ find_word (words_of (token + 1) (drop (i + 1) ls) (drop (from + get_or ls i 0) bs)) s
  miss {all} e t = e ∙ step ∙ ap (λ (b : Bool). pick b (found token) (find_word (words_of (token + 1) (drop (i + 1) ls) (drop (from + get_or ls i 0) bs)) s)) t

pub done : {all : Found} (ls bs s : List ℕ) (i token : ℕ) → length ls ≤ i → all ≡ find_word (words_of token (drop i ls) bs) s → None ≡ token_found all
unfolding words_of find_word token_found
done ls bs s i token h e = sym (ap token_found (e ∙ ap (λ (l : List ℕ). find_word (words_of token l bs) s) (drop_of_length-le ls h)))

-- ---- the two tables

-- a table's classes are nothing to a search
bare : List Word → List Word
bare [] = []
bare (w ∷ ws) = record { token = w.token; spelling = w.spelling; class = unfit } ∷ bare ws

find_bare : (ws : List Word) (s : List ℕ) → find_word (bare ws) s ≡ find_word ws s
unfolding find_word bare
find_bare [] s = refl
find_bare (w ∷ ws) s = ap (pick (same w.spelling s) (found w.token)) (find_bare ws s)

first_bare : (ws : List Word) (b n : ℕ) → first_word (bare ws) b n ≡ first_word ws b n
unfolding first_word bare
first_bare [] b n = refl
first_bare (w ∷ ws) b n = ap (pick (begins b n w.spelling) (found w.token)) (first_bare ws b n)

statement_table : words_of 0 statement_lengths (drop 0 fixed_words) ≡ bare statements
unfolding words_of bare tabulated statement_lengths word_size fixed_words end_to_end read_words word_of statements read_operators functions word bytes
statement_table = refl

pub find_statement : (s : List ℕ) → find_word (words_of 0 statement_lengths (drop 0 fixed_words)) s ≡ find_word statements s
find_statement s = ap (λ (ws : List Word). find_word ws s) statement_table ∙ find_bare statements s

pub first_statement : (b n : ℕ) → first_word (words_of 0 statement_lengths (drop 0 fixed_words)) b n ≡ first_word statements b n
first_statement b n = ap (λ (ws : List Word). first_word ws b n) statement_table ∙ first_bare statements b n

operator_table : words_of 0x12 operator_lengths (drop 223 fixed_words) ≡ bare read_words
unfolding words_of bare tabulated operator_lengths word_size fixed_words end_to_end read_words word_of statements read_operators functions word bytes
operator_table = refl

pub find_operator : (s : List ℕ) → find_word (words_of 0x12 operator_lengths (drop 223 fixed_words)) s ≡ find_word operators s
find_operator s = ap (λ (ws : List Word). find_word ws s) operator_table ∙ find_bare read_words s ∙ sym (find_read s)

pub first_operator : (b n : ℕ) → first_word (words_of 0x12 operator_lengths (drop 223 fixed_words)) b n ≡ first_word read_words b n
first_operator b n = ap (λ (ws : List Word). first_word ws b n) operator_table ∙ first_bare read_words b n

-- ---- answers of other types

-- a token as a statement's
abbrev pub a_statement : ℕ → Option StatementToken
a_statement t = Some (record { 0 = t })

pub statement_answer : {t : ℕ} (f g : Found) → Some t ≡ token_found f → f ≡ g → a_statement t ≡ statement_found g
unfolding token_found statement_found
statement_answer {t} (found u) g p q = let i : t ≡ u = cc in ap a_statement i ∙ ap statement_found q
statement_answer nowhere g p q = let z : ◌≡◌ {A = ℕ} 0 1 = cc in absurd (omega arith)

pub statement_none : (f g : Found) → None ≡ token_found f → f ≡ g → None ≡ statement_found g
unfolding token_found statement_found
statement_none (found u) g p q = let z : ◌≡◌ {A = ℕ} 0 1 = cc in absurd (omega arith)
statement_none nowhere g p q = ap statement_found q

pub operator_answer : {t : ℕ} (f g : Found) → Some t ≡ token_found f → f ≡ g → t < 0x3d → Some (Operator (record { 0 = t })) ≡ reserved_found g
unfolding token_found reserved_found
operator_answer {t} (found u) g p q h = let i : u ≡ t = cc in sym (ap reserved_found (sym q ∙ ap found i) ∙ rw (lt-ltb t 0x3d h))
operator_answer nowhere g p q h = let z : ◌≡◌ {A = ℕ} 0 1 = cc in absurd (omega arith)

pub function_answer : {t : ℕ} (f g : Found) → Some t ≡ token_found f → f ≡ g → 0x3d ≤ t → Some (Function (record { 0 = t })) ≡ reserved_found g
unfolding token_found reserved_found
function_answer {t} (found u) g p q h = let i : u ≡ t = cc in sym (ap reserved_found (sym q ∙ ap found i) ∙ rw (le-ltb t 0x3d h))
function_answer nowhere g p q h = let z : ◌≡◌ {A = ℕ} 0 1 = cc in absurd (omega arith)

pub reserved_none : (f g : Found) → None ≡ token_found f → f ≡ g → None ≡ reserved_found g
unfolding token_found reserved_found
reserved_none (found u) g p q = let z : ◌≡◌ {A = ℕ} 0 1 = cc in absurd (omega arith)
reserved_none nowhere g p q = ap reserved_found q
