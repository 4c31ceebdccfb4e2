-- The spelling of each token is what its part of the fixed words shows.
use Rattle.std.specs.Prelude.{ℕ, zero, suc, ◌+◌, ◌-◌, ◌≤◌, ◌<◌, ◌≡◌, refl, Bool, true, false, ◌&&◌, List, [], T, eqb, ltb, take, drop}
use Rattle.std.proofs.Common.{arith, ◌∙◌, subst, ltb-true, ltb-false, le-ltb}
use Rattle.std.proofs.Math.ListN.{get_or-eq_default}
use Rattle.paper.specs.Bytes.{pick, bytes, same}
use Rattle.paper.specs.Words.{word, word_of, find_word, statements, operators, read_operators, functions, placed_operators}
use Rattle.paper.specs.Tokens.{read_as, found_or}
use Rattle.laws.specs.Names.{same_eq}
use Rattle.laws.specs.Tests.{and_left, and_right, is_true}
use Rattle.tokens.specs.Tables.{tabulated, total, end_to_end, read_words, fixed_words, word_size, statement_lengths, operator_lengths, starts}
use Rattle.tokens.specs.Parts.{source_of, bytes_at, fixed_part, statement_part, word_part, operator_part}
use Rattle.tokens.specs.Words.{past_statements, past_operators}

-- a test passes at each number below n
unfoldable pub below : (ℕ → Bool) → ℕ → Bool
below p zero = true
below p (suc n) = p n && below p n

below_go : (p : ℕ → Bool) (n t : ℕ) (b : Bool) → ltb t n ≡ b → t < suc n → T (p n) → (t < n → T (p t)) → T (p t)
below_go p n t true e h a ih = ih (ltb-true t n e)
below_go p n t false e h a ih = let q : n ≡ t = omega (arith, ltb-false t n e) in subst (λ (x : ℕ). T (p x)) q a

pub below_at : (p : ℕ → Bool) (n : ℕ) → T (below p n) → (t : ℕ) → t < n → T (p t)
unfolding below
below_at p zero a t h = absurd (omega arith)
below_at p (suc n) a t h = below_go p n t (ltb t n) refl h (and_left (p n) (below p n) a) (λ k. below_at p n (and_right (p n) (below p n) a) t k)

-- ---- statements

-- the one test of all statement words
statement_test : ℕ → Bool
statement_test t = same (bytes_at fixed_words [] (statement_part t)) (word_of statements t).spelling

statement_tests : T (below statement_test 0x36)
unfolding below statement_test bytes_at source_of statement_part fixed_part starts tabulated total statement_lengths word_size fixed_words end_to_end read_words word_of statements read_operators functions word bytes same
statement_tests = tt

no_statement : (t : ℕ) → 0x36 ≤ t → bytes_at fixed_words [] (statement_part t) ≡ (word_of statements t).spelling
unfolding bytes_at source_of statement_part fixed_part starts statement_lengths tabulated word bytes
no_statement t h =
    rw
    (get_or-eq_default (starts statement_lengths) 0 h, get_or-eq_default statement_lengths 0 h, past_statements t h)

statement_go : (t : ℕ) (b : Bool) → ltb t 0x36 ≡ b → bytes_at fixed_words [] (statement_part t) ≡ (word_of statements t).spelling
unfolding statement_test
statement_go t true e =
    same_eq (bytes_at fixed_words [] (statement_part t)) (word_of statements t).spelling
    (is_true (statement_test t) (below_at statement_test 0x36 statement_tests t (ltb-true t 0x36 e)))
statement_go t false e = no_statement t (ltb-false t 0x36 e)

-- what a statement's part of the fixed words shows is its word
pub statement_spelling : (names : List ℕ) (t : ℕ) → bytes_at fixed_words names (statement_part t) ≡ (word_of statements t).spelling
unfolding bytes_at source_of statement_part fixed_part
statement_spelling names t = statement_go t (ltb t 0x36) refl

-- ---- operators and functions

-- a token past the last is read as itself
pub read_past : (t : ℕ) → 0x55 ≤ t → read_as t ≡ t
unfolding read_as found_or find_word operators read_operators functions placed_operators word bytes same
read_past t h = go (eqb t 0x16) (eqb t 0x9b)
  where
    go : (a b : Bool) → pick a t (pick b t (found_or (find_word operators (word_of operators t).spelling) t)) ≡ t
    go true b = refl
    go false true = refl
    go false false = rw (past_operators t h)

-- the one test of all operators and functions
operator_test : ℕ → Bool
operator_test t = same (bytes_at fixed_words [] (operator_part t)) (word_of operators t).spelling

operator_tests : T (below operator_test 0x55)
unfolding below operator_test bytes_at source_of operator_part word_part fixed_part read_as found_or find_word starts tabulated total statement_lengths operator_lengths word_size fixed_words end_to_end read_words word_of statements operators read_operators functions placed_operators word bytes same
operator_tests = tt

no_operator : (t : ℕ) → 0x55 ≤ t → bytes_at fixed_words [] (operator_part t) ≡ (word_of operators t).spelling
unfolding bytes_at source_of operator_part word_part fixed_part starts operator_lengths tabulated word bytes
no_operator t h =
    let i : 0x43 ≤ t - 0x12 = omega arith in
    let l : 0x12 ≤ t = omega arith in
    rw (read_past t h, le-ltb t 0x12 l, get_or-eq_default (starts operator_lengths) 0 i, get_or-eq_default operator_lengths 0 i, past_operators t h) (nothing (total statement_lengths))
  where
    nothing : (n : ℕ) → take (n + 0 + 0 - (n + 0)) (drop (n + 0) fixed_words) ≡ []
    nothing n = let z : n + 0 + 0 - (n + 0) ≡ 0 = omega arith in rw z

operator_go : (t : ℕ) (b : Bool) → ltb t 0x55 ≡ b → bytes_at fixed_words [] (operator_part t) ≡ (word_of operators t).spelling
unfolding operator_test
operator_go t true e =
    same_eq (bytes_at fixed_words [] (operator_part t)) (word_of operators t).spelling
    (is_true (operator_test t) (below_at operator_test 0x55 operator_tests t (ltb-true t 0x55 e)))
operator_go t false e = no_operator t (ltb-false t 0x55 e)

any_names : (names : List ℕ) (t : Bool) (a b c d : ℕ) → bytes_at fixed_words names (pick t (fixed_part a b) (fixed_part c d)) ≡ bytes_at fixed_words [] (pick t (fixed_part a b) (fixed_part c d))
unfolding bytes_at source_of fixed_part
any_names names true a b c d = refl
any_names names false a b c d = refl

-- what an operator's part of the fixed words shows is its spelling
pub operator_spelling : (names : List ℕ) (t : ℕ) → bytes_at fixed_words names (operator_part t) ≡ (word_of operators t).spelling
unfolding operator_part word_part
operator_spelling names t = any_names names (ltb (read_as t) 0x12) 0 0 _ _ ∙ operator_go t (ltb t 0x55) refl
