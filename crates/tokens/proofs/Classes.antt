-- Classes, and operators by their spelling: what the definitions say of each token that no arm names.
use Prim.Native.Nat.{ℕ, ◌<◌}
use native.Mathlib.Omega.{arith}
use mathlib.Core.Path.{◌≡◌, sym, ap}
use mathlib.Core.Bool.{◌||◌}
use mathlib.Core.List.{List, [], ◌∷◌}
use lib.Dec.{T, eqb}
use borrow.Author.Tests.{ne_eqb}
use Rattle.paper.specs.Bytes.{bytes, same, among}
use Rattle.paper.specs.Classes.{unfit}
use Rattle.paper.specs.Words.{Word, word, word_of, find_word, statements, operators, read_operators, functions, placed_operators}
use Rattle.paper.specs.Tokens.{operator_class, read_as, found_or}
use Rattle.tokens.specs.Words.{past_statements, past_operators}
use Rattle.tokens.specs.Spellings.{below, read_past}
use Rattle.tokens.proofs.Keys.{Rest, otherwise}
use Rattle.tokens.proofs.FitTokens.{fit_statements, fit_operators}

-- ---- statement words

unfit_test : T (below (λ t. among t fit_statements || eqb unfit (word_of statements t).class) 0x36)
unfolding below among word_of statements word
unfit_test = tt

pub statement_else : (t : ℕ) → Rest fit_statements t → unfit ≡ (word_of statements t).class
unfolding word
statement_else =
    otherwise (λ t. unfit) (λ t. (word_of statements t).class) fit_statements 0x36 unfit_test
    (λ t h. sym (ap (λ (w : Word). w.class) (past_statements t h)))

-- ---- operators and functions

unfit_operators : T (below (λ t. among t fit_operators || eqb unfit (operator_class t)) 0x9c)
unfolding below among operator_class word_of operators read_operators functions placed_operators word
unfit_operators = tt

-- past the functions
pub operator_past : (t : ℕ) → 0x54 < t → (t ≡ 0x9b → ⊥) → unfit ≡ operator_class t
unfolding operator_class word
operator_past t h k = sym (rw (ne_eqb t 0x16 (λ e. omega arith), ne_eqb t 0x9b k, past_operators t h))

pub operator_else : (t : ℕ) → Rest fit_operators t → unfit ≡ operator_class t
operator_else = otherwise (λ t. unfit) operator_class fit_operators 0x9c unfit_operators (λ t h. operator_past t (omega arith) (λ e. omega arith))

-- ---- operators by their spelling

-- the operators that the grammar places, the last first
abbrev pub placed : List ℕ
placed = 0x3c ∷ 0x3b ∷ 0x3a ∷ 0x39 ∷ 0x38 ∷ 0x37 ∷ 0x36 ∷ 0x35 ∷ 0x34 ∷ 0x33 ∷ 0x32 ∷ 0x31 ∷ 0x30 ∷ 0x2f ∷ 0x2e ∷ 0x2d ∷ []

own_test : T (below (λ t. among t placed || eqb t (read_as t)) 0x55)
unfolding below among read_as found_or find_word word_of operators read_operators functions placed_operators word bytes same
own_test = tt

pub read_else : (t : ℕ) → Rest placed t → t ≡ read_as t
read_else = otherwise (λ t. t) read_as placed 0x55 own_test (λ t h. sym (read_past t h))
