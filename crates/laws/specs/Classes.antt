-- The classes of tokens are below their count.
use Rattle.std.specs.Prelude.{ℕ, ◌<◌, Bool, true, false, List, [], ◌∷◌, T, eqb, ltb}
use Rattle.std.proofs.Common.{arith, ltb→lt}
use Rattle.paper.specs.Bytes.{pick, every}
use Rattle.paper.specs.Classes.{unfit, numeric_variable, string_variable, array, first_numeric, first_string, first_array}
use Rattle.paper.specs.Words.{Word, word, word_of, statements, operators}
use Rattle.paper.specs.Tokens.{Token, statement, assigned, operator, variable, constant, string, raw, out_of_range, unreadable, class, by_kind, operator_class}
use Rattle.paper.specs.Open.{all_Bytes, all_Words}
use Rattle.laws.specs.Tests.{and_left, and_right}
use Rattle.laws.specs.Counts.{class_count}

word_go : (q : Word → Bool) (w v : Word) (x : Bool) → T (q w) → T (q v) → T (q (pick x w v))
word_go q w v true s t = s
word_go q w v false s t = t

-- what all words of a table pass, and no word, the word with a token passes
pub word_passes : (q : Word → Bool) (ws : List Word) (k : ℕ) → T (every q ws) → T (q (word k "" unfit)) → T (q (word_of ws k))
unfolding word_of every
word_passes q [] k t d = d
word_passes q (w ∷ ws) k t d = word_go q w (word_of ws k) (eqb w.token k) (and_left (q w) _ t) (word_passes q ws k (and_right (q w) _ t) d)

kind_go : (q : ℕ → Bool) (x y : Bool) (a b c : ℕ) → T (q a) → T (q b) → T (q c) → T (q (pick x b (pick y c a)))
kind_go q true y a b c s t u = t
kind_go q false true a b c s t u = u
kind_go q false false a b c s t u = s

-- a name's class passes a test that the three classes pass
pub at_kind : (q : ℕ → Bool) (n : List ℕ) (a b c : ℕ) → T (q a) → T (q b) → T (q c) → T (q (by_kind n a b c))
unfolding by_kind
at_kind q [] a b c s t u = s
at_kind q (x ∷ []) a b c s t u = kind_go q (eqb x 36) (eqb x 40) a b c s t u
at_kind q (x ∷ y ∷ ys) a b c s t u = at_kind q (y ∷ ys) a b c s t u

unfoldable low_word? : Word → Bool
low_word? w = ltb w.class class_count

low_unknown : (k : ℕ) → T (low_word? (word k "" unfit))
unfolding low_word? word
low_unknown k = tt

low_statements : T (every low_word? statements)
unfolding low_word? all_Bytes all_Words
low_statements = tt

low_operators : T (every low_word? operators)
unfolding low_word? all_Bytes all_Words
low_operators = tt

pub statement_low : (k : ℕ) → (word_of statements k).class < class_count
unfolding low_word?
statement_low k = ltb→lt (word_of statements k).class class_count (word_passes low_word? statements k low_statements (low_unknown k))

operator_go : (x y : Bool) (c : ℕ) → T (ltb c class_count) → T (ltb (pick x 0 (pick y 1 c)) class_count)
operator_go true y c h = tt
operator_go false true c h = tt
operator_go false false c h = h

pub operator_low : (t : ℕ) → operator_class t < class_count
unfolding operator_class low_word?
operator_low t = ltb→lt (operator_class t) class_count (operator_go (eqb t 0x16) (eqb t 0x9b) _ (word_passes low_word? operators t low_operators (low_unknown t)))

-- every class is one of them
pub class_low : (t : Token) → class t < class_count
unfolding class
class_low (statement t) = statement_low t
class_low (assigned n) = ltb→lt (by_kind n first_numeric first_string first_array) class_count (at_kind (λ c. ltb c class_count) n first_numeric first_string first_array tt tt tt)
class_low (operator t) = operator_low t
class_low (variable n) = ltb→lt (by_kind n numeric_variable string_variable array) class_count (at_kind (λ c. ltb c class_count) n numeric_variable string_variable array tt tt tt)
class_low (constant b) = omega arith
class_low (string b) = omega arith
class_low (raw b) = omega arith
class_low out_of_range = omega arith
class_low unreadable = omega arith
