-- A variable's class in statement position is the third after its own.
use Rattle.std.specs.Prelude.{ℕ, ◌+◌, ◌<◌, ◌≡◌, refl, Bool, true, false, List, [], ◌∷◌, T, eqb, ltb}
use Rattle.std.proofs.Common.{ltb→lt}
use Rattle.paper.specs.Bytes.{pick, every}
use Rattle.paper.specs.Classes.{raw_end, raw_text, numeric_variable, string_variable, array, first_numeric, first_string, first_array}
use Rattle.paper.specs.Words.{Found, found, nowhere, find_word, word_of, operators}
use Rattle.paper.specs.Tokens.{operator, variable, assigned, raw, class, by_kind, operator_class, as_read, read_as, found_or}
use Rattle.paper.specs.Open.{all_Bytes, all_Words}
use Rattle.laws.specs.Classes.{at_kind}
use Rattle.tokens.specs.Words.{found_token}

pub variable_low : (n : List ℕ) → class (variable n) < 40
unfolding class
variable_low n = ltb→lt (class (variable n)) 40 (at_kind (λ c. ltb c 40) n numeric_variable string_variable array tt tt tt)

kind_go : (x y : Bool) (a b c : ℕ) → pick x (b + 3) (pick y (c + 3) (a + 3)) ≡ pick x b (pick y c a) + 3
kind_go true y a b c = refl
kind_go false true a b c = refl
kind_go false false a b c = refl

kind_first : (n : List ℕ) → by_kind n first_numeric first_string first_array ≡ by_kind n numeric_variable string_variable array + 3
unfolding by_kind
kind_first [] = refl
kind_first (x ∷ []) = kind_go (eqb x 36) (eqb x 40) numeric_variable string_variable array
kind_first (x ∷ y ∷ ys) = kind_first (y ∷ ys)

pub first_class : (n : List ℕ) → class (assigned n) ≡ class (variable n) + 3
unfolding class
first_class n = kind_first n

-- the end of raw text is read as itself
pub raw_end_read : as_read (operator 0x9b) ≡ operator 0x9b
unfolding as_read read_as
raw_end_read = refl

pub raw_end_class : class (operator 0x9b) ≡ raw_end
unfolding class operator_class
raw_end_class = refl

pub raw_text_class : (b : List ℕ) → class (raw b) ≡ raw_text
unfolding class
raw_text_class b = refl

pub raw_text_read : (b : List ℕ) → as_read (raw b) ≡ raw b
unfolding as_read
raw_text_read b = refl

-- ---- an operator below 128 is read as one below 128

operators_low : T (every (λ w. ltb w.token 128) operators)
unfolding all_Bytes all_Words
operators_low = tt

found_low : (s : List ℕ) (f : Found) → find_word operators s ≡ f → (k : ℕ) → k < 128 → found_or f k < 128
unfolding found_or
found_low s (found t) e k h = ltb→lt t 128 (found_token operators s (λ n. ltb n 128) operators_low t e)
found_low s nowhere e k h = h

read_go : (x y : Bool) (k f : ℕ) → k < 128 → f < 128 → pick x k (pick y k f) < 128
read_go true y k f h l = h
read_go false true k f h l = h
read_go false false k f h l = l

pub read_low : (k : ℕ) → k < 128 → read_as k < 128
unfolding read_as
read_low k h = read_go (eqb k 0x16) (eqb k 0x9b) k _ h (found_low (word_of operators k).spelling (find_word operators (word_of operators k).spelling) refl k h)
