-- The tables of words as the code lays them out, and what a search of one gives.
use Rattle.std.specs.Prelude.{ℕ, zero, suc, ◌+◌, Bool, ◌&&◌, Option, Some, None, List, [], ◌∷◌, ◌++◌, ltb, eqb, length, get_or, take, drop}
use Rattle.paper.specs.Bytes.{pick, bytes, letter?}
use Rattle.paper.specs.Classes.{unfit}
use Rattle.paper.specs.Words.{Word, word, Found, found, nowhere, word_of, statements, read_operators, functions}
use Rattle.tokens.specs.declared.StatementToken.{StatementToken}
use Rattle.tokens.specs.declared.Reserved.{Reserved}
use Rattle.tokens.specs.declared.Reserved.TheVariants.{Operator, Function}
use Rattle.tokens.specs.declared.Symbol.{Symbol}
use Rattle.tokens.specs.declared.Symbol.TheVariants.{Two, One}

-- ---- tables

-- the values of a function at n numbers from k on
unfoldable pub tabulated : (ℕ → ℕ) → ℕ → ℕ → List ℕ
tabulated f zero k = []
tabulated f (suc n) k = f k ∷ tabulated f n (suc k)

-- the sum of lengths
unfoldable pub total : List ℕ → ℕ
total [] = 0
total (l ∷ ls) = l + total ls

-- spellings end to end
unfoldable pub end_to_end : List Word → List ℕ
end_to_end [] = []
end_to_end (w ∷ ws) = w.spelling ++ end_to_end ws

-- the words and symbols that a text is read by, outside statement position
unfoldable pub read_words : List Word
read_words = read_operators ++ functions

-- the fixed words: those of statements, then those of operators and functions
unfoldable pub fixed_words : List ℕ
fixed_words = end_to_end statements ++ end_to_end read_words

-- the length of a token's word, 0 if it has none
unfoldable pub word_size : List Word → ℕ → ℕ
word_size ws t = length (word_of ws t).spelling

-- the lengths of statement words, by token
unfoldable pub statement_lengths : List ℕ
statement_lengths = tabulated (word_size statements) 0x36 0

-- the lengths of the words of operators and functions, by token from 12 on
unfoldable pub operator_lengths : List ℕ
operator_lengths = tabulated (word_size read_words) 0x43 0x12

-- where words of these lengths begin when they stand end to end
unfoldable pub starts : List ℕ → List ℕ
starts ls = tabulated (λ i. total (take i ls)) (length ls) 0

-- the words of a table: bytes end to end, and a length for each token from k on, 0 for a token with no word
unfoldable pub words_of : ℕ → List ℕ → List ℕ → List Word
words_of k [] bs = []
words_of k (l ∷ ls) bs =
    let more = words_of (suc k) ls (drop l bs) in
    let some : List Word = record { token = k; spelling = take l bs; class = unfit } ∷ more in
    pick (eqb l 0) more some

-- does a spelling begin with byte b and have n bytes
unfoldable pub begins : ℕ → ℕ → List ℕ → Bool
begins b n s = eqb (get_or s 0 0) b && eqb (length s) n

-- the first word of a table that does
unfoldable pub first_word : List Word → ℕ → ℕ → Found
first_word [] b n = nowhere
first_word (w ∷ ws) b n = let r = first_word ws b n in pick (begins b n w.spelling) (found w.token) r

-- ---- what a search gives

-- the token found
unfoldable pub token_found : Found → Option ℕ
token_found (found t) = Some t
token_found nowhere = None

-- a statement's word
unfoldable pub statement_found : Found → Option StatementToken
statement_found (found t) = Some (record { 0 = t })
statement_found nowhere = None

-- a word operator, or from 3D on a function
unfoldable pub reserved_found : Found → Option Reserved
reserved_found (found t) = Some (pick (ltb t 0x3d) (Operator (record { 0 = t })) (Function (record { 0 = t })))
reserved_found nowhere = None

-- a letter begins no symbol
unfoldable pub pair_found : ℕ → Found → Found
pair_found b f = pick (letter? b) nowhere f

-- the longest symbol: of two bytes, or of one
unfoldable pub symbol_found : Found → Found → Option Symbol
symbol_found (found t) one = Some (Two (record { 0 = t }))
symbol_found nowhere (found t) = Some (One (record { 0 = t }))
symbol_found nowhere nowhere = None

-- To unfold this is to see the bytes of the fixed words.
unfoldable pub fixed_bytes : Unit {0}
unfolding fixed_words end_to_end read_words statements read_operators functions word bytes
fixed_bytes = tt
