-- The token line (document 01, "Token line"): tokens as bytes, with the offsets; and bytes as tokens again.
use Rattle.std.specs.Prelude.{ℕ, zero, suc, pred, ◌+◌, ◌-◌, ◌*◌, ◌/◌, ◌%◌, Bool, true, false, ◌||◌, List, [], ◌∷◌, ◌++◌, leb, ltb, eqb, length, take, drop, get_or}
use Rattle.paper.specs.Bytes.{pick, run}
use Rattle.paper.specs.Classes.{remark}
use Rattle.paper.specs.Tokens.{Token, statement, assigned, operator, variable, constant, string, raw, out_of_range, unreadable, class}
use Rattle.paper.specs.Names.{number_of}
use Rattle.paper.specs.Items.{raw_byte?}

-- ---- tokens as bytes

-- the token of the variable with a number: 80 and the number; from 128 on 00, and the number less 128 (document 02, §11)
unfoldable pub number_bytes : ℕ → List ℕ
number_bytes i = pick (ltb i 128) ((0x80 + i) ∷ []) (0 ∷ (i - 128) ∷ [])

-- a variable's token
unfoldable pub variable_bytes : List (List ℕ) → List ℕ → List ℕ
variable_bytes ns n = number_bytes (number_of ns n)

-- the bytes of a token over a name table; before those of a statement's first token stands its offset
unfoldable pub own_bytes : List (List ℕ) → Token → List ℕ
own_bytes ns (statement t) = t ∷ []
own_bytes ns (assigned n) = 0x36 ∷ variable_bytes ns n
own_bytes ns (operator t) = t ∷ []
own_bytes ns (variable n) = variable_bytes ns n
own_bytes ns (constant b) = 0x0e ∷ b
own_bytes ns (string b) = 0x0f ∷ length b ∷ b
own_bytes ns (raw b) = b
own_bytes ns out_of_range = []
own_bytes ns unreadable = []

-- a statement begins with this token
unfoldable pub begins? : Token → Bool
begins? (statement t) = true
begins? (assigned n) = true
begins? (operator t) = false
begins? (variable n) = false
begins? (constant b) = false
begins? (string b) = false
begins? (raw b) = false
begins? out_of_range = false
begins? unreadable = false

-- how many bytes stand before the next statement, or the line's end
unfoldable pub to_next : List (List ℕ) → List Token → ℕ
to_next ns [] = 0
to_next ns (t ∷ ts) = let more = length (own_bytes ns t) + to_next ns ts in pick (begins? t) 0 more

-- the bytes of tokens from offset p of the line on; a statement starts with the offset just past it
unfoldable pub token_bytes : List (List ℕ) → ℕ → List Token → List ℕ
token_bytes ns p [] = []
token_bytes ns p (t ∷ ts) =
    let own = own_bytes ns t in
    let within = own ++ token_bytes ns (p + length own) ts in
    let begun = (suc p + length own + to_next ns ts) ∷ own ++ token_bytes ns (suc p + length own) ts in
    pick (begins? t) begun within

-- number, low byte first; line length; then statements
unfoldable pub line_bytes : List (List ℕ) → ℕ → List Token → List ℕ
line_bytes ns n ts = let body = token_bytes ns 3 ts in n % 256 ∷ n / 256 ∷ (3 + length body) ∷ body

-- ---- bytes as tokens

-- the number of a stored line
unfoldable pub line_number : List ℕ → ℕ
line_number l = get_or l 0 0 + 256 * get_or l 1 0

-- the numbers that a line may have: at most 32767
unfoldable pub lawful_number? : ℕ → Bool
lawful_number? n = leb n 32767

-- the number of a line that was entered without one (document 02, §1)
abbrev pub direct_number : ℕ
direct_number = 32768

-- it is that number
unfoldable pub direct_number? : ℕ → Bool
direct_number? n = eqb n direct_number

-- a byte that a variable's token begins with
unfoldable pub variable_byte? : ℕ → Bool
variable_byte? b = leb 0x80 b || eqb b 0

-- the length of the variable's token at the front of some bytes
unfoldable pub variable_size : List ℕ → ℕ
variable_size s = pick (eqb (get_or s 0 0) 0) 2 1

-- the number of that variable
unfoldable pub variable_number : List ℕ → ℕ
variable_number s = pick (eqb (get_or s 0 0) 0) (128 + get_or s 1 0) (get_or s 0 0 - 0x80)

-- the name of that variable; no name past the table's end
unfoldable pub variable_name : List (List ℕ) → List ℕ → List ℕ
variable_name ns s = get_or ns (variable_number s) []

-- REM and DATA
unfoldable pub raw_statement? : ℕ → Bool
raw_statement? t = eqb (class (statement t)) remark

-- Offset p of the line; `end` is where the present statement ends, and another begins; n bytes of the present token are to be passed over.
unfoldable pub tokens_from : List (List ℕ) → ℕ → ℕ → ℕ → List ℕ → List Token
tokens_from ns n p end [] = []
tokens_from ns (suc n) p end (b ∷ s) = tokens_from ns n (suc p) end s
tokens_from ns zero p end (b ∷ s) =
    let t = get_or s 0 0 in
    let size = run raw_byte? (drop 1 s) in
    let with_text = statement t ∷ raw (take size (drop 1 s)) ∷ operator 0x9b ∷ tokens_from ns (2 + size) (suc p) b s in
    let let_without_word = assigned (variable_name ns (drop 1 s)) ∷ tokens_from ns (suc (variable_size (drop 1 s))) (suc p) b s in
    let other_statement = statement t ∷ tokens_from ns 1 (suc p) b s in
    let a_variable = variable (variable_name ns (b ∷ s)) ∷ tokens_from ns (pred (variable_size (b ∷ s))) (suc p) end s in
    let a_constant = constant (take 6 s) ∷ tokens_from ns 6 (suc p) end s in
    let a_string = string (take t (drop 1 s)) ∷ tokens_from ns (suc t) (suc p) end s in
    let an_operator = operator b ∷ tokens_from ns 0 (suc p) end s in
    pick (eqb p end) (pick (eqb t 0x36) let_without_word (pick (raw_statement? t) with_text other_statement))
    (pick (variable_byte? b) a_variable (pick (eqb b 0x0e) a_constant (pick (eqb b 0x0f) a_string an_operator)))

-- the tokens of a whole line, whose first statement begins at offset 3
unfoldable pub line_tokens : List (List ℕ) → List ℕ → List Token
line_tokens ns l = tokens_from ns 0 3 3 (drop 3 l)
