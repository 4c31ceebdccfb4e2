-- Tokens, as a line holds them one after the other (document 01, "Token line"), and the class of item that each is read as. What an item of
-- a text carries is a token too, so that nothing beside it can disagree with it.
use Rattle.std.specs.Prelude.{ℕ, Bool, true, false, List, [], ◌∷◌, eqb}
use Rattle.paper.specs.Bytes.{pick}
use Rattle.paper.specs.Classes.{line_end, raw_end, unfit, number, quoted, numeric_variable, string_variable, array, first_numeric, first_string, first_array, raw_text}
use Rattle.paper.specs.Words.{Found, found, nowhere, find_word, word_of, statements, operators}

pub data Token : Type 0 where
  -- a statement's word, by its token
  statement : ℕ → Token
  -- 36, LET without the word, and the variable that comes first
  assigned : List ℕ → Token
  -- an operator or function by its token; 16 the line's end; 9B the end of raw text
  operator : ℕ → Token
  -- a variable, by its name
  variable : List ℕ → Token
  -- 0E: six bytes
  constant : List ℕ → Token
  -- 0F: a string
  string : List ℕ → Token
  -- the text after REM or DATA
  raw : List ℕ → Token
  -- no token: a constant out of range; bytes that are no item
  out_of_range unreadable : Token

-- a constant out of range
unfoldable pub out_of_range? : Token → Bool
out_of_range? (statement t) = false
out_of_range? (assigned n) = false
out_of_range? (operator t) = false
out_of_range? (variable n) = false
out_of_range? (constant b) = false
out_of_range? (string b) = false
out_of_range? (raw b) = false
out_of_range? out_of_range = true
out_of_range? unreadable = false

-- the kind of a name by its last byte: `$` a string, `(` an array, else a number
unfoldable pub by_kind : List ℕ → ℕ → ℕ → ℕ → ℕ
by_kind [] n s a = n
by_kind (x ∷ []) n s a = pick (eqb x 36) s (pick (eqb x 40) a n)
by_kind (x ∷ y ∷ ys) n s a = by_kind (y ∷ ys) n s a

-- 16 and 9B are the line's ends; all others by their word
unfoldable pub operator_class : ℕ → ℕ
operator_class t = pick (eqb t 0x16) line_end (pick (eqb t 0x9b) raw_end (word_of operators t).class)

-- the class of an item that is this token
unfoldable pub class : Token → ℕ
class (statement t) = (word_of statements t).class
class (assigned n) = by_kind n first_numeric first_string first_array
class (operator t) = operator_class t
class (variable n) = by_kind n numeric_variable string_variable array
class (constant b) = number
class (string b) = quoted
class (raw b) = raw_text
class out_of_range = number
class unreadable = unfit

-- the token found, or another
unfoldable pub found_or : Found → ℕ → ℕ
found_or (found t) d = t
found_or nowhere d = d

-- An operator as it is read: the first with the same spelling. So `=` is read as 22, whether it is 22, 2D, 2E or 34 in the line.
unfoldable pub read_as : ℕ → ℕ
read_as t = pick (eqb t 0x16) t (pick (eqb t 0x9b) t (found_or (find_word operators (word_of operators t).spelling) t))

-- a token as the item that it is read from
unfoldable pub as_read : Token → Token
as_read (statement t) = statement t
as_read (assigned n) = assigned n
as_read (operator t) = operator (read_as t)
as_read (variable n) = variable n
as_read (constant b) = constant b
as_read (string b) = string b
as_read (raw b) = raw b
as_read out_of_range = out_of_range
as_read unreadable = unreadable
