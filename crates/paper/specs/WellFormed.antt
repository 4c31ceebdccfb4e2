-- Well-formed lines (document 01, "Items and grammar", its last paragraph).
use Rattle.std.specs.Prelude.{ℕ, ◌≡◌, Bool, true, false, not, ◌&&◌, List, [], ◌∷◌, T}
use Rattle.paper.specs.Bytes.{same, every}
use Rattle.paper.specs.Words.{statement_word?}
use Rattle.paper.specs.Tokens.{Token, statement, assigned, operator, variable, constant, string, raw, out_of_range, unreadable, as_read}
use Rattle.paper.specs.Constants.{right_constant?}
use Rattle.paper.specs.Names.{known?, less_open}
use Rattle.paper.specs.Items.{Item, item, string_byte?, raw_byte?}
use Rattle.paper.specs.Machine.{Taken, Run, left, done, bad, read}
use Rattle.paper.specs.Grammar.{Gives, given, look_item, start}
use Rattle.paper.specs.Line.{line_bytes, line_number, lawful_number?, direct_number?, line_tokens}

-- the tokens that the taken items give
unfoldable pub tokens_of : List (Taken Gives Item) → List Token
tokens_of [] = []
tokens_of (t ∷ ts) = given t.gave t.from.token ∷ tokens_of ts

-- A sequence of items is lawful if all are taken and nothing more is wanted; it gives these tokens.
pub record Lawful (is : List Item) (ts : List Token) : Type 0 where
  pub taken : List (Taken Gives Item)
  pub reads : read look_item start is ≡ left taken []
  pub gives : tokens_of taken ≡ ts

-- no 22 or 9B in a string, no 9B in raw text, constants right, variables in the table, and the first name after 36 no statement word
unfoldable pub right_token? : List (List ℕ) → Token → Bool
right_token? ns (statement t) = true
right_token? ns (assigned n) = known? ns n && not (statement_word? (less_open n))
right_token? ns (operator t) = true
right_token? ns (variable n) = known? ns n
right_token? ns (constant b) = right_constant? b
right_token? ns (string b) = every string_byte? b
right_token? ns (raw b) = every raw_byte? b
right_token? ns out_of_range = false
right_token? ns unreadable = false

-- Formed over the names ns, with a number that passes a test: some lawful item sequence gives these bytes (so length and offsets are right),
-- and each token is right.
pub record Formed (lawful? : ℕ → Bool) (ns : List (List ℕ)) (l : List ℕ) : Type 0 where
  pub number : ℕ
  pub items : List Item
  pub tokens : List Token
  pub lawful : Lawful items tokens
  pub bytes : line_bytes ns number tokens ≡ l
  pub lawful_number : T (lawful? number)
  pub right : T (every (right_token? ns) tokens)

-- well-formed: formed, and the number is at most 32767
abbrev pub WellFormed : List (List ℕ) → List ℕ → Type 0
WellFormed ns l = Formed lawful_number? ns l

-- well-formed as a line without a number (document 02, §1)
abbrev pub WellFormedDirect : List (List ℕ) → List ℕ → Type 0
WellFormedDirect ns l = Formed direct_number? ns l

-- ---- the same as a test: the line's own tokens, as they are read, are lawful and give the line back

-- the items that tokens are read from
unfoldable pub items_of : List Token → List Item
items_of [] = []
items_of (t ∷ ts) = item 0 0 (as_read t) ∷ items_of ts

-- all items taken, nothing wanted, and the tokens given are the line's bytes, and right
unfoldable pub gives_back? : List (List ℕ) → List ℕ → Run Gives Item → Bool
gives_back? ns l (left ts []) = same (line_bytes ns (line_number l) (tokens_of ts)) l && every (right_token? ns) (tokens_of ts)
gives_back? ns l (left ts (f ∷ fs)) = false
gives_back? ns l (done ts r) = false
gives_back? ns l (bad k ts r) = false

-- formed, as a test
unfoldable pub formed? : (ℕ → Bool) → List (List ℕ) → List ℕ → Bool
formed? lawful? ns l = lawful? (line_number l) && gives_back? ns l (read look_item start (items_of (line_tokens ns l)))

-- well-formed, as a test
abbrev pub well_formed? : List (List ℕ) → List ℕ → Bool
well_formed? ns l = formed? lawful_number? ns l
