-- An item's token, from its kind and the text that begins with it.
use Rattle.std.specs.Prelude.{ℕ, Bool, List, [], ◌∷◌, ◌++◌, take, drop}
use Rattle.paper.specs.Tokens.{Token, statement, operator, string, unreadable}
use Rattle.paper.specs.Items.{variable_at}
use Rattle.constant_bytes.specs.Numerals.{numeral_token}
use Rattle.enter_scan.specs.declared.Kind.{Kind}
use Rattle.enter_scan.specs.declared.Kind.TheVariants.{Numeric, Text, Array, Number, Quoted, Operator, Function, Statement, End, Bad}

-- the token of an item of a kind at the front of a text; `first` says: in statement position
unfoldable pub token_of : Kind → List ℕ → Bool → Token
token_of (Numeric n) s first = variable_at first (take n s)
token_of (Text n) s first = variable_at first (take n s)
token_of (Array n) s first = variable_at first (take n s ++ 40 ∷ [])
token_of (Number n) s first = numeral_token s n
token_of (Quoted n) s first = string (take n (drop 1 s))
token_of (Operator t) s first = operator t.0
token_of (Function t) s first = operator t.0
token_of (Statement t) s first = statement t.0
token_of End s first = operator 0x16
token_of Bad s first = unreadable
