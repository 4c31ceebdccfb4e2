-- What stands at the front of a text: its kind and its length, and its class.
use Rattle.std.specs.Prelude.{ℕ, suc, ◌+◌, Bool, false, ◌&&◌, ◌||◌, List, [], ◌∷◌, ltb, eqb, take, drop, get_or}
use Rattle.paper.specs.Bytes.{pick, digit?, letter?, letter_or_digit?, blank?, run}
use Rattle.paper.specs.Classes.{line_end, unfit, number, quoted, numeric_variable, string_variable, array, first_numeric, first_string, first_array}
use Rattle.paper.specs.Words.{Found, found, nowhere, find_word, word_of, statements, operators}
use Rattle.paper.specs.Tokens.{operator_class}
use Rattle.paper.specs.Constants.{value}
use Rattle.paper.specs.Items.{sign_size, power_size, string_byte?, raw_byte?}
use Rattle.enter_scan.specs.declared.Exponent.{Exponent}
use Rattle.enter_scan.specs.declared.Item.{Item}
use Rattle.enter_scan.specs.declared.RawText.{RawText}
use Rattle.enter_scan.specs.declared.Kind.{Kind}
use Rattle.enter_scan.specs.declared.Kind.TheVariants.{Numeric, Text, Array, Number, Quoted, Operator, Function, Statement, End, Bad}

-- a kind and a length
pub record Shape : Type 0 where
  pub kind : Kind
  pub size : ℕ

-- a shape
abbrev pub shape : Kind → ℕ → Shape
shape k n = record { kind = k; size = n }

-- ---- names

-- the length of a name: the run of letters and digits, with a directly following `$`
unfoldable pub name_size : List ℕ → ℕ
name_size s = let n = run letter_or_digit? s in pick (eqb (get_or s n 0) 36) (suc n) n

-- what variable n bytes of name are: by the byte after the letters and digits, and the byte after the name
unfoldable pub variable_kind : ℕ → ℕ → ℕ → Kind
variable_kind last next n = pick (eqb last 36) (Text n) (pick (eqb next 40) (Array n) (Numeric n))

-- a statement's word if one was found
unfoldable pub statement_kind : Found → Kind → Kind
statement_kind (found t) other = Statement (record { 0 = t })
statement_kind nowhere other = other

-- a word operator if one was found, or from 3D on a function
unfoldable pub reserved_kind : Found → Kind → Kind
reserved_kind (found t) other = pick (ltb t 0x3d) (Operator (record { 0 = t })) (Function (record { 0 = t }))
reserved_kind nowhere other = other

-- what a name is: in statement position a statement's word; else a word operator or function; else the variable
unfoldable pub name_kind : Bool → List ℕ → Kind → Kind
name_kind first w other =
    let reserved = reserved_kind (find_word operators w) other in
    pick first (statement_kind (find_word statements w) reserved) reserved

-- a name at the front of a text
unfoldable pub name_shape : Bool → List ℕ → Shape
name_shape first s =
    let n = name_size s in
    shape (name_kind first (take n s) (variable_kind (get_or s (run letter_or_digit? s) 0) (get_or s n 0) n)) n

-- ---- numbers

-- how many digits stand after the point that follows a digits, 0 without one
unfoldable pub fraction_size : List ℕ → ℕ → ℕ
fraction_size s a = pick (eqb (get_or s a 0) 46) (run digit? (drop (suc a) s)) 0

-- the length of digits and point, where a digits come first
unfoldable pub digits_size : List ℕ → ℕ → ℕ
digits_size s a = pick (eqb (get_or s a 0) 46) (suc a + run digit? (drop (suc a) s)) a

-- no exponent
abbrev pub no_power : Exponent
no_power = record { size = 0; down = false; power = 0 }

-- the exponent after n bytes: E, sign, one or two digits, if they stand there
unfoldable pub power_at : List ℕ → ℕ → Exponent
power_at s n =
    let t = drop (suc n) s in
    let g = sign_size (get_or t 0 0) in
    let e = drop g t in
    let k = power_size e in
    let some : Exponent = record { size = suc g + k; down = eqb (get_or t 0 0) 45; power = value 0 (take k e) } in
    pick (eqb (get_or s n 0) 69 && ltb 0 k) some no_power

-- a number of a digits before the point, and the exponent after them all
unfoldable pub number_with : List ℕ → ℕ → Exponent → Shape
number_with s a p = shape (Number (record { whole = a; fraction = fraction_size s a; down = p.down; power = p.power })) (digits_size s a + p.size)

-- a number at the front of a text
unfoldable pub number_shape : List ℕ → Shape
number_shape s = let a = run digit? s in number_with s a (power_at s (digits_size s a))

-- ---- strings and symbols

-- a quoted string of n bytes, by the byte that ends it: a quote, a 9B, or none at the text's end
unfoldable pub string_ended : ℕ → ℕ → Shape
string_ended n b = pick (eqb b 34) (shape (Quoted n) (suc (suc n))) (pick (eqb b 0x9b) (shape Bad (suc n)) (shape (Quoted n) (suc n)))

-- a quoted string at the front of a text
unfoldable pub string_shape : List ℕ → Shape
string_shape s = let n = run string_byte? (drop 1 s) in string_ended n (get_or s (suc n) 0)

-- a symbol if one was found
unfoldable pub symbol_kind : ℕ → Found → Shape → Shape
symbol_kind n (found t) other = shape (Operator (record { 0 = t })) n
symbol_kind n nowhere other = other

-- the longest symbol that starts with two bytes
unfoldable pub symbol_shape : ℕ → ℕ → Shape
symbol_shape b c = symbol_kind 2 (find_word operators (b ∷ c ∷ [])) (symbol_kind 1 (find_word operators (b ∷ [])) (shape Bad 1))

-- ---- one item, at a byte that is no blank, or at the text's end

unfoldable pub shape_at : Bool → List ℕ → Shape
shape_at first [] = shape End 0
shape_at first (b ∷ t) =
    let s = b ∷ t in
    let c = get_or t 0 0 in
    pick (letter? b) (name_shape first s)
    (pick (digit? b || (eqb b 46 && digit? c)) (number_shape s)
    (pick (eqb b 34) (string_shape s)
    (pick (eqb b 63 && first) (shape (Statement (record { 0 = 0x28 })) 1) (symbol_shape b c))))

-- an item of a shape at a place
unfoldable pub item_with : Shape → ℕ → Item
item_with x at = record { kind = x.kind; at = at; end = at + x.size }

-- the next item of a text from a place on, after the blanks there
unfoldable pub item_seen : List ℕ → ℕ → Bool → Item
item_seen s at first = let p = at + run blank? (drop at s) in item_with (shape_at first (drop p s)) p

-- ---- raw text

-- one blank, if there, is dropped
unfoldable pub raw_start : List ℕ → ℕ → ℕ
raw_start s at = pick (blank? (get_or s at 0)) (suc at) at

-- the raw text that follows REM or DATA at a place: the run without 9B
unfoldable pub raw_seen : List ℕ → ℕ → RawText
raw_seen s at = let p = raw_start s at in record { from = p; end = p + run raw_byte? (drop p s) }

-- ---- classes

-- the class of an item of a kind; `first` says: in statement position
unfoldable pub class_of : Kind → Bool → ℕ
class_of (Numeric n) first = pick first first_numeric numeric_variable
class_of (Text n) first = pick first first_string string_variable
class_of (Array n) first = pick first first_array array
class_of (Number n) first = number
class_of (Quoted n) first = quoted
class_of (Operator t) first = operator_class t.0
class_of (Function t) first = operator_class t.0
class_of (Statement t) first = (word_of statements t.0).class
class_of End first = line_end
class_of Bad first = unfit
