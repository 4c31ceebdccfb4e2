-- What a kind of item says of its token.
use Rattle.std.specs.Prelude.{ℕ, suc, ◌+◌, ◌≤◌, ◌<◌, ◌≡◌, refl, Bool, true, false, List, [], ◌∷◌, ◌++◌, ltb, length, take, drop}
use Rattle.std.proofs.Common.{arith, sym, length-append, length-take-le}
use Rattle.paper.specs.Bytes.{pick, every}
use Rattle.paper.specs.Classes.{remark}
use Rattle.paper.specs.Tokens.{constant, string, out_of_range, operator_class, class}
use Rattle.paper.specs.Constants.{value, in_range, six, constant_of}
use Rattle.paper.specs.Words.{word_of, statements}
use Rattle.paper.specs.Items.{variable_at}
use Rattle.laws.specs.Names.{plain_name, some_plain, every_append}
use Rattle.constant_bytes.specs.Numerals.{Written, digits_in, numeral_token}
use Rattle.constant_bytes.specs.declared.Numeral.{Numeral}
use Rattle.enter_scan.specs.Token.{token_of}
use Rattle.enter_scan.specs.Kinds.{class_of}
use Rattle.enter_scan.specs.Sees.{low?, Holds, Named}
use Rattle.enter_scan.specs.declared.Kind.{Kind}
use Rattle.enter_scan.specs.declared.Kind.TheVariants.{Numeric, Text, Array, Number, Quoted, Operator, Function, Statement, End, Bad}
use Rattle.names_numbered.specs.Answers.{spelled}
use Rattle.enter_item.specs.ClassLaws.{own_of, statement_classes, operator_classes, no_statement, no_symbol}

-- how many bytes of name an item has
abbrev pub name_length : Kind → ℕ
name_length (Numeric n) = n
name_length (Text n) = n
name_length (Array n) = n
name_length (Number n) = 0
name_length (Quoted n) = 0
name_length (Operator t) = 0
name_length (Function t) = 0
name_length (Statement t) = 0
name_length End = 0
name_length Bad = 0

-- an array's name
abbrev pub array? : Kind → Bool
array? (Numeric n) = false
array? (Text n) = false
array? (Array n) = true
array? (Number n) = false
array? (Quoted n) = false
array? (Operator t) = false
array? (Function t) = false
array? (Statement t) = false
array? End = false
array? Bad = false

-- no digit
abbrev pub no_numeral : Numeral
no_numeral = record { whole = 0; fraction = 0; down = false; power = 0 }

-- a number as it is written
abbrev pub numeral_of : Kind → Numeral
numeral_of (Numeric n) = no_numeral
numeral_of (Text n) = no_numeral
numeral_of (Array n) = no_numeral
numeral_of (Number n) = n
numeral_of (Quoted n) = no_numeral
numeral_of (Operator t) = no_numeral
numeral_of (Function t) = no_numeral
numeral_of (Statement t) = no_numeral
numeral_of End = no_numeral
numeral_of Bad = no_numeral

-- how many bytes stand between an item's quotes
abbrev pub quoted_length : Kind → ℕ
quoted_length (Numeric n) = 0
quoted_length (Text n) = 0
quoted_length (Array n) = 0
quoted_length (Number n) = 0
quoted_length (Quoted n) = n
quoted_length (Operator t) = 0
quoted_length (Function t) = 0
quoted_length (Statement t) = 0
quoted_length End = 0
quoted_length Bad = 0

-- the number of a word's or symbol's token
abbrev pub own_kind : Kind → ℕ
own_kind (Numeric n) = 0
own_kind (Text n) = 0
own_kind (Array n) = 0
own_kind (Number n) = 0
own_kind (Quoted n) = 0
own_kind (Operator t) = t.0
own_kind (Function t) = t.0
own_kind (Statement t) = t.0
own_kind End = 0x16
own_kind Bad = 0

own_variable : (first : Bool) (n : List ℕ) → own_of (variable_at first n) ≡ 0
unfolding own_of variable_at
own_variable true n = refl
own_variable false n = refl

own_constant : (v u d : ℕ) → own_of (constant_of v u d) ≡ 0
unfolding own_of constant_of
own_constant v u d = go (in_range v u d)
  where
    go : (b : Bool) → own_of (pick b (constant (six v u d)) out_of_range) ≡ 0
    go true = refl
    go false = refl

own_numeral : (s : List ℕ) (n : Numeral) → own_of (numeral_token s n) ≡ 0
unfolding numeral_token
own_numeral s n = go n.down
  where
    go : (b : Bool) → own_of (pick b (constant_of (value 0 (digits_in s n)) 0 (n.fraction + n.power)) (constant_of (value 0 (digits_in s n)) n.power n.fraction)) ≡ 0
    go true = own_constant (value 0 (digits_in s n)) 0 (n.fraction + n.power)
    go false = own_constant (value 0 (digits_in s n)) n.power n.fraction

pub own_seen : (k : Kind) (s : List ℕ) (first : Bool) → own_of (token_of k s first) ≡ own_kind k
unfolding token_of own_of
own_seen (Numeric n) s first = own_variable first (take n s)
own_seen (Text n) s first = own_variable first (take n s)
own_seen (Array n) s first = own_variable first (take n s ++ 40 ∷ [])
own_seen (Number n) s first = own_numeral s n
own_seen (Quoted n) s first = refl
own_seen (Operator t) s first = refl
own_seen (Function t) s first = refl
own_seen (Statement t) s first = refl
own_seen End s first = refl
own_seen Bad s first = refl

-- ---- by class

no_operator : (t : ℕ) → 3 ≤ operator_class t → operator_class t ≤ 10 → ⊥
unfolding class
no_operator t l h = no_symbol (operator_class t) (operator_classes t) l h

no_word : (t : ℕ) → 3 ≤ (word_of statements t).class → (word_of statements t).class < remark → ⊥
unfolding class
no_word t l h = no_statement (word_of statements t).class (statement_classes t) l h

-- a name, as the text and the kind have it
pub record IsName (k : Kind) (s : List ℕ) (size : ℕ) (first : Bool) : Type 0 where
  pub token : token_of k s first ≡ variable_at first (spelled (take (name_length k) s) (array? k))
  pub plain : plain_name (spelled (take (name_length k) s) (array? k)) ≡ true
  pub there : name_length k ≡ size
  pub short : length (spelled (take (name_length k) s) (array? k)) ≤ suc size
  pub some : 0 < size

low_every : (l : List ℕ) → every low? l ≡ true → every (λ b. ltb b 128) l ≡ true
unfolding low? every
low_every l h = h

plain_bare : (n : ℕ) (s : List ℕ) (size : ℕ) → Named s n size → size ≤ length s → plain_name (take n s) ≡ true
plain_bare n s size h z = some_plain (take n s) (omega (arith, length-take-le n s (omega (arith, h.whole)), h.some)) (low_every (take n s) h.low)

plain_array : (n : ℕ) (s : List ℕ) (size : ℕ) → Named s n size → plain_name (take n s ++ 40 ∷ []) ≡ true
unfolding every
plain_array n s size h =
    some_plain (take n s ++ 40 ∷ []) (omega (arith, length-append (take n s) (40 ∷ []))) (every_append (λ b. ltb b 128) (take n s) (40 ∷ []) (low_every (take n s) h.low) refl)

pub is_name : (k : Kind) (s : List ℕ) (size : ℕ) (first : Bool) → Holds s k size → size ≤ length s → 5 ≤ class_of k first → class_of k first ≤ 10 → IsName k s size first
unfolding token_of class_of spelled
is_name (Numeric n) s size first h z l u =
    record { token = refl; plain = plain_bare n s size h.0 z; there = sym h.0.whole; short = omega (arith, h.0.whole, length-take-le n s (omega (arith, h.0.whole))); some = omega (arith, h.0.whole, h.0.some) }
is_name (Text n) s size first h z l u =
    record { token = refl; plain = plain_bare n s size h.0 z; there = sym h.0.whole; short = omega (arith, h.0.whole, length-take-le n s (omega (arith, h.0.whole))); some = omega (arith, h.0.whole, h.0.some) }
is_name (Array n) s size first h z l u =
    record { token = refl; plain = plain_array n s size h.0; there = sym h.0.whole; short = omega (arith, h.0.whole, length-take-le n s (omega (arith, h.0.whole)), length-append (take n s) (40 ∷ [])); some = omega (arith, h.0.whole, h.0.some) }
is_name (Number n) s size first h z l u = absurd (omega arith)
is_name (Quoted n) s size first h z l u = absurd (omega arith)
is_name (Operator t) s size first h z l u = absurd (no_operator t.0 (omega arith) u)
is_name (Function t) s size first h z l u = absurd (no_operator t.0 (omega arith) u)
is_name (Statement t) s size first h z l u = absurd (no_word t.0 (omega arith) (omega arith))
is_name End s size first h z l u = absurd (omega arith)
is_name Bad s size first h z l u = absurd (omega arith)

-- a number, as the text and the kind have it
pub record IsNumber (k : Kind) (s : List ℕ) (first : Bool) : Type 0 where
  pub token : token_of k s first ≡ numeral_token s (numeral_of k)
  pub written : Written s (numeral_of k)

pick_between : (b : Bool) (x y : ℕ) → 5 ≤ x → 5 ≤ y → pick b x y ≡ 3 → ⊥
pick_between true x y h k e = omega arith
pick_between false x y h k e = omega arith

pub is_number : (k : Kind) (s : List ℕ) (size : ℕ) (first : Bool) → Holds s k size → class_of k first ≡ 3 → IsNumber k s first
unfolding token_of class_of
is_number (Numeric n) s size first h e = absurd (pick_between first 8 5 (omega arith) (omega arith) e)
is_number (Text n) s size first h e = absurd (pick_between first 9 6 (omega arith) (omega arith) e)
is_number (Array n) s size first h e = absurd (pick_between first 10 7 (omega arith) (omega arith) e)
is_number (Number n) s size first h e = record { token = refl; written = h }
is_number (Quoted n) s size first h e = absurd (omega arith)
is_number (Operator t) s size first h e = absurd (no_operator t.0 (omega arith) (omega arith))
is_number (Function t) s size first h e = absurd (no_operator t.0 (omega arith) (omega arith))
is_number (Statement t) s size first h e = absurd (no_word t.0 (omega arith) (omega arith))
is_number End s size first h e = absurd (omega arith)
is_number Bad s size first h e = absurd (omega arith)

-- a quoted string, as the text and the kind have it
pub record IsQuoted (k : Kind) (s : List ℕ) (size : ℕ) (first : Bool) : Type 0 where
  pub token : token_of k s first ≡ string (take (quoted_length k) (drop 1 s))
  pub there : suc (quoted_length k) ≤ size

pick_four : (b : Bool) (x y : ℕ) → 5 ≤ x → 5 ≤ y → pick b x y ≡ 4 → ⊥
pick_four true x y h k e = omega arith
pick_four false x y h k e = omega arith

pub is_quoted : (k : Kind) (s : List ℕ) (size : ℕ) (first : Bool) → Holds s k size → class_of k first ≡ 4 → IsQuoted k s size first
unfolding token_of class_of
is_quoted (Numeric n) s size first h e = absurd (pick_four first 8 5 (omega arith) (omega arith) e)
is_quoted (Text n) s size first h e = absurd (pick_four first 9 6 (omega arith) (omega arith) e)
is_quoted (Array n) s size first h e = absurd (pick_four first 10 7 (omega arith) (omega arith) e)
is_quoted (Number n) s size first h e = absurd (omega arith)
is_quoted (Quoted n) s size first h e = record { token = refl; there = h }
is_quoted (Operator t) s size first h e = absurd (no_operator t.0 (omega arith) (omega arith))
is_quoted (Function t) s size first h e = absurd (no_operator t.0 (omega arith) (omega arith))
is_quoted (Statement t) s size first h e = absurd (no_word t.0 (omega arith) (omega arith))
is_quoted End s size first h e = absurd (omega arith)
is_quoted Bad s size first h e = absurd (omega arith)
