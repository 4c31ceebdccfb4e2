-- What is known of the next item of a text.
use Rattle.std.specs.Prelude.{ℕ, suc, ◌+◌, ◌-◌, ◌≤◌, ◌<◌, ◌≡◌, Bool, true, List, [], ◌∷◌, ◌++◌, ltb, length, take, drop}
use Rattle.paper.specs.Bytes.{every, run, blank?}
use Rattle.paper.specs.Classes.{line_end}
use Rattle.paper.specs.Tokens.{Token, by_kind, class}
use Rattle.constant_bytes.specs.Numerals.{Written}
use Rattle.enter_scan.specs.declared.Item.{Item}
use Rattle.enter_scan.specs.declared.Kind.{Kind}
use Rattle.enter_scan.specs.declared.Kind.TheVariants.{Numeric, Text, Array, Number, Quoted, Operator, Function, Statement, End, Bad}
use Rattle.enter_scan.specs.Token.{token_of}
use Rattle.enter_scan.specs.Kinds.{class_of, item_seen}

-- a byte with its top bit clear
unfoldable pub low? : ℕ → Bool
low? b = ltb b 128

-- n bytes of name are the whole item: at least one, and all with their top bits clear
pub record Named (s : List ℕ) (n size : ℕ) : Type 0 where
  pub whole : size ≡ n
  pub some : 0 < n
  pub low : every low? (take n s) ≡ true

-- What an item of a kind, of this length at the front of a text, holds. A variable's kind can be told from its name.
abbrev pub Holds : List ℕ → Kind → ℕ → Type 0
Holds s (Numeric n) size = Named s n size × ((x y z : ℕ) → by_kind (take n s) x y z ≡ x)
Holds s (Text n) size = Named s n size × ((x y z : ℕ) → by_kind (take n s) x y z ≡ y)
Holds s (Array n) size = Named s n size × ((x y z : ℕ) → by_kind (take n s ++ 40 ∷ []) x y z ≡ z)
Holds s (Number n) size = Written s n
Holds s (Quoted n) size = suc n ≤ size
Holds s (Operator t) size = Unit {0}
Holds s (Function t) size = Unit {0}
Holds s (Statement t) size = Unit {0}
Holds s End size = Unit {0}
Holds s Bad size = Unit {0}

-- the token of an item that stands in a text
abbrev pub token_at : List ℕ → Bool → Item → Token
token_at s first it = token_of it.kind (drop it.at s) first

-- The item is the next one from the place `at` on. Only the text's end is of the class of a line's end.
pub record Sees (s : List ℕ) (at : ℕ) (first : Bool) (it : Item) : Type 0 where
  pub seen : it ≡ item_seen s at first
  pub place : it.at ≡ at + run blank? (drop at s)
  pub classed : class (token_at s first it) ≡ class_of it.kind first
  pub after : at ≤ it.at
  pub spans : it.at ≤ it.end
  pub within : it.end ≤ length s
  pub moves : (class (token_at s first it) ≡ line_end → ⊥) → it.at < it.end
  pub last : class (token_at s first it) ≡ line_end → it.at ≡ length s
  pub holds : Holds (drop it.at s) it.kind (it.end - it.at)
