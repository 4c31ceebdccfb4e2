-- A number's text as it was found, and the six bytes that it is.
use Rattle.std.specs.Prelude.{ℕ, suc, ◌+◌, ◌-◌, ◌*◌, ◌/◌, ◌%◌, ◌≤◌, ◌≡◌, Bool, true, false, Option, Some, None, List, [], ◌∷◌, ◌++◌, eqb, length, take, drop, get_or}
use Rattle.paper.specs.Bytes.{pick, digit?, every}
use Rattle.paper.specs.Tokens.{Token, constant, out_of_range}
use Rattle.paper.specs.Constants.{value, in_range, six, constant_of}
use Rattle.constant_bytes.specs.declared.Numeral.{Numeral}

-- the digits before the point, and those after it
unfoldable pub digits_in : List ℕ → Numeral → List ℕ
digits_in s n = take n.whole s ++ take n.fraction (drop (suc n.whole) s)

-- the power of ten that the digits, as one whole number, are multiplied by
unfoldable pub up : Numeral → ℕ
up n = pick n.down 0 n.power

-- and that which they are divided by
unfoldable pub down : Numeral → ℕ
down n = pick n.down (n.fraction + n.power) n.fraction

-- The text holds the numeral: as many bytes are there, and all are digits.
pub record Written (s : List ℕ) (n : Numeral) : Type 0 where
  pub whole_there : n.whole ≤ length s
  pub fraction_there : n.fraction ≤ length s - suc n.whole
  pub all_digits : every digit? (digits_in s n) ≡ true

-- these bytes if they are in range
unfoldable pub six_if : Bool → List ℕ → Option (List ℕ)
six_if true b = Some b
six_if false b = None

-- the six bytes of a value, v * 10 ^ u / 10 ^ d
unfoldable pub six_of : ℕ → ℕ → ℕ → Option (List ℕ)
six_of v u d = six_if (in_range v u d) (six v u d)

-- the six bytes of a numeral in a text
unfoldable pub numeral_six : List ℕ → Numeral → Option (List ℕ)
numeral_six s n = six_of (value 0 (digits_in s n)) (up n) (down n)

-- six bytes as a token
unfoldable pub token_of_six : Option (List ℕ) → Token
token_of_six (Some b) = constant b
token_of_six None = out_of_range

-- the token of a numeral in a text
unfoldable pub numeral_token : List ℕ → Numeral → Token
numeral_token s n =
    let v = value 0 (digits_in s n) in
    pick n.down (constant_of v 0 (n.fraction + n.power)) (constant_of v n.power n.fraction)

-- ---- the same by digits: what the helpers say

-- the digit at a place, 0 past the end
unfoldable pub digit_at : List ℕ → ℕ → ℕ
digit_at ds i = get_or ds i 48 - 48

-- two digits from a place on, as one byte
unfoldable pub pair_at : List ℕ → ℕ → ℕ
pair_at ds i = digit_at ds i * 16 + digit_at ds (i + 1)

-- a digit that adds nothing
unfoldable pub nought? : ℕ → Bool
nought? b = eqb (b - 48) 0

-- the bytes of a constant: a power byte, a first pair, and eight digits from a place on
abbrev pub bytes_with : ℕ → ℕ → List ℕ → ℕ → List ℕ
bytes_with p t ds i = p ∷ t ∷ pair_at ds i ∷ pair_at ds (i + 2) ∷ pair_at ds (i + 4) ∷ pair_at ds (i + 6) ∷ []

-- The bytes of a constant by its digits: the first that is not zero stands at place z, and x is its power of ten and 98. An even power is the
-- lower digit of the first pair.
unfoldable pub six_from : List ℕ → ℕ → ℕ → List ℕ
six_from ds z x = pick (eqb (x % 2) 0) (bytes_with (x / 2 + 15) (digit_at ds z) ds (z + 1)) (bytes_with (x / 2 + 15) (pair_at ds z) ds (z + 2))
