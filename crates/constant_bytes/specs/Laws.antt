-- A law for callers: a numeral's six bytes are its token.
use Rattle.std.specs.Prelude.{ℕ, ◌+◌, ◌≡◌, refl, Bool, true, false, List}
use Rattle.std.proofs.Common.{◌∙◌}
use Rattle.paper.specs.Bytes.{pick}
use Rattle.paper.specs.Tokens.{constant, out_of_range}
use Rattle.paper.specs.Constants.{value, in_range, six, constant_of}
use Rattle.constant_bytes.specs.declared.Numeral.{Numeral}
use Rattle.constant_bytes.specs.Numerals.{digits_in, up, down, six_if, six_of, numeral_six, token_of_six, numeral_token}

token_if : (b : Bool) (l : List ℕ) → token_of_six (six_if b l) ≡ pick b (constant l) out_of_range
unfolding token_of_six six_if
token_if true l = refl
token_if false l = refl

token_of_value : (v u d : ℕ) → token_of_six (six_of v u d) ≡ constant_of v u d
unfolding six_of constant_of
token_of_value v u d = token_if (in_range v u d) (six v u d)

by_sign : (v f p : ℕ) (b : Bool) → constant_of v (pick b 0 p) (pick b (f + p) f) ≡ pick b (constant_of v 0 (f + p)) (constant_of v p f)
by_sign v f p true = refl
by_sign v f p false = refl

-- the six bytes of a numeral are its token
pub six_token : (s : List ℕ) (n : Numeral) → token_of_six (numeral_six s n) ≡ numeral_token s n
unfolding numeral_six numeral_token up down
six_token s n = token_of_value (value 0 (digits_in s n)) (up n) (down n) ∙ by_sign (value 0 (digits_in s n)) n.fraction n.power n.down
