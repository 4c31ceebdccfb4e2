-- A variable's token, as it is read.
use Rattle.std.specs.Prelude.{ℕ, List, eqb, get_or, Option, Some, None}
use Rattle.paper.specs.Bytes.{pick}
use Rattle.paper.specs.Line.{variable_byte?, variable_size, variable_number}
use Rattle.list_pieces.specs.declared.VariableToken.{VariableToken}

-- the variable's token at the front of some bytes: the variable's number, and how many bytes the token is; no bytes where no such token stands
unfoldable pub variable_at : List ℕ → VariableToken
variable_at s = record { number = variable_number s; size = pick (variable_byte? (get_or s 0 0)) (variable_size s) 0 }

-- a variable's token, if one stands there
abbrev pub told : VariableToken → Option VariableToken
told v = pick (eqb v.size 0) None (Some v)
