-- The bytes of tokens by what they are (document 02, §13): the five kinds add up to all.
use Rattle.std.specs.Prelude.{ℕ, suc, ◌+◌, ◌≡◌, Bool, true, false, length}
use native.Mathlib.Omega.{arith}
use Rattle.std.proofs.Math.Path.{refl}
use mathlib.Core.List.{List, [], ◌∷◌, ◌++◌}
use Rattle.std.proofs.Common.{length-append}
use Rattle.paper.specs.Bytes.{pick}
use Rattle.paper.specs.Tokens.{Token, statement, assigned, operator, variable, constant, string, raw, out_of_range, unreadable}
use Rattle.paper.specs.Line.{own_bytes, begins?, to_next, token_bytes}
use Rattle.paper.specs.Weigh.{share, shares, in_else, sum}
use Rattle.laws.specs.Shares.{in_variables, in_numbers, in_strings, in_raw, all_in}

module _ (ns : List (List ℕ)) where
  one_more : (b : Bool) (p : ℕ) (own : List ℕ) (next : ℕ) (more : ℕ → List ℕ) (n : ℕ) → ((q : ℕ) → length (more q) ≡ n)
      → length (pick b ((suc p + length own + next) ∷ own ++ more (suc p + length own)) (own ++ more (p + length own))) ≡ pick b 1 0 + length own + n
  one_more true p own next more n e = omega (arith, length-append own (more (suc p + length own)), e (suc p + length own))
  one_more false p own next more n e = omega (arith, length-append own (more (p + length own)), e (p + length own))

  -- those of tokens are all of their bytes
  pub all_tokens_in : (ts : List Token) (p : ℕ) → length (token_bytes ns p ts) ≡ in_variables ns ts + in_numbers ns ts + in_strings ns ts + in_raw ns ts + sum in_else ts
  unfolding token_bytes sum
  all_tokens_in [] p = refl
  all_tokens_in (t ∷ ts) p =
      omega (arith, one_more (begins? t) p (own_bytes ns t) (to_next ns ts) (λ q. token_bytes ns q ts) (in_variables ns ts + in_numbers ns ts + in_strings ns ts + in_raw ns ts + sum in_else ts) (λ q. all_tokens_in ts q), all_in ns t)
