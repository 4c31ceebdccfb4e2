-- A line written again over other names (document 02, §12): that the bytes never grow.
use Rattle.std.specs.Prelude.{ℕ, ◌+◌, ◌-◌, ◌≤◌, ◌≡◌, Bool, ◌||◌, ltb}
use native.Mathlib.Omega.{arith}
use Rattle.std.proofs.Math.Path.{refl, subst}
use Rattle.std.proofs.Math.Bool.{true, false}
use mathlib.Core.List.{List, [], ◌∷◌, ◌++◌}
use Rattle.std.proofs.Math.Dec.{T}
use Rattle.std.proofs.Math.ListN.{length}
use Rattle.std.proofs.Common.{length-append, ltb-false, ltb-true}
use Rattle.paper.specs.Bytes.{pick, same, every}
use Rattle.paper.specs.Tokens.{Token, statement, assigned, operator, variable, constant, string, raw, out_of_range, unreadable}
use Rattle.paper.specs.Names.{number_of}
use Rattle.paper.specs.Line.{number_bytes, variable_bytes, own_bytes, begins?, token_bytes, line_bytes, line_number, line_tokens}
use Rattle.paper.specs.Errors.{error_line?}
use Rattle.paper.specs.Collect.{some, uses?, line_uses?, renumbered}
use Rattle.laws.specs.Tests.{and_left, and_right, and_both, as_T}
use Rattle.laws.specs.Names.{same_self, name_passes}
use Rattle.laws.specs.Renumbered.{names_used, lower_shorter}

-- a token and those after it
parts_shorter : (b : Bool) (own old : List ℕ) (f g : ℕ → List ℕ) → length own ≤ length old → ((i j : ℕ) → length (f i) ≤ length (g j))
    → (a c i j k m : ℕ) → length (pick b (a ∷ own ++ f i) (own ++ f j)) ≤ length (pick b (c ∷ old ++ g k) (old ++ g m))
parts_shorter true own old f g h more a c i j k m = omega (arith, length-append own (f i), length-append old (g k), more i k)
parts_shorter false own old f g h more a c i j k m = omega (arith, length-append own (f j), length-append old (g m), more j m)

-- tokens whose names pass a test, over names where those that pass have no greater number
module _ (p : List ℕ → Bool) (ns new : List (List ℕ)) (lower : (n : List ℕ) → T (p n) → number_of new n ≤ number_of ns n) where
  -- a token's bytes are no more
  own_shorter : (t : Token) → T (name_passes p t) → length (own_bytes new t) ≤ length (own_bytes ns t)
  unfolding own_bytes variable_bytes name_passes
  own_shorter (statement k) h = omega arith
  own_shorter (assigned n) h = omega (arith, lower_shorter (number_of new n) (number_of ns n) (lower n h))
  own_shorter (operator k) h = omega arith
  own_shorter (variable n) h = lower_shorter (number_of new n) (number_of ns n) (lower n h)
  own_shorter (constant b) h = omega arith
  own_shorter (string b) h = omega arith
  own_shorter (raw b) h = omega arith
  own_shorter out_of_range h = omega arith
  own_shorter unreadable h = omega arith

  -- nor have all of them more, wherever they stand
  bytes_shorter : (ts : List Token) → T (every (name_passes p) ts) → (i j : ℕ) → length (token_bytes new i ts) ≤ length (token_bytes ns j ts)
  unfolding token_bytes every
  bytes_shorter [] h i j = omega arith
  bytes_shorter (t ∷ ts) h i j =
      parts_shorter (begins? t) (own_bytes new t) (own_bytes ns t) (λ k. token_bytes new k ts) (λ k. token_bytes ns k ts) (own_shorter t (and_left (name_passes p t) (every (name_passes p) ts) h))
      (λ k m. bytes_shorter ts (and_right (name_passes p t) (every (name_passes p) ts) h) k m) _ _ _ _ _ _

  -- nor has their line
  line_shorter : (k : ℕ) (ts : List Token) → T (every (name_passes p) ts) → length (line_bytes new k ts) ≤ length (line_bytes ns k ts)
  unfolding line_bytes
  line_shorter k ts h = omega (arith, bytes_shorter ts h 3 3)

  -- A line that is the bytes of its own tokens, or an error line, is no longer when it is written again: what is written stays behind what is read.
  pub again_shorter : (l : List ℕ) → (error_line? l ≡ false → line_bytes ns (line_number l) (line_tokens ns l) ≡ l) → ((n : List ℕ) → T (line_uses? ns n l) → T (p n)) → length (renumbered ns new l) ≤ length l
  unfolding renumbered line_uses?
  again_shorter l is h = go (error_line? l) refl
    where
      go : (b : Bool) → error_line? l ≡ b → length (pick b l (line_bytes new (line_number l) (line_tokens ns l))) ≤ length l
      go true e = omega arith
      go false e =
          let used : T (every (name_passes p) (line_tokens ns l)) = names_used p (line_tokens ns l) (λ n u. h n (rw e u)) in
          subst (λ (z : List ℕ). length (line_bytes new (line_number l) (line_tokens ns l)) ≤ length z) (is e) (line_shorter (line_number l) (line_tokens ns l) used)
