-- A line written again over other names (document 02, §12): who uses which name, and that a lower number has no longer token.
use Rattle.std.specs.Prelude.{ℕ, ◌+◌, ◌-◌, ◌≤◌, ◌≡◌, Bool, ◌||◌, ltb}
use native.Mathlib.Omega.{arith}
use Rattle.std.proofs.Math.Path.{refl, subst}
use Rattle.std.proofs.Math.Bool.{true, false}
use mathlib.Core.List.{List, [], ◌∷◌, ◌++◌}
use Rattle.std.proofs.Math.Dec.{T}
use Rattle.std.proofs.Math.ListN.{length}
use Rattle.std.proofs.Common.{length-append, ltb-false, ltb-true}
use Rattle.paper.specs.Bytes.{pick, same, every}
use Rattle.paper.specs.Tokens.{Token, statement, assigned, operator, variable, constant, string, raw, out_of_range, unreadable}
use Rattle.paper.specs.Names.{number_of}
use Rattle.paper.specs.Line.{number_bytes, variable_bytes, own_bytes, begins?, token_bytes, line_bytes, line_number, line_tokens}
use Rattle.paper.specs.Errors.{error_line?}
use Rattle.paper.specs.Collect.{some, uses?, line_uses?, renumbered}
use Rattle.laws.specs.Tests.{and_left, and_right, and_both, as_T}
use Rattle.laws.specs.Names.{same_self, name_passes}

-- ---- which names are used

-- what every name that tokens use passes, their names pass
name_used : (q : List ℕ → Bool) (t : Token) → ((n : List ℕ) → T (uses? n t) → T (q n)) → T (name_passes q t)
unfolding uses? name_passes
name_used q (statement k) h = tt
name_used q (assigned n) h = h n (as_T (same n n) (same_self n))
name_used q (operator k) h = tt
name_used q (variable n) h = h n (as_T (same n n) (same_self n))
name_used q (constant b) h = tt
name_used q (string b) h = tt
name_used q (raw b) h = tt
name_used q out_of_range h = tt
name_used q unreadable h = tt

pub names_used : (q : List ℕ → Bool) (ts : List Token) → ((n : List ℕ) → T (some (uses? n) ts) → T (q n)) → T (every (name_passes q) ts)
unfolding some every
names_used q [] h = tt
names_used q (t ∷ ts) h =
    and_both (name_passes q t) (every (name_passes q) ts) (name_used q t (λ n u. h n (or_left (uses? n t) (some (uses? n) ts) u))) (names_used q ts (λ n u. h n (or_right (uses? n t) (some (uses? n) ts) u)))
  where
    or_left : (a b : Bool) → T a → T (a || b)
    or_left true b u = tt
    or_left false b u = absurd u

    or_right : (a b : Bool) → T b → T (a || b)
    or_right true b u = tt
    or_right false b u = u

-- ---- nothing grows

-- the token of a lower number is no longer
pub lower_shorter : (i j : ℕ) → i ≤ j → length (number_bytes i) ≤ length (number_bytes j)
unfolding number_bytes
lower_shorter i j h = go (ltb i 128) (ltb j 128) refl refl
  where
    go : (a b : Bool) → ltb i 128 ≡ a → ltb j 128 ≡ b → length (pick a ((0x80 + i) ∷ []) (0 ∷ (i - 128) ∷ [])) ≤ length (pick b ((0x80 + j) ∷ []) (0 ∷ (j - 128) ∷ []))
    go true true e f = omega arith
    go true false e f = omega arith
    go false true e f = absurd (omega (arith, ltb-false i 128 e, ltb-true j 128 f))
    go false false e f = omega arith
