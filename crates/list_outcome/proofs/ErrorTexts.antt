-- The listing of an error line: how long its front is at most, and what is written after it.
use Prim.Native.Nat.{ℕ, zero, suc, ◌+◌, ◌/◌, ◌%◌, ◌≤◌}
use native.Mathlib.Omega.{arith}
use native.Mathlib.Nat.{zero-add}
use mathlib.Core.Path.{refl, subst, sym}
use mathlib.Core.Bool.{Bool, true, false}
use mathlib.Core.List.{List, [], ◌∷◌, ◌++◌}
use lib.Dec.{ltb}
use lib.ListN.{length, length-append}
use Rattle.paper.specs.Bytes.{blank, pick, bytes}
use Rattle.paper.specs.Line.{line_number}
use Rattle.paper.specs.Listing.{decimal}
use Rattle.paper.specs.Errors.{error_text}
use Rattle.list_text.specs.Texts.{Writes}
use Rattle.list_text.specs.InTurn.{writes_then}
use Rattle.list_head.specs.Heads.{head_for}
use Rattle.list_outcome.specs.Outcomes.{error_listing}

decimal_short : (k n : ℕ) → length (decimal k n) ≤ k
unfolding decimal
decimal_short zero n = omega arith
decimal_short (suc k) n = go (ltb n 10) (decimal_short k (n / 10))
  where
    go : (b : Bool) → length (decimal k (n / 10)) ≤ k → length (pick b ((48 + n) ∷ []) (decimal k (n / 10) ++ (48 + n % 10) ∷ [])) ≤ suc k
    go true h = omega arith
    go false h = omega (arith, length-append (decimal k (n / 10)) ((48 + n % 10) ∷ []))

-- five digits and a blank at most
pub head_short : (direct : Bool) (n : ℕ) → length (head_for direct n) ≤ 6
head_short true n = omega arith
head_short false n = omega (arith, length-append (decimal 5 n) (blank ∷ []), decimal_short 5 n)

-- what stands at the front of an error line's listing, and then the rest
pub error_in_turn : (direct : Bool) (l : List ℕ) {r s : ℕ} {old mid new : List ℕ} → Writes (head_for direct (line_number l)) 0 old r mid → Writes (bytes "ERROR- " ++ error_text l) r mid s new → Writes (error_listing direct l) 0 old (r + s) new
error_in_turn direct l {r} {s} {old} {mid} {new} w v = writes_then w (subst (λ (k : ℕ). Writes (bytes "ERROR- " ++ error_text l) k mid s new) (sym (zero-add r)) v) refl
