-- Walking names one by one: where the one with a number begins.
use Prim.Native.Nat.{ℕ, zero, suc, ◌+◌, ◌<◌}
use native.Mathlib.Omega.{arith}
use mathlib.Core.Path.{◌≡◌, refl, ap, ◌∙◌}
use mathlib.Core.List.{List, [], ◌∷◌}
use lib.ListN.{length, take, length-append}
use lib.Seq.{take-nil}
use Rattle.paper.specs.Bytes.{joined}

-- the bytes of the first names that are left, of which `k` are to be passed
module _ {all : ℕ} (from k : ℕ) {left : List (List ℕ)} (on : all ≡ from + length (joined (take k left))) where
  pub start_more : (n : List ℕ) (ns : List (List ℕ)) (next : ℕ) → left ≡ n ∷ ns → next + 1 ≡ k → all ≡ from + length n + length (joined (take next ns))
  unfolding joined
  start_more n ns next l e =
      let z : k ≡ suc next = omega arith in
      let one : length (joined (take k left)) ≡ length n + length (joined (take next ns)) =
      ap (λ (j : ℕ). length (joined (take j left))) z ∙ ap (λ (ms : List (List ℕ)). length (joined (take (suc next) ms))) l ∙ length-append n (joined (take next ns)) in
      omega arith

  pub start_end : (0 < k → left ≡ []) → from ≡ all
  unfolding joined
  start_end h = let none = go k refl in omega arith
    where
      go : (j : ℕ) → k ≡ j → length (joined (take k left)) ≡ 0
      go zero e = ap (λ (j : ℕ). length (joined (take j left))) e
      go (suc j) e = ap (λ (ms : List (List ℕ)). length (joined (take k ms))) (h (omega arith)) ∙ ap (λ (ms : List (List ℕ)). length (joined ms)) (take-nil k)
