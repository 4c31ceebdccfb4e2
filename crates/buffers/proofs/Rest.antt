-- The run that begins at a place, counted in what is left from there on.
use Prim.Native.Nat.{ℕ, ◌+◌, ◌-◌, ◌≤◌, min}
use native.Mathlib.Omega.{arith}
use mathlib.Core.Path.{◌≡◌, refl, sym, ap, ◌∙◌}
use mathlib.Core.Bool.{Bool, true, false}
use mathlib.Core.List.{List}
use lib.Dec.{ltb}
use lib.ListN.{length, take, drop, length-drop, drop_of_length-le}
use lib.Seq.{take_all}
use borrow.Author.Tests.{ltb-true, ltb-false}
use Rattle.std.specs.List.{take_while}
use Rattle.paper.specs.Bytes.{run}
use Rattle.buffers.specs.Runs.{run_taken, run_within}

-- what is left from a place on, or nothing past the end
rest_is : (s : List ℕ) (from m : ℕ) → m ≡ min from (length s) → take (length s - m) (drop m s) ≡ drop from s
rest_is s from m e = take_all (length s - m) (drop m s) (omega (arith, length-drop m s)) ∙ go (ltb (length s) from) refl
  where
    go : (b : Bool) → ltb (length s) from ≡ b → drop m s ≡ drop from s
    go true t =
        let h = ltb-true (length s) from t in
        let k : length s ≤ m = omega arith in
        let l : length s ≤ from = omega arith in
        drop_of_length-le s k ∙ sym (drop_of_length-le s l)
    go false t = let h = ltb-false (length s) from t in let i : m ≡ from = omega arith in ap (λ (n : ℕ). drop n s) i

pub run_from : {m r : ℕ} (q : ℕ → Bool) (s : List ℕ) (from : ℕ) → m ≡ min from (length s) → r ≡ length (take_while q (take (length s - m) (drop m s)))
    → (from + r ≡ from + run q (drop from s)) × (from ≤ length s → from + r ≤ length s)
run_from {m} {r} q s from e f =
    let k : r ≡ run q (drop from s) = f ∙ run_taken q (take (length s - m) (drop m s)) ∙ ap (run q) (rest_is s from m e) in
    (omega arith, λ h. omega (arith, k, run_within q (drop from s), length-drop from s))
