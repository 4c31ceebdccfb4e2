-- The end of a field, by the place of the first mark.
use Rattle.std.proofs.Common.{ℕ, suc, ◌+◌, ◌-◌, ◌≤◌, ◌<◌, ◌≡◌, refl, ap, sym, ◌∙◌, arith, Bool, true, false, not, cond, List, [], ◌∷◌, Option, Some, None, eqb, ltb, length, take, drop, length-drop, ltb-true, ltb-false}
use Rattle.std.proofs.lemmas.List.{take_all}
use Rattle.std.proofs.lemmas.List.Sums.{prefix_len-le-length}
use Rattle.std.specs.Option.{unwrap_or}
use Rattle.std.specs.List.{position_or_len}
use Rattle.paper.specs.Bytes.{pick, run}
use Rattle.console.specs.Fields.{unmarked}

-- a run up to the mark ends at the first mark
run_marked : (mark : ℕ) (s : List ℕ) → run (unmarked mark) s ≡ position_or_len (λ b. eqb b mark) s
unfolding run unmarked
run_marked mark [] = refl
run_marked mark (x ∷ xs) = go (eqb x mark) (run_marked mark xs)
  where
    go : (b : Bool) → run (unmarked mark) xs ≡ position_or_len (λ b. eqb b mark) xs → pick (not b) (suc (run (unmarked mark) xs)) 0 ≡ cond (not b) (1 + position_or_len (λ b. eqb b mark) xs) 0
    go true e = refl
    go false e = omega (arith, e)

-- what is looked through is the rest of the line
rest : (line : List ℕ) (at : ℕ) → at ≤ length line → take (length line - at) (drop at line) ≡ drop at line
rest line at h = take_all (length line - at) (drop at line) (omega (arith, length-drop at line))

-- the place of the first mark in a text, where there is one
abbrev pub first : ℕ → List ℕ → Option ℕ
first mark s = let p = position_or_len (λ b. eqb b mark) s in cond (ltb p (length s)) (Some p) None

first_is : (mark n : ℕ) (s : List ℕ) → first mark s ≡ Some n → (run (unmarked mark) s ≡ n) × (n ≤ length s)
first_is mark n s = go (ltb (position_or_len (λ b. eqb b mark) s) (length s)) refl
  where
    go : (b : Bool) → ltb (position_or_len (λ b. eqb b mark) s) (length s) ≡ b → cond b (Some (position_or_len (λ b. eqb b mark) s)) None ≡ Some n → (run (unmarked mark) s ≡ n) × (n ≤ length s)
    go true e f =
        let same : position_or_len (λ b. eqb b mark) s ≡ n = ap (λ (o : Option ℕ). unwrap_or o 0) f in
        (run_marked mark s ∙ same, omega (arith, same, ltb-true _ _ e))
    go false e f = let none : suc n ≡ n = ap (λ (o : Option ℕ). unwrap_or o (suc n)) f in absurd (omega (arith, none))

no_first : (mark : ℕ) (s : List ℕ) → first mark s ≡ None → run (unmarked mark) s ≡ length s
no_first mark s = go (ltb (position_or_len (λ b. eqb b mark) s) (length s)) refl
  where
    go : (b : Bool) → ltb (position_or_len (λ b. eqb b mark) s) (length s) ≡ b → cond b (Some (position_or_len (λ b. eqb b mark) s)) None ≡ None → run (unmarked mark) s ≡ length s
    go true e f =
        let p = position_or_len (λ b. eqb b mark) s in
        let some : p ≡ suc p = ap (λ (o : Option ℕ). unwrap_or o (suc p)) f in absurd (omega (arith, some))
    go false e f = omega (arith, run_marked mark s, ltb-false _ _ e, prefix_len-le-length (λ b. not (eqb b mark)) s)

module _ (mark at : ℕ) (line : List ℕ) (within : at ≤ length line) (r : Option ℕ) (is : r ≡ first mark (take (length line - at) (drop at line))) where
  looked : r ≡ first mark (drop at line)
  looked = is ∙ ap (first mark) (rest line at within)

  -- the field ends at the first mark
  pub found : (n : ℕ) → r ≡ Some n → (at + n ≡ at + run (unmarked mark) (drop at line)) × (at ≤ at + n) × (at + n ≤ length line)
  found n e =
      let so = first_is mark n (drop at line) (sym looked ∙ e) in
      (omega (arith, so.0), omega arith, omega (arith, so.1, length-drop at line))

  -- or at the line's end
  pub none_found : r ≡ None → (length line ≡ at + run (unmarked mark) (drop at line)) × (at ≤ length line) × (length line ≤ length line)
  none_found e = (omega (arith, no_first mark (drop at line) (sym looked ∙ e), length-drop at line, within), within, omega arith)
