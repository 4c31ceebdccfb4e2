-- Names, as the code finds them in a text.
use Prim.Native.Nat.{ℕ, suc, ◌+◌, ◌-◌, ◌≤◌}
use native.Mathlib.Omega.{arith}
use mathlib.Core.Path.{◌≡◌, refl, sym, ap, ◌∙◌}
use mathlib.Core.Bool.{Bool, true, false}
use mathlib.Core.List.{List}
use lib.Dec.{eqb, ltb}
use lib.ListN.{length, take, drop, get_or}
use lib.Seq.{get_or-drop}
use borrow.Author.Tests.{eqb-true}
use Rattle.paper.specs.Bytes.{pick, letter_or_digit?, run}
use Rattle.paper.specs.Words.{Found, found, nowhere, find_word, statements, operators}
use Rattle.tokens.specs.declared.OperatorToken.{OperatorToken}
use Rattle.tokens.specs.declared.FunctionToken.{FunctionToken}
use Rattle.tokens.specs.declared.StatementToken.{StatementToken}
use Rattle.tokens.specs.declared.Reserved.{Reserved}
use Rattle.tokens.specs.declared.Reserved.TheVariants.{Operator as ROperator, Function as RFunction}
use Rattle.std.specs.Prelude.{Option, Some, None}
use Rattle.tokens.specs.Tables.{reserved_found, statement_found}
use Rattle.enter_scan.specs.declared.Kind.{Kind}
use Rattle.enter_scan.specs.declared.Kind.TheVariants.{Operator, Function, Statement}
use Rattle.enter_scan.specs.Kinds.{name_size, variable_kind, statement_kind, reserved_kind, name_kind, name_shape, item_with}
use Rattle.enter_scan.proofs.Sound.{in_text}

-- ---- words

pub reserved_operator : {r : Option Reserved} {t : OperatorToken} (f : Found) (k : Kind) → r ≡ reserved_found f → r ≡ Some (ROperator t) → Operator t ≡ reserved_kind f k
unfolding reserved_found reserved_kind
reserved_operator {r} {t} (found u) k p q = go (ltb u 0x3d) (sym q ∙ p)
  where
    go : (b : Bool) → ◌≡◌ {A = Option Reserved} (Some (ROperator t)) (Some (pick b (ROperator (record { 0 = u })) (RFunction (record { 0 = u })))) → Operator t ≡ pick b (Operator (record { 0 = u })) (Function (record { 0 = u }))
    go true e = let i : t ≡ record { 0 = u } = cc in ap Operator i
    go false e = let z : ◌≡◌ {A = ℕ} 0 1 = cc in absurd (omega arith)
reserved_operator nowhere k p q = let z : ◌≡◌ {A = ℕ} 0 1 = cc in absurd (omega arith)

pub reserved_function : {r : Option Reserved} {t : FunctionToken} (f : Found) (k : Kind) → r ≡ reserved_found f → r ≡ Some (RFunction t) → Function t ≡ reserved_kind f k
unfolding reserved_found reserved_kind
reserved_function {r} {t} (found u) k p q = go (ltb u 0x3d) (sym q ∙ p)
  where
    go : (b : Bool) → ◌≡◌ {A = Option Reserved} (Some (RFunction t)) (Some (pick b (ROperator (record { 0 = u })) (RFunction (record { 0 = u })))) → Function t ≡ pick b (Operator (record { 0 = u })) (Function (record { 0 = u }))
    go true e = let z : ◌≡◌ {A = ℕ} 0 1 = cc in absurd (omega arith)
    go false e = let i : t ≡ record { 0 = u } = cc in ap Function i
reserved_function nowhere k p q = let z : ◌≡◌ {A = ℕ} 0 1 = cc in absurd (omega arith)

pub reserved_other : {r : Option Reserved} (f : Found) (k : Kind) → r ≡ reserved_found f → r ≡ None → k ≡ reserved_kind f k
unfolding reserved_found reserved_kind
reserved_other (found u) k p q = let z : ◌≡◌ {A = ℕ} 0 1 = cc in absurd (omega arith)
reserved_other nowhere k p q = refl

statement_go : {r : Option StatementToken} {t : StatementToken} (f : Found) (k : Kind) → r ≡ statement_found f → r ≡ Some t → Statement t ≡ statement_kind f k
unfolding statement_found statement_kind
statement_go {r} {t} (found u) k p q = let e : ◌≡◌ {A = Option StatementToken} (Some (record { 0 = u })) (Some t) = sym p ∙ q in let i : t ≡ record { 0 = u } = cc in ap Statement i
statement_go nowhere k p q = let z : ◌≡◌ {A = ℕ} 0 1 = cc in absurd (omega arith)

other_go : {r : Option StatementToken} (f : Found) (k : Kind) → r ≡ statement_found f → r ≡ None → k ≡ statement_kind f k
unfolding statement_found statement_kind
other_go (found u) k p q = let z : ◌≡◌ {A = ℕ} 0 1 = cc in absurd (omega arith)
other_go nowhere k p q = refl

pub name_statement : {r : Option StatementToken} {t : StatementToken} {first : Bool} (w : List ℕ) (k : Kind) → first ≡ true → r ≡ statement_found (find_word statements w) → r ≡ Some t → Statement t ≡ name_kind first w k
unfolding name_kind
name_statement {r} {t} {first} w k e p q = statement_go (find_word statements w) (reserved_kind (find_word operators w) k) p q ∙ sym (rw e)

pub name_no_statement : {r : Option StatementToken} {first : Bool} {j : Kind} (w : List ℕ) (k : Kind) → first ≡ true → r ≡ statement_found (find_word statements w) → r ≡ None
    → j ≡ reserved_kind (find_word operators w) k → j ≡ name_kind first w k
unfolding name_kind
name_no_statement {r} {first} {j} w k e p q h = h ∙ other_go (find_word statements w) (reserved_kind (find_word operators w) k) p q ∙ sym (rw e)

pub name_elsewhere : {first : Bool} {j : Kind} (w : List ℕ) (k : Kind) → first ≡ false → j ≡ reserved_kind (find_word operators w) k → j ≡ name_kind first w k
unfolding name_kind
name_elsewhere {first} {j} w k e h = h ∙ sym (rw e)

-- ---- places

pub name_bounds : {letters end : ℕ} (s : List ℕ) (at : ℕ) → letters ≡ at + run letter_or_digit? (drop at s) → letters ≤ length s → end ≡ pick (eqb (get_or s letters 0) 36) (suc letters) letters
    → (at ≤ end) × (end ≤ length s)
name_bounds {letters} {end} s at e h f = go (eqb (get_or s letters 0) 36) refl f
  where
    go : (b : Bool) → eqb (get_or s letters 0) 36 ≡ b → end ≡ pick b (suc letters) letters → (at ≤ end) × (end ≤ length s)
    go true p f = (omega arith, omega (arith, in_text s letters (omega (arith, eqb-true (get_or s letters 0) 36 p))))
    go false p f = (omega arith, omega arith)

-- the name's length and the bytes that decide its kind
module _ (s : List ℕ) (at letters end : ℕ) (e : letters ≡ at + run letter_or_digit? (drop at s)) (f : end ≡ pick (eqb (get_or s letters 0) 36) (suc letters) letters) where
  last_byte : get_or (drop at s) (run letter_or_digit? (drop at s)) 0 ≡ get_or s letters 0
  last_byte = get_or-drop at s (run letter_or_digit? (drop at s)) 0 ∙ ap (λ (i : ℕ). get_or s i 0) (sym e)

  name_end : end ≡ at + name_size (drop at s)
  unfolding name_size
  name_end = f ∙ ap (λ (n : ℕ). pick (eqb (get_or s letters 0) 36) (suc n) n) e ∙ go (eqb (get_or s letters 0) 36) ∙ ap (λ (b : ℕ). at + pick (eqb b 36) (suc n) n) (sym last_byte)
    where
      n : ℕ
      n = run letter_or_digit? (drop at s)

      go : (b : Bool) → pick b (suc (at + n)) (at + n) ≡ at + pick b (suc n) n
      go true = omega arith
      go false = refl

  pub name_code : {k o : Kind} {b₁ b₂ : ℕ} (first : Bool) → b₁ ≡ get_or s letters 0 → b₂ ≡ get_or s end 0 → o ≡ variable_kind b₁ b₂ (end - at) → k ≡ name_kind first (take (end - at) (drop at s)) o
      → record { kind = k; at = at; end = end } ≡ item_with (name_shape first (drop at s)) at
  unfolding item_with name_shape
  name_code {k} {o} {b₁} {b₂} first p q r t =
      let n = name_size (drop at s) in
      let m : end - at ≡ n = omega (arith, name_end) in
      let l : b₁ ≡ get_or (drop at s) (run letter_or_digit? (drop at s)) 0 = p ∙ sym last_byte in
      let x : b₂ ≡ get_or (drop at s) n 0 = q ∙ ap (λ (i : ℕ). get_or s i 0) name_end ∙ sym (get_or-drop at s n 0) in
      let a = variable_kind (get_or (drop at s) (run letter_or_digit? (drop at s)) 0) (get_or (drop at s) n 0) n in
      let u : o ≡ a = r ∙ rw (l, x, m) in
      let v : k ≡ name_kind first (take n (drop at s)) a = t ∙ rw (m, u) in
      ap (λ (i : Kind). record { kind = i; at = at; end = end }) v ∙ ap (λ (j : ℕ). record { kind = name_kind first (take n (drop at s)) a; at = at; end = j }) name_end
