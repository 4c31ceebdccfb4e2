-- Quoted strings and symbols, as the code finds them in a text.
use Prim.Native.Nat.{ℕ, suc, ◌+◌, ◌-◌}
use native.Mathlib.Omega.{arith}
use mathlib.Core.Path.{◌≡◌, refl, sym, ap, ap₂, ◌∙◌}
use mathlib.Core.Bool.{false}
use mathlib.Core.List.{List, [], ◌∷◌}
use lib.ListN.{drop, get_or}
use lib.Seq.{get_or-drop, drop-drop}
use borrow.Author.Tests.{eq-eqb, ne_eqb}
use Rattle.paper.specs.Bytes.{letter?, run}
use Rattle.paper.specs.Words.{Found, found, nowhere, find_word, operators}
use Rattle.paper.specs.Items.{string_byte?}
use Rattle.tokens.specs.declared.OperatorToken.{OperatorToken}
use Rattle.tokens.specs.declared.Symbol.{Symbol}
use Rattle.tokens.specs.declared.Symbol.TheVariants.{Two, One}
use Rattle.std.specs.Prelude.{Option, Some, None}
use Rattle.tokens.specs.Tables.{pair_found, symbol_found}
use Rattle.enter_scan.specs.declared.Kind.TheVariants.{Quoted, Operator, Bad}
use Rattle.enter_scan.specs.Kinds.{Shape, shape, string_ended, string_shape, symbol_kind, symbol_shape, item_with}

-- ---- strings

module _ (s : List ℕ) (at : ℕ) {quote : ℕ} (e : quote ≡ at + 1 + run string_byte? (drop (at + 1) s)) where
  run_of : run string_byte? (drop 1 (drop at s)) ≡ run string_byte? (drop (at + 1) s)
  run_of = ap (run string_byte?) (drop-drop 1 at s)

  quote_byte : get_or (drop at s) (suc (run string_byte? (drop 1 (drop at s)))) 0 ≡ get_or s quote 0
  quote_byte =
      let i : at + suc (run string_byte? (drop 1 (drop at s))) ≡ quote = omega (arith, run_of) in
      get_or-drop at s (suc (run string_byte? (drop 1 (drop at s)))) 0 ∙ ap (λ (k : ℕ). get_or s k 0) i

  ended_by : (b : ℕ) → b ≡ get_or s quote 0 → (x : Shape) → string_ended (quote - (at + 1)) b ≡ x → item_with x at ≡ item_with (string_shape (drop at s)) at
  unfolding string_shape
  ended_by b p x h =
      let k : quote - (at + 1) ≡ run string_byte? (drop 1 (drop at s)) = omega (arith, run_of) in
      ap (λ (y : Shape). item_with y at) (sym h ∙ ap₂ string_ended k (p ∙ sym quote_byte))

  pub string_closed : {b : ℕ} → b ≡ get_or s quote 0 → b ≡ 34 → record { kind = Quoted (quote - (at + 1)); at = at; end = quote + 1 } ≡ item_with (string_shape (drop at s)) at
  unfolding item_with string_ended
  string_closed {b} p q =
      let n = quote - (at + 1) in
      let m : quote + 1 ≡ at + suc (suc n) = omega (arith) in
      ap (λ (j : ℕ). record { kind = Quoted n; at = at; end = j }) m ∙ ended_by b p (shape (Quoted n) (suc (suc n))) (rw (eq-eqb b 34 q))

  pub string_marked : {b : ℕ} → b ≡ get_or s quote 0 → b ≡ 0x9b → record { kind = Bad; at = at; end = quote } ≡ item_with (string_shape (drop at s)) at
  unfolding item_with string_ended
  string_marked {b} p q =
      let n = quote - (at + 1) in
      let m : quote ≡ at + suc n = omega (arith) in
      ap (λ (j : ℕ). record { kind = Bad; at = at; end = j }) m ∙ ended_by b p (shape Bad (suc n)) (rw (ne_eqb b 34 (λ z. omega (arith, z, q)), eq-eqb b 0x9b q))

  pub string_open : {b : ℕ} → b ≡ get_or s quote 0 → (b ≡ 34 → ⊥) → (b ≡ 0x9b → ⊥) → record { kind = Quoted (quote - (at + 1)); at = at; end = quote } ≡ item_with (string_shape (drop at s)) at
  unfolding item_with string_ended
  string_open {b} p q r =
      let n = quote - (at + 1) in
      let m : quote ≡ at + suc n = omega (arith) in
      ap (λ (j : ℕ). record { kind = Quoted n; at = at; end = j }) m ∙ ended_by b p (shape (Quoted n) (suc n)) (rw (ne_eqb b 34 q, ne_eqb b 0x9b r))

-- ---- symbols

no_letter : (b : ℕ) (f : Found) → letter? b ≡ false → pair_found b f ≡ f
unfolding pair_found
no_letter b f e = rw e

module _ {r : Option Symbol} (b c : ℕ) (l : letter? b ≡ false) (e : r ≡ symbol_found (pair_found b (find_word operators (b ∷ c ∷ []))) (find_word operators (b ∷ []))) where
  symbol_is : r ≡ symbol_found (find_word operators (b ∷ c ∷ [])) (find_word operators (b ∷ []))
  symbol_is = e ∙ ap (λ (f : Found). symbol_found f (find_word operators (b ∷ []))) (no_letter b (find_word operators (b ∷ c ∷ [])) l)

  two_go : {t : OperatorToken} (at : ℕ) (f g : Found) → symbol_found f g ≡ Some (Two t) → record { kind = Operator t; at = at; end = at + 2 } ≡ item_with (symbol_kind 2 f (symbol_kind 1 g (shape Bad 1))) at
  unfolding symbol_found symbol_kind item_with
  two_go {t} at (found u) g p = let i : t ≡ record { 0 = u } = cc in ap (λ (x : OperatorToken). record { kind = Operator x; at = at; end = at + 2 }) i
  two_go at nowhere (found u) p = let z : ◌≡◌ {A = ℕ} 0 1 = cc in absurd (omega arith)
  two_go at nowhere nowhere p = let z : ◌≡◌ {A = ℕ} 0 1 = cc in absurd (omega arith)

  pub symbol_two : {t : OperatorToken} (at : ℕ) → r ≡ Some (Two t) → record { kind = Operator t; at = at; end = at + 2 } ≡ item_with (symbol_shape b c) at
  unfolding symbol_shape
  symbol_two at p = two_go at (find_word operators (b ∷ c ∷ [])) (find_word operators (b ∷ [])) (sym symbol_is ∙ p)

  one_go : {t : OperatorToken} (at : ℕ) (f g : Found) → symbol_found f g ≡ Some (One t) → record { kind = Operator t; at = at; end = at + 1 } ≡ item_with (symbol_kind 2 f (symbol_kind 1 g (shape Bad 1))) at
  unfolding symbol_found symbol_kind item_with
  one_go at (found u) g p = let z : ◌≡◌ {A = ℕ} 0 1 = cc in absurd (omega arith)
  one_go {t} at nowhere (found u) p = let i : t ≡ record { 0 = u } = cc in ap (λ (x : OperatorToken). record { kind = Operator x; at = at; end = at + 1 }) i
  one_go at nowhere nowhere p = let z : ◌≡◌ {A = ℕ} 0 1 = cc in absurd (omega arith)

  pub symbol_one : {t : OperatorToken} (at : ℕ) → r ≡ Some (One t) → record { kind = Operator t; at = at; end = at + 1 } ≡ item_with (symbol_shape b c) at
  unfolding symbol_shape
  symbol_one at p = one_go at (find_word operators (b ∷ c ∷ [])) (find_word operators (b ∷ [])) (sym symbol_is ∙ p)

  none_go : (at : ℕ) (f g : Found) → symbol_found f g ≡ None → record { kind = Bad; at = at; end = at + 1 } ≡ item_with (symbol_kind 2 f (symbol_kind 1 g (shape Bad 1))) at
  unfolding symbol_found symbol_kind item_with
  none_go at (found u) g p = let z : ◌≡◌ {A = ℕ} 0 1 = cc in absurd (omega arith)
  none_go at nowhere (found u) p = let z : ◌≡◌ {A = ℕ} 0 1 = cc in absurd (omega arith)
  none_go at nowhere nowhere p = refl

  pub symbol_none : (at : ℕ) → r ≡ None → record { kind = Bad; at = at; end = at + 1 } ≡ item_with (symbol_shape b c) at
  unfolding symbol_shape
  symbol_none at p = none_go at (find_word operators (b ∷ c ∷ [])) (find_word operators (b ∷ [])) (sym symbol_is ∙ p)
