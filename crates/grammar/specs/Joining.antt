-- The operators that join terms, and what the grammar says of them where more terms may follow.
use Rattle.std.specs.Prelude.{ℕ, zero, suc, ◌+◌, ◌-◌, ◌<◌, ◌≤◌, ◌≡◌, refl, Bool, true, false, [], ◌∷◌, eqb}
use Rattle.std.proofs.Common.{sym, ap, ◌∙◌, ne_eqb, arith}
use mathlib.Core.Logic.{◌⊎◌, inl, inr}
use Rattle.paper.specs.Bytes.{pick}
use Rattle.paper.specs.Classes.{equals, comparison, plus_minus, factor_sign, or_and}
use Rattle.paper.specs.Frames.{want_operand, want_more_terms}
use Rattle.paper.specs.Machine.{take, leave, row, at_row}
use Rattle.paper.specs.Grammar.{itself, look}
use Rattle.paper.specs.Open.{all_Bytes, all_Machine, all_Grammar}
use Rattle.tokens.specs.Same.{no_bool}

-- an operator that joins terms
unfoldable pub joins? : ℕ → Bool
joins? c = pick (eqb c factor_sign) true (pick (eqb c plus_minus) true (pick (eqb c comparison) true (pick (eqb c equals) true (pick (eqb c or_and) true false))))

-- the classes of those: from `equals` on four, and `or_and`
joins_next : (k : ℕ) → k < 4 → true ≡ joins? (equals + k)
unfolding joins?
joins_next zero h = refl
joins_next (suc zero) h = refl
joins_next (suc (suc zero)) h = refl
joins_next (suc (suc (suc zero))) h = refl
joins_next (suc (suc (suc (suc k)))) h = absurd (omega arith)

pub joins_between : (c : ℕ) → equals ≤ c → c ≤ factor_sign → true ≡ joins? c
joins_between c l h = let e : equals + (c - equals) ≡ c = omega arith in joins_next (c - equals) (omega arith) ∙ ap joins? e

pub joins_or_and : (c : ℕ) → c ≡ or_and → true ≡ joins? c
unfolding joins?
joins_or_and c e = sym (ap joins? e)

pub joins_none : (c : ℕ) → (c < equals) ⊎ (factor_sign < c) → (c ≡ or_and → ⊥) → false ≡ joins? c
unfolding joins?
joins_none c (inl h) k = rw (ne_eqb c factor_sign (λ e. omega arith), ne_eqb c plus_minus (λ e. omega arith), ne_eqb c comparison (λ e. omega arith), ne_eqb c equals (λ e. omega arith), ne_eqb c or_and k)
joins_none c (inr h) k = rw (ne_eqb c factor_sign (λ e. omega arith), ne_eqb c plus_minus (λ e. omega arith), ne_eqb c comparison (λ e. omega arith), ne_eqb c equals (λ e. omega arith), ne_eqb c or_and k)

-- it is taken, and an operand and more terms are wanted
pub more_row : (c : ℕ) → joins? c ≡ true → look want_more_terms c ≡ take itself (want_operand ∷ want_more_terms ∷ [])
unfolding all_Bytes all_Machine all_Grammar joins?
more_row c h = go (eqb c factor_sign) (eqb c plus_minus) (eqb c comparison) (eqb c equals) (eqb c or_and) h
  where
    go : (a b d e f : Bool) → pick a true (pick b true (pick d true (pick e true (pick f true false)))) ≡ true → at_row a (row want_more_terms factor_sign itself (want_operand ∷ want_more_terms ∷ [])) (at_row b (row want_more_terms plus_minus itself (want_operand ∷ want_more_terms ∷ [])) (at_row d (row want_more_terms comparison itself (want_operand ∷ want_more_terms ∷ [])) (at_row e (row want_more_terms equals itself (want_operand ∷ want_more_terms ∷ [])) (at_row f (row want_more_terms or_and itself (want_operand ∷ want_more_terms ∷ [])) (leave))))) ≡ take itself (want_operand ∷ want_more_terms ∷ [])
    go true b d e f z = refl
    go false true d e f z = refl
    go false false true e f z = refl
    go false false false true f z = refl
    go false false false false true z = refl
    go false false false false false z = no_bool z

-- any other item is left
pub more_else : (c : ℕ) → joins? c ≡ false → look want_more_terms c ≡ leave
unfolding all_Bytes all_Machine all_Grammar joins?
more_else c h = go (eqb c factor_sign) (eqb c plus_minus) (eqb c comparison) (eqb c equals) (eqb c or_and) h
  where
    go : (a b d e f : Bool) → pick a true (pick b true (pick d true (pick e true (pick f true false)))) ≡ false → at_row a (row want_more_terms factor_sign itself (want_operand ∷ want_more_terms ∷ [])) (at_row b (row want_more_terms plus_minus itself (want_operand ∷ want_more_terms ∷ [])) (at_row d (row want_more_terms comparison itself (want_operand ∷ want_more_terms ∷ [])) (at_row e (row want_more_terms equals itself (want_operand ∷ want_more_terms ∷ [])) (at_row f (row want_more_terms or_and itself (want_operand ∷ want_more_terms ∷ [])) (leave))))) ≡ leave
    go true b d e f z = no_bool (sym z)
    go false true d e f z = no_bool (sym z)
    go false false true e f z = no_bool (sym z)
    go false false false true f z = no_bool (sym z)
    go false false false false true z = no_bool (sym z)
    go false false false false false z = refl
