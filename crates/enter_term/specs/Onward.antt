-- Frames that are still wanted after items that were read for them: what a loop over prefixes, or over terms, keeps.
use Rattle.std.proofs.Common.{arith}
use Rattle.std.specs.Prelude.{ℕ, ◌≤◌, ◌≡◌, refl, Bool, true, false, List, [], ◌∷◌, eqb}
use Rattle.paper.specs.Classes.{number, equals, comparison, plus_minus, factor_sign, or_and}
use Rattle.paper.specs.Tokens.{class}
use Rattle.paper.specs.Items.{Item}
use Rattle.paper.specs.Machine.{take}
use Rattle.paper.specs.Frames.{want_operand, want_more_terms}
use Rattle.paper.specs.Grammar.{Gives, itself, look}
use Rattle.enter_item.specs.Says.{Env, Mem, Answer, Asks, Took, Got, Says}
use Rattle.grammar.specs.Joining.{joins?, more_row}
use Rattle.tokens.specs.Same.{no_bool}
use Rattle.paper.specs.Bytes.{pick}
use Rattle.enter_item.specs.Laws.{says_then, takes}
use Rattle.enter_item.specs.TookLaws.{sign?, sign}
use Rattle.enter_item.specs.Rows.{literal}
use Rattle.enter_item.specs.declared.Spot.{Spot}

-- the frames fs were wanted at q₀, and so much was read that the same frames are wanted at q
pub record Onward (fs : List ℕ) (E : Env) (q₀ : Spot) (m₀ : Mem) (q : Spot) (m : Mem) : Type 0 where
  pub asks : Asks E q m
  pub ahead : q₀.at ≤ q.at
  pub goes : (n : Mem) (r : Answer) → Says fs E q m n r → Says fs E q₀ m₀ n r

pub onward_first : {fs : List ℕ} {E : Env} {q : Spot} {m : Mem} → Asks E q m → Onward fs E q m q m
onward_first a = record { asks = a; ahead = omega arith; goes = λ n r b. b }

-- an item, after which the frame that took it is wanted again
pub onward_takes : {E : Env} {q₀ q q₁ : Spot} {m₀ m m₁ : Mem} {e : Gives} {i : Item} (f c : ℕ) → look f c ≡ take e (f ∷ []) → eqb c number ≡ false → class i.token ≡ c → Onward (f ∷ []) E q₀ m₀ q m
    → Took E false q m e i false q₁ m₁ → Onward (f ∷ []) E q₀ m₀ q₁ m₁
onward_takes f c l z h w t = record {
  asks = t.pass.asks;
  ahead = omega (arith, w.ahead, t.pass.ahead);
  goes = λ n r b. w.goes n r (takes f c (f ∷ []) l z h t b);
}

-- the operators that join terms are signs
pub joins_sign : (c : ℕ) → joins? c ≡ true → sign? c ≡ true
unfolding joins?
joins_sign c h = go (eqb c factor_sign) (eqb c plus_minus) (eqb c comparison) (eqb c equals) (eqb c or_and) refl refl refl refl refl h
  where
    go : (a b d e f : Bool) → eqb c factor_sign ≡ a → eqb c plus_minus ≡ b → eqb c comparison ≡ d → eqb c equals ≡ e → eqb c or_and ≡ f → pick a true (pick b true (pick d true (pick e true (pick f true false)))) ≡ true
        → sign? c ≡ true
    go true b d e f p q r s t z = literal c factor_sign refl p
    go false true d e f p q r s t z = literal c plus_minus refl q
    go false false true e f p q r s t z = literal c comparison refl r
    go false false false true f p q r s t z = literal c equals refl s
    go false false false false true p q r s t z = literal c or_and refl t
    go false false false false false p q r s t z = no_bool z

-- a term and an operator that joins, after which an expression is wanted again
pub onward_joins : {E : Env} {q₀ q q₁ q₂ : Spot} {m₀ m m₁ m₂ : Mem} {i : Item} (c : ℕ) → joins? c ≡ true → class i.token ≡ c → Onward (want_operand ∷ want_more_terms ∷ []) E q₀ m₀ q m
    → Got (want_operand ∷ []) E q m q₁ m₁ → Took E false q₁ m₁ itself i false q₂ m₂ → Onward (want_operand ∷ want_more_terms ∷ []) E q₀ m₀ q₂ m₂
onward_joins c j h w g t = record {
  asks = t.pass.asks;
  ahead = omega (arith, w.ahead, g.ahead, t.pass.ahead);
  goes = λ n r b. w.goes n r (says_then g (takes want_more_terms c (want_operand ∷ want_more_terms ∷ []) (more_row c j) (sign c (joins_sign c j)).range h t b));
}
