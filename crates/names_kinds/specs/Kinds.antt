-- The kind of a name: all that the test of a line asks of it. A list of the kinds of all names answers for the table.
use Rattle.std.specs.Prelude.{ℕ, zero, suc, ◌+◌, ◌%◌, ◌≤◌, ◌<◌, ◌≡◌, refl, Bool, true, false, List, [], ◌∷◌, ◌++◌, ltb, leb, length, drop, get_or, replicate}
use Rattle.std.proofs.Common.{arith, ap, ◌∙◌, leb→le, get_or-drop, ltb-true, ltb-false}
use Rattle.std.proofs.lemmas.List.{length-replicate}
use Rattle.std.proofs.Math.ListN.{get_or-eq_default}
use Rattle.std.proofs.lemmas.List.Edits.{sets, sets-eq}
use Rattle.paper.specs.Bytes.{pick}
use Rattle.paper.specs.Classes.{numeric_variable, string_variable, array}
use Rattle.paper.specs.Words.{statement_word?}
use Rattle.paper.specs.Tokens.{variable, class}
use Rattle.paper.specs.Names.{less_open}
use Rattle.laws.specs.Classes.{at_kind}

-- the class of a variable with this name, and 8 more where the name less its `(` is a statement word
unfoldable pub kind_of : List ℕ → ℕ
kind_of n = class (variable n) + pick (statement_word? (less_open n)) 8 0

-- the kinds of some names, in their order
unfoldable pub kinds_of : List (List ℕ) → List ℕ
kinds_of [] = []
kinds_of (n ∷ ns) = kind_of n ∷ kinds_of ns

-- the kind of the name with a number, 0 where there is none
unfoldable pub kind_at : List (List ℕ) → ℕ → ℕ
kind_at ns i = get_or (kinds_of ns) i 0

-- a list has the kinds of these names, and none for other numbers
abbrev pub Kinds : List (List ℕ) → List ℕ → Type 0
Kinds ns ks = (i : ℕ) → get_or ks i 0 ≡ kind_at ns i

-- ---- the kind of a name

pub class_bounds : (n : List ℕ) → (5 ≤ class (variable n)) × (class (variable n) ≤ 7)
unfolding class
class_bounds n = (
  leb→le 5 (class (variable n)) (at_kind (λ c. leb 5 c) n numeric_variable string_variable array tt tt tt),
  leb→le (class (variable n)) 7 (at_kind (λ c. leb c 7) n numeric_variable string_variable array tt tt tt),
)

kinds_at : (ns : List (List ℕ)) (i : ℕ) → i < length ns → kind_at ns i ≡ kind_of (get_or ns i [])
unfolding kind_at kinds_of
kinds_at [] i h = absurd (omega arith)
kinds_at (n ∷ ns) zero h = refl
kinds_at (n ∷ ns) (suc i) h = kinds_at ns i (omega arith)

length_kinds : (ns : List (List ℕ)) → length (kinds_of ns) ≡ length ns
unfolding kinds_of
length_kinds [] = refl
length_kinds (n ∷ ns) = ap suc (length_kinds ns)

no_kind : (ns : List (List ℕ)) (i : ℕ) → length ns ≤ i → kind_at ns i ≡ 0
unfolding kind_at
no_kind ns i h = get_or-eq_default (kinds_of ns) 0 (omega (arith, length_kinds ns))

-- a number is that of a name where it has a kind
pub kind_there : (ns : List (List ℕ)) (i : ℕ) → (kind_at ns i ≡ 0 → ⊥) → i < length ns
kind_there ns i n = go (ltb i (length ns)) refl
  where
    go : (b : Bool) → ltb i (length ns) ≡ b → i < length ns
    go true e = ltb-true i (length ns) e
    go false e = absurd (n (no_kind ns i (ltb-false i (length ns) e)))

module _ (ns : List (List ℕ)) (i : ℕ) (h : i < length ns) where
  word_part : (b : Bool) → pick b 8 0 ≤ 8
  word_part true = omega arith
  word_part false = omega arith

  word_whole : (b : Bool) → pick b 8 0 % 8 ≡ 0
  word_whole true = refl
  word_whole false = refl

  kind_parts : kind_at ns i ≡ class (variable (get_or ns i [])) + pick (statement_word? (less_open (get_or ns i []))) 8 0
  unfolding kind_of
  kind_parts = kinds_at ns i h

  -- its class
  pub kind_class : kind_at ns i % 8 ≡ class (variable (get_or ns i []))
  kind_class = go (statement_word? (less_open (get_or ns i []))) refl
    where
      go : (b : Bool) → statement_word? (less_open (get_or ns i [])) ≡ b → kind_at ns i % 8 ≡ class (variable (get_or ns i []))
      go true e = let z : kind_at ns i ≡ class (variable (get_or ns i [])) + 8 = kind_parts ∙ ap (λ (b : Bool). class (variable (get_or ns i [])) + pick b 8 0) e in omega (arith, class_bounds (get_or ns i []))
      go false e = let z : kind_at ns i ≡ class (variable (get_or ns i [])) + 0 = kind_parts ∙ ap (λ (b : Bool). class (variable (get_or ns i [])) + pick b 8 0) e in omega (arith, class_bounds (get_or ns i []))

  -- it is one
  pub kind_some : kind_at ns i % 8 ≡ 0 → ⊥
  kind_some e = omega (arith, kind_class, class_bounds (get_or ns i []))

  -- and whether the name is a statement word
  pub kind_word : (b : Bool) → statement_word? (less_open (get_or ns i [])) ≡ b → kind_at ns i ≡ class (variable (get_or ns i [])) + pick b 8 0
  kind_word b e = kind_parts ∙ ap (λ (b : Bool). class (variable (get_or ns i [])) + pick b 8 0) e

  pub a_word : 8 ≤ kind_at ns i → statement_word? (less_open (get_or ns i [])) ≡ true
  a_word k = go (statement_word? (less_open (get_or ns i []))) refl
    where
      go : (b : Bool) → statement_word? (less_open (get_or ns i [])) ≡ b → statement_word? (less_open (get_or ns i [])) ≡ true
      go true e = e
      go false e = absurd (omega (arith, kind_word false e, class_bounds (get_or ns i [])))

  pub no_word : kind_at ns i < 8 → statement_word? (less_open (get_or ns i [])) ≡ false
  no_word k = go (statement_word? (less_open (get_or ns i []))) refl
    where
      go : (b : Bool) → statement_word? (less_open (get_or ns i [])) ≡ b → statement_word? (less_open (get_or ns i [])) ≡ false
      go true e = absurd (omega (arith, kind_word true e, class_bounds (get_or ns i [])))
      go false e = e

-- ---- the list

zeros : (n i : ℕ) → get_or {A = ℕ} (replicate n 0) i 0 ≡ 0
zeros zero i = refl
zeros (suc n) zero = refl
zeros (suc n) (suc i) = zeros n i

before_zeros : (xs : List ℕ) (n k i : ℕ) → get_or (xs ++ drop k (replicate n 0)) i 0 ≡ get_or xs i 0
before_zeros [] n k i = get_or-drop k (replicate n 0) i 0 ∙ zeros n (k + i)
before_zeros (x ∷ xs) n k zero = refl
before_zeros (x ∷ xs) n k (suc i) = before_zeros xs n k i

-- the kinds written over zeros, of which there are enough
pub kinds_listed : (ns : List (List ℕ)) (n : ℕ) {ks : List ℕ} → length ns ≤ n → ks ≡ sets (replicate n 0) 0 (kinds_of ns) → Kinds ns ks
unfolding kind_at
kinds_listed ns n {ks} h e i =
    let fits : 0 + length (kinds_of ns) ≤ length (replicate {A = ℕ} n 0) = omega (arith, length_kinds ns, length-replicate {A = ℕ} n 0) in
    ap (λ (l : List ℕ). get_or l i 0) (e ∙ sets-eq (kinds_of ns) (replicate n 0) 0 fits) ∙ before_zeros (kinds_of ns) n (0 + length (kinds_of ns)) i
