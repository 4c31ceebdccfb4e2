-- A variable's token (document 02, §11): what is asked of it, whichever of its two forms it has. Nothing else tells the forms apart.
use Rattle.std.specs.Prelude.{ℕ, suc, ◌+◌, ◌-◌, ◌≤◌, ◌<◌, ◌≡◌, refl, Bool, true, false, ◌||◌, List, [], ◌∷◌, ◌++◌, eqb, leb, ltb, length, drop, get_or}
use Rattle.std.proofs.Common.{arith, sym, ap, ◌∙◌, eqb-true, ne_eqb, le-leb, leb-true, lt-ltb, le-ltb, ltb-false}
use Rattle.paper.specs.Bytes.{pick}
use Rattle.paper.specs.Line.{number_bytes, variable_byte?, variable_size, variable_number}

-- A byte and others. At the front of any bytes the token is told by that byte, it is as long as its own bytes say, and it has the number that it
-- was made of.
pub record VariableToken (i : ℕ) (v : List ℕ) : Type 0 where
  pub first : ℕ
  pub others : List ℕ
  pub is : v ≡ first ∷ others
  pub begins : variable_byte? first ≡ true
  pub size : (z : List ℕ) → variable_size (first ∷ others ++ z) ≡ suc (length others)
  pub number : (z : List ℕ) → variable_number (first ∷ others ++ z) ≡ i
  pub few : length others ≤ 1

-- what is written for a number is such a token
pub variable_token : (i : ℕ) → VariableToken i (number_bytes i)
unfolding number_bytes variable_byte? variable_size variable_number
variable_token i = go (ltb i 128) refl
  where
    go : (b : Bool) → ltb i 128 ≡ b → VariableToken i (pick b ((0x80 + i) ∷ []) (0 ∷ (i - 128) ∷ []))
    go true e =
        let n : eqb (0x80 + i) 0 ≡ false = ne_eqb (0x80 + i) 0 (λ h. omega arith) in
        record {
          first = 0x80 + i;
          others = [];
          is = refl;
          begins = rw (le-leb 0x80 (0x80 + i) (omega arith));
          size = (λ z. rw n);
          number = (λ z. rw n (omega arith));
          few = omega arith;
        }
    go false e =
        let h : 128 ≤ i = ltb-false i 128 e in
        record { first = 0; others = (i - 128) ∷ []; is = refl; begins = refl; size = (λ z. refl); number = (λ z. omega arith); few = omega arith }

-- it has one byte or two
pub number_some : (i : ℕ) → (1 ≤ length (number_bytes i)) × (length (number_bytes i) ≤ 2)
number_some i = let t = variable_token i in (omega (arith, ap length t.is), omega (arith, ap length t.is, t.few))

or_none : (a : Bool) → a || false ≡ true → a ≡ true
or_none true e = refl
or_none false e = e

-- A token that is read has the form that is written for its number, if it begins with a byte.
pub byte_form : (s : List ℕ) → get_or s 0 0 < 256 → length (number_bytes (variable_number s)) ≡ variable_size s
unfolding number_bytes variable_size variable_number
byte_form s h = go (eqb (get_or s 0 0) 0) refl
  where
    go : (x : Bool) → eqb (get_or s 0 0) 0 ≡ x → length (number_bytes (pick x (128 + get_or s 1 0) (get_or s 0 0 - 0x80))) ≡ pick x 2 1
    go true e = rw (le-ltb (128 + get_or s 1 0) 128 (omega arith))
    go false e = rw (lt-ltb (get_or s 0 0 - 0x80) 128 (omega arith))

-- Where it has that form and stands there whole, it is what is written for its number.
pub token_again : (s : List ℕ) → variable_byte? (get_or s 0 0) ≡ true → length (number_bytes (variable_number s)) ≡ variable_size s → variable_size s ≤ length s
    → number_bytes (variable_number s) ++ drop (variable_size s) s ≡ s
unfolding number_bytes variable_byte? variable_size variable_number
token_again [] t f l = absurd (omega arith)
token_again (b ∷ s) t f l = go (eqb b 0) refl s f l
  where
    long : (c : ℕ) → number_bytes (128 + c) ≡ 0 ∷ c ∷ []
    long c = let z : 128 + c - 128 ≡ c = omega arith in rw (le-ltb (128 + c) 128 (omega arith)) (ap (λ (y : ℕ). 0 ∷ y ∷ []) z)

    short : (i : ℕ) (x : Bool) → ltb i 128 ≡ x → length (pick x ((0x80 + i) ∷ []) (0 ∷ (i - 128) ∷ [])) ≡ 1 → pick x ((0x80 + i) ∷ []) (0 ∷ (i - 128) ∷ []) ≡ (0x80 + i) ∷ []
    short i true e h = refl
    short i false e h = absurd (omega arith)

    go : (x : Bool) → eqb b 0 ≡ x → (s : List ℕ) → length (number_bytes (pick x (128 + get_or s 0 0) (b - 0x80))) ≡ pick x 2 1 → pick x 2 1 ≤ suc (length s)
        → number_bytes (pick x (128 + get_or s 0 0) (b - 0x80)) ++ drop (pick x 2 1) (b ∷ s) ≡ b ∷ s
    go true e [] f l = absurd (omega arith)
    go true e (c ∷ s) f l = let o : b ≡ 0 = eqb-true b 0 e in rw (long c) (ap (λ (y : ℕ). y ∷ c ∷ s) (sym o))
    go false e s f l =
        let m : 0x80 ≤ b = leb-true 0x80 b (or_none (leb 0x80 b) (rw e at t)) in
        let z : 0x80 + (b - 0x80) ≡ b = omega arith in
        ap (λ (y : List ℕ). y ++ s) (short (b - 0x80) (ltb (b - 0x80) 128) refl f) ∙ ap (λ (y : ℕ). y ∷ s) z
