-- Symbols of two bytes and of one.
use Prim.Native.Nat.{ℕ}
use native.Mathlib.Omega.{arith}
use mathlib.Core.Path.{◌≡◌, refl, sym, ap, ◌∙◌}
use mathlib.Core.Bool.{Bool, true, false}
use mathlib.Core.List.{List, [], ◌∷◌}
use lib.Dec.{eqb}
use borrow.Author.Tests.{ne_eqb}
use Rattle.paper.specs.Bytes.{pick, bytes, same, letter?}
use Rattle.paper.specs.Classes.{to_word, comparison, or_and, comma, colon, semicolon, channel_sign, equals, factor_sign, plus_minus, open_sign, close_sign}
use Rattle.paper.specs.Words.{Word, word, Found, found, nowhere, find_word, operators, read_operators, functions}
use Rattle.std.specs.Prelude.{Option, Some, None}
use Rattle.tokens.specs.declared.Symbol.TheVariants.{Two, One}
use Rattle.tokens.specs.Tables.{read_words, token_found, pair_found, symbol_found}
use Rattle.tokens.specs.Same.{no_bool}
use Rattle.tokens.specs.Words.{find_read, find_of_length, of_length}

-- what a pair of bytes is, and a byte
abbrev pub pair_answer : ℕ → ℕ → Option ℕ
pair_answer b c = token_found (pair_found b (find_word operators (b ∷ c ∷ [])))

abbrev pub sign_answer : ℕ → Option ℕ
sign_answer b = token_found (find_word operators (b ∷ []))

other : {b : ℕ} (k : ℕ) → (b ≡ k → ⊥) → eqb k b ≡ false
other {b} k n = ne_eqb k b (λ e. n (sym e))

pub pair_at : {b c : ℕ} (k j : ℕ) → b ≡ k → c ≡ j → pair_answer k j ≡ pair_answer b c
pair_at {b} {c} k j e f = sym (ap (λ (x : ℕ). pair_answer x c) e ∙ ap (pair_answer k) f)

-- the words of two bytes
pairs : List Word
pairs = word 0x19 "TO" to_word ∷ word 0x1d "<=" comparison ∷ word 0x1e "<>" comparison ∷ word 0x1f ">=" comparison ∷ word 0x29 "OR" or_and ∷ []

pairs_all : of_length 2 read_words ≡ pairs
unfolding of_length pairs read_words read_operators functions word bytes
pairs_all = refl

-- a pair is sought among them alone
no_pair_of : (b c : ℕ) → find_word pairs (b ∷ c ∷ []) ≡ nowhere → find_word operators (b ∷ c ∷ []) ≡ nowhere
no_pair_of b c h = find_read (b ∷ c ∷ []) ∙ find_of_length read_words (b ∷ c ∷ []) ∙ ap (λ (ws : List Word). find_word ws (b ∷ c ∷ [])) pairs_all ∙ h

nothing_pair : (b c : ℕ) → find_word operators (b ∷ c ∷ []) ≡ nowhere → None ≡ pair_answer b c
unfolding token_found pair_found
nothing_pair b c h = go (letter? b)
  where
    go : (x : Bool) → None ≡ token_found (pick x nowhere (find_word operators (b ∷ c ∷ [])))
    go true = refl
    go false = sym (ap token_found h)

less_none : (c : ℕ) → eqb 61 c ≡ false → eqb 62 c ≡ false → find_word pairs (60 ∷ c ∷ []) ≡ nowhere
unfolding find_word pairs word bytes same
less_none c m n = rw (m, n)

pub less_alone : {b c : ℕ} → b ≡ 60 → (c ≡ 61 → ⊥) → (c ≡ 62 → ⊥) → None ≡ pair_answer b c
less_alone {b} {c} e m n = nothing_pair 60 c (no_pair_of 60 c (less_none c (other 61 m) (other 62 n))) ∙ pair_at 60 c e refl

greater_none : (c : ℕ) → eqb 61 c ≡ false → find_word pairs (62 ∷ c ∷ []) ≡ nowhere
unfolding find_word pairs word bytes same
greater_none c m = rw m

pub greater_alone : {b c : ℕ} → b ≡ 62 → (c ≡ 61 → ⊥) → None ≡ pair_answer b c
greater_alone {b} {c} e m = nothing_pair 62 c (no_pair_of 62 c (greater_none c (other 61 m))) ∙ pair_at 62 c e refl

other_none : (b c : ℕ) → eqb 84 b ≡ false → eqb 60 b ≡ false → eqb 62 b ≡ false → eqb 79 b ≡ false → find_word pairs (b ∷ c ∷ []) ≡ nowhere
unfolding find_word pairs word bytes same
other_none b c t l g o = rw (t, l, g, o)

-- a byte that is no letter is none of the letters
letter_other : {b : ℕ} (k : ℕ) → letter? k ≡ true → letter? b ≡ false → b ≡ k → ⊥
letter_other {b} k t f e = no_bool (sym f ∙ ap letter? e ∙ t)

pub no_pair : (b c : ℕ) → (b ≡ 60 → ⊥) → (b ≡ 62 → ⊥) → None ≡ pair_answer b c
unfolding token_found pair_found letter?
no_pair b c m n = go (letter? b) refl
  where
    go : (x : Bool) → letter? b ≡ x → None ≡ token_found (pick x nowhere (find_word operators (b ∷ c ∷ [])))
    go true e = refl
    go false e = sym (ap token_found (no_pair_of b c (other_none b c (other 84 (letter_other {b = b} 84 refl e)) (other 60 m) (other 62 n) (other 79 (letter_other {b = b} 79 refl e)))))

pub sign_at : {b : ℕ} (k : ℕ) → b ≡ k → sign_answer k ≡ sign_answer b
sign_at {b} k e = sym (ap sign_answer e)

-- the words of one byte
signs : List Word
signs =
    word 0x12 "," comma ∷ word 0x14 ":" colon ∷ word 0x15 ";" semicolon ∷ word 0x1c "#" channel_sign ∷ word 0x20 "<" comparison ∷ word 0x21 ">" comparison ∷ word 0x22 "=" equals
    ∷ word 0x23 "^" factor_sign ∷ word 0x24 "*" factor_sign ∷ word 0x25 "+" plus_minus ∷ word 0x26 "-" plus_minus ∷ word 0x27 "/" factor_sign ∷ word 0x2b "(" open_sign ∷ word 0x2c ")" close_sign ∷ []

signs_all : of_length 1 read_words ≡ signs
unfolding of_length signs read_words read_operators functions word bytes
signs_all = refl

signs_none : (b : ℕ) → eqb 44 b ≡ false → eqb 58 b ≡ false → eqb 59 b ≡ false → eqb 35 b ≡ false → eqb 60 b ≡ false → eqb 62 b ≡ false → eqb 61 b ≡ false → eqb 94 b ≡ false → eqb 42 b ≡ false → eqb 43 b ≡ false → eqb 45 b ≡ false → eqb 47 b ≡ false → eqb 40 b ≡ false → eqb 41 b ≡ false → find_word signs (b ∷ []) ≡ nowhere
unfolding find_word signs word bytes same
signs_none b n1 n2 n3 n4 n5 n6 n7 n8 n9 n10 n11 n12 n13 n14 = rw (n1, n2, n3, n4, n5, n6, n7, n8, n9, n10, n11, n12, n13, n14)

pub no_sign : {b : ℕ} → (b ≡ 44 → ⊥) → (b ≡ 58 → ⊥) → (b ≡ 59 → ⊥) → (b ≡ 35 → ⊥) → (b ≡ 60 → ⊥) → (b ≡ 62 → ⊥) → (b ≡ 61 → ⊥) → (b ≡ 94 → ⊥) → (b ≡ 42 → ⊥) → (b ≡ 43 → ⊥) → (b ≡ 45 → ⊥) → (b ≡ 47 → ⊥) → (b ≡ 40 → ⊥) → (b ≡ 41 → ⊥) → None ≡ sign_answer b
unfolding token_found
no_sign {b} n1 n2 n3 n4 n5 n6 n7 n8 n9 n10 n11 n12 n13 n14 =
    sym
    (ap token_found
    (find_read (b ∷ []) ∙ find_of_length read_words (b ∷ []) ∙ ap (λ (ws : List Word). find_word ws (b ∷ [])) signs_all
    ∙ signs_none b (other 44 n1) (other 58 n2) (other 59 n3) (other 35 n4) (other 60 n5) (other 62 n6) (other 61 n7) (other 94 n8) (other 42 n9) (other 43 n10) (other 45 n11) (other 47 n12) (other 40 n13) (other 41 n14)))

-- ---- the longest of them

pub symbol_two : {t : ℕ} (f g : Found) → Some t ≡ token_found f → Some (Two (record { 0 = t })) ≡ symbol_found f g
unfolding token_found symbol_found
symbol_two {t} (found u) g p = let i : t ≡ u = cc in ap (λ (x : ℕ). Some (Two (record { 0 = x }))) i
symbol_two nowhere g p = let z : ◌≡◌ {A = ℕ} 0 1 = cc in absurd (omega arith)

pub symbol_one : {t : ℕ} (f g : Found) → None ≡ token_found f → Some t ≡ token_found g → Some (One (record { 0 = t })) ≡ symbol_found f g
unfolding token_found symbol_found
symbol_one (found u) g p q = let z : ◌≡◌ {A = ℕ} 0 1 = cc in absurd (omega arith)
symbol_one {t} nowhere (found u) p q = let i : t ≡ u = cc in ap (λ (x : ℕ). Some (One (record { 0 = x }))) i
symbol_one nowhere nowhere p q = let z : ◌≡◌ {A = ℕ} 0 1 = cc in absurd (omega arith)

pub symbol_none : (f g : Found) → None ≡ token_found f → None ≡ token_found g → None ≡ symbol_found f g
unfolding token_found symbol_found
symbol_none (found u) g p q = let z : ◌≡◌ {A = ℕ} 0 1 = cc in absurd (omega arith)
symbol_none nowhere (found u) p q = let z : ◌≡◌ {A = ℕ} 0 1 = cc in absurd (omega arith)
symbol_none nowhere nowhere p q = refl
