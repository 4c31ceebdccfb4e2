-- What is known of the shape at the front of a text: it fits, it has a length, its class, and what it holds.
use Rattle.std.specs.Prelude.{ℕ, zero, suc, ◌+◌, ◌-◌, ◌≤◌, ◌<◌, ◌≡◌, Bool, true, false, not, ◌&&◌, ◌||◌, T, eqb, leb, ltb, drop, get_or}
use Rattle.std.proofs.Common.{arith, sym, ◌∙◌, subst, length-drop, ltb-true, ltb-false, eqb-true, eq-eqb, ne_eqb, lt-ltb, leb-true}
use Rattle.std.proofs.Math.Path.{refl, ap}
use mathlib.Core.List.{List, [], ◌∷◌, ◌++◌}
use Rattle.std.proofs.Math.ListN.{length, take, get_or-eq_default}
use Rattle.std.proofs.Math.Seq.{take-suc}
use Rattle.paper.specs.Bytes.{pick, bytes, digit?, letter?, letter_or_digit?, run, every}
use Rattle.paper.specs.Classes.{line_end, number, numeric_variable, string_variable, array, first_numeric, first_string, first_array}
use Rattle.paper.specs.Words.{word, Found, found, nowhere, found?, find_word, word_of, statements, operators, read_operators, functions, placed_operators}
use Rattle.paper.specs.Tokens.{constant, out_of_range, by_kind, operator_class, class}
use Rattle.paper.specs.Constants.{value, in_range, six, constant_of}
use Rattle.paper.specs.Items.{sign_size, power_size, variable_at, string_byte?}
use Rattle.laws.specs.Tests.{is_true}
use Rattle.laws.specs.Names.{every_append}
use Rattle.buffers.specs.Runs.{run_on, run_within}
use Rattle.tokens.specs.Same.{no_bool}
use Rattle.tokens.specs.Words.{found_spelling, found_token}
use Rattle.constant_bytes.specs.declared.Numeral.{Numeral}
use Rattle.constant_bytes.specs.Numerals.{digits_in, numeral_token}
use Rattle.enter_scan.specs.declared.Exponent.{Exponent}
use Rattle.enter_scan.specs.declared.Kind.{Kind}
use Rattle.enter_scan.specs.declared.Kind.TheVariants.{Numeric, Text, Array, Quoted, Operator, Function, Statement, Bad}
use Rattle.enter_scan.specs.Token.{token_of}
use Rattle.enter_scan.specs.Kinds.{Shape, shape, name_size, variable_kind, statement_kind, reserved_kind, name_kind, name_shape, fraction_size, digits_size, no_power, power_at, number_with, number_shape, string_ended, string_shape, symbol_kind, symbol_shape, shape_at, class_of}
use Rattle.enter_scan.specs.Sees.{low?, Holds}

-- the shape x is right at the front of the text s
pub record Sound (first : Bool) (s : List ℕ) (x : Shape) : Type 0 where
  pub fits : x.size ≤ length s
  pub some : 0 < length s → 0 < x.size
  pub classed : class (token_of x.kind s first) ≡ class_of x.kind first
  pub inner : 0 < length s → class_of x.kind first ≡ line_end → ⊥
  pub holds : Holds s x.kind x.size

-- ---- bytes and runs

-- a byte that is not 0 is there
pub in_text : (s : List ℕ) (i : ℕ) → 0 < get_or s i 0 → i < length s
in_text s i h = go (ltb i (length s)) refl
  where
    go : (b : Bool) → ltb i (length s) ≡ b → i < length s
    go true e = ltb-true i (length s) e
    go false e = absurd (omega (arith, get_or-eq_default s 0 (ltb-false i (length s) e)))

every_go : (q : ℕ → Bool) (x : ℕ) (s : List ℕ) (b : Bool) → q x ≡ b → every q (take (run q s) s) ≡ true → every q (take (pick b (suc (run q s)) 0) (x ∷ s)) ≡ true
unfolding every
every_go q x s true e ih = rw (e, ih)
every_go q x s false e ih = refl

-- a run passes its test
pub every_run : (q : ℕ → Bool) (s : List ℕ) → every q (take (run q s) s) ≡ true
unfolding run every
every_run q [] = refl
every_run q (x ∷ s) = every_go q x s (q x) refl (every_run q s)

every_more : (q r : ℕ → Bool) → ((x : ℕ) → q x ≡ true → r x ≡ true) → (xs : List ℕ) → every q xs ≡ true → every r xs ≡ true
unfolding every
every_more q r f [] e = refl
every_more q r f (x ∷ xs) e = go (q x) refl (every q xs) e (λ h. every_more q r f xs h)
  where
    go : (u : Bool) → q x ≡ u → (v : Bool) → (u && v) ≡ true → (v ≡ true → every r xs ≡ true) → (r x && every r xs) ≡ true
    go true p v e g = rw (f x p, g e)
    go false p v e g = no_bool e

-- ---- kinds of variables

letter_or_digit_low : (b : ℕ) → letter_or_digit? b ≡ true → b < 128
unfolding letter_or_digit? letter? digit?
letter_or_digit_low b h = go (leb b 57) (leb b 90) (leb 48 b) (leb 65 b) refl refl h
  where
    go : (v x u w : Bool) → leb b 57 ≡ v → leb b 90 ≡ x → ((u && v) || (w && x)) ≡ true → b < 128
    go true x u w p q e = omega (arith, leb-true b 57 p)
    go false true u w p q e = omega (arith, leb-true b 90 q)
    go false false true true p q e = no_bool e
    go false false true false p q e = no_bool e
    go false false false true p q e = no_bool e
    go false false false false p q e = no_bool e

low_byte : (b : ℕ) → letter_or_digit? b ≡ true → low? b ≡ true
unfolding low?
low_byte b h = lt-ltb b 128 (letter_or_digit_low b h)

not_this : (b k : ℕ) → letter_or_digit? k ≡ false → letter_or_digit? b ≡ true → eqb b k ≡ false
not_this b k f t = ne_eqb b k (λ e. no_bool (sym f ∙ ap letter_or_digit? (sym e) ∙ t))

-- a name of letters and digits is a number's
plain_kind : (xs : List ℕ) → every letter_or_digit? xs ≡ true → (x y z : ℕ) → by_kind xs x y z ≡ x
unfolding by_kind every letter_or_digit? letter? digit?
plain_kind [] e x y z = refl
plain_kind (a ∷ []) e x y z = go (letter_or_digit? a) refl e
  where
    go : (u : Bool) → letter_or_digit? a ≡ u → (u && true) ≡ true → pick (eqb a 36) y (pick (eqb a 40) z x) ≡ x
    go true p e = rw (not_this a 36 refl p, not_this a 40 refl p)
    go false p e = no_bool e
plain_kind (a ∷ b ∷ xs) e x y z = plain_kind (b ∷ xs) (go (letter_or_digit? a) e) x y z
  where
    go : (u : Bool) → (u && every letter_or_digit? (b ∷ xs)) ≡ true → every letter_or_digit? (b ∷ xs) ≡ true
    go true e = e
    go false e = no_bool e

-- by its last byte
last_kind : (xs : List ℕ) (b x y z : ℕ) → by_kind (xs ++ b ∷ []) x y z ≡ pick (eqb b 36) y (pick (eqb b 40) z x)
unfolding by_kind
last_kind [] b x y z = refl
last_kind (a ∷ []) b x y z = refl
last_kind (a ∷ c ∷ xs) b x y z = last_kind (c ∷ xs) b x y z

variable_class : (first : Bool) (w : List ℕ) → class (variable_at first w) ≡ pick first (by_kind w first_numeric first_string first_array) (by_kind w numeric_variable string_variable array)
unfolding variable_at class
variable_class true w = refl
variable_class false w = refl

kind_class : (first : Bool) (w : List ℕ) (a b : ℕ) → by_kind w first_numeric first_string first_array ≡ a → by_kind w numeric_variable string_variable array ≡ b
    → class (variable_at first w) ≡ pick first a b
kind_class first w a b e f = variable_class first w ∙ rw (e, f)

first_class : (first : Bool) (a b : ℕ) → 0 < a → 0 < b → pick first a b ≡ 0 → ⊥
first_class true a b h k e = omega arith
first_class false a b h k e = omega arith

-- ---- names

-- a word is never a line's end
statement_words_inner : T (every (λ w. not (eqb (word_of statements w.token).class line_end)) statements)
unfolding every word_of statements word
statement_words_inner = tt

operator_words_inner : T (every (λ w. not (eqb (operator_class w.token) line_end)) operators)
unfolding every operator_class word_of operators read_operators functions placed_operators word
operator_words_inner = tt

not_zero : (n : ℕ) → T (not (eqb n 0)) → n ≡ 0 → ⊥
not_zero n t e = subst (λ (x : ℕ). T (not (eqb x 0))) e t

-- a kind that holds no bytes
pub record Bare (k : Kind) : Type 0 where
  pub classed : (s : List ℕ) (first : Bool) → class (token_of k s first) ≡ class_of k first
  pub inner : (first : Bool) → class_of k first ≡ line_end → ⊥
  pub holds : (s : List ℕ) (n : ℕ) → Holds s k n

bare_operator : (t : ℕ) → (operator_class t ≡ line_end → ⊥) → Bare (Operator (record { 0 = t }))
unfolding token_of class class_of
bare_operator t n = record { classed = λ s first. refl; inner = λ first. n; holds = λ s k. tt }

bare_function : (t : ℕ) → (operator_class t ≡ line_end → ⊥) → Bare (Function (record { 0 = t }))
unfolding token_of class class_of
bare_function t n = record { classed = λ s first. refl; inner = λ first. n; holds = λ s k. tt }

bare_statement : (t : ℕ) → ((word_of statements t).class ≡ line_end → ⊥) → Bare (Statement (record { 0 = t }))
unfolding token_of class class_of
bare_statement t n = record { classed = λ s first. refl; inner = λ first. n; holds = λ s k. tt }

bare_bad : Bare Bad
unfolding token_of class class_of
bare_bad = record { classed = λ s first. refl; inner = λ first e. omega arith; holds = λ s k. tt }

operator_inner : (w : List ℕ) (t : ℕ) → find_word operators w ≡ found t → operator_class t ≡ line_end → ⊥
operator_inner w t e = not_zero (operator_class t) (found_token operators w (λ x. not (eqb (operator_class x) line_end)) operator_words_inner t e)

statement_inner : (w : List ℕ) (t : ℕ) → find_word statements w ≡ found t → (word_of statements t).class ≡ line_end → ⊥
statement_inner w t e = not_zero (word_of statements t).class (found_token statements w (λ x. not (eqb (word_of statements x).class line_end)) statement_words_inner t e)

bare_sound : {k : Kind} (first : Bool) (s : List ℕ) (n : ℕ) → n ≤ length s → 0 < n → Bare k → Sound first s (shape k n)
bare_sound first s n h p b = record { fits = h; some = λ z. p; classed = b.classed s first; inner = λ z. b.inner first; holds = b.holds s n }

reserved_sound : (first : Bool) (s w : List ℕ) (n : ℕ) (k : Kind) (f : Found) → find_word operators w ≡ f → n ≤ length s → 0 < n → Sound first s (shape k n) → Sound first s (shape (reserved_kind f k) n)
unfolding reserved_kind
reserved_sound first s w n k (found t) e h p v = go (ltb t 0x3d)
  where
    go : (b : Bool) → Sound first s (shape (pick b (Operator (record { 0 = t })) (Function (record { 0 = t }))) n)
    go true = bare_sound first s n h p (bare_operator t (operator_inner w t e))
    go false = bare_sound first s n h p (bare_function t (operator_inner w t e))
reserved_sound first s w n k nowhere e h p v = v

statement_sound : (first : Bool) (s w : List ℕ) (n : ℕ) (k : Kind) (f : Found) → find_word statements w ≡ f → n ≤ length s → 0 < n → Sound first s (shape k n) → Sound first s (shape (statement_kind f k) n)
unfolding statement_kind
statement_sound first s w n k (found t) e h p v = bare_sound first s n h p (bare_statement t (statement_inner w t e))
statement_sound first s w n k nowhere e h p v = v

name_kind_sound : (first b : Bool) (s w : List ℕ) (n : ℕ) (k : Kind) → n ≤ length s → 0 < n → Sound b s (shape k n) → Sound b s (shape (name_kind first w k) n)
unfolding name_kind
name_kind_sound true b s w n k h p v =
    statement_sound b s w n (reserved_kind (find_word operators w) k) (find_word statements w) refl h p (reserved_sound b s w n k (find_word operators w) refl h p v)
name_kind_sound false b s w n k h p v = reserved_sound b s w n k (find_word operators w) refl h p v

-- n letters and digits, and then perhaps `$`, or a `(` after them
module _ (first : Bool) (s : List ℕ) where
  letters : ℕ
  letters = run letter_or_digit? s

  low_letters : every low? (take letters s) ≡ true
  unfolding letters
  low_letters = every_more letter_or_digit? low? low_byte (take (run letter_or_digit? s) s) (every_run letter_or_digit? s)

  text_sound : 0 < letters → get_or s letters 0 ≡ 36 → Sound first s (shape (Text (suc letters)) (suc letters))
  unfolding token_of class_of every low?
  text_sound p e =
      let h : letters < length s = in_text s letters (omega arith) in
      let w : take (suc letters) s ≡ take letters s ++ 36 ∷ [] = take-suc s letters 0 h ∙ ap (λ (x : ℕ). take letters s ++ x ∷ []) e in
      let k : (x y z : ℕ) → by_kind (take (suc letters) s) x y z ≡ y = λ x y z. ap (λ (l : List ℕ). by_kind l x y z) w ∙ last_kind (take letters s) 36 x y z in
      record {
        fits = h;
        some = λ z. omega arith;
        classed = kind_class first (take (suc letters) s) first_string string_variable (k first_numeric first_string first_array) (k numeric_variable string_variable array);
        inner = λ z. first_class first first_string string_variable (omega arith) (omega arith);
        holds = (record { whole = refl; some = omega arith; low = ap (every low?) w ∙ every_append low? (take letters s) (36 ∷ []) low_letters refl }, k);
      }

  array_sound : 0 < letters → Sound first s (shape (Array letters) letters)
  unfolding token_of class_of letters
  array_sound p =
      let k : (x y z : ℕ) → by_kind (take letters s ++ 40 ∷ []) x y z ≡ z = λ x y z. last_kind (take letters s) 40 x y z in
      record {
        fits = run_within letter_or_digit? s;
        some = λ z. p;
        classed = kind_class first (take letters s ++ 40 ∷ []) first_array array (k first_numeric first_string first_array) (k numeric_variable string_variable array);
        inner = λ z. first_class first first_array array (omega arith) (omega arith);
        holds = (record { whole = refl; some = p; low = low_letters }, k);
      }

  numeric_sound : 0 < letters → Sound first s (shape (Numeric letters) letters)
  unfolding token_of class_of letters
  numeric_sound p =
      let k : (x y z : ℕ) → by_kind (take letters s) x y z ≡ x = plain_kind (take letters s) (every_run letter_or_digit? s) in
      record {
        fits = run_within letter_or_digit? s;
        some = λ z. p;
        classed = kind_class first (take letters s) first_numeric numeric_variable (k first_numeric first_string first_array) (k numeric_variable string_variable array);
        inner = λ z. first_class first first_numeric numeric_variable (omega arith) (omega arith);
        holds = (record { whole = refl; some = p; low = low_letters }, k);
      }

  variable_sound : 0 < letters → (d o : Bool) → eqb (get_or s letters 0) 36 ≡ d
      → Sound first s (shape (pick d (Text (pick d (suc letters) letters)) (pick o (Array (pick d (suc letters) letters)) (Numeric (pick d (suc letters) letters)))) (pick d (suc letters) letters))
  variable_sound p true o e = text_sound p (eqb-true (get_or s letters 0) 36 e)
  variable_sound p false true e = array_sound p
  variable_sound p false false e = numeric_sound p

  pub name_sound : 0 < run letter_or_digit? s → Sound first s (name_shape first s)
  unfolding name_shape name_size variable_kind letters
  name_sound p =
      let m = pick (eqb (get_or s letters 0) 36) (suc letters) letters in
      let v = variable_sound p (eqb (get_or s letters 0) 36) (eqb (get_or s m 0) 40) refl in
      name_kind_sound first first s (take m s) m _ v.fits (v.some (omega (arith, run_within letter_or_digit? s))) v

-- ---- numbers

sign_there : (t : List ℕ) → sign_size (get_or t 0 0) ≤ length t
unfolding sign_size
sign_there t = go (eqb (get_or t 0 0) 43) (eqb (get_or t 0 0) 45) refl refl
  where
    go : (u v : Bool) → eqb (get_or t 0 0) 43 ≡ u → eqb (get_or t 0 0) 45 ≡ v → pick (u || v) 1 0 ≤ length t
    go true v p q = in_text t 0 (omega (arith, eqb-true (get_or t 0 0) 43 p))
    go false true p q = in_text t 0 (omega (arith, eqb-true (get_or t 0 0) 45 q))
    go false false p q = omega arith

digit_there : (t : List ℕ) (i : ℕ) → digit? (get_or t i 0) ≡ true → i < length t
unfolding digit?
digit_there t i e = go (leb 48 (get_or t i 0)) refl e
  where
    go : (u : Bool) → leb 48 (get_or t i 0) ≡ u → (u && leb (get_or t i 0) 57) ≡ true → i < length t
    go true p e = in_text t i (omega (arith, leb-true 48 (get_or t i 0) p))
    go false p e = no_bool e

pub power_there : (t : List ℕ) → power_size t ≤ length t
unfolding power_size
power_there t = go (digit? (get_or t 0 0)) (digit? (get_or t 1 0)) refl refl
  where
    go : (u v : Bool) → digit? (get_or t 0 0) ≡ u → digit? (get_or t 1 0) ≡ v → pick u (pick v 2 1) 0 ≤ length t
    go true true p q = digit_there t 1 q
    go true false p q = digit_there t 0 p
    go false v p q = omega arith

-- an exponent is in the text
pub power_fits : (s : List ℕ) (n : ℕ) → n ≤ length s → n + (power_at s n).size ≤ length s
unfolding power_at
power_fits s n h = go (eqb (get_or s n 0) 69) (ltb 0 (power_size (drop (sign_size (get_or (drop (suc n) s) 0 0)) (drop (suc n) s)))) refl
  where
    t : List ℕ
    t = drop (suc n) s

    g : ℕ
    g = sign_size (get_or t 0 0)

    x : Exponent
    x = record { size = suc g + power_size (drop g t); down = eqb (get_or t 0 0) 45; power = value 0 (take (power_size (drop g t)) (drop g t)) }

    go : (u v : Bool) → eqb (get_or s n 0) 69 ≡ u → n + (pick (u && v) x no_power).size ≤ length s
    go true true p =
        let i : n < length s = in_text s n (omega (arith, eqb-true (get_or s n 0) 69 p)) in
        omega (arith, sign_there t, power_there (drop g t), length-drop g t, length-drop (suc n) s)
    go true false p = omega arith
    go false v p = omega arith

pub digits_fit : (s : List ℕ) (a : ℕ) → a ≤ length s → digits_size s a ≤ length s
unfolding digits_size
digits_fit s a h = go (eqb (get_or s a 0) 46) refl
  where
    go : (u : Bool) → eqb (get_or s a 0) 46 ≡ u → pick u (suc a + run digit? (drop (suc a) s)) a ≤ length s
    go true p =
        let i : a < length s = in_text s a (omega (arith, eqb-true (get_or s a 0) 46 p)) in
        omega (arith, run_within digit? (drop (suc a) s), length-drop (suc a) s)
    go false p = h

fraction_there : (s : List ℕ) (a : ℕ) → fraction_size s a ≤ length s - suc a
unfolding fraction_size
fraction_there s a = go (eqb (get_or s a 0) 46)
  where
    go : (u : Bool) → pick u (run digit? (drop (suc a) s)) 0 ≤ length s - suc a
    go true = omega (arith, run_within digit? (drop (suc a) s), length-drop (suc a) s)
    go false = omega arith

fraction_digits : (s : List ℕ) (a : ℕ) → every digit? (take (fraction_size s a) (drop (suc a) s)) ≡ true
unfolding fraction_size every
fraction_digits s a = go (eqb (get_or s a 0) 46)
  where
    go : (u : Bool) → every digit? (take (pick u (run digit? (drop (suc a) s)) 0) (drop (suc a) s)) ≡ true
    go true = every_run digit? (drop (suc a) s)
    go false = refl

constant_class : (b : Bool) (l : List ℕ) → class (pick b (constant l) out_of_range) ≡ number
unfolding class
constant_class true l = refl
constant_class false l = refl

numeral_class : (s : List ℕ) (n : Numeral) → class (numeral_token s n) ≡ number
unfolding numeral_token constant_of
numeral_class s n = go n.down
  where
    v : ℕ
    v = value 0 (digits_in s n)

    go : (b : Bool) → class (pick b (constant_of v 0 (n.fraction + n.power)) (constant_of v n.power n.fraction)) ≡ number
    go true = constant_class (in_range v 0 (n.fraction + n.power)) (six v 0 (n.fraction + n.power))
    go false = constant_class (in_range v n.power n.fraction) (six v n.power n.fraction)

-- a number begins with a digit or a point
starts_number : (s : List ℕ) → (digit? (get_or s 0 0) ≡ false → get_or s 0 0 ≡ 46) → 0 < length s → 0 < digits_size s (run digit? s)
unfolding digits_size
starts_number s h l = go (digit? (get_or s 0 0)) refl
  where
    size : (a : ℕ) → (a ≡ 0 → get_or s 0 0 ≡ 46) → 0 < pick (eqb (get_or s a 0) 46) (suc a + run digit? (drop (suc a) s)) a
    size zero k = rw (eq-eqb (get_or s 0 0) 46 (k refl)) (omega arith)
    size (suc a) k = here (eqb (get_or s (suc a) 0) 46)
      where
        here : (u : Bool) → 0 < pick u (suc (suc a) + run digit? (drop (suc (suc a)) s)) (suc a)
        here true = omega arith
        here false = omega arith

    go : (u : Bool) → digit? (get_or s 0 0) ≡ u → 0 < pick (eqb (get_or s (run digit? s) 0) 46) (suc (run digit? s) + run digit? (drop (suc (run digit? s)) s)) (run digit? s)
    go true e = size (run digit? s) (λ z. absurd (omega (arith, run_on digit? s 0 l e)))
    go false e = size (run digit? s) (λ z. h e)

pub number_sound : (first : Bool) (s : List ℕ) → (digit? (get_or s 0 0) ≡ false → get_or s 0 0 ≡ 46) → Sound first s (number_shape s)
unfolding number_shape number_with token_of class_of digits_in
number_sound first s h =
    let a = run digit? s in
    let n = digits_size s a in
    record {
      fits = power_fits s n (digits_fit s a (run_within digit? s));
      some = λ l. omega (arith, starts_number s h l);
      classed = numeral_class s _;
      inner = λ l e. omega arith;
      holds = record {
        whole_there = run_within digit? s;
        fraction_there = fraction_there s a;
        all_digits = every_append digit? (take a s) (take (fraction_size s a) (drop (suc a) s)) (every_run digit? s) (fraction_digits s a);
      };
    }

-- ---- strings and symbols

bad_sound : (first : Bool) (s : List ℕ) → 0 < length s → Sound first s (shape Bad 1)
bad_sound first s l = bare_sound first s 1 l (omega arith) bare_bad

pub string_sound : (first : Bool) (s : List ℕ) → 0 < length s → Sound first s (string_shape s)
unfolding string_shape string_ended token_of class class_of
string_sound first s l = go (eqb (get_or s (suc n) 0) 34) refl (eqb (get_or s (suc n) 0) 0x9b)
  where
    n : ℕ
    n = run string_byte? (drop 1 s)

    there : suc n ≤ length s
    there = omega (arith, l, run_within string_byte? (drop 1 s), length-drop 1 s)

    quoted_sound : (size : ℕ) → size ≤ length s → suc n ≤ size → Sound first s (shape (Quoted n) size)
    quoted_sound size f h = record { fits = f; some = λ z. omega (arith, h); classed = refl; inner = λ z e. omega arith; holds = h }

    go : (closed : Bool) → eqb (get_or s (suc n) 0) 34 ≡ closed → (marked : Bool)
        → Sound first s (pick closed (shape (Quoted n) (suc (suc n))) (pick marked (shape Bad (suc n)) (shape (Quoted n) (suc n))))
    go true e marked = quoted_sound (suc (suc n)) (in_text s (suc n) (omega (arith, eqb-true (get_or s (suc n) 0) 34 e))) (omega arith)
    go false e true = bare_sound first s (suc n) there (omega arith) bare_bad
    go false e false = quoted_sound (suc n) there (omega arith)

-- no word has a 0 for its second byte
second_bytes : T (every (λ w. ltb 0 (get_or w.spelling 1 1)) operators)
unfolding every operators read_operators functions placed_operators word bytes
second_bytes = tt

pub second_there : (b c t : ℕ) → find_word operators (b ∷ c ∷ []) ≡ found t → 0 < c
unfolding found?
second_there b c t e = ltb-true 0 c (is_true (ltb 0 c) (found_spelling operators (b ∷ c ∷ []) (λ l. ltb 0 (get_or l 1 1)) second_bytes (subst (λ (f : Found). T (found? f)) (sym e) tt)))

one_sound : (first : Bool) (s w : List ℕ) (f : Found) → find_word operators w ≡ f → 0 < length s → Sound first s (symbol_kind 1 f (shape Bad 1))
unfolding symbol_kind
one_sound first s w (found t) e l = bare_sound first s 1 l (omega arith) (bare_operator t (operator_inner w t e))
one_sound first s w nowhere e l = bad_sound first s l

two_sound : (first : Bool) (s : List ℕ) (b : ℕ) (f : Found) (x : Shape) → find_word operators (b ∷ get_or s 1 0 ∷ []) ≡ f → Sound first s x → Sound first s (symbol_kind 2 f x)
unfolding symbol_kind
two_sound first s b (found t) x e v =
    bare_sound first s 2 (in_text s 1 (second_there b (get_or s 1 0) t e)) (omega arith) (bare_operator t (operator_inner (b ∷ get_or s 1 0 ∷ []) t e))
two_sound first s b nowhere x e v = v

pub symbol_sound : (first : Bool) (s : List ℕ) (b : ℕ) → 0 < length s → Sound first s (symbol_shape b (get_or s 1 0))
unfolding symbol_shape
symbol_sound first s b l =
    two_sound first s b (find_word operators (b ∷ get_or s 1 0 ∷ [])) _ refl (one_sound first s (b ∷ []) (find_word operators (b ∷ [])) refl l)

question_sound : (first : Bool) (s : List ℕ) → 0 < length s → Sound first s (shape (Statement (record { 0 = 0x28 })) 1)
unfolding word_of statements word
question_sound first s l = bare_sound first s 1 l (omega arith) (bare_statement 0x28 (λ e. omega arith))

-- ---- all

pub letter_is : (b : ℕ) → letter? b ≡ true → letter_or_digit? b ≡ true
unfolding letter_or_digit?
letter_is b e = go (digit? b)
  where
    go : (u : Bool) → (u || letter? b) ≡ true
    go true = refl
    go false = e

-- the shape at the front of any text is right
pub shape_sound : (first : Bool) (s : List ℕ) → Sound first s (shape_at first s)
unfolding shape_at token_of class class_of operator_class
shape_sound first [] = record { fits = omega arith; some = λ z. absurd (omega arith); classed = refl; inner = λ z. absurd (omega arith); holds = tt }
shape_sound first (b ∷ t) = go (letter? b) (digit? b) (eqb b 46) (digit? (get_or t 0 0)) (eqb b 34) (eqb b 63 && first) refl refl refl
  where
    s : List ℕ
    s = b ∷ t

    l : 0 < length s
    l = omega arith

    go : (u v w x y z : Bool) → letter? b ≡ u → digit? b ≡ v → eqb b 46 ≡ w
        → Sound first s (pick u (name_shape first s) (pick (v || (w && x)) (number_shape s) (pick y (string_shape s) (pick z (shape (Statement (record { 0 = 0x28 })) 1) (symbol_shape b (get_or t 0 0))))))
    go true v w x y z e f g = name_sound first s (omega (arith, run_on letter_or_digit? s 0 l (letter_is b e)))
    go false true w x y z e f g = number_sound first s (λ n. no_bool (sym n ∙ f))
    go false false true true y z e f g = number_sound first s (λ n. eqb-true b 46 g)
    go false false true false true z e f g = string_sound first s l
    go false false true false false true e f g = question_sound first s l
    go false false true false false false e f g = symbol_sound first s b l
    go false false false x true z e f g = string_sound first s l
    go false false false x false true e f g = question_sound first s l
    go false false false x false false e f g = symbol_sound first s b l
