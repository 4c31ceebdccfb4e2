-- What a name may be, from its bytes before its last and its last: its shape, the name less its `(`, words.
use Prim.Native.Nat.{ℕ, zero, suc, ◌+◌, ◌≤◌, ◌<◌}
use native.Mathlib.Omega.{arith}
use mathlib.Core.Path.{◌≡◌, refl, sym, ap, ◌∙◌}
use mathlib.Core.Bool.{Bool, true, false, ◌&&◌, ◌||◌, and-false}
use mathlib.Core.List.{List, [], ◌∷◌, ◌++◌}
use lib.Dec.{leb, eqb}
use lib.ListN.{length, take, drop, get_or, set, length-append}
use lib.Seq.{sets}
use borrow.Author.Tests.{eq-eqb, ne_eqb, leb-true}
use Rattle.std.specs.Bool.{MatchBool}
use Rattle.std.specs.List.{AllWithin, HoldsAt}
use Rattle.paper.specs.Bytes.{pick, letter?, letter_or_digit?, run, same, every, bytes}
use Rattle.paper.specs.Words.{Word, word, Found, found, nowhere, find_word, found?, statements, operators, read_operators, functions, placed_operators, reserved?, statement_word?}
use Rattle.paper.specs.Names.{name_end?, name?, less_open}
use Rattle.buffers.specs.Sets.{sets_append, front as whole}
use Rattle.std.specs.Option.{is_some, MatchOption}
use Rattle.std.specs.Prelude.{Option, Some, None}
use denote.Ref.{Bor}
use Rattle.tokens.specs.Tables.{statement_found, reserved_found}
use Rattle.laws.specs.Names.{same_ne, every_first, every_rest}
use Rattle.names_form.specs.Shapes.{bare_last, kind_last}
use Rattle.paper.specs.Tokens.{by_kind}

-- ---- the shape

pub every_true : (p : ℕ → Bool) (xs : List ℕ) → AllWithin (λ x. p x ≡ true) xs 0 (length xs) → true ≡ every p xs
unfolding every
every_true p [] a = refl
every_true p (x ∷ xs) a =
    let here : p x ≡ true = a 0 0 (omega arith) (omega arith) in
    rw (here) (every_true p xs (λ k d l h. a (suc k) d (omega arith) (omega arith)))

pub every_false : (p : ℕ → Bool) (xs : List ℕ) (k : ℕ) → k < length xs → HoldsAt (λ x. p x ≡ false) xs k → false ≡ every p xs
unfolding every
every_false p [] k l h = absurd (omega arith)
every_false p (x ∷ xs) zero l h = let here : p x ≡ false = h 0 in rw (here)
every_false p (x ∷ xs) (suc k) l h = rw (← every_false p xs k (omega arith) h) (sym (and-false (p x)))

pub every_cases : (p : ℕ → Bool) (xs : List ℕ) (r : Bool) → MatchBool r (AllWithin (λ x. p x ≡ true) xs 0 (length xs)) ((k : ℕ) × (k < length xs) × HoldsAt (λ x. p x ≡ false) xs k) → r ≡ every p xs
every_cases p xs true a = every_true p xs a
every_cases p xs false (k, l, h) = every_false p xs k l h

-- letters and digits only go on to their end; others do not
run_every : (q : ℕ → Bool) (xs ys : List ℕ) → every q xs ≡ true → run q (xs ++ ys) ≡ length xs + run q ys
unfolding run every
run_every q [] ys h = let z : run q ys ≡ 0 + run q ys = omega arith in z
run_every q (x ∷ xs) ys h =
    rw (every_first q x xs h) (let z : suc (run q (xs ++ ys)) ≡ suc (length xs) + run q ys = omega (arith, run_every q xs ys (every_rest q x xs h)) in z)

run_some : (q : ℕ → Bool) (xs ys : List ℕ) → every q xs ≡ false → run q (xs ++ ys) < length xs
unfolding run every
run_some q [] ys h = let z : ◌≡◌ {A = ℕ} 0 1 = cc in absurd (omega arith)
run_some q (x ∷ xs) ys h = go (q x) h (λ k. run_some q xs ys k)
  where
    go : (t : Bool) → t && every q xs ≡ false → (every q xs ≡ false → run q (xs ++ ys) < length xs) → pick t (suc (run q (xs ++ ys))) 0 < suc (length xs)
    go true k f = omega (arith, f k)
    go false k f = omega arith

-- more than one byte ends no name
long_end : (k : ℕ) (xs : List ℕ) (y : ℕ) → k < length xs → name_end? (drop k (xs ++ y ∷ [])) ≡ false
unfolding name_end?
long_end k [] y h = absurd (omega arith)
long_end zero (x ∷ []) y h = refl
long_end zero (x ∷ z ∷ xs) y h = refl
long_end (suc k) (x ∷ xs) y h = long_end k xs y (omega arith)

-- a name's shape, part by part
module _ (front : List ℕ) (last : ℕ) where
  abbrev n : List ℕ
  n = front ++ last ∷ []

  pub no_letter : letter? (get_or n 0 0) ≡ false → false ≡ name? n
  unfolding name?
  no_letter h = sym (rw (h))

  pub no_run : every letter_or_digit? front ≡ false → false ≡ name? n
  unfolding name?
  no_run h =
      let end : name_end? (drop (run letter_or_digit? n) n) ≡ false = long_end (run letter_or_digit? n) front last (run_some letter_or_digit? front (last ∷ []) h) in
      sym (rw (end) (and-false (letter? (get_or n 0 0))))

  pub full_run : letter? (get_or n 0 0) ≡ true → every letter_or_digit? front ≡ true → letter_or_digit? last || (eqb last 36 || eqb last 40) ≡ name? n
  unfolding name? run name_end?
  full_run h k = sym (rw (h, run_every letter_or_digit? front (last ∷ []) k, past front (run letter_or_digit? (last ∷ [])) (last ∷ [])) (go (letter_or_digit? last)))
    where
      past : (xs : List ℕ) (n : ℕ) (ys : List ℕ) → drop (length xs + n) (xs ++ ys) ≡ drop n ys
      past [] n ys = let w : 0 + n ≡ n = omega arith in ap (λ (j : ℕ). drop j ys) w
      past (x ∷ xs) n ys = let w : suc (length xs) + n ≡ suc (length xs + n) = omega arith in ap (λ (j : ℕ). drop j (x ∷ xs ++ ys)) w ∙ past xs n ys

      go : (t : Bool) → name_end? (drop (pick t 1 0) (last ∷ [])) ≡ t || (eqb last 36 || eqb last 40)
      go true = refl
      go false = refl

-- ---- the name less its `(`

module _ (front : List ℕ) (last : ℕ) where
  pub bare_array : last ≡ 40 → less_open (front ++ last ∷ []) ≡ front
  bare_array h = bare_last front last ∙ rw (eq-eqb last 40 h)

  pub bare_other : (last ≡ 40 → ⊥) → less_open (front ++ last ∷ []) ≡ front ++ last ∷ []
  bare_other h = bare_last front last ∙ rw (ne_eqb last 40 h)

  pub bare_long : length front ≤ length (less_open (front ++ last ∷ []))
  bare_long = rw (bare_last front last) (go (eqb last 40))
    where
      go : (t : Bool) → length front ≤ length (pick t front (front ++ last ∷ []))
      go true = omega arith
      go false = omega (arith, length-append front (last ∷ []))

  module _ {written : List ℕ} (old : List ℕ) (copied : written ≡ sets old 0 front) where
    pub array_written : length front ≤ length old → last ≡ 40 → take (length front) written ≡ less_open (front ++ last ∷ [])
    array_written h k = ap (take (length front)) copied ∙ whole old front h ∙ sym (bare_array k)

    pub other_written : length front < length old → (last ≡ 40 → ⊥) → take (length front + 1) (set written (length front) last) ≡ less_open (front ++ last ∷ [])
    other_written h k =
        let n : length (front ++ last ∷ []) ≡ length front + 1 = length-append front (last ∷ []) in
        let z : length front ≡ 0 + length front = omega arith in
        let w : set written (length front) last ≡ sets old 0 (front ++ last ∷ []) =
        ap (λ (l : List ℕ). set l (length front) last) copied ∙ ap (λ (j : ℕ). set (sets old 0 front) j last) z ∙ sym (sets_append old 0 front (last ∷ [])) in
        ap (λ (j : ℕ). take j (set written (length front) last)) (sym n) ∙ ap (take (length (front ++ last ∷ []))) w ∙ whole old (front ++ last ∷ []) (omega arith) ∙ sym (bare_other k)

-- ---- words

short? : ℕ → Word → Bool
short? k w = leb (length w.spelling) k

-- a spelling longer than every word of a table is none of them
none_so_long : (k : ℕ) (ws : List Word) (s : List ℕ) → every (short? k) ws ≡ true → k < length s → find_word ws s ≡ nowhere
unfolding find_word short?
none_so_long k [] s h l = refl
none_so_long k (w ∷ ws) s h l =
    let less = leb-true (length w.spelling) k (every_first (short? k) w ws h) in
    let other : same w.spelling s ≡ false = same_ne w.spelling s (λ e. let z : length w.spelling ≡ length s = ap length e in omega arith) in
    rw (other) (none_so_long k ws s (every_rest (short? k) w ws h) l)

short_operators : every (short? 8) operators ≡ true
unfolding every short? operators read_operators functions placed_operators word bytes
short_operators = refl

short_statements : every (short? 8) statements ≡ true
unfolding every short? statements word bytes
short_statements = refl

pub long_reserved : (s : List ℕ) → 8 < length s → false ≡ reserved? s
unfolding reserved? found?
long_reserved s h = sym (rw (none_so_long 8 operators s short_operators h))

pub long_statement : (s : List ℕ) → 8 < length s → false ≡ statement_word? s
unfolding statement_word? found?
long_statement s h = sym (rw (none_so_long 8 statements s short_statements h))

-- ---- what the search for a word gives

pub some_reserved : (s : List ℕ) → is_some (reserved_found (find_word operators s)) ≡ reserved? s
unfolding reserved? found? reserved_found
some_reserved s = go (find_word operators s)
  where
    go : (f : Found) → is_some (reserved_found f) ≡ found? f
    go (found k) = refl
    go nowhere = refl

pub some_statement : (s : List ℕ) → is_some (statement_found (find_word statements s)) ≡ statement_word? s
unfolding statement_word? found? statement_found
some_statement s = go (find_word statements s)
  where
    go : (f : Found) → is_some (statement_found f) ≡ found? f
    go (found k) = refl
    go nowhere = refl

-- a table has no word that is longer than eight bytes
pub found_short : (o : Option (Bor (List ℕ))) (is : List ℕ → Bool) (n : List ℕ) (P : Bor (List ℕ) → Type 0) {r : Bool}
    → ((s : List ℕ) → 8 < length s → false ≡ is s) → MatchOption o (8 < length n) (λ w. w.now ≡ n) → MatchOption o (r ≡ false) P → ((w : Bor (List ℕ)) → P w → r ≡ is w.now) → r ≡ is n
found_short None is n P long b m f = m ∙ long n b
found_short (Some w) is n P long b m f = f w m ∙ ap is b

-- ---- a name's kind

module _ (front : List ℕ) (last n s a : ℕ) where
  pub kind_string : last ≡ 36 → s ≡ by_kind (front ++ last ∷ []) n s a
  unfolding by_kind
  kind_string h = sym (kind_last front last n s a ∙ rw (eq-eqb last 36 h))

  pub kind_array : last ≡ 40 → a ≡ by_kind (front ++ last ∷ []) n s a
  unfolding by_kind
  kind_array h = sym (kind_last front last n s a ∙ rw h)

  pub kind_number : (last ≡ 36 → ⊥) → (last ≡ 40 → ⊥) → n ≡ by_kind (front ++ last ∷ []) n s a
  unfolding by_kind
  kind_number h k = sym (kind_last front last n s a ∙ rw (ne_eqb last 36 h, ne_eqb last 40 k))
