-- The number that decimal digits write, and the laws by which it is found.
use Rattle.std.specs.Prelude.{ℕ, suc, ◌≤◌, ◌<◌, ◌≡◌, refl, Bool, true, false, List, [], ◌∷◌, Option, None, ltb, length}
use Rattle.std.specs.Bool.{then_some}
use Rattle.std.proofs.Common.{arith, ltb-true, ltb-false}
use Rattle.paper.specs.Bytes.{pick, run, every, digit?}
use Rattle.paper.specs.Constants.{value}
use Rattle.buffers.specs.Numbers.{capped}

-- a number below 2 ^ 63, and none for any other
abbrev pub below : ℕ → Option ℕ
below n = then_some (ltb n 9223372036854775808) n

-- the number that digits write, where it is below 2 ^ 63; none where there is no digit or another byte stands
unfoldable pub number_of : List ℕ → Option ℕ
number_of [] = None
number_of (x ∷ xs) = pick (every digit? (x ∷ xs)) (below (value 0 (x ∷ xs))) None

-- no digit
pub none_of : (s : List ℕ) → length s ≡ 0 → number_of s ≡ None
unfolding number_of
none_of [] e = refl
none_of (x ∷ xs) e = absurd (omega arith)

short : (s : List ℕ) → run digit? s < length s → every digit? s ≡ false
unfolding run every
short [] h = absurd (omega arith)
short (x ∷ xs) h = go (digit? x) refl h (λ k. short xs k)
  where
    go : (b : Bool) → digit? x ≡ b → pick b (suc (run digit? xs)) 0 < length (x ∷ xs) → (run digit? xs < length xs → every digit? xs ≡ false) → every digit? (x ∷ xs) ≡ false
    go true e k f = rw e (f (omega arith))
    go false e k f = rw e

whole : (s : List ℕ) → length s ≤ run digit? s → every digit? s ≡ true
unfolding run every
whole [] h = refl
whole (x ∷ xs) h = go (digit? x) refl h (λ k. whole xs k)
  where
    go : (b : Bool) → digit? x ≡ b → length (x ∷ xs) ≤ pick b (suc (run digit? xs)) 0 → (length xs ≤ run digit? xs → every digit? xs ≡ true) → every digit? (x ∷ xs) ≡ true
    go true e k f = rw e (f (omega arith))
    go false e k f = absurd (omega arith)

-- another byte
pub another : (s : List ℕ) → run digit? s < length s → number_of s ≡ None
unfolding number_of
another [] h = refl
another (x ∷ xs) h = rw (short (x ∷ xs) h)

-- digits alone
pub all_digits : (s : List ℕ) → (length s ≡ 0 → ⊥) → length s ≤ run digit? s → number_of s ≡ below (value 0 s)
unfolding number_of
all_digits [] n h = absurd (n refl)
all_digits (x ∷ xs) n h = rw (whole (x ∷ xs) h)

-- a number that is capped says the same
pub uncapped : (n : ℕ) → then_some (ltb (capped n) 9223372036854775808) (capped n) ≡ below n
uncapped n = go (ltb n 9223372036854775808) refl
  where
    go : (b : Bool) → ltb n 9223372036854775808 ≡ b → then_some (ltb (capped n) 9223372036854775808) (capped n) ≡ below n
    go true e = let same : capped n ≡ n = omega (arith, ltb-true n 9223372036854775808 e) in rw same refl
    go false e = let most : capped n ≡ 9223372036854775808 = omega (arith, ltb-false n 9223372036854775808 e) in rw (most, e) refl
