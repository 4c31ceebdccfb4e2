-- Bytes written one after the other: laws of `sets`.
use Rattle.std.specs.Prelude.{ℕ, zero, suc, ◌+◌, ◌≤◌, ◌<◌, ◌≡◌, refl, List, [], ◌∷◌, ◌++◌, length, take, drop, get_or, set}
use Rattle.std.proofs.Common.{add-zero, zero-add, add-suc, suc-add, add-one, arith, sym, ap, ◌∙◌, length-set, length-append, take-suc, length-take-le}
use Rattle.std.proofs.lemmas.List.Edits.{sets, sets-eq}
use Rattle.std.proofs.Math.Seq.{set_out, take-length}
use Rattle.std.proofs.lemmas.List.{take-append-le}
use Rattle.paper.specs.Store.{overwritten}

-- some bytes, and then others after them
pub sets_append : (l : List ℕ) (i : ℕ) (a b : List ℕ) → sets l i (a ++ b) ≡ sets (sets l i a) (i + length a) b
sets_append l i [] b = ap (λ (k : ℕ). sets l k b) (sym (add-zero i))
sets_append l i (x ∷ a) b =
    sets_append (set l i x) (suc i) a b
    ∙ ap (λ (k : ℕ). sets (sets (set l i x) (suc i) a) k b) (suc-add i (length a) ∙ sym (add-suc i (length a)))

-- one more byte, written after others
pub put_next : (s t u : List ℕ) (at x : ℕ) (xs : List ℕ) → t ≡ sets s at xs → u ≡ set t (at + length xs) x → u ≡ sets s at (xs ++ x ∷ [])
put_next s t u at x xs e f = f ∙ ap (λ (y : List ℕ). set y (at + length xs) x) e ∙ sym (sets_append s at xs (x ∷ []))

-- nothing is written past the end
pub sets_out : (l : List ℕ) (i : ℕ) (xs : List ℕ) → length l ≤ i → sets l i xs ≡ l
sets_out l i [] h = refl
sets_out l i (x ∷ xs) h =
    let e = set_out l i x h in
    ap (λ (k : List ℕ). sets k (suc i) xs) e ∙ sets_out l (suc i) xs (omega arith)

-- the bytes that fit are all that are written
pub sets_cut : (l : List ℕ) (i n : ℕ) (xs : List ℕ) → (n < length xs → length l ≤ i + n) → sets l i (take n xs) ≡ sets l i xs
sets_cut l i zero [] h = refl
sets_cut l i zero (x ∷ xs) h = sym (sets_out l i (x ∷ xs) (omega (arith, h (omega arith))))
sets_cut l i (suc n) [] h = refl
sets_cut l i (suc n) (x ∷ xs) h = sets_cut (set l i x) (suc i) n xs (λ k. omega (arith, h (omega arith), length-set l i x))

-- one more byte of a list
pub sets_more : (l : List ℕ) (n : ℕ) (xs : List ℕ) (i : ℕ) → i < length xs → set (sets l n (take i xs)) (n + i) (get_or xs i 0) ≡ sets l n (take (i + 1) xs)
sets_more l n xs i h =
    let k : length (take i xs) ≡ i = length-take-le i xs (omega arith) in
    sym
    (rw (add-one, take-suc xs i 0 h)
    (sets_append l n (take i xs) (get_or xs i 0 ∷ []) ∙ ap (λ (j : ℕ). set (sets l n (take i xs)) (n + j) (get_or xs i 0)) k))

-- what stands before the place, and then what was written there
pub written : (l : List ℕ) (n : ℕ) (xs : List ℕ) → n + length xs ≤ length l → take (n + length xs) (sets l n xs) ≡ take n l ++ xs
written l n xs h =
    let k : length (take n l ++ xs) ≡ n + length xs = length-append (take n l) xs ∙ ap (λ (j : ℕ). j + length xs) (length-take-le n l (omega arith)) in
    rw (sets-eq xs l n h, ← k) (take-append-le (length (take n l ++ xs)) (take n l ++ xs) (drop (length (take n l ++ xs)) l) (omega arith) ∙ take-length (take n l ++ xs))

-- what was written at the front of a list, read back
pub front : (l xs : List ℕ) → length xs ≤ length l → take (length xs) (sets l 0 xs) ≡ xs
front l xs h =
    ap (take (length xs)) (sets-eq xs l 0 (omega arith)) ∙ take-append-le (length xs) xs (drop (0 + length xs) l) (omega arith) ∙ take-length xs

-- bytes at the front of a buffer that has room for them
pub overwrites : (buffer part : List ℕ) → length part ≤ length buffer → sets buffer 0 part ≡ overwritten part buffer
unfolding overwritten
overwrites buffer part h = sets-eq part buffer 0 (omega arith) ∙ ap (λ (k : ℕ). part ++ drop k buffer) (zero-add (length part))
