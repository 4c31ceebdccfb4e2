-- Runs of bytes at the front of a list, and the seam of two lists.
use Rattle.std.specs.Prelude.{ℕ, zero, suc, ◌≡◌, refl, Bool, true, false, List, [], ◌∷◌, ◌++◌, T, length, take, drop, get_or}
use Rattle.std.proofs.Common.{ap}
use Rattle.paper.specs.Bytes.{run, every}
use Rattle.laws.specs.Tests.{and_left, and_right, is_true}

-- a test passes at each entry
abbrev pub All : (ℕ → Bool) → List ℕ → Type 0
All q [] = Unit {0}
All q (x ∷ xs) = (q x ≡ true) × All q xs

pub all_every : (q : ℕ → Bool) (xs : List ℕ) → T (every q xs) → All q xs
unfolding every
all_every q [] t = tt
all_every q (x ∷ xs) t = (is_true (q x) (and_left (q x) (every q xs) t), all_every q xs (and_right (q x) (every q xs) t))

pub all_append : (q : ℕ → Bool) (xs ys : List ℕ) → All q xs → All q ys → All q (xs ++ ys)
all_append q [] ys a b = b
all_append q (x ∷ xs) ys a b = (a.0, all_append q xs ys a.1 b)

pub all_take : (q : ℕ → Bool) (n : ℕ) (xs : List ℕ) → All q xs → All q (take n xs)
all_take q zero xs a = tt
all_take q (suc n) [] a = tt
all_take q (suc n) (x ∷ xs) a = (a.0, all_take q n xs a.1)

pub all_drop : (q : ℕ → Bool) (n : ℕ) (xs : List ℕ) → All q xs → All q (drop n xs)
all_drop q zero xs a = a
all_drop q (suc n) [] a = tt
all_drop q (suc n) (x ∷ xs) a = all_drop q n xs a.1

run_stop : (q : ℕ → Bool) (ys : List ℕ) → q (get_or ys 0 0) ≡ false → run q ys ≡ 0
unfolding run
run_stop q [] h = refl
run_stop q (y ∷ ys) h = rw (h)

pub run_all : (q : ℕ → Bool) (xs ys : List ℕ) → All q xs → q (get_or ys 0 0) ≡ false → run q (xs ++ ys) ≡ length xs
unfolding run
run_all q [] ys a h = run_stop q ys h
run_all q (x ∷ xs) ys a h = rw a.0 (ap suc (run_all q xs ys a.1 h))

pub seam : (xs ys : List ℕ) → get_or (xs ++ ys) (length xs) 0 ≡ get_or ys 0 0
seam [] ys = refl
seam (x ∷ xs) ys = seam xs ys

pub past : (xs : List ℕ) (y : ℕ) (ys : List ℕ) → drop (suc (length xs)) (xs ++ y ∷ ys) ≡ ys
past [] y ys = refl
past (x ∷ xs) y ys = past xs y ys
