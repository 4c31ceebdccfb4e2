-- What the runs of bytes are made of, and laws of the run that begins at a place of a list.
use Rattle.std.specs.Prelude.{ℕ, suc, ◌+◌, ◌≤◌, ◌<◌, ◌≡◌, refl, Bool, true, false, List, [], ◌∷◌, length, drop, get_or}
use Rattle.std.specs.List.{prefix_len, take_while}
use Rattle.std.proofs.lemmas.List.Folds.{length-prefix_len}
use Rattle.std.specs.Prelude.{cond}
use Rattle.std.proofs.Common.{add-one, arith, sym, ◌∙◌, drop_of_length-le, drop-cons}
use Rattle.paper.specs.Bytes.{pick, run, digit?, letter_or_digit?, blank?}
use Rattle.paper.specs.Items.{string_byte?, raw_byte?}
use Rattle.buffers.specs.declared.Run.{Run}
use Rattle.buffers.specs.declared.Run.TheVariants.{Blanks, Digits, NameBytes, StringBytes, RawBytes}

-- the test that each byte of a run passes
abbrev pub test_of : Run → ℕ → Bool
test_of Blanks = blank?
test_of Digits = digit?
test_of NameBytes = letter_or_digit?
test_of StringBytes = string_byte?
test_of RawBytes = raw_byte?

-- a byte that passes is one more of the run
pub run_on : (q : ℕ → Bool) (s : List ℕ) (i : ℕ) → i < length s → q (get_or s i 0) ≡ true → run q (drop i s) ≡ suc (run q (drop (i + 1) s))
unfolding run
run_on q s i h t = rw (drop-cons s i 0 h, t, add-one)

-- a byte that does not pass ends the run
pub run_off : (q : ℕ → Bool) (s : List ℕ) (i : ℕ) → i < length s → q (get_or s i 0) ≡ false → run q (drop i s) ≡ 0
unfolding run
run_off q s i h t = rw (drop-cons s i 0 h, t)

-- no run begins past the end
pub run_past : (q : ℕ → Bool) (s : List ℕ) (i : ℕ) → length s ≤ i → run q (drop i s) ≡ 0
unfolding run
run_past q s i h = rw (drop_of_length-le s h)

taken_go : (q : ℕ → Bool) (s : List ℕ) (b : Bool) → run q s ≡ prefix_len q s → pick b (suc (run q s)) 0 ≡ cond b (1 + prefix_len q s) 0
taken_go q s true h = omega arith
taken_go q s false h = refl

-- a run is what passes at the front of a list
pub run_taken : (q : ℕ → Bool) (s : List ℕ) → length (take_while q s) ≡ run q s
unfolding run
run_taken q s = length-prefix_len q s ∙ sym (go s)
  where
    go : (t : List ℕ) → run q t ≡ prefix_len q t
    go [] = refl
    go (x ∷ t) = taken_go q t (q x) (go t)

within_go : (q : ℕ → Bool) (n m : ℕ) (b : Bool) → n ≤ m → pick b (suc n) 0 ≤ suc m
within_go q n m true h = omega arith
within_go q n m false h = omega arith

-- a run is no longer than its list
pub run_within : (q : ℕ → Bool) (s : List ℕ) → run q s ≤ length s
unfolding run
run_within q [] = omega arith
run_within q (x ∷ s) = within_go q (run q s) (length s) (q x) (run_within q s)

stops_go : (q : ℕ → Bool) (x : ℕ) (s : List ℕ) (b : Bool) → q 0 ≡ false → q x ≡ b → q (get_or s (run q s) 0) ≡ false → q (get_or (x ∷ s) (pick b (suc (run q s)) 0) 0) ≡ false
stops_go q x s true z e ih = ih
stops_go q x s false z e ih = e

-- the byte after a run does not pass, if 0 does not
pub run_stops : (q : ℕ → Bool) (s : List ℕ) → q 0 ≡ false → q (get_or s (run q s) 0) ≡ false
unfolding run
run_stops q [] z = z
run_stops q (x ∷ s) z = stops_go q x s (q x) z refl (run_stops q s z)
