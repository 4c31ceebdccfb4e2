-- A line's number in decimal, from its five digits.
use Prim.Native.Nat.{ℕ, zero, suc, ◌+◌, ◌-◌, ◌/◌, ◌%◌, ◌≤◌, ◌<◌}
use native.Mathlib.Omega.{arith}
use mathlib.Core.Path.{◌≡◌, refl, sym, ap, ap₂, ◌∙◌}
use mathlib.Core.Bool.{Bool, true, false}
use mathlib.Core.List.{List, [], ◌∷◌, ◌++◌}
use lib.Dec.{leb}
use lib.ListN.{length, take, drop, get_or, length-drop}
use lib.Seq.{sets, take_all}
use borrow.Author.Tests.{lt-ltb, le-ltb, leb-true, leb-false}
use Rattle.paper.specs.Bytes.{pick, blank}
use Rattle.paper.specs.Line.{line_number}
use Rattle.paper.specs.Listing.{decimal}
use Rattle.list_text.specs.Texts.{Writes, zeros}

last : (k n : ℕ) → n < 10 → decimal (suc k) n ≡ (48 + n % 10) ∷ []
unfolding decimal
last k n h =
    let e : n ≡ n % 10 = omega arith in
    rw (lt-ltb n 10 h) (ap (λ (z : ℕ). (48 + z) ∷ []) e)

more : (k n : ℕ) → 10 ≤ n → decimal (suc k) n ≡ decimal k (n / 10) ++ (48 + n % 10) ∷ []
unfolding decimal
more k n h = rw (le-ltb n 10 h)

-- a number with its last digit after the others
step : (k n : ℕ) (ds : List ℕ) (q : ℕ) → n / 10 ≡ q → decimal k q ≡ ds → 10 ≤ n → decimal (suc k) n ≡ ds ++ (48 + n % 10) ∷ []
step k n ds q e f h = more k n h ∙ ap (λ (l : List ℕ). l ++ (48 + n % 10) ∷ []) (ap (decimal k) e ∙ f)

-- the five digits
abbrev pub five : ℕ → List ℕ
five n = (48 + n / 10000 % 10) ∷ (48 + n / 1000 % 10) ∷ (48 + n / 100 % 10) ∷ (48 + n / 10 % 10) ∷ (48 + n % 10) ∷ []

one : (k n : ℕ) → n < 10 → decimal (suc k) n ≡ drop 4 (five n)
one k n h = last k n h

two : (k n : ℕ) → 10 ≤ n → n < 100 → decimal (suc (suc k)) n ≡ drop 3 (five n)
two k n h m = step (suc k) n _ (n / 10) refl (last k (n / 10) (omega arith)) h

three : (k n : ℕ) → 100 ≤ n → n < 1000 → decimal (suc (suc (suc k))) n ≡ drop 2 (five n)
three k n h m =
    let e : n / 10 / 10 % 10 ≡ n / 100 % 10 = omega arith in
    step (suc (suc k)) n _ (n / 10) refl (two k (n / 10) (omega arith) (omega arith)) (omega arith) ∙ ap (λ (x : ℕ). (48 + x) ∷ (48 + n / 10 % 10) ∷ (48 + n % 10) ∷ []) e

four : (k n : ℕ) → 1000 ≤ n → n < 10000 → decimal (suc (suc (suc (suc k)))) n ≡ drop 1 (five n)
four k n h m =
    let e : n / 10 / 100 % 10 ≡ n / 1000 % 10 = omega arith in
    let f : n / 10 / 10 % 10 ≡ n / 100 % 10 = omega arith in
    step (suc (suc (suc k))) n _ (n / 10) refl (three k (n / 10) (omega arith) (omega arith)) (omega arith)
    ∙ ap₂ (λ (x y : ℕ). (48 + x) ∷ (48 + y) ∷ (48 + n / 10 % 10) ∷ (48 + n % 10) ∷ []) e f

all_five : (n : ℕ) → 10000 ≤ n → n < 100000 → decimal 5 n ≡ five n
all_five n h m =
    let e : n / 10 / 1000 % 10 ≡ n / 10000 % 10 = omega arith in
    let f : n / 10 / 100 % 10 ≡ n / 1000 % 10 = omega arith in
    let g : n / 10 / 10 % 10 ≡ n / 100 % 10 = omega arith in
    step 4 n _ (n / 10) refl (four 0 (n / 10) (omega arith) (omega arith)) (omega arith)
    ∙ ap₂ (λ (x y : ℕ). (48 + x) ∷ (48 + y) ∷ (48 + n / 10 / 10 % 10) ∷ (48 + n / 10 % 10) ∷ (48 + n % 10) ∷ []) e f
    ∙ ap (λ (x : ℕ). (48 + n / 10000 % 10) ∷ (48 + n / 1000 % 10) ∷ (48 + x) ∷ (48 + n / 10 % 10) ∷ (48 + n % 10) ∷ []) g

-- the number's own digits, less the zeros before it
digits : (n : ℕ) → n < 100000 → (zeros n ≤ 4) × (drop (zeros n) (five n) ≡ decimal 5 n)
unfolding zeros
digits n h = go (leb 10000 n) refl (leb 1000 n) refl (leb 100 n) refl (leb 10 n) refl
  where
    go : (a : Bool) → leb 10000 n ≡ a → (b : Bool) → leb 1000 n ≡ b → (c : Bool) → leb 100 n ≡ c → (d : Bool) → leb 10 n ≡ d
        → (pick a 0 (pick b 1 (pick c 2 (pick d 3 4))) ≤ 4) × (drop (pick a 0 (pick b 1 (pick c 2 (pick d 3 4)))) (five n) ≡ decimal 5 n)
    go true e b f c g d i = (omega arith, sym (all_five n (leb-true 10000 n e) h))
    go false e true f c g d i = (omega arith, sym (four 1 n (leb-true 1000 n f) (leb-false 10000 n e)))
    go false e false f true g d i = (omega arith, sym (three 2 n (leb-true 100 n g) (leb-false 1000 n f)))
    go false e false f false g true i = (omega arith, sym (two 3 n (leb-true 10 n i) (leb-false 100 n g)))
    go false e false f false g false i = (omega arith, sym (one 4 n (leb-false 10 n i)))

drop_snoc : (z : ℕ) (xs : List ℕ) (b : ℕ) → z ≤ length xs → drop z (xs ++ b ∷ []) ≡ drop z xs ++ b ∷ []
drop_snoc zero xs b h = refl
drop_snoc (suc z) [] b h = absurd (omega arith)
drop_snoc (suc z) (x ∷ xs) b h = drop_snoc z xs b (omega arith)

-- the digits as they are put one beside the other
pub beside : (n a b c d e : ℕ) → a ≡ 48 + n / 10000 % 10 → b ≡ 48 + n / 1000 % 10 → c ≡ 48 + n / 100 % 10 → d ≡ 48 + n / 10 % 10 → e ≡ 48 + n % 10 → a ∷ b ∷ c ∷ d ∷ e ∷ blank ∷ [] ≡ five n ++ blank ∷ []
beside n a b c d e f g h i j = rw (f, g, h, i, j)

module _ (l : List ℕ) (low : get_or l 0 0 < 256) (high : get_or l 1 0 < 256) where
  small : line_number l < 100000
  unfolding line_number
  small = omega arith

  pub zeros_few : (z : ℕ) → z ≡ zeros (line_number l) → z ≤ 4
  zeros_few z e = omega (arith, (digits (line_number l) small).0)

  -- what is written is the number and a blank
  pub head_text : (z : ℕ) (ds : List ℕ) {old new : List ℕ} → z ≡ zeros (line_number l) → ds ≡ five (line_number l) ++ blank ∷ [] → new ≡ sets old 0 (take (6 - z) (drop z ds)) → Writes (decimal 5 (line_number l) ++ blank ∷ []) 0 old (6 - z) new
  head_text z ds {old} e f g =
      let n : ℕ = line_number l in
      let few : z ≤ 4 = zeros_few z e in
      let len : length ds ≡ 6 = ap length f in
      let t : take (6 - z) (drop z ds) ≡ drop z ds = take_all (6 - z) (drop z ds) (omega (arith, length-drop z ds)) in
      let d : drop z ds ≡ decimal 5 n ++ blank ∷ [] = ap (drop z) f ∙ drop_snoc z (five n) blank (omega arith) ∙ ap (λ (k : ℕ). drop k (five n) ++ blank ∷ []) e ∙ ap (λ (x : List ℕ). x ++ blank ∷ []) (digits n small).1 in
      record { size = omega (arith, length-drop z ds, ap length d); bytes = g ∙ ap (sets old 0) (t ∙ d) }
