-- The name with a number: where it stands among the bytes of a table, and its text there.
use Prim.Native.Nat.{ℕ, zero, suc, ◌+◌, ◌-◌, ◌≤◌, ◌<◌}
use native.Mathlib.Omega.{arith}
use Rattle.std.specs.Prelude.{◌≡◌, refl, Bool, true, false, leb, eqb, drop}
use Rattle.std.proofs.Math.Path.{sym, ap}
use Rattle.std.proofs.Common.{◌∙◌, length-append, take-take, drop-drop, length-take-le}
use mathlib.Core.List.{List, [], ◌∷◌}
use Rattle.std.proofs.Math.ListN.{length, take, get_or, length-drop}
use Rattle.std.proofs.Math.Seq.{drop-nil}
use Rattle.paper.specs.Bytes.{pick, joined}
use Rattle.paper.specs.Names.{names_in, less_open}
use Rattle.laws.specs.Parts.{drop_take}
use Rattle.names_numbered.specs.declared.Name.{Name}
use Rattle.names_form.specs.Tables.{cleared, unmarked, first_size}
use Rattle.names_form.specs.Places.{first_some, first_most, first_name, length_unmarked}
use Rattle.names_numbered.specs.Answers.{Stands}

-- where the name with a number begins
unfoldable pub start : List ℕ → ℕ → ℕ
start t number = length (joined (take number (names_in t)))

first_joined : (m : List ℕ) (ns : List (List ℕ)) (k : ℕ) → length (joined (take (suc k) (m ∷ ns))) ≡ length m + length (joined (take k ns))
unfolding joined
first_joined m ns k = length-append m (joined (take k ns))

-- the names from there on
pub start_names : (number : ℕ) (t : List ℕ) → names_in (drop (start t number) t) ≡ drop number (names_in t)
unfolding start joined names_in
start_names zero t = refl
start_names (suc k) [] = ap names_in (drop-nil (length (joined (take (suc k) (names_in [])))))
start_names (suc k) (b ∷ bs) =
    let t = b ∷ bs in
    let s = first_size t in
    let here : names_in t ≡ unmarked (take s t) ∷ names_in (drop s t) = first_name t (omega arith) in
    let size : length (unmarked (take s t)) ≡ s = length_unmarked (take s t) ∙ length-take-le s t (first_most t) in
    let place : start t (suc k) ≡ s + start (drop s t) k =
    ap (λ (ns : List (List ℕ)). length (joined (take (suc k) ns))) here ∙ first_joined (unmarked (take s t)) (names_in (drop s t)) k ∙ ap (λ (j : ℕ). j + length (joined (take k (names_in (drop s t))))) size in
    ap (λ (j : ℕ). names_in (drop j t)) place ∙ ap names_in (sym (drop-drop (start (drop s t) k) s t)) ∙ start_names k (drop s t) ∙ ap (drop (suc k)) (sym here)

pub first_of : (ns : List (List ℕ)) (i : ℕ) → get_or ns i [] ≡ get_or (drop i ns) 0 []
first_of [] zero = refl
first_of [] (suc i) = refl
first_of (n ∷ ns) zero = refl
first_of (n ∷ ns) (suc i) = first_of ns i

first_bytes : (t : List ℕ) → get_or (names_in t) 0 [] ≡ unmarked (take (first_size t) t)
unfolding names_in first_size unmarked
first_bytes [] = refl
first_bytes (b ∷ bs) = ap (λ (ns : List (List ℕ)). get_or ns 0 []) (first_name (b ∷ bs) (omega arith))

-- its bytes
pub start_bytes : (t : List ℕ) (number : ℕ) → get_or (names_in t) number [] ≡ unmarked (take (first_size (drop (start t number) t)) (drop (start t number) t))
start_bytes t number =
    first_of (names_in t) number ∙ ap (λ (ns : List (List ℕ)). get_or ns 0 []) (sym (start_names number t)) ∙ first_bytes (drop (start t number) t)

pub start_within : (number : ℕ) (t : List ℕ) → start t number ≤ length t
unfolding start joined names_in
start_within zero t = omega arith
start_within (suc k) [] = omega arith
start_within (suc k) (b ∷ bs) =
    let t = b ∷ bs in
    let s = first_size t in
    let here : names_in t ≡ unmarked (take s t) ∷ names_in (drop s t) = first_name t (omega arith) in
    let size : length (unmarked (take s t)) ≡ s = length_unmarked (take s t) ∙ length-take-le s t (first_most t) in
    let place : start t (suc k) ≡ s + start (drop s t) k =
    ap (λ (ns : List (List ℕ)). length (joined (take (suc k) ns))) here ∙ first_joined (unmarked (take s t)) (names_in (drop s t)) k ∙ ap (λ (j : ℕ). j + length (joined (take k (names_in (drop s t))))) size in
    omega (arith, start_within k (drop s t), length-drop s t, first_most t)

-- ---- its text

-- bytes with their top bits cleared
unfoldable pub all_cleared : List ℕ → List ℕ
all_cleared [] = []
all_cleared (x ∷ xs) = cleared x ∷ all_cleared xs

-- the bytes of a name before its last have their top bits clear
first_cleared : (t : List ℕ) → all_cleared (take (first_size t) t) ≡ unmarked (take (first_size t) t)
unfolding first_size all_cleared unmarked cleared
first_cleared [] = refl
first_cleared (b ∷ []) = go (leb 128 b)
  where
    go : (t : Bool) → all_cleared (take (pick t 1 1) (b ∷ [])) ≡ unmarked (take (pick t 1 1) (b ∷ []))
    go true = refl
    go false = refl
first_cleared (b ∷ c ∷ cs) = go (leb 128 b) refl (first_cleared (c ∷ cs)) (first_some (c ∷ cs) (omega arith))
  where
    go : (t : Bool) → leb 128 b ≡ t → all_cleared (take (first_size (c ∷ cs)) (c ∷ cs)) ≡ unmarked (take (first_size (c ∷ cs)) (c ∷ cs)) → 0 < first_size (c ∷ cs)
        → all_cleared (take (pick t 1 (suc (first_size (c ∷ cs)))) (b ∷ c ∷ cs)) ≡ unmarked (take (pick t 1 (suc (first_size (c ∷ cs)))) (b ∷ c ∷ cs))
    go true e f p = refl
    go false e f p = step (first_size (c ∷ cs)) p f
      where
        step : (k : ℕ) → 0 < k → all_cleared (take k (c ∷ cs)) ≡ unmarked (take k (c ∷ cs)) → all_cleared (take (suc k) (b ∷ c ∷ cs)) ≡ unmarked (take (suc k) (b ∷ c ∷ cs))
        step zero p f = absurd (omega arith)
        step (suc k) p f = rw (e) (ap (λ (l : List ℕ). b ∷ l) f)

cleared_take : (j : ℕ) (xs : List ℕ) → all_cleared (take j xs) ≡ take j (all_cleared xs)
unfolding all_cleared
cleared_take zero xs = refl
cleared_take (suc j) [] = refl
cleared_take (suc j) (x ∷ xs) = ap (λ (l : List ℕ). cleared x ∷ l) (cleared_take j xs)

pub bare_front : (n : List ℕ) → take (length (less_open n)) n ≡ less_open n
unfolding less_open
bare_front [] = refl
bare_front (x ∷ []) = go (eqb x 40)
  where
    go : (t : Bool) → take (length (pick t [] (x ∷ []))) (x ∷ []) ≡ pick t [] (x ∷ [])
    go true = refl
    go false = refl
bare_front (x ∷ y ∷ ys) = ap (λ (l : List ℕ). x ∷ l) (bare_front (y ∷ ys))

pub bare_short : (n : List ℕ) → length (less_open n) ≤ length n
unfolding less_open
bare_short [] = omega arith
bare_short (x ∷ []) = go (eqb x 40)
  where
    go : (t : Bool) → length (pick t [] (x ∷ [])) ≤ 1
    go true = omega arith
    go false = omega arith
bare_short (x ∷ y ∷ ys) = let more = bare_short (y ∷ ys) in omega arith

-- Of the name with a number, in a table of `size` bytes.
module _ {r : Name} {number : ℕ} (names : List ℕ) (size : ℕ) (a : Stands (names_in (take size names)) number r) where
  t : List ℕ
  t = take size names

  size_of : length (get_or (names_in t) number []) ≡ first_size (drop (start t number) t)
  size_of =
      ap length (start_bytes t number) ∙ length_unmarked (take (first_size (drop (start t number) t)) (drop (start t number) t))
      ∙ length-take-le (first_size (drop (start t number) t)) (drop (start t number) t) (first_most (drop (start t number) t))

  -- its places are within the table
  pub stands_within : (r.from ≤ r.end) × (r.end ≤ length (take size names))
  unfolding start t
  stands_within = (
    omega (arith, a.from, a.end),
    omega (arith, a.end, size_of, bare_short (get_or (names_in t) number []), first_most (drop (start t number) t), length-drop (start t number) t, start_within number t),
  )

  -- and the bytes there, with their top bits cleared, are its text
  pub stands_text : all_cleared (take (r.end - r.from) (drop r.from names)) ≡ less_open (get_or (names_in (take size names)) number [])
  unfolding start t
  stands_text =
      let n = get_or (names_in t) number [] in
      let s = start t number in
      let j = length (less_open n) in
      let k = first_size (drop s t) in
      let long : r.end - r.from ≡ j = omega (arith, a.from, a.end) in
      let short : j ≤ k = omega (arith, bare_short n, size_of) in
      let within : j ≤ size - s = omega (arith, length_take_most size names, stands_within.1, a.end) in
      let whole : all_cleared (take k (drop s t)) ≡ n = first_cleared (drop s t) ∙ sym (start_bytes t number) in
      let place : take j (drop s names) ≡ take j (take k (drop s t)) =
      sym (take-take j (size - s) (drop s names) within) ∙ ap (take j) (sym (drop_take s size names)) ∙ sym (take-take j k (drop s t) short) in
      ap (λ (i : ℕ). all_cleared (take i (drop r.from names))) long ∙ ap (λ (i : ℕ). all_cleared (take j (drop i names))) a.from ∙ ap all_cleared place
      ∙ cleared_take j (take k (drop s t)) ∙ ap (take j) whole ∙ bare_front n
    where
      length_take_most : (n : ℕ) (l : List ℕ) → length (take n l) ≤ n
      length_take_most zero l = omega arith
      length_take_most (suc n) [] = omega arith
      length_take_most (suc n) (x ∷ l) = omega (arith, length_take_most n l)
