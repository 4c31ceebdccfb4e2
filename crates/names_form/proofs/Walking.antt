-- Walking a table name by name: where a name ends, whether it is spelled so, its number.
use Prim.Native.Nat.{ℕ, suc, ◌+◌, ◌≤◌, ◌<◌}
use native.Mathlib.Numerals.{add-one}
use native.Mathlib.Omega.{arith}
use mathlib.Core.Path.{◌≡◌, refl, sym, ap, ◌∙◌}
use mathlib.Core.Bool.{true, false}
use mathlib.Core.List.{List, [], ◌∷◌, ◌++◌}
use lib.ListN.{length, take, drop, get_or, length-append, drop_of_length-le}
use lib.Seq.{take-nil, drop-cons, length-take-le}
use borrow.Author.Tests.{le-leb, lt-leb}
use Rattle.paper.specs.Bytes.{same}
use Rattle.paper.specs.Names.{names_in, number_of, known?}
use Rattle.laws.specs.Names.{less_known, most_unknown}
use Rattle.names_form.specs.Tables.{cleared, unmarked, first_size}
use Rattle.names_form.specs.Places.{unmarked_last, first_some, first_most, first_name}

-- ---- the end of a name, byte by byte

module _ (t : List ℕ) (i : ℕ) (on : first_size t ≡ i + first_size (drop i t)) where
  pub ends_here : i < length t → 128 ≤ get_or t i 0 → i + 1 ≡ first_size t
  unfolding first_size
  ends_here h k = let one : first_size (drop i t) ≡ 1 = rw (drop-cons t i 0 h, le-leb 128 (get_or t i 0) k) in omega arith

  pub ends_later : i < length t → get_or t i 0 < 128 → first_size t ≡ i + 1 + first_size (drop (i + 1) t)
  unfolding first_size
  ends_later h k = let more : first_size (drop i t) ≡ suc (first_size (drop (i + 1) t)) = rw (drop-cons t i 0 h, lt-leb 128 (get_or t i 0) k, add-one) in omega arith

  pub ends_there : length t ≤ i → i ≤ length t → length t ≡ first_size t
  unfolding first_size
  ends_there h l = let none : first_size (drop i t) ≡ 0 = rw (drop_of_length-le t h) in omega arith

-- ---- the first name, and the names after it

-- some bytes are none, if their first name has none
pub no_bytes : (bs : List ℕ) → length (take (first_size bs) bs) ≡ 0 → names_in bs ≡ []
unfolding names_in
no_bytes [] h = refl
no_bytes (b ∷ bs) h = absurd (omega (arith, length-take-le (first_size (b ∷ bs)) (b ∷ bs) (first_most (b ∷ bs)), first_some (b ∷ bs) (omega arith)))

pub name_first : {k : ℕ} {more : List ℕ} (bs front : List ℕ) (last : ℕ) → k ≡ first_size bs → take k bs ≡ front ++ last ∷ [] → more ≡ drop k bs → names_in bs ≡ (front ++ cleared last ∷ []) ∷ names_in more
name_first {k} {more} bs front last e f d =
    let some : length (take k bs) ≡ length front + 1 = ap length f ∙ length-append front (last ∷ []) in
    let name : unmarked (take (first_size bs) bs) ≡ front ++ cleared last ∷ [] = ap (λ (j : ℕ). unmarked (take j bs)) (sym e) ∙ ap unmarked f ∙ unmarked_last front last in
    let rest : names_in (drop (first_size bs) bs) ≡ names_in more = ap names_in (ap (λ (j : ℕ). drop j bs) (sym e) ∙ sym d) in
    first_name bs (go bs some) ∙ ap (λ (n : List ℕ). n ∷ names_in (drop (first_size bs) bs)) name ∙ ap (λ (ns : List (List ℕ)). (front ++ cleared last ∷ []) ∷ ns) rest
  where
    go : (xs : List ℕ) → length (take k xs) ≡ length front + 1 → 0 < length xs
    go [] h = absurd (let z : length (take {A = ℕ} k []) ≡ 0 = ap length (take-nil k) in omega arith)
    go (x ∷ xs) h = omega arith

-- ---- a name's number among all names: k of them are passed, and these are left

module _ (all left : List (List ℕ)) (n : List ℕ) (k : ℕ) (numbers : number_of all n ≡ k + number_of left n) (counts : length all ≡ k + length left) where
  pub find_hit : (m : List ℕ) (ms : List (List ℕ)) → left ≡ m ∷ ms → same m n ≡ true → (k ≡ number_of all n) × (known? all n ≡ true)
  unfolding number_of
  find_hit m ms e s =
      let here : number_of left n ≡ 0 = ap (λ (ns : List (List ℕ)). number_of ns n) e ∙ rw (s) in
      (omega arith, less_known all n (omega (arith, ap length e)))

  pub find_miss : (m : List ℕ) (ms : List (List ℕ)) → left ≡ m ∷ ms → same m n ≡ false → (number_of all n ≡ k + 1 + number_of ms n) × (length all ≡ k + 1 + length ms)
  unfolding number_of
  find_miss m ms e s =
      let here : number_of left n ≡ suc (number_of ms n) = ap (λ (ns : List (List ℕ)). number_of ns n) e ∙ rw (s) in
      (omega arith, omega (arith, ap length e))

  pub find_none : left ≡ [] → (k ≡ length all) × (known? all n ≡ false)
  unfolding number_of
  find_none e =
      let here : number_of left n ≡ 0 = ap (λ (ns : List (List ℕ)). number_of ns n) e in
      (omega (arith, ap length e), most_unknown all n (omega (arith, ap length e)))
