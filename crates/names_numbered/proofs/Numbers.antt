-- A name's number among the names of a table and the new names, and the bytes of a new one.
use Prim.Native.Nat.{ℕ, ◌+◌, ◌<◌}
use native.Mathlib.Omega.{arith}
use mathlib.Core.Path.{◌≡◌, refl, sym, ap, ◌∙◌}
use mathlib.Core.Bool.{Bool, true, false}
use mathlib.Core.List.{List, [], ◌∷◌, ◌++◌, append-nil}
use lib.ListN.{length, set, length-append}
use lib.Seq.{sets}
use borrow.Author.Tests.{ltb-true}
use Rattle.paper.specs.Bytes.{every}
use Rattle.paper.specs.Names.{marked, name_bytes, number_of, known?}
use Rattle.buffers.specs.Sets.{sets_append}
use Rattle.laws.specs.Names.{top_clear?, plain_name, plain_some, plain_low, every_first, every_rest, name_added, number_known, number_unknown, unknown_most, known_front, known_behind}
use Rattle.names_numbered.specs.Answers.{spelled, Numbers}

-- the bytes that a known name adds, and those of a new one
none_added : (ns : List (List ℕ)) (n : List ℕ) → known? ns n ≡ true → name_bytes (name_added ns n) ≡ []
unfolding name_added name_bytes
none_added ns n h = rw (h)

one_added : (ns : List (List ℕ)) (n : List ℕ) → known? ns n ≡ false → name_bytes (name_added ns n) ≡ marked n
unfolding name_added name_bytes
one_added ns n h = rw (h) (append-nil (marked n))

marked_last : (xs : List ℕ) (x : ℕ) → marked (xs ++ x ∷ []) ≡ xs ++ (x + 128) ∷ []
unfolding marked
marked_last [] x = refl
marked_last (y ∷ []) x = refl
marked_last (y ∷ z ∷ zs) x = ap (λ (l : List ℕ). y ∷ l) (marked_last (z ∷ zs) x)

numbers_known : (ns : List (List ℕ)) (n old : List ℕ) (f k : ℕ) → k ≡ number_of ns n → known? ns n ≡ true → Numbers ns n old f (record { number = k; size = f }) old
numbers_known ns n old f k e h =
    let none = none_added ns n h in
    record { number = e; size = (let z : f ≡ f + 0 = omega arith in z) ∙ ap (λ (l : List ℕ). f + length l) (sym none); fresh = ap (sets old f) (sym none) }

-- a name that is none of those of the table has a number among the new ones, counted from how many the table has
module _ (ns ms : List (List ℕ)) (n : List ℕ) (known : ℕ) (counted : (known ≡ length ns) × (known? ns n ≡ false)) where
  number_behind : {k : ℕ} → k ≡ number_of ms n → known + k ≡ number_of (ns ++ ms) n
  number_behind e = omega (arith, number_unknown ns ms n counted.1, counted.0, e)

  pub in_fresh : (old : List ℕ) (f : ℕ) {k : ℕ} → (k ≡ number_of ms n) × (known? ms n ≡ true) → Numbers (ns ++ ms) n old f (record { number = known + k; size = f }) old
  in_fresh old f {k} h = numbers_known (ns ++ ms) n old f (known + k) (number_behind h.0) (known_behind ns ms n counted.1 ∙ h.1)

  unknown : {k : ℕ} → (k ≡ length ms) × (known? ms n ≡ false) → known + k ≡ number_of (ns ++ ms) n
  unknown h = number_behind (h.0 ∙ sym (unknown_most ms n h.1))

pub in_table : (ns ms : List (List ℕ)) (n old : List ℕ) (f : ℕ) {k : ℕ} → (k ≡ number_of ns n) × (known? ns n ≡ true) → Numbers (ns ++ ms) n old f (record { number = k; size = f }) old
in_table ns ms n old f {k} h = numbers_known (ns ++ ms) n old f k (h.0 ∙ sym (number_known ns ms n h.1)) (known_front ns ms n h.1)

pub new_name : (ns ms : List (List ℕ)) (front : List ℕ) (last : ℕ) (old : List ℕ) (f : ℕ) {q p : ℕ} {mid new : List ℕ} → (q ≡ length ns) × (known? ns (front ++ last ∷ []) ≡ false)
    → (p ≡ length ms) × (known? ms (front ++ last ∷ []) ≡ false) → mid ≡ sets old f front → new ≡ set mid (f + length front) (last + 128)
    → Numbers (ns ++ ms) (front ++ last ∷ []) old f (record { number = q + p; size = f + length front + 1 }) new
new_name ns ms front last old f {q} {p} {mid} {new} h j d e =
    let n = front ++ last ∷ [] in
    let k : known? (ns ++ ms) n ≡ false = known_behind ns ms n h.1 ∙ j.1 in
    let one : name_bytes (name_added (ns ++ ms) n) ≡ front ++ (last + 128) ∷ [] = one_added (ns ++ ms) n k ∙ marked_last front last in
    let size : f + length front + 1 ≡ f + length (front ++ (last + 128) ∷ []) = omega (arith, length-append front ((last + 128) ∷ [])) in
    record {
      number = unknown ns ms n q h j;
      size = size ∙ ap (λ (l : List ℕ). f + length l) (sym one);
      fresh = e ∙ ap (λ (l : List ℕ). set l (f + length front) (last + 128)) d ∙ sym (sets_append old f front ((last + 128) ∷ [])) ∙ ap (sets old f) (sym one);
    }

-- ---- a name of the text

pub array_spelled : (w : List ℕ) (array : Bool) → array ≡ true → w ++ 40 ∷ [] ≡ spelled w array
unfolding spelled
array_spelled w array h = rw (h)

pub other_spelled : {w : List ℕ} {array : Bool} (front : List ℕ) (last : ℕ) → array ≡ false → w ≡ front ++ last ∷ [] → plain_name (spelled w array) ≡ true → (front ++ last ∷ [] ≡ spelled w array) × (last < 128)
unfolding spelled
other_spelled {w} {array} front last h e p =
    let whole : spelled w array ≡ front ++ last ∷ [] = rw (h) e in
    (sym whole, low front (plain_low (front ++ last ∷ []) (ap plain_name (sym whole) ∙ p)))
  where
    low : (xs : List ℕ) → every top_clear? (xs ++ last ∷ []) ≡ true → last < 128
    low [] k = ltb-true last 128 (every_first top_clear? last [] k)
    low (x ∷ xs) k = low xs (every_rest top_clear? x (xs ++ last ∷ []) k)

pub none_spelled : (w : List ℕ) {array : Bool} → array ≡ false → length w ≡ 0 → plain_name (spelled w array) ≡ true → ⊥
unfolding spelled
none_spelled w {array} h e p = absurd (omega (arith, plain_some (spelled w array) p, ap length (let z : spelled w array ≡ w = rw (h) in z)))
