-- What stands at a place of a text, by its first bytes.
use Prim.Native.Nat.{ℕ, suc, ◌+◌, ◌≤◌, ◌<◌}
use native.Mathlib.Omega.{arith}
use mathlib.Core.Path.{◌≡◌, refl, sym, ap, ◌∙◌}
use mathlib.Core.Bool.{Bool, true, false, ◌&&◌, ◌||◌}
use mathlib.Core.List.{List, [], ◌∷◌}
use lib.Dec.{eqb}
use lib.ListN.{length, drop, get_or, drop_of_length-le}
use lib.Seq.{get_or-drop, drop-cons}
use borrow.Author.Tests.{eq-eqb, ne_eqb}
use Rattle.paper.specs.Bytes.{pick, digit?, letter?, blank?, run}
use Rattle.paper.specs.Items.{raw_byte?}
use Rattle.enter_scan.specs.declared.Item.{Item}
use Rattle.enter_scan.specs.declared.Kind.TheVariants.{Statement, End}
use Rattle.enter_scan.specs.Kinds.{Shape, shape, name_shape, number_shape, string_shape, symbol_shape, shape_at, item_with, item_seen, raw_start, raw_seen}

pub at_end : (first : Bool) (s : List ℕ) (at : ℕ) → length s ≤ at → record { kind = End; at = at; end = at } ≡ item_with (shape_at first (drop at s)) at
unfolding item_with shape_at
at_end first s at h = let z : at ≡ at + 0 = omega arith in let d : drop at s ≡ [] = drop_of_length-le s h in sym (rw d (ap (λ (e : ℕ). record { kind = End; at = at; end = e }) (sym z)))

-- the shape at a byte, where c follows it
shape_by : Bool → ℕ → ℕ → List ℕ → Shape
shape_by first b c l =
    pick (letter? b) (name_shape first l)
    (pick (digit? b || (eqb b 46 && digit? c)) (number_shape l)
    (pick (eqb b 34) (string_shape l)
    (pick (eqb b 63 && first) (shape (Statement (record { 0 = 0x28 })) 1) (symbol_shape b c))))

shape_cons : (first : Bool) (b c : ℕ) (t : List ℕ) → c ≡ get_or t 0 0 → shape_at first (b ∷ t) ≡ shape_by first b c (b ∷ t)
unfolding shape_at shape_by
shape_cons first b c t e = sym (ap (λ (x : ℕ). shape_by first b x (b ∷ t)) e)

shape_of : (first : Bool) (b c : ℕ) (l t : List ℕ) → l ≡ b ∷ t → c ≡ get_or t 0 0 → shape_at first l ≡ shape_by first b c l
shape_of first b c l t p e = ap (shape_at first) p ∙ shape_cons first b c t e ∙ sym (ap (shape_by first b c) p)

module _ (first : Bool) (s : List ℕ) (at : ℕ) {b : ℕ} (h : at < length s) (e : b ≡ get_or s at 0) where
  next_byte : get_or s (at + 1) 0 ≡ get_or (drop (suc at) s) 0 0
  next_byte = let z : at + 1 ≡ suc at + 0 = omega arith in ap (λ (i : ℕ). get_or s i 0) z ∙ sym (get_or-drop (suc at) s 0 0)

  there : {c : ℕ} → c ≡ get_or s (at + 1) 0 → shape_at first (drop at s) ≡ shape_by first b c (drop at s)
  there {c} n = shape_of first b c (drop at s) (drop (suc at) s) (drop-cons s at 0 h ∙ ap (λ (x : ℕ). x ∷ drop (suc at) s) (sym e)) (n ∙ next_byte)

  as_there : {i : Item} {x : Shape} → i ≡ item_with x at → shape_at first (drop at s) ≡ x → i ≡ item_with (shape_at first (drop at s)) at
  as_there q p = q ∙ ap (λ (y : Shape). item_with y at) (sym p)

  pub at_name : {i : Item} → letter? b ≡ true → i ≡ item_with (name_shape first (drop at s)) at → i ≡ item_with (shape_at first (drop at s)) at
  unfolding shape_by
  at_name l q = as_there q (there refl ∙ rw l)

  pub at_number : {i : Item} {c : ℕ} → c ≡ get_or s (at + 1) 0 → letter? b ≡ false → (digit? b || (eqb b 46 && digit? c)) ≡ true → i ≡ item_with (number_shape (drop at s)) at → i ≡ item_with (shape_at first (drop at s)) at
  unfolding shape_by
  at_number n l d q = as_there q (there n ∙ rw (l, d))

  pub at_string : {i : Item} {c : ℕ} → c ≡ get_or s (at + 1) 0 → letter? b ≡ false → (digit? b || (eqb b 46 && digit? c)) ≡ false → b ≡ 34 → i ≡ item_with (string_shape (drop at s)) at
      → i ≡ item_with (shape_at first (drop at s)) at
  unfolding shape_by
  at_string n l d m q = as_there q (there n ∙ rw (l, d, eq-eqb b 34 m))

  pub at_print : {c : ℕ} → c ≡ get_or s (at + 1) 0 → letter? b ≡ false → (digit? b || (eqb b 46 && digit? c)) ≡ false → (b ≡ 34 → ⊥) → (eqb b 63 && first) ≡ true
      → record { kind = Statement (record { 0 = 0x28 }); at = at; end = at + 1 } ≡ item_with (shape_at first (drop at s)) at
  unfolding shape_by item_with
  at_print n l d m k = as_there refl (there n ∙ rw (l, d, ne_eqb b 34 m, k))

  pub at_symbol : {i : Item} {c : ℕ} → c ≡ get_or s (at + 1) 0 → letter? b ≡ false → (digit? b || (eqb b 46 && digit? c)) ≡ false → (b ≡ 34 → ⊥) → (eqb b 63 && first) ≡ false
      → i ≡ item_with (symbol_shape b (get_or s (at + 1) 0)) at → i ≡ item_with (shape_at first (drop at s)) at
  unfolding shape_by
  at_symbol n l d m k q = as_there (q ∙ ap (λ (x : ℕ). item_with (symbol_shape b x) at) (sym n)) (there n ∙ rw (l, d, ne_eqb b 34 m, k))

pub next_seen : {i : Item} {start : ℕ} (first : Bool) (s : List ℕ) (at : ℕ) → start ≡ at + run blank? (drop at s) → i ≡ item_with (shape_at first (drop start s)) start → i ≡ item_seen s at first
unfolding item_seen
next_seen first s at e q = q ∙ ap (λ (p : ℕ). item_with (shape_at first (drop p s)) p) e

pub raw_code : {from end : ℕ} (s : List ℕ) (at : ℕ) → from ≡ raw_start s at → end ≡ from + run raw_byte? (drop from s) → record { from = from; end = end } ≡ raw_seen s at
unfolding raw_seen
raw_code {from} {end} s at e f =
    ap (λ (x : ℕ). record { from = from; end = x }) f ∙ ap (λ (x : ℕ). record { from = x; end = x + run raw_byte? (drop x s) }) e
