-- Parts of a slice, as far as they are there.
use native.Mathlib.Numerals.{add-one}
use Prim.Native.Nat.{ℕ, zero, suc, ◌+◌, ◌-◌, ◌≤◌, ◌<◌, min}
use native.Mathlib.Omega.{arith}
use mathlib.Core.Path.{◌≡◌, refl, sym, ap, ◌∙◌}
use mathlib.Core.Bool.{Bool, true, false}
use mathlib.Core.List.{List, [], ◌∷◌}
use lib.Dec.{leb}
use lib.ListN.{length, take, drop, get_or, drop_of_length-le, length-drop, get_or-eq_default}
use lib.Seq.{take_all}
use borrow.Author.Tests.{leb-true, leb-false, lt-ltb, le-ltb}
use Rattle.paper.specs.Bytes.{bytes}
use Rattle.paper.specs.Words.{word, word_of, statements, read_operators, functions}
use Rattle.paper.specs.Tokens.{read_as}
use Rattle.tokens.specs.declared.Source.TheVariants.{Fixed}
use Rattle.tokens.specs.declared.Part.{Part}
use Rattle.tokens.specs.Tables.{tabulated, total, read_words, word_size, starts, statement_lengths, operator_lengths}
use Rattle.tokens.specs.Parts.{fixed_part, statement_part, word_part, operator_part}
use Rattle.tokens.proofs.Keys.{at_key, Rest, down, past_all}

pub cut_same : {first last : ℕ} (s : List ℕ) (from end : ℕ) → last ≡ min end (length s) → first ≡ min from last → take (last - first) (drop first s) ≡ take (end - from) (drop from s)
cut_same {first} {last} s from end e f = go (leb from last) refl (leb end (length s)) refl
  where
    go : (a : Bool) → leb from last ≡ a → (b : Bool) → leb end (length s) ≡ b → take (last - first) (drop first s) ≡ take (end - from) (drop from s)
    go true p true q =
        let x : first ≡ from = omega (arith, leb-true from last p) in
        let y : last ≡ end = omega (arith, leb-true end (length s) q) in
        rw (x, y)
    go true p false q =
        let x : first ≡ from = omega (arith, leb-true from last p) in
        let k : length (drop from s) ≤ last - from = omega (arith, length-drop from s, leb-false end (length s) q) in
        let j : length (drop from s) ≤ end - from = omega (arith, length-drop from s, leb-false end (length s) q) in
        rw x (take_all (last - from) (drop from s) k ∙ sym (take_all (end - from) (drop from s) j))
    go false p true q =
        let z : last - first ≡ 0 = omega (arith, leb-false from last p) in
        let y : end - from ≡ 0 = omega (arith, leb-true end (length s) q, leb-false from last p) in
        rw (z, y)
    go false p false q =
        let z : last - first ≡ 0 = omega (arith, leb-false from last p) in
        let l : length s ≤ from = omega (arith, leb-false from last p, leb-false end (length s) q) in
        let d : drop from s ≡ [] = drop_of_length-le s l in
        let n : 0 ≤ end - from = omega arith in
        rw (z, d) (sym (take_all (end - from) [] n))

-- ---- where words begin

-- an entry is the function's value
tabulated_at : (f : ℕ → ℕ) (n k i d : ℕ) → i < n → get_or (tabulated f n k) i d ≡ f (k + i)
unfolding tabulated
tabulated_at f zero k i d h = absurd (omega arith)
tabulated_at f (suc n) k zero d h = let e : k ≡ k + 0 = omega arith in ap f e
tabulated_at f (suc n) k (suc i) d h = let e : suc k + i ≡ k + suc i = omega arith in tabulated_at f n (suc k) i d (omega arith) ∙ ap f e

-- the next word begins past this one
next_start : (ls : List ℕ) (t : ℕ) → t < length ls → total (take (suc t) ls) ≡ total (take t ls) + get_or ls t 0
unfolding total
next_start [] t h = absurd (omega arith)
next_start (l ∷ ls) zero h = omega arith
next_start (l ∷ ls) (suc t) h = omega (arith, next_start ls t (omega arith))

module _ (ls : List ℕ) {from end : ℕ} (t : ℕ) (h : t < length ls) (e : from ≡ total (take t ls)) (f : end ≡ total (take (t + 1) ls)) where
  start_of : from ≡ get_or (starts ls) t 0
  unfolding starts
  start_of = let z : 0 + t ≡ t = omega arith in e ∙ sym (tabulated_at (λ i. total (take i ls)) (length ls) 0 t 0 h ∙ ap (λ (i : ℕ). total (take i ls)) z)

  end_of : end ≡ from + get_or ls t 0
  end_of = f ∙ ap (λ (i : ℕ). total (take i ls)) (add-one t) ∙ next_start ls t h ∙ ap (λ (x : ℕ). x + get_or ls t 0) (sym e)

-- the lengths as numbers
unfoldable pub statement_sizes : List ℕ
statement_sizes = 3 ∷ 4 ∷ 5 ∷ 5 ∷ 4 ∷ 5 ∷ 3 ∷ 2 ∷ 3 ∷ 4 ∷ 4 ∷ 0 ∷ 5 ∷ 4 ∷ 3 ∷ 4 ∷ 3 ∷ 5 ∷ 3 ∷ 3 ∷ 3 ∷ 3 ∷ 3 ∷ 4 ∷ 4 ∷ 4 ∷ 6 ∷ 4 ∷ 5 ∷ 3 ∷ 2 ∷ 4 ∷ 5 ∷ 3 ∷ 4 ∷ 7 ∷ 6 ∷ 3 ∷ 4 ∷ 3 ∷ 1 ∷ 3 ∷ 3 ∷ 8 ∷ 4 ∷ 8 ∷ 3 ∷ 6 ∷ 8 ∷ 6 ∷ 5 ∷ 6 ∷ 5 ∷ 5 ∷ []

unfoldable pub operator_sizes : List ℕ
operator_sizes = 1 ∷ 0 ∷ 1 ∷ 1 ∷ 0 ∷ 4 ∷ 5 ∷ 2 ∷ 4 ∷ 4 ∷ 1 ∷ 2 ∷ 2 ∷ 2 ∷ 1 ∷ 1 ∷ 1 ∷ 1 ∷ 1 ∷ 1 ∷ 1 ∷ 1 ∷ 3 ∷ 2 ∷ 3 ∷ 1 ∷ 1 ∷ 0 ∷ 0 ∷ 0 ∷ 0 ∷ 0 ∷ 0 ∷ 0 ∷ 0 ∷ 0 ∷ 0 ∷ 0 ∷ 0 ∷ 0 ∷ 0 ∷ 0 ∷ 0 ∷ 4 ∷ 4 ∷ 3 ∷ 3 ∷ 3 ∷ 3 ∷ 3 ∷ 3 ∷ 3 ∷ 4 ∷ 3 ∷ 3 ∷ 3 ∷ 3 ∷ 3 ∷ 4 ∷ 3 ∷ 3 ∷ 3 ∷ 3 ∷ 6 ∷ 5 ∷ 5 ∷ 5 ∷ []

statement_sizes_right : statement_sizes ≡ statement_lengths
unfolding statement_sizes statement_lengths tabulated word_size word_of statements word bytes
statement_sizes_right = refl

operator_sizes_right : operator_sizes ≡ operator_lengths
unfolding operator_sizes operator_lengths tabulated word_size word_of read_words read_operators functions word bytes
operator_sizes_right = refl

-- so a start is a sum of numbers
pub statement_start_at : (k : ℕ) {t : ℕ} → t ≡ k → total (take k statement_sizes) ≡ total (take t statement_lengths)
statement_start_at k e = ap (λ (ls : List ℕ). total (take k ls)) statement_sizes_right ∙ at_key (λ t. total (take t statement_lengths)) k e

pub operator_start_at : (k : ℕ) {i : ℕ} → i ≡ k → total (take k operator_sizes) ≡ total (take i operator_lengths)
operator_start_at k e = ap (λ (ls : List ℕ). total (take k ls)) operator_sizes_right ∙ at_key (λ i. total (take i operator_lengths)) k e

pub statement_bytes : 223 ≡ total statement_lengths
unfolding total statement_sizes
statement_bytes = ap total statement_sizes_right

pub operator_bytes : 132 ≡ total operator_lengths
unfolding total operator_sizes
operator_bytes = ap total operator_sizes_right

pub statement_start_else : (t : ℕ) → Rest (down 0x36) t → 223 ≡ total (take t statement_lengths)
unfolding statement_lengths tabulated
statement_start_else t r = statement_bytes ∙ sym (ap total (take_all t statement_lengths (past_all 0x36 t r)))

pub operator_start_else : (i : ℕ) → Rest (down 0x43) i → 132 ≡ total (take i operator_lengths)
unfolding operator_lengths tabulated
operator_start_else i r = operator_bytes ∙ sym (ap total (take_all i operator_lengths (past_all 0x43 i r)))

-- ---- parts

pub statement_part_at : {from end : ℕ} (t : ℕ) → t < 0x36 → from ≡ total (take t statement_lengths) → end ≡ total (take (t + 1) statement_lengths)
    → ◌≡◌ {A = Part} (record { source = Fixed; from = from; end = end }) (statement_part t)
unfolding statement_part fixed_part statement_lengths tabulated
statement_part_at {from} {end} t h e f =
    let p : from ≡ get_or (starts statement_lengths) t 0 = start_of statement_lengths t h e f in
    let q : end ≡ get_or (starts statement_lengths) t 0 + get_or statement_lengths t 0 = end_of statement_lengths t h e f ∙ ap (λ (x : ℕ). x + get_or statement_lengths t 0) p in
    cc

pub statement_part_past : (t : ℕ) → 0x36 ≤ t → fixed_part 0 0 ≡ statement_part t
unfolding statement_part starts statement_lengths tabulated
statement_part_past t h = sym (rw (get_or-eq_default (starts statement_lengths) 0 h, get_or-eq_default statement_lengths 0 h))

pub part_none : {r : ℕ} (t : ℕ) → r ≡ read_as t → r < 0x12 → fixed_part 0 0 ≡ operator_part t
unfolding operator_part word_part
part_none {r} t e h = let l : read_as t < 0x12 = omega arith in sym (rw (lt-ltb (read_as t) 0x12 l))

pub part_word : {r from size : ℕ} (t : ℕ) → r ≡ read_as t → 0x12 ≤ r → from ≡ get_or (starts operator_lengths) (r - 0x12) 0 → size ≡ get_or operator_lengths (r - 0x12) 0
    → fixed_part (total statement_lengths + from) size ≡ operator_part t
unfolding operator_part word_part
part_word {r} {from} {size} t e h f g =
    let l : 0x12 ≤ read_as t = omega arith in
    ap (λ (x : ℕ). fixed_part (total statement_lengths + x) size) (f ∙ ap (λ (x : ℕ). get_or (starts operator_lengths) (x - 0x12) 0) e)
    ∙ ap (fixed_part (total statement_lengths + get_or (starts operator_lengths) (read_as t - 0x12) 0)) (g ∙ ap (λ (x : ℕ). get_or operator_lengths (x - 0x12) 0) e)
    ∙ sym (rw (le-ltb (read_as t) 0x12 l))

pub operator_part_at : {r from end : ℕ} (t : ℕ) → r ≡ read_as t → 0x12 ≤ r → r - 0x12 < 0x43 → from ≡ total (take (r - 0x12) operator_lengths) → end ≡ total (take (r - 0x12 + 1) operator_lengths)
    → ◌≡◌ {A = Part} (record { source = Fixed; from = 223 + from; end = 223 + end }) (operator_part t)
unfolding fixed_part operator_lengths tabulated
operator_part_at {r} {from} {end} t p h k e f =
    let a : 223 + from ≡ total statement_lengths + from = omega (arith, statement_bytes) in
    let b : 223 + end ≡ total statement_lengths + from + get_or operator_lengths (r - 0x12) 0 = omega (arith, statement_bytes, end_of operator_lengths (r - 0x12) k e f) in
    let z : ◌≡◌ {A = Part} (record { source = Fixed; from = 223 + from; end = 223 + end }) (fixed_part (total statement_lengths + from) (get_or operator_lengths (r - 0x12) 0)) = cc in
    z ∙ part_word t p h (start_of operator_lengths (r - 0x12) k e f) refl

pub operator_part_past : {r : ℕ} (t : ℕ) → r ≡ read_as t → 0x12 ≤ r → 0x43 ≤ r - 0x12 → fixed_part 223 0 ≡ operator_part t
unfolding starts operator_lengths tabulated
operator_part_past {r} t p h k =
    ap (λ (n : ℕ). fixed_part n 0) (statement_bytes ∙ plus_none (total statement_lengths))
    ∙ part_word t p h (sym (get_or-eq_default (starts operator_lengths) 0 k)) (sym (get_or-eq_default operator_lengths 0 k))
  where
    plus_none : (n : ℕ) → n ≡ n + 0
    plus_none n = omega arith
