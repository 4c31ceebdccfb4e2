-- The error line of a refused text, as it is written, and the test of whether it is kept.
use Rattle.std.specs.Prelude.{ℕ, zero, suc, ◌+◌, ◌-◌, ◌/◌, ◌%◌, ◌≤◌, ◌<◌, Bool, ◌&&◌, ◌||◌, drop, get_or}
use Rattle.std.proofs.Common.{add-zero, add-suc, suc-add, ◌∙◌, length-drop, length-take-le}
use native.Mathlib.Omega.{arith}
use Rattle.std.proofs.Math.Path.{◌≡◌, refl, sym, ap}
use Rattle.std.proofs.Math.Bool.{true, false, not}
use mathlib.Core.List.{List, [], ◌∷◌, ◌++◌}
use Rattle.std.proofs.Math.Dec.{eqb, eqb-suc-suc}
use Rattle.std.proofs.Math.ListN.{length, take, set, length-append}
use Rattle.std.proofs.Math.Seq.{sets}
use borrow.Author.Tests.{eq-eqb, ne_eqb}
use Rattle.std.specs.Int.{w16, to_le_bytes}
use Rattle.std.specs.List.{list_any}
use Rattle.paper.specs.Bytes.{pick, run, every, blank}
use Rattle.paper.specs.Items.{raw_byte?}
use Rattle.paper.specs.Line.{direct_number, direct_number?}
use Rattle.paper.specs.Errors.{flipped, marked_at, error_line, keepable?}
use Rattle.buffers.specs.Sets.{sets_append, front}
use Rattle.enter_item.specs.Draft.{low}
use Rattle.enter_item.specs.DraftLaws.{patched, high_byte}
use Rattle.enter_error.specs.Keeps.{keeps?}

-- ---- the test

-- a run is the whole list where every entry passes
whole_run : (q : ℕ → Bool) (s : List ℕ) → eqb (run q s) (length s) ≡ every q s
unfolding run every
whole_run q [] = refl
whole_run q (x ∷ s) = go (q x) (whole_run q s)
  where
    go : (b : Bool) → eqb (run q s) (length s) ≡ every q s → eqb (pick b (suc (run q s)) 0) (suc (length s)) ≡ b && every q s
    go true h = eqb-suc-suc (run q s) (length s) ∙ h
    go false h = ne_eqb 0 (suc (length s)) (λ e. omega arith)

module _ (text : List ℕ) (keep : Bool) (n k place : ℕ) where
  -- not kept: wrong lines are not; no number; not 4; a 1B
  pub off : not keep ≡ true → false ≡ keeps? keep text n k place
  unfolding keeps?
  off h = go keep h
    where
      go : (b : Bool) → not b ≡ true → false ≡ b && (not (direct_number? n) && (eqb k 4 && keepable? place text))
      go true h = let z : ◌≡◌ {A = ℕ} 0 1 = cc in absurd (omega arith)
      go false h = refl

  and_false : (b : Bool) → false ≡ b && false
  and_false true = refl
  and_false false = refl

  pub without_number : n ≡ direct_number → false ≡ keeps? keep text n k place
  unfolding keeps? direct_number?
  without_number h = rw (eq-eqb n direct_number h) (and_false keep)

  module _ (on : not keep ≡ false) (some : n ≡ direct_number → ⊥) where
    tested : keeps? keep text n k place ≡ eqb k 4 && keepable? place text
    unfolding keeps? direct_number?
    tested = rw (ne_eqb n direct_number some) (go keep on)
      where
        go : (b : Bool) → not b ≡ false → b && (eqb k 4 && keepable? place text) ≡ eqb k 4 && keepable? place text
        go true h = refl
        go false h = let z : ◌≡◌ {A = ℕ} 0 1 = cc in absurd (omega arith)

    pub another_number : (k ≡ 4 → ⊥) → false ≡ keeps? keep text n k place
    another_number h = sym (tested ∙ rw (ne_eqb k 4 h))

    module _ (four : k ≡ 4) (b : ℕ) (is : b ≡ get_or text place blank) where
      pub marked_1b : b ≡ 0x1b → false ≡ keeps? keep text n k place
      unfolding keepable?
      marked_1b h = sym (tested ∙ rw (eq-eqb k 4 four, ← is, eq-eqb b 0x1b h) (sym (and_false (every raw_byte? text))))

      pub no_9b : (b ≡ 0x1b → ⊥) → (e : ℕ) → e ≡ run raw_byte? text → eqb e (length text) ≡ keeps? keep text n k place
      unfolding keepable?
      no_9b h e ran = sym (tested ∙ rw (eq-eqb k 4 four, ← is, ne_eqb b 0x1b h, ran, whole_run raw_byte? text) (and_true (every raw_byte? text)))
        where
          and_true : (c : Bool) → c && true ≡ c
          and_true true = refl
          and_true false = refl

-- a byte that is there does not depend on what stands for one that is not
pub same_byte : (s : List ℕ) (i d e : ℕ) → i < length s → get_or s i d ≡ get_or s i e
same_byte [] i d e h = absurd (omega arith)
same_byte (x ∷ s) zero d e h = refl
same_byte (x ∷ s) (suc i) d e h = same_byte s i d e (omega arith)

-- ---- the line

-- a byte put over one of some bytes that were written, or after them
sets_mark : (l : List ℕ) (i : ℕ) (r : List ℕ) (a v : ℕ) → a ≤ length r → set (sets l i r) (i + a) v ≡ sets l i (take a r ++ v ∷ drop (suc a) r)
sets_mark l i [] zero v h = ap (λ (k : ℕ). set l k v) (add-zero i)
sets_mark l i [] (suc a) v h = absurd (omega arith)
sets_mark l i (x ∷ r) zero v h = ap (λ (k : ℕ). set (sets (set l i x) (suc i) r) k v) (add-zero i) ∙ patched l i x v r refl refl
sets_mark l i (x ∷ r) (suc a) v h =
    ap (λ (k : ℕ). set (sets (set l i x) (suc i) r) k v) (add-suc i a ∙ sym (suc-add i a)) ∙ sets_mark (set l i x) (suc i) r a v (omega arith)

-- how long a marked text is
module _ (place : ℕ) (text : List ℕ) where
  lengths : length (marked_at place text) ≡ length (take place text) + suc (length (drop (suc place) text))
  unfolding marked_at
  lengths = length-append (take place text) _

  pub size_within : place < length text → length text ≡ length (marked_at place text)
  size_within h = omega (arith, lengths, length-take-le place text (omega arith), length-drop (suc place) text)

  pub size_past : place ≤ length text → length text ≤ place → length text + 1 ≡ length (marked_at place text)
  size_past h k = omega (arith, lengths, length-take-le place text h, length-drop (suc place) text)

  marked_few : place ≤ length text → length (marked_at place text) ≤ length text + 1
  marked_few h = omega (arith, lengths, length-take-le place text h, length-drop (suc place) text)

-- a number's two bytes, the low one first
pub two_bytes : (n : ℕ) → to_le_bytes w16 n ≡ low n ∷ low (n / 256) ∷ []
unfolding low
two_bytes n = refl

-- the bytes that were put, one after another, are the line
module _ (line text : List ℕ) (n place : ℕ) (lawful : n ≤ direct_number) (fits : place ≤ length text) (short : length text ≤ 120) where
  abbrev marked : List ℕ
  marked = marked_at place text

  pub sized : (size : ℕ) → size ≡ length marked → 6 + size ≤ 127
  sized size h = omega (arith, marked_few place text fits)

  pub error_written : 127 ≤ length line → {l₁ l₂ l₃ l₄ l₅ l₆ l₇ l₈ : List ℕ} {a b c d m size : ℕ} → size ≡ length marked → m ≡ flipped (get_or text place blank) → l₁ ≡ set line 0 a → a ≡ low n → l₂ ≡ set l₁ 1 b → b ≡ low (n / 256)
      → l₃ ≡ set l₂ 2 c → c ≡ low (6 + size) → l₄ ≡ set l₃ 3 d → d ≡ low (6 + size) → l₅ ≡ set l₄ 4 0x37 → l₆ ≡ sets l₅ 5 text → l₇ ≡ set l₆ (5 + place) m → l₈ ≡ set l₇ (6 + size - 1) 0x9b
      → (6 + size ≡ length (error_line n marked)) × (take (6 + size) l₈ ≡ error_line n marked)
  unfolding error_line low marked_at
  error_written room {l₁} {l₂} {l₃} {l₄} {l₅} {l₆} {l₇} {l₈} {a} {b} {c} {d} {m} {size} es em p₁ ea p₂ eb p₃ ec p₄ ed p₅ p₆ p₇ p₈ =
      let few = sized size es in
      let head : l₅ ≡ set (set (set (set (set line 0 (n % 256)) 1 (n / 256)) 2 (6 + length marked)) 3 (6 + length marked)) 4 0x37 =
      cc (high_byte n lawful, low_size size es) in
      let body : l₇ ≡ sets l₅ 5 marked = p₇ ∙ ap (λ (l : List ℕ). set l (5 + place) m) p₆ ∙ ap (set (sets l₅ 5 text) (5 + place)) em ∙ sets_mark l₅ 5 text place _ fits in
      let end : 6 + size - 1 ≡ 5 + length marked = omega arith in
      let whole : l₈ ≡ sets line 0 (error_line n marked) =
      p₈ ∙ ap (λ (l : List ℕ). set l (6 + size - 1) 0x9b) body ∙ ap (λ (k : ℕ). set (sets l₅ 5 marked) k 0x9b) end
      ∙ sym (sets_append l₅ 5 marked (0x9b ∷ [])) ∙ ap (λ (l : List ℕ). sets l 5 (marked ++ 0x9b ∷ [])) head in
      let long : 6 + size ≡ length (error_line n marked) = omega (arith, length-append marked (0x9b ∷ [])) in
      (long, ap (λ (k : ℕ). take k l₈) long ∙ ap (take (length (error_line n marked))) whole ∙ front line (error_line n marked) (omega arith))
    where
      low_size : (size : ℕ) → size ≡ length marked → (6 + size) % 256 ≡ 6 + length marked
      low_size size h = omega (arith, sized size h)

-- every byte of a text may stand in a run of raw bytes where none is 9B
pub every_raw : (s : List ℕ) → every raw_byte? s ≡ not (list_any (λ b. eqb b 0x9b) s)
unfolding every raw_byte?
every_raw [] = refl
every_raw (b ∷ s) = go (eqb b 0x9b) (every_raw s)
  where
    go : (is : Bool) → every raw_byte? s ≡ not (list_any (λ b. eqb b 0x9b) s) → not is && every raw_byte? s ≡ not (is || list_any (λ b. eqb b 0x9b) s)
    go true h = refl
    go false h = h
