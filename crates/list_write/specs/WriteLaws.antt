-- Bytes written further down in the same bytes.
use Rattle.std.specs.Prelude.{ℕ, suc, ◌+◌, ◌-◌, ◌≤◌, ◌≡◌, List, [], ◌∷◌, take, drop, set}
use Rattle.std.proofs.Common.{arith, add-one, sym, ap, ap₂, ◌∙◌, drop-drop, drop-set-lt}
use Rattle.std.proofs.lemmas.List.Edits.{sets}
use Rattle.laws.specs.Parts.{drop_take}

-- an offset and the bytes after it, moved
pub offset_moved : (d l : List ℕ) (to from n o : ℕ) → to ≤ from → (first : List ℕ) → first ≡ set d to o → l ≡ sets first (to + 1) (take (2 + n) (drop (from + 1) first)) → l ≡ sets d to (o ∷ drop 1 (take (3 + n) (drop from d)))
offset_moved d l to from n o h first e f =
    let t : 3 + n - 1 ≡ 2 + n = omega arith in
    let u : drop 1 (take (3 + n) (drop from d)) ≡ take (2 + n) (drop (from + 1) d) = drop_take 1 (3 + n) (drop from d) ∙ ap (λ (x : ℕ). take x (drop 1 (drop from d))) t ∙ ap (take (2 + n)) (drop-drop 1 from d) in
    let s : drop (from + 1) first ≡ drop (from + 1) d = ap (drop (from + 1)) e ∙ drop-set-lt (from + 1) d to o (omega arith) in
    f
    ∙ ap (λ (x : List ℕ). sets first (to + 1) (take (2 + n) x)) s
    ∙ ap₂ (λ (x : List ℕ) (i : ℕ). sets x i (take (2 + n) (drop (from + 1) d))) e (add-one to)
    ∙ ap (sets (set d to o) (suc to)) (sym u)

-- an offset and a token, one after the other
pub word_written : (d a l : List ℕ) (to o t : ℕ) → a ≡ set d to o → l ≡ set a (to + 1) t → l ≡ sets d to (o ∷ t ∷ [])
word_written d a l to o t e f = f ∙ ap₂ (λ (x : List ℕ) (i : ℕ). set x i t) e (add-one to)

-- and a number's bytes after them
pub target_written : (d a b l : List ℕ) (to o t : ℕ) (vs ws : List ℕ) → a ≡ set d to o → b ≡ set a (to + 1) t → l ≡ sets b (to + 2) vs → vs ≡ ws → l ≡ sets d to (o ∷ t ∷ ws)
target_written d a b l to o t vs ws e f g h =
    let n : to + 2 ≡ suc (suc to) = omega arith in
    let k : b ≡ set (set d to o) (suc to) t = word_written d a b to o t e f in
    g ∙ ap (λ (x : List ℕ). sets x (to + 2) vs) k ∙ ap₂ (λ (i : ℕ) (x : List ℕ). sets (set (set d to o) (suc to) t) i x) n h
