-- Bytes moved inside one list, one at a time: down from the first on, or up from the last on.
use Rattle.std.specs.Prelude.{◌≡◌, refl, Bool, true, false, List, [], ◌∷◌, ◌++◌, ℕ, suc, ◌+◌, ◌-◌, ◌≤◌, ◌<◌, length, get_or, set, take, drop, eqb}
use Rattle.std.proofs.Common.{sym, ap, ap₂, ◌∙◌, subst, append_assoc, add-suc, suc-add, le_of_lt, add-one, arith, length-drop, length-append, take-append-drop, length-take-le, take-suc, drop-cons, get_or-drop, get_or-take, drop-drop, eqb-true}
use Rattle.std.proofs.Math.ListN.{get_or-append}
use Rattle.std.proofs.lemmas.List.Edits.{sets, sets-eq, drop-paste, length-paste}
use Rattle.std.proofs.Math.Seq.{paste, paste-zero, paste-suc, append_snoc}
use Rattle.std.proofs.lemmas.List.{set_at}
use Rattle.paper.specs.Bytes.{pick}
use Rattle.store_gap.specs.Moves.{bytes_moved}

-- ---- what a copy leaves as it was

-- the bytes after it
paste_after : (d : List ℕ) (at : ℕ) (t : List ℕ) (n k : ℕ) → at + n ≤ length d → n ≤ length t → at + n ≤ k → get_or (paste d at t n) k 0 ≡ get_or d k 0
paste_after d at t n k h g l =
    let e : at + n + (k - (at + n)) ≡ k = omega arith in
    let a : at ≤ length d = omega arith in
    ap (λ (j : ℕ). get_or (paste d at t n) j 0) (sym e)
    ∙ sym (get_or-drop (at + n) (paste d at t n) (k - (at + n)) 0)
    ∙ ap (λ (x : List ℕ). get_or x (k - (at + n)) 0) (drop-paste d at t n a g)
    ∙ get_or-drop (at + n) d (k - (at + n)) 0
    ∙ ap (λ (j : ℕ). get_or d j 0) e

-- the bytes before it
paste_before : (d : List ℕ) (at : ℕ) (t : List ℕ) (n k : ℕ) → at ≤ length d → k < at → get_or (paste d at t n) k 0 ≡ get_or d k 0
paste_before d at t n k h l =
    let q : k < length (take at d) = omega (arith, length-take-le at d h) in
    let r : k < length (take at d ++ take n t) = omega (arith, length-append (take at d) (take n t)) in
    get_or-append (take at d ++ take n t) (drop (at + n) d) 0 k r
    ∙ get_or-append (take at d) (take n t) 0 k q
    ∙ get_or-take at d k 0 l

-- the number of bytes
pub moved_length : (l d : List ℕ) (at from n : ℕ) → at + n ≤ length d → from + n ≤ length d → l ≡ paste d at (drop from d) n → length l ≡ length d
moved_length l d at from n h g e = ap length e ∙ length-paste d at (drop from d) n h (omega (arith, length-drop from d))

-- all of them, where the copy stays at its place
paste_same : (d : List ℕ) (at n : ℕ) → d ≡ paste d at (drop at d) n
paste_same d at n =
    sym
    (ap (λ (x : List ℕ). take at d ++ take n (drop at d) ++ x) (sym (drop-drop n at d))
    ∙ append_assoc (take at d) (take n (drop at d)) (drop n (drop at d))
    ∙ ap (λ (x : List ℕ). take at d ++ x) (take-append-drop n (drop at d))
    ∙ take-append-drop at d)

-- so where a gap of one size becomes one of the same size
paste_still : (d : List ℕ) (at old new n : ℕ) → old ≡ new → d ≡ paste d (at + new) (drop (at + old) d) n
paste_still d at old new n e = subst (λ (k : ℕ). d ≡ paste d (at + new) (drop (at + k) d) n) (sym e) (paste_same d (at + new) n)

tail_go : (d : List ℕ) (at old new n : ℕ) (b : Bool) → eqb old new ≡ b → paste d (at + new) (drop (at + old) d) (pick b 0 n) ≡ paste d (at + new) (drop (at + old) d) n
tail_go d at old new n true e = sym (paste-zero d (at + new) (drop (at + old) d)) ∙ paste_still d at old new n (eqb-true old new e)
tail_go d at old new n false e = refl

-- the bytes that a resize moves are enough: all that stands after the gap is then in its place
pub tail_placed : (d l : List ℕ) (at old new used r : ℕ) → (r ≡ bytes_moved at old new used) × (l ≡ paste d (at + new) (drop (at + old) d) r)
    → l ≡ paste d (at + new) (drop (at + old) d) (used - (at + old))
unfolding bytes_moved
tail_placed d l at old new used r e = e.1 ∙ ap (paste d (at + new) (drop (at + old) d)) e.0 ∙ tail_go d at old new (used - (at + old)) (eqb old new) refl

-- ---- down

-- one byte more
pub turn_down : (l d : List ℕ) (at from i : ℕ) → at ≤ from → from + i < length d → l ≡ paste d at (drop from d) i
    → set l (at + i) (get_or l (from + i) 0) ≡ paste d at (drop from d) (i + 1)
turn_down l d at from i h g e =
    ap (λ (x : List ℕ). set x (at + i) (get_or x (from + i) 0)) e
    ∙ ap (set (paste d at (drop from d) i) (at + i)) (paste_after d at (drop from d) i (from + i) (omega arith) (omega (arith, length-drop from d)) (omega arith) ∙ sym (get_or-drop from d i 0))
    ∙ paste-suc d at (drop from d) i 0 (omega arith) (omega (arith, length-drop from d))
    ∙ ap (paste d at (drop from d)) (sym (add-one i))

-- ---- up

-- one byte more in front of those that are copied
paste_front : (d : List ℕ) (a : ℕ) (t : List ℕ) (m x : ℕ) → a < length d → set (paste d (suc a) t m) a x ≡ paste d a (x ∷ t) (suc m)
paste_front d a t m x h =
    let y : ℕ = get_or d a 0 in
    let tail : List ℕ = drop (suc a + m) d in
    let p : paste d (suc a) t m ≡ take a d ++ y ∷ (take m t ++ tail) =
    ap (λ (z : List ℕ). z ++ take m t ++ tail) (take-suc d a 0 h)
    ∙ append_assoc (take a d ++ (y ∷ [])) (take m t) tail
    ∙ append_snoc (take a d) y (take m t ++ tail) in
    ap (λ (z : List ℕ). set z a x) p
    ∙ set_at (take a d) y (take m t ++ tail) x a (length-take-le a d (le_of_lt h))
    ∙ sym (append_assoc (take a d) (x ∷ take m t) tail)
    ∙ ap (λ (k : ℕ). take a d ++ (x ∷ take m t) ++ drop k d) (suc-add a m ∙ sym (add-suc a m))

up_go : (d : List ℕ) (at from n i : ℕ) → from ≤ at → i < n → at + n ≤ length d
    → set (paste d (at + suc i) (drop (from + suc i) d) (n - suc i)) (at + i) (get_or (paste d (at + suc i) (drop (from + suc i) d) (n - suc i)) (from + i) 0)
    ≡ paste d (at + i) (drop (from + i) d) (n - i)
up_go d at from n i h l g =
    let v : get_or (paste d (at + suc i) (drop (from + suc i) d) (n - suc i)) (from + i) 0 ≡ get_or d (from + i) 0 =
    paste_before d (at + suc i) (drop (from + suc i) d) (n - suc i) (from + i) (omega arith) (omega arith) in
    let w : n - i ≡ suc (n - suc i) = omega arith in
    ap (set (paste d (at + suc i) (drop (from + suc i) d) (n - suc i)) (at + i)) v
    ∙ ap (λ (a : ℕ). set (paste d a (drop (from + suc i) d) (n - suc i)) (at + i) (get_or d (from + i) 0)) (add-suc at i)
    ∙ paste_front d (at + i) (drop (from + suc i) d) (n - suc i) (get_or d (from + i) 0) (omega arith)
    ∙ ap (λ (a : ℕ). paste d (at + i) (get_or d (from + i) 0 ∷ drop a d) (suc (n - suc i))) (add-suc from i)
    ∙ ap (λ (z : List ℕ). paste d (at + i) z (suc (n - suc i))) (sym (drop-cons d (from + i) 0 (omega arith)))
    ∙ ap (paste d (at + i) (drop (from + i) d)) (sym w)

-- no byte yet
pub up_start : (d : List ℕ) (at from n : ℕ) → d ≡ paste d (at + n) (drop (from + n) d) (n - n)
up_start d at from n =
    let w : n - n ≡ 0 = omega arith in
    paste-zero d (at + n) (drop (from + n) d) ∙ ap (paste d (at + n) (drop (from + n) d)) (sym w)

-- one byte more
pub turn_up : (l d : List ℕ) (at from n i : ℕ) → from ≤ at → at + n ≤ length d → 0 < i → i ≤ n → l ≡ paste d (at + i) (drop (from + i) d) (n - i)
    → set l (at + (i - 1)) (get_or l (from + (i - 1)) 0) ≡ paste d (at + (i - 1)) (drop (from + (i - 1)) d) (n - (i - 1))
turn_up l d at from n i h g p q e =
    let s : i ≡ suc (i - 1) = omega arith in
    ap (λ (z : List ℕ). set z (at + (i - 1)) (get_or z (from + (i - 1)) 0)) (e ∙ ap (λ (k : ℕ). paste d (at + k) (drop (from + k) d) (n - k)) s)
    ∙ up_go d at from n (i - 1) h (omega arith) g

-- all bytes, as many as are counted
pub up_end : (l d : List ℕ) (at from n i r : ℕ) → i ≤ 0 → r + i ≡ n → l ≡ paste d (at + i) (drop (from + i) d) (n - i) → l ≡ paste d at (drop from d) r
up_end l d at from n i r z c e =
    let a : at + i ≡ at = omega arith in
    let f : from + i ≡ from = omega arith in
    let m : n - i ≡ r = omega arith in
    e ∙ ap (λ (k : ℕ). paste d k (drop (from + i) d) (n - i)) a ∙ ap (λ (k : ℕ). paste d at (drop k d) (n - i)) f ∙ ap (paste d at (drop from d)) m

-- ---- a gap closed

-- what stands after it is then set at its place
pub gap_closed : (d l : List ℕ) (to from n r : ℕ) → to ≤ from → from + n ≤ length d → (r ≡ bytes_moved to (from - to) 0 (from + n)) × (l ≡ paste d (to + 0) (drop (to + (from - to)) d) r) → l ≡ sets d to (take n (drop from d))
gap_closed d l to from n r h g e =
    let a : to + 0 ≡ to = omega arith in
    let b : to + (from - to) ≡ from = omega arith in
    let k : from + n - (to + (from - to)) ≡ n = omega arith in
    let m : length (take n (drop from d)) ≡ n = length-take-le n (drop from d) (omega (arith, length-drop from d)) in
    tail_placed d l to (from - to) 0 (from + n) r e
    ∙ ap₂ (λ (x y : ℕ). paste d x (drop y d) (from + n - (to + (from - to)))) a b
    ∙ ap (paste d to (drop from d)) k
    ∙ ap (λ (x : ℕ). take to d ++ take n (drop from d) ++ drop (to + x) d) (sym m)
    ∙ sym (sets-eq (take n (drop from d)) d to (omega arith))
