-- The scanner, an item at a time: the item that was seen stands first among the items from its place on.
use Rattle.std.specs.Prelude.{ℕ, zero, suc, pred, ◌+◌, ◌-◌, ◌≤◌, ◌<◌, ◌≡◌, Bool, eqb, take, drop, get_or}
use Rattle.std.proofs.Common.{add-zero, sym, ◌∙◌, drop-drop, get_or-drop, take_all}
use native.Mathlib.Omega.{arith}
use Rattle.std.proofs.Math.Path.{refl, ap, subst}
use Rattle.std.proofs.Math.Bool.{true, false}
use mathlib.Core.List.{List, [], ◌∷◌}
use Rattle.std.proofs.Math.Dec.{ltb}
use Rattle.std.proofs.Math.ListN.{length, length-drop}
use borrow.Author.Tests.{eq-eqb, eqb-true, eqb-false, ne_eqb, ltb-true, ltb-false}
use Rattle.paper.specs.Bytes.{pick, run, blank?}
use Rattle.paper.specs.Classes.{line_end, remark}
use Rattle.paper.specs.Tokens.{operator, raw, unreadable, class}
use Rattle.paper.specs.Items.{Item, item, item_at, opens, scan, raw_byte?, raw_from, raw_at}
use Rattle.buffers.specs.Runs.{run_within, run_stops}
use Rattle.enter_scan.specs.declared.Item.{Item as Seen}
use Rattle.enter_scan.specs.declared.RawText.{RawText}
use Rattle.enter_scan.specs.Token.{token_of}
use Rattle.enter_scan.specs.Kinds.{Shape, shape_at, class_of, item_with, item_seen, raw_start, raw_seen}
use Rattle.enter_scan.specs.Sees.{Holds, Sees, token_at}
use Rattle.enter_scan.proofs.Shapes.{item_of, item_shape}
use Rattle.enter_scan.proofs.Sound.{Sound, in_text, shape_sound}

-- the part of a text from a place on
pub rest_part : (s : List ℕ) (a : ℕ) → take (length s - a) (drop a s) ≡ drop a s
rest_part s a = take_all (length s - a) (drop a s) (omega (arith, length-drop a s))

-- ---- the scanner

-- over the bytes of an item
pub scan_over : (n : ℕ) (s : List ℕ) (first : Bool) (p : ℕ) → n ≤ length s → scan n first p s ≡ scan 0 first (p + n) (drop n s)
unfolding scan
scan_over zero s first p h = ap (λ (q : ℕ). scan 0 first q s) (sym (add-zero p))
scan_over (suc n) [] first p h = absurd (omega arith)
scan_over (suc n) (b ∷ s) first p h =
    let e : suc p + n ≡ p + suc n = omega arith in
    scan_over n s first (suc p) (omega arith) ∙ ap (λ (q : ℕ). scan 0 first q (drop n s)) e

blanks_go : (b : ℕ) (s : List ℕ) (first : Bool) (p : ℕ) (x : Bool) → blank? b ≡ x → scan 0 first (suc p) s ≡ scan 0 first (suc p + run blank? s) (drop (run blank? s) s)
    → scan 0 first p (b ∷ s) ≡ scan 0 first (p + run blank? (b ∷ s)) (drop (run blank? (b ∷ s)) (b ∷ s))
unfolding run scan
blanks_go b s first p true e ih =
    let z : suc p + run blank? s ≡ p + suc (run blank? s) = omega arith in
    rw e (ih ∙ ap (λ (q : ℕ). scan 0 first q (drop (run blank? s) s)) z)
blanks_go b s first p false e ih = rw (e, add-zero, e)

-- over blanks
pub scan_blanks : (s : List ℕ) (first : Bool) (p : ℕ) → scan 0 first p s ≡ scan 0 first (p + run blank? s) (drop (run blank? s) s)
unfolding run
scan_blanks [] first p = ap (λ (q : ℕ). scan 0 first q []) (sym (add-zero p))
scan_blanks (b ∷ s) first p = blanks_go b s first p (blank? b) refl (scan_blanks s first (suc p))

pred_over : (n b : ℕ) (s : List ℕ) (first : Bool) (p : ℕ) → 0 < n → n ≤ length (b ∷ s) → scan (pred n) first (suc p) s ≡ scan 0 first (p + n) (drop n (b ∷ s))
pred_over zero b s first p h l = absurd (omega arith)
pred_over (suc n) b s first p h l =
    let e : suc p + n ≡ p + suc n = omega arith in
    scan_over n s first (suc p) (omega arith) ∙ ap (λ (q : ℕ). scan 0 first q (drop n s)) e

-- the items after an item of a class, which is n bytes long at the front of s
abbrev pub after_item : List ℕ → ℕ → ℕ → ℕ → List Item
after_item s p n c = pick (eqb c remark) (raw_at (p + n) (drop n s)) (scan 0 (opens c) (p + n) (drop n s))

-- one item at a byte that is no blank
scan_item : (b : ℕ) (t : List ℕ) (first : Bool) (p : ℕ) (i : Item) → blank? b ≡ false → i ≡ item_at first p (b ∷ t) → 0 < i.size → i.size ≤ length (b ∷ t)
    → scan 0 first p (b ∷ t) ≡ i ∷ after_item (b ∷ t) p i.size (class i.token)
unfolding scan
scan_item b t first p i h e z l =
    let j = item_at first p (b ∷ t) in
    let k : scan (pred i.size) (opens (class i.token)) (suc p) t ≡ scan 0 (opens (class i.token)) (p + i.size) (drop i.size (b ∷ t)) =
    pred_over i.size b t (opens (class i.token)) p z l in
    rw h
    (sym
    (ap (λ (x : Item). x ∷ pick (eqb (class x.token) remark) (raw_at (p + x.size) (drop x.size (b ∷ t))) (scan (pred x.size) (opens (class x.token)) (suc p) t)) e)
    ∙ ap (λ (r : List Item). i ∷ pick (eqb (class i.token) remark) (raw_at (p + i.size) (drop i.size (b ∷ t))) r) k)

-- ---- what the item reader gives

-- the item as the definitions have it, where the text's part stands at o
abbrev pub scanned : List ℕ → ℕ → Bool → Seen → Item
scanned s o first it = item (o + it.at) (it.end - it.at) (token_at s first it)

-- where the blanks end
start : List ℕ → ℕ → ℕ
start s at = at + run blank? (drop at s)

start_within : (s : List ℕ) (at : ℕ) → at ≤ length s → start s at ≤ length s
unfolding start
start_within s at h = omega (arith, run_within blank? (drop at s), length-drop at s)

start_solid : (s : List ℕ) (at : ℕ) → blank? (get_or (drop (start s at) s) 0 0) ≡ false
unfolding start blank?
start_solid s at =
    let r = run blank? (drop at s) in
    let e : at + r + 0 ≡ at + r = omega arith in
    ap blank? (get_or-drop (at + r) s 0 0 ∙ ap (λ (i : ℕ). get_or s i 0) e ∙ sym (get_or-drop at s r 0)) ∙ run_stops blank? (drop at s) refl

end_class : (first : Bool) (s : List ℕ) → length s ≡ 0 → class_of (shape_at first s).kind first ≡ line_end
unfolding shape_at class_of
end_class first [] h = refl
end_class first (b ∷ t) h = absurd (omega arith)

module _ (s : List ℕ) (at : ℕ) (first : Bool) where
  -- the shape after the blanks
  next_shape : Shape
  next_shape = shape_at first (drop (start s at) s)

  seen_as : item_seen s at first ≡ item_with next_shape (start s at)
  unfolding item_seen next_shape start
  seen_as = refl

  sees_with : at ≤ length s → Sees s at first (item_with next_shape (start s at))
  unfolding item_with start next_shape item_seen
  sees_with h =
      let p = at + run blank? (drop at s) in
      let v = shape_sound first (drop p s) in
      let x = shape_at first (drop p s) in
      let w : p ≤ length s = start_within s at h in
      let l : length (drop p s) ≡ length s - p = length-drop p s in
      record {
        seen = refl;
        place = refl;
        classed = v.classed;
        after = omega arith;
        spans = omega arith;
        within = omega (arith, v.fits);
        moves = λ n. moved p x w l v n (end_class first (drop p s)) (ltb p (length s)) refl;
        last = λ e. ended p w l (λ k. v.inner k (sym v.classed ∙ e)) (ltb p (length s)) refl;
        holds = let e : x.size ≡ p + x.size - p = omega arith in subst (λ (n : ℕ). Holds (drop p s) x.kind n) e v.holds;
      }
    where
      moved : (p : ℕ) (x : Shape) → p ≤ length s → length (drop p s) ≡ length s - p → Sound first (drop p s) x → (class (token_of x.kind (drop p s) first) ≡ line_end → ⊥)
          → (length (drop p s) ≡ 0 → class_of x.kind first ≡ line_end) → (b : Bool) → ltb p (length s) ≡ b → p < p + x.size
      moved p x w l v n z true e = omega (arith, ltb-true p (length s) e, v.some (omega (arith, ltb-true p (length s) e)))
      moved p x w l v n z false e = absurd (n (v.classed ∙ z (omega (arith, ltb-false p (length s) e))))

      ended : (p : ℕ) → p ≤ length s → length (drop p s) ≡ length s - p → (0 < length (drop p s) → ⊥) → (b : Bool) → ltb p (length s) ≡ b → p ≡ length s
      ended p w l n true e = absurd (n (omega (arith, ltb-true p (length s) e)))
      ended p w l n false e = omega (arith, ltb-false p (length s) e)

-- what the item reader gives is the next item
pub sees : (s : List ℕ) (at : ℕ) (first : Bool) {it : Seen} → at ≤ length s → it ≡ item_seen s at first → Sees s at first it
sees s at first {it} h e = subst (λ (x : Seen). Sees s at first x) (sym (e ∙ seen_as s at first)) (sees_with s at first h)

-- ---- the items from a place on

front_go : (l : List ℕ) (first : Bool) (p : ℕ) → 0 < length l → blank? (get_or l 0 0) ≡ false
    → scan 0 first p l ≡ item_of first p l (shape_at first l) ∷ after_item l p (shape_at first l).size (class (token_of (shape_at first l).kind l first))
unfolding item
front_go [] first p h b = absurd (omega arith)
front_go (b ∷ t) first p h n =
    let v = shape_sound first (b ∷ t) in
    scan_item b t first p (item_of first p (b ∷ t) (shape_at first (b ∷ t))) n (item_shape first p b t) (v.some h) v.fits

end_go : (l : List ℕ) (first : Bool) (p : ℕ) → length l ≡ 0 → scan 0 first p l ≡ item_of first p l (shape_at first l) ∷ []
unfolding scan shape_at token_of
end_go [] first p h = refl
end_go (b ∷ t) first p h = absurd (omega arith)

-- the items after one that was seen, by its class
abbrev pub after_seen : List ℕ → ℕ → Seen → ℕ → List Item
after_seen s o it c = pick (eqb c remark) (raw_at (o + it.end) (drop it.end s)) (scan 0 (opens c) (o + it.end) (drop it.end s))

module _ (s : List ℕ) (at : ℕ) (first : Bool) (o : ℕ) where
  -- the blanks are passed over
  from_start : scan 0 first (o + at) (drop at s) ≡ scan 0 first (o + start s at) (drop (start s at) s)
  unfolding start
  from_start =
      let r = run blank? (drop at s) in
      let e : o + at + r ≡ o + (at + r) = omega arith in
      scan_blanks (drop at s) first (o + at)
      ∙ ap (λ (q : ℕ). scan 0 first q (drop r (drop at s))) e
      ∙ ap (scan 0 first (o + (at + r))) (drop-drop r at s)

  scanned_as : (x : Shape) → item_of first (o + start s at) (drop (start s at) s) x ≡ scanned s o first (item_with x (start s at))
  unfolding item_with
  scanned_as x =
      let p = start s at in
      let e : x.size ≡ p + x.size - p = omega arith in
      ap (λ (n : ℕ). item (o + p) n (token_of x.kind (drop p s) first)) e

  after_as : (x : Shape) (c : ℕ) → after_item (drop (start s at) s) (o + start s at) x.size c ≡ after_seen s o (item_with x (start s at)) c
  unfolding item_with
  after_as x c =
      let p = start s at in
      let e : o + p + x.size ≡ o + (p + x.size) = omega arith in
      rw (drop-drop x.size p s, e)

  items_inside : start s at < length s → scan 0 first (o + at) (drop at s)
      ≡ scanned s o first (item_with (next_shape s at first) (start s at)) ∷ after_seen s o (item_with (next_shape s at first) (start s at)) (class (token_at s first (item_with (next_shape s at first) (start s at))))
  unfolding next_shape item_with
  items_inside h =
      let p = start s at in
      let x = shape_at first (drop p s) in
      let c = class (token_of x.kind (drop p s) first) in
      from_start
      ∙ front_go (drop p s) first (o + p) (omega (arith, length-drop p s)) (start_solid s at)
      ∙ ap (λ (i : Item). i ∷ after_item (drop p s) (o + p) x.size c) (scanned_as x)
      ∙ ap (λ (r : List Item). scanned s o first (item_with x p) ∷ r) (after_as x c)

  items_over : length s ≤ start s at → scan 0 first (o + at) (drop at s) ≡ scanned s o first (item_with (next_shape s at first) (start s at)) ∷ []
  unfolding next_shape item_with
  items_over h =
      let p = start s at in
      let x = shape_at first (drop p s) in
      from_start
      ∙ end_go (drop p s) first (o + p) (omega (arith, length-drop p s))
      ∙ ap (λ (i : Item). i ∷ []) (scanned_as x)

-- the item that was seen, and those after it
items_after : {s : List ℕ} {at : ℕ} {first : Bool} {it : Seen} (o : ℕ) → Sees s at first it → it.at < length s
    → scan 0 first (o + at) (drop at s) ≡ scanned s o first it ∷ after_seen s o it (class (token_at s first it))
unfolding start
items_after {s} {at} {first} {it} o v h =
    let e : it ≡ item_with (next_shape s at first) (start s at) = v.seen ∙ seen_as s at first in
    items_inside s at first o (omega (arith, v.place))
    ∙ sym (ap (λ (x : Seen). scanned s o first x ∷ after_seen s o x (class (token_at s first x))) e)

-- an item within a statement, or one that opens another: the items after it are scanned from its end on
pub items_next : {s : List ℕ} {at : ℕ} {first : Bool} {it : Seen} (o : ℕ) → Sees s at first it → (class (token_at s first it) ≡ line_end → ⊥) → (class (token_at s first it) ≡ remark → ⊥)
    → scan 0 first (o + at) (drop at s) ≡ scanned s o first it ∷ scan 0 (opens (class (token_at s first it))) (o + it.end) (drop it.end s)
items_next {s} {at} {first} {it} o v n r =
    items_after o v (omega (arith, v.moves n, v.within))
    ∙ ap (λ (b : Bool). scanned s o first it ∷ pick b (raw_at (o + it.end) (drop it.end s)) (scan 0 (opens (class (token_at s first it))) (o + it.end) (drop it.end s)))
    (ne_eqb (class (token_at s first it)) remark r)

-- REM or DATA: raw text comes after it
pub items_raw : {s : List ℕ} {at : ℕ} {first : Bool} {it : Seen} (o : ℕ) → Sees s at first it → class (token_at s first it) ≡ remark
    → scan 0 first (o + at) (drop at s) ≡ scanned s o first it ∷ raw_at (o + it.end) (drop it.end s)
items_raw {s} {at} {first} {it} o v e =
    items_after o v (omega (arith, v.moves (λ z. omega arith), v.within))
    ∙ ap (λ (b : Bool). scanned s o first it ∷ pick b (raw_at (o + it.end) (drop it.end s)) (scan 0 (opens (class (token_at s first it))) (o + it.end) (drop it.end s)))
    (eq-eqb (class (token_at s first it)) remark e)

-- the text's end: no item comes after it
pub items_end : {s : List ℕ} {at : ℕ} {first : Bool} {it : Seen} (o : ℕ) → Sees s at first it → class (token_at s first it) ≡ line_end
    → scan 0 first (o + at) (drop at s) ≡ scanned s o first it ∷ []
unfolding start
items_end {s} {at} {first} {it} o v e =
    let i : it ≡ item_with (next_shape s at first) (start s at) = v.seen ∙ seen_as s at first in
    items_over s at first o (omega (arith, v.place, v.last e)) ∙ sym (ap (λ (x : Seen). scanned s o first x ∷ []) i)

-- ---- raw text

-- what comes after raw text: the line's end, or a 9B that fits nowhere
abbrev pub raw_ending : List ℕ → ℕ → ℕ → Item
raw_ending s o e = pick (eqb e (length s)) (item (o + e) 0 (operator 0x9b)) (item (o + e) 1 unreadable)

start_bounds : (s : List ℕ) (at : ℕ) → at ≤ length s → (at ≤ raw_start s at) × (raw_start s at ≤ length s)
unfolding raw_start blank?
start_bounds s at h = go (eqb (get_or s at 0) 32) refl
  where
    go : (b : Bool) → eqb (get_or s at 0) 32 ≡ b → (at ≤ pick b (suc at) at) × (pick b (suc at) at ≤ length s)
    go true e = (omega arith, in_text s at (omega (arith, eqb-true (get_or s at 0) 32 e)))
    go false e = (omega arith, h)

-- its bytes are in the text
pub raw_within : (s : List ℕ) (at : ℕ) {r : RawText} → at ≤ length s → r ≡ raw_seen s at → (at ≤ r.from) × (r.from ≤ r.end) × (r.end ≤ length s)
unfolding raw_seen
raw_within s at {r} h e =
    let p = raw_start s at in
    let f : r.from ≡ p = ap (λ (x : RawText). x.from) e in
    let g : r.end ≡ p + run raw_byte? (drop p s) = ap (λ (x : RawText). x.end) e in
    let b = start_bounds s at h in
    (omega (arith, b), omega arith, omega (arith, b, run_within raw_byte? (drop p s), length-drop p s))

same_end : (s : List ℕ) (p n : ℕ) → p ≤ length s → eqb n (length (drop p s)) ≡ eqb (p + n) (length s)
same_end s p n h = go (eqb (p + n) (length s)) refl
  where
    l : length (drop p s) ≡ length s - p
    l = length-drop p s

    go : (b : Bool) → eqb (p + n) (length s) ≡ b → eqb n (length (drop p s)) ≡ b
    go true e = eq-eqb n (length (drop p s)) (omega (arith, l, eqb-true (p + n) (length s) e))
    go false e = ne_eqb n (length (drop p s)) (λ z. eqb-false (p + n) (length s) e (omega (arith, l, z)))

ending_go : (o p n : ℕ) (b : Bool) → pick b (item (o + p + n) 0 (operator 0x9b) ∷ []) (item (o + p + n) 1 unreadable ∷ []) ≡ pick b (item (o + (p + n)) 0 (operator 0x9b)) (item (o + (p + n)) 1 unreadable) ∷ []
ending_go o p n true = let e : o + p + n ≡ o + (p + n) = omega arith in rw e
ending_go o p n false = let e : o + p + n ≡ o + (p + n) = omega arith in rw e

from_go : (s : List ℕ) (p o : ℕ) → p ≤ length s → raw_from (o + p) (drop p s)
    ≡ item (o + p) (run raw_byte? (drop p s)) (raw (take (run raw_byte? (drop p s)) (drop p s))) ∷ raw_ending s o (p + run raw_byte? (drop p s)) ∷ []
unfolding raw_from
from_go s p o h =
    let n = run raw_byte? (drop p s) in
    let i = item (o + p) n (raw (take n (drop p s))) in
    ap (λ (b : Bool). i ∷ pick b (item (o + p + n) 0 (operator 0x9b) ∷ []) (item (o + p + n) 1 unreadable ∷ [])) (same_end s p n h)
    ∙ ap (λ (r : List Item). i ∷ r) (ending_go o p n (eqb (p + n) (length s)))

start_go : (s : List ℕ) (at o : ℕ) (b : Bool) → pick b (raw_from (suc (o + at)) (drop 1 (drop at s))) (raw_from (o + at) (drop at s)) ≡ raw_from (o + pick b (suc at) at) (drop (pick b (suc at) at) s)
start_go s at o true =
    let e : suc (o + at) ≡ o + suc at = omega arith in
    let d : at + 1 ≡ suc at = omega arith in
    ap (λ (q : ℕ). raw_from q (drop 1 (drop at s))) e ∙ ap (raw_from (o + suc at)) (drop-drop 1 at s ∙ ap (λ (k : ℕ). drop k s) d)
start_go s at o false = refl

start_raw : (s : List ℕ) (at o : ℕ) → raw_at (o + at) (drop at s) ≡ raw_from (o + raw_start s at) (drop (raw_start s at) s)
unfolding raw_at raw_start
start_raw s at o =
    let z : at + 0 ≡ at = omega arith in
    let e : get_or (drop at s) 0 0 ≡ get_or s at 0 = get_or-drop at s 0 0 ∙ ap (λ (i : ℕ). get_or s i 0) z in
    ap (λ (b : ℕ). pick (blank? b) (raw_from (suc (o + at)) (drop 1 (drop at s))) (raw_from (o + at) (drop at s))) e
    ∙ start_go s at o (blank? (get_or s at 0))

-- raw text after REM or DATA
pub items_of_raw : (s : List ℕ) (at o : ℕ) {r : RawText} → at ≤ length s → r ≡ raw_seen s at
    → raw_at (o + at) (drop at s) ≡ item (o + r.from) (r.end - r.from) (raw (take (r.end - r.from) (drop r.from s))) ∷ raw_ending s o r.end ∷ []
unfolding raw_seen
items_of_raw s at o {r} h e =
    let p = raw_start s at in
    let n = run raw_byte? (drop p s) in
    let m : n ≡ p + n - p = omega arith in
    start_raw s at o
    ∙ from_go s p o (start_bounds s at h).1
    ∙ ap (λ (k : ℕ). item (o + p) k (raw (take k (drop p s))) ∷ raw_ending s o (p + n) ∷ []) m
    ∙ sym (ap (λ (x : RawText). item (o + x.from) (x.end - x.from) (raw (take (x.end - x.from) (drop x.from s))) ∷ raw_ending s o x.end ∷ []) e)
