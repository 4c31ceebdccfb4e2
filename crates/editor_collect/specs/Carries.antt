-- The lines of a store carried down one after the other: each is written below the place of the next one, so that what is read is as it was.
use Prim.Native.Nat.{ℕ, ◌+◌, ◌-◌, ◌≤◌, ◌<◌}
use Rattle.std.proofs.Common.{arith, ◌∙◌, length-take, length-drop, drop_of_length-le, get_or-drop, get_or-take, drop_at, take_all, take-take}
use Rattle.std.specs.Prelude.{◌≡◌, refl, T, get_or}
use Rattle.std.proofs.Math.Path.{subst, sym, ap, ap₂}
use mathlib.Core.List.{List, [], ◌∷◌, ◌++◌, map, append-nil, append_assoc}
use Rattle.std.proofs.Math.ListN.{length, take, drop, length-append}
use Rattle.std.proofs.Math.Seq.{drop-drop, take_at}
use Rattle.paper.specs.Bytes.{every, joined}
use Rattle.paper.specs.Store.{lines_from, lines_in, whole_line?, overwritten}
use Rattle.paper.specs.Collect.{renumbered}
use Rattle.laws.specs.Parts.{drop_take}
use Rattle.list_renumber.specs.Lines.{Ready, Carried}
use Rattle.editor_collect.specs.Lines.{Next, next_line}

-- each of some lines is ready
abbrev pub AllReady : List (List ℕ) → List (List ℕ) → List ℕ → List (List ℕ) → Type 0
AllReady ns new numbers [] = Unit {0}
AllReady ns new numbers (l ∷ ls) = Ready ns new numbers l × AllReady ns new numbers ls

-- over some names
pub record AllPortable (numbers : List ℕ) (ls : List (List ℕ)) : Type 0 where
  pub names : List (List ℕ)
  pub new : List (List ℕ)
  pub ready : AllReady names new numbers ls

-- over whatever names: the lines over the new names stand at the front of the store, and have so many bytes
abbrev pub AllCarried : List ℕ → List (List ℕ) → List ℕ → ℕ → List ℕ → Type 0
AllCarried numbers ls store size after =
    (ns new : List (List ℕ)) → AllReady ns new numbers ls → (size ≡ length (joined (map (renumbered ns new) ls))) × (after ≡ overwritten (joined (map (renumbered ns new) ls)) store)

-- the used bytes from a place on
abbrev pub from_on : List ℕ → ℕ → ℕ → List ℕ
from_on store used from = drop from (take used store)

-- before a line: those left are ready; and the text of those before it, written at the front, with that of the rest is the text of all
pub record Carrying (ns new : List (List ℕ)) (numbers old : List ℕ) (used from to : ℕ) (out : List ℕ) : Type 0 where
  pub ready : AllReady ns new numbers (lines_in (from_on old used from))
  pub text : List ℕ
  pub place : to ≡ length text
  pub bytes : out ≡ overwritten text old
  pub whole : text ++ joined (map (renumbered ns new) (lines_in (from_on old used from))) ≡ joined (map (renumbered ns new) (lines_in (take used old)))

pub carrying_first : {ns new : List (List ℕ)} {numbers : List ℕ} (old : List ℕ) (used : ℕ) → AllReady ns new numbers (lines_in (take used old)) → Carrying ns new numbers old used 0 0 old
unfolding overwritten
carrying_first old used r = record { ready = r; text = []; place = refl; bytes = refl; whole = refl }

module _ {ns new : List (List ℕ)} {numbers old : List ℕ} {used from to : ℕ} {out : List ℕ} (k : Carrying ns new numbers old used from to out) (b : to ≤ from) where
  pub carrying_still : (at : ℕ) → to ≤ at → to ≤ length old → drop at out ≡ drop at old
  unfolding overwritten
  carrying_still at h l =
      let e : length k.text + (at - to) ≡ at = omega (arith, k.place) in
      ap (drop at) k.bytes
      ∙ ap (λ (i : ℕ). drop i (k.text ++ drop (length k.text) old)) (sym e)
      ∙ sym (drop-drop (at - to) (length k.text) (k.text ++ drop (length k.text) old))
      ∙ ap (drop (at - to)) (drop_at k.text (drop (length k.text) old) (length k.text) refl)
      ∙ drop-drop (at - to) (length k.text) old
      ∙ ap (λ (i : ℕ). drop i old) e

  module _ (h : from < used) (l : used ≤ length old) (w : T (every whole_line? (lines_in (from_on old used from)))) where
    pub carrying_line : Next (from_on old used from)
    carrying_line = next_line (from_on old used from) (omega (arith, length-drop from (take used old), length-take used old)) w

    -- its length byte is read where it stood
    pub carrying_size : get_or out (from + 2) 0 ≡ get_or (from_on old used from) 2 0
    carrying_size =
        let two : from + 2 < used = omega (arith, carrying_line.long, carrying_line.fits, length-drop from (take used old), length-take used old) in
        sym (get_or-drop from out 2 0)
        ∙ ap (λ (z : List ℕ). get_or z 2 0) (carrying_still from b (omega arith))
        ∙ get_or-drop from old 2 0
        ∙ sym (get_or-take used old (from + 2) 0 two)
        ∙ sym (get_or-drop from (take used old) 2 0)

    -- and so are all its bytes
    pub carrying_bytes : (size : ℕ) → size ≡ get_or (from_on old used from) 2 0 → {room : List ℕ} → room ≡ drop to out → take size (drop (from - to) room) ≡ take (get_or (from_on old used from) 2 0) (from_on old used from)
    carrying_bytes size e {room} r =
        let m : size ≤ used - from = omega (arith, e, carrying_line.fits, length-drop from (take used old), length-take used old) in
        let i : to + (from - to) ≡ from = omega arith in
        ap (λ (z : List ℕ). take size (drop (from - to) z)) r
        ∙ ap (take size) (drop-drop (from - to) to out ∙ ap (λ (j : ℕ). drop j out) i ∙ carrying_still from b (omega arith))
        ∙ sym (ap (take size) (drop_take from used old) ∙ take-take size (used - from) (drop from old) m)
        ∙ ap (λ (j : ℕ). take j (from_on old used from)) e

    next_place : (size : ℕ) → size ≡ get_or (from_on old used from) 2 0 → drop (get_or (from_on old used from) 2 0) (from_on old used from) ≡ from_on old used (from + size)
    next_place size e = ap (λ (j : ℕ). drop j (from_on old used from)) (sym e) ∙ drop-drop size from (take used old)

    first_ready : AllReady ns new numbers (take (get_or (from_on old used from) 2 0) (from_on old used from) ∷ lines_in (drop (get_or (from_on old used from) 2 0) (from_on old used from)))
    first_ready = subst (AllReady ns new numbers) carrying_line.first k.ready

    -- the line is ready
    pub carrying_ready : (size : ℕ) → size ≡ get_or (from_on old used from) 2 0 → {room : List ℕ} → room ≡ drop to out → Ready ns new numbers (take size (drop (from - to) room))
    carrying_ready size e r = subst (Ready ns new numbers) (sym (carrying_bytes size e r)) first_ready.0

    pub carrying_next : (size : ℕ) → size ≡ get_or (from_on old used from) 2 0 → {room : List ℕ} → room ≡ drop to out → {n : ℕ} {written : List ℕ} → Carried numbers (take size (drop (from - to) room)) room n written
        → {after : List ℕ} → after ≡ take to out ++ written → Carrying ns new numbers old used (from + size) (to + n) after
    unfolding overwritten joined
    carrying_next size e {room} r {n} {written} c {after} a =
        let u : List ℕ = from_on old used from in
        let line : List ℕ = take (get_or u 2 0) u in
        let again : List ℕ = renumbered ns new line in
        let s : take size (drop (from - to) room) ≡ line = carrying_bytes size e r in
        let f = c ns new (carrying_ready size e r) in
        let x : n ≡ length again = f.0 ∙ ap (λ (z : List ℕ). length (renumbered ns new z)) s in
        let y : written ≡ again ++ drop (length again) (drop to out) = f.1 ∙ ap₂ (λ (z v : List ℕ). overwritten (renumbered ns new z) v) s r in
        let p : take to out ≡ k.text = ap (take to) k.bytes ∙ take_at k.text (drop (length k.text) old) to (sym k.place) in
        let q : drop to out ≡ drop to old = carrying_still to (omega arith) (omega arith) in
        let z : to + length again ≡ length (k.text ++ again) = omega (arith, k.place, length-append k.text again) in
        let next : Carrying ns new numbers old used (from + size) (to + n) after = record {
          ready = subst (λ (v : List ℕ). AllReady ns new numbers (lines_in v)) (next_place size e) first_ready.1;
          text = k.text ++ again;
          place = omega (arith, x, z);
          bytes =
              a ∙ ap₂ (λ (v o : List ℕ). v ++ o) p y
              ∙ ap (λ (v : List ℕ). k.text ++ (again ++ v)) (ap (drop (length again)) q ∙ drop-drop (length again) to old ∙ ap (λ (j : ℕ). drop j old) z)
              ∙ sym (append_assoc k.text again (drop (length (k.text ++ again)) old));
          whole =
              append_assoc k.text again _
              ∙ ap (λ (v : List ℕ). k.text ++ (again ++ joined (map (renumbered ns new) (lines_in v)))) (sym (next_place size e))
              ∙ ap (λ (ls : List (List ℕ)). k.text ++ joined (map (renumbered ns new) ls)) (sym carrying_line.first)
              ∙ k.whole;
        } in
        next

    -- the lines after it are whole
    pub carrying_whole : (size : ℕ) → size ≡ get_or (from_on old used from) 2 0 → T (every whole_line? (lines_in (from_on old used (from + size))))
    carrying_whole size e = subst (λ (v : List ℕ). T (every whole_line? (lines_in v))) (next_place size e) carrying_line.others

none_left : (s : List ℕ) → s ≡ [] → lines_in s ≡ []
unfolding lines_in lines_from
none_left s e = ap lines_in e

-- no line is left
pub carrying_done : {ns new : List (List ℕ)} {numbers old : List ℕ} {used from to : ℕ} {out : List ℕ} → Carrying ns new numbers old used from to out → used ≤ from
    → (to ≡ length (joined (map (renumbered ns new) (lines_in (take used old))))) × (out ≡ overwritten (joined (map (renumbered ns new) (lines_in (take used old)))) old)
unfolding joined
carrying_done {ns} {new} {numbers} {old} {used} {from} {to} {out} k h =
    let e : lines_in (from_on old used from) ≡ [] = none_left (from_on old used from) (drop_of_length-le (take used old) {i = from} (omega (arith, length-take used old))) in
    let t : k.text ≡ joined (map (renumbered ns new) (lines_in (take used old))) = sym (append-nil k.text) ∙ ap (λ (ls : List (List ℕ)). k.text ++ joined (map (renumbered ns new) ls)) (sym e) ∙ k.whole in
    (k.place ∙ ap length t, k.bytes ∙ ap (λ (z : List ℕ). overwritten z old) t)

-- a part of a buffer from a place to its end, and what a buffer is once that part is written
pub last_part : (out : List ℕ) (to : ℕ) → take (length out - to) (drop to out) ≡ drop to out
last_part out to = take_all (length out - to) (drop to out) (omega (arith, length-drop to out))

pub put_back : (out written : List ℕ) (to : ℕ) → take to out ++ (written ++ drop (length out - to) (drop to out)) ≡ take to out ++ written
put_back out written to =
    ap (λ (z : List ℕ). take to out ++ (written ++ z)) (drop_of_length-le (drop to out) {i = length out - to} (omega (arith, length-drop to out))) ∙ ap (λ (z : List ℕ). take to out ++ z) (append-nil written)
