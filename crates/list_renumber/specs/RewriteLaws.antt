-- What holds before each piece while a line is rewritten. Everything is written below the place that is read next: what is read is as it was.
use Prim.Native.Nat.{ℕ, suc, ◌+◌, ◌-◌, ◌/◌, ◌%◌, ◌≤◌, ◌<◌}
use native.Mathlib.Omega.{arith}
use Rattle.std.specs.Prelude.{◌≡◌, refl, drop}
use Rattle.std.proofs.Common.{subst, ◌∙◌, length-append, length-drop, drop-drop, take-take, length-take-le}
use Rattle.std.proofs.Math.Path.{sym, ap, ap₂}
use mathlib.Core.List.{List, [], ◌∷◌, ◌++◌, append-nil, append_assoc}
use Rattle.std.proofs.Math.ListN.{length, take, get_or, set, length-take}
use Rattle.std.proofs.Math.Seq.{sets, get_or-take, get_or-drop}
use Rattle.std.proofs.lemmas.List.{set_comm}
use Rattle.paper.specs.Line.{to_next, token_bytes, tokens_from, line_bytes, line_number, line_tokens}
use Rattle.paper.specs.Store.{overwritten}
use Rattle.laws.specs.Parts.{drop_take, drop_sets}
use Rattle.buffers.specs.Sets.{sets_append, overwrites}
use Rattle.list_pieces.specs.declared.Piece.{Piece}
use Rattle.list_pieces.specs.Pieces.{piece_at, size_of, end_after}
use Rattle.list_measure.specs.Numbers.{new_size, piece_bytes, Passing}
use Rattle.list_mark.specs.Walks.{tokens_at, none_past, stands_first}
use Rattle.list_measure.proofs.PassingLaws.{fits, passing_shorter, passing_step}
use Rattle.list_renumber.specs.Lines.{Moving}
use Rattle.list_renumber.specs.OverLaws.{passing_long, passing_bytes}

-- ---- the line in the room

-- its rest from a place on
rest_in : (room : List ℕ) (from size at : ℕ) → drop at (take size (drop from room)) ≡ take (size - at) (drop (from + at) room)
rest_in room from size at = drop_take at size (drop from room) ∙ ap (take (size - at)) (drop-drop at from room)

-- a piece of it
piece_in : (room : List ℕ) (from size at n : ℕ) → at + n ≤ size → take n (drop at (take size (drop from room))) ≡ take n (drop (from + at) room)
piece_in room from size at n h = ap (take n) (rest_in room from size at) ∙ take-take n (size - at) (drop (from + at) room) (omega arith)

-- what is written from a place on leaves a byte before it as it was
set_under : (l : List ℕ) (i : ℕ) (vs : List ℕ) (j a : ℕ) → j < i → set (sets l i vs) j a ≡ sets (set l j a) i vs
set_under l i [] j a h = refl
set_under l i (v ∷ vs) j a h = set_under (set l i v) (suc i) vs j a (omega arith) ∙ ap (λ (x : List ℕ). sets x (suc i) vs) (set_comm l i j v a (λ e. omega arith))

-- ---- before each piece

pub record Rewriting (ns new : List (List ℕ)) (numbers body old : List ℕ) (at end to : ℕ) (out u : List ℕ) : Type 0 where
  pub passing : Passing ns new numbers at end u
  pub below : to ≤ at
  pub text : List ℕ
  pub place : to ≡ 3 + length text
  pub bytes : out ≡ sets old 3 text
  pub whole : text ++ token_bytes new to (tokens_from ns 0 at end u) ≡ body

pub rewriting_first : {ns new : List (List ℕ)} {numbers l : List ℕ} (old : List ℕ) → Moving ns new numbers l → Rewriting ns new numbers (token_bytes new 3 (line_tokens ns l)) old 3 3 3 old (drop 3 l)
unfolding line_tokens
rewriting_first {ns} {new} {numbers} {l} old m = record {
  passing = record { numbered = m.over.numbered; written = stands_first ns l m.over.formed; passes = m.passes };
  below = omega arith;
  text = [];
  place = refl;
  bytes = refl;
  whole = refl;
}

module _ {ns new : List (List ℕ)} {numbers body old : List ℕ} {at end to : ℕ} {out u : List ℕ} (k : Rewriting ns new numbers body old at end to out u) where
  -- the rest of the line is as it was
  pub rewriting_still : (from size : ℕ) → drop at (take size (drop from out)) ≡ drop at (take size (drop from old))
  rewriting_still from size =
      rest_in out from size at
      ∙ ap (λ (x : List ℕ). take (size - at) (drop (from + at) x)) k.bytes
      ∙ ap (take (size - at)) (drop_sets (from + at) old 3 k.text (omega (arith, k.below, k.place)))
      ∙ sym (rest_in old from size at)

pub rewriting_next : {ns new : List (List ℕ)} {numbers body old : List ℕ} {at end to : ℕ} {out : List ℕ} (line : List ℕ) → Rewriting ns new numbers body old at end to out (drop at line)
    → {c : Piece} → at < length line → piece_at at end (drop at line) ≡ c
    → {o : ℕ} → (at ≡ end → o ≡ to + new_size numbers c + to_next new (tokens_at ns line (at + size_of c) (end_after end (drop at line) c)))
    → {after : List ℕ} → after ≡ sets out to (piece_bytes numbers o (take (size_of c) (drop at line)) c)
    → {more stop step : ℕ} → more ≡ new_size numbers c → stop ≡ end_after end (drop at line) c → step ≡ size_of c
    → Rewriting ns new numbers body old (at + step) stop (to + more) after (drop (at + step) line)
rewriting_next {ns} {new} {numbers} {body} {old} {at} {end} {to} {out} line k {c} h e {o} f {after} w {more} {stop} {step} m g s =
    let b : List ℕ = piece_bytes numbers o (take (size_of c) (drop at line)) c in
    let n : length b ≡ new_size numbers c = passing_long line k.passing c h e o in
    let t = passing_bytes line k.passing c h e o to f in
    let x : token_bytes new (to + new_size numbers c) (tokens_at ns line (at + size_of c) (end_after end (drop at line) c)) ≡ token_bytes new (to + more) (tokens_at ns line (at + step) stop) =
    ap₂ (λ (i j : ℕ). token_bytes new (to + i) (tokens_at ns line (at + j) (end_after end (drop at line) c))) (sym m) (sym s) ∙ ap (λ (i : ℕ). token_bytes new (to + more) (tokens_at ns line (at + step) i)) (sym g) in
    record {
      passing = passing_step line k.passing h e g s;
      below = omega (arith, k.below, m, s, passing_shorter line k.passing c h e);
      text = k.text ++ b;
      place = omega (arith, k.place, m, n, length-append k.text b);
      bytes = w ∙ ap₂ (λ (y : List ℕ) (i : ℕ). sets y i b) k.bytes k.place ∙ sym (sets_append old 3 k.text b);
      whole = append_assoc k.text b _ ∙ ap (λ (y : List ℕ). k.text ++ (b ++ y)) (sym x) ∙ ap (λ (y : List ℕ). k.text ++ y) (sym t) ∙ k.whole;
    }

-- a line that is read as a part of the room
pub line_read : (room : List ℕ) (from size : ℕ) → from + size ≤ length room → (take (from + size - from) (drop from room) ≡ take size (drop from room)) × (length (take (from + size - from) (drop from room)) ≡ size)
line_read room from size h =
    let z : from + size - from ≡ size = omega arith in
    let e : take (from + size - from) (drop from room) ≡ take size (drop from room) = ap (λ (k : ℕ). take k (drop from room)) z in
    (e, ap length e ∙ length-take-le size (drop from room) (omega (arith, length-drop from room)))

-- the same where the line is read in the room as it is by now
module _ {ns new : List (List ℕ)} {numbers body old : List ℕ} {at end to : ℕ} {out : List ℕ} (from size : ℕ) (line : List ℕ) (is : line ≡ take size (drop from out)) (k : Rewriting ns new numbers body old at end to out (drop at (take size (drop from old)))) where
  still : drop at line ≡ drop at (take size (drop from old))
  still = ap (drop at) is ∙ rewriting_still k from size

  -- what is read is what stood there
  pub rewriting_here : Rewriting ns new numbers body old at end to out (drop at line)
  rewriting_here = subst (Rewriting ns new numbers body old at end to out) (sym still) k

  pub rewriting_turn : {c : Piece} → at < length line → length line ≡ size → piece_at at end (drop at line) ≡ c
      → {o : ℕ} → (at ≡ end → o ≡ to + new_size numbers c + to_next new (tokens_at ns line (at + size_of c) (end_after end (drop at line) c)))
      → {after : List ℕ} → after ≡ sets out to (piece_bytes numbers o (take (size_of c) (drop (from + at) out)) c)
      → {more stop step : ℕ} → more ≡ new_size numbers c → stop ≡ end_after end (drop at line) c → step ≡ size_of c
      → Rewriting ns new numbers body old (at + step) stop (to + more) after (drop (at + step) (take size (drop from old)))
  rewriting_turn {c} h z e {o} f {after} w {more} {stop} {step} m g s =
      let i : take (size_of c) (drop (from + at) out) ≡ take (size_of c) (drop at line) = sym (ap (λ (x : List ℕ). take (size_of c) (drop at x)) is ∙ piece_in out from size at (size_of c) (omega (arith, z, fits line rewriting_here.passing c h e))) in
      let j : drop (at + step) line ≡ drop (at + step) (take size (drop from old)) = sym (drop-drop step at line) ∙ ap (drop step) still ∙ drop-drop step at (take size (drop from old)) in
      subst (Rewriting ns new numbers body old (at + step) stop (to + more) after) j
      (rewriting_next line rewriting_here h e f (w ∙ ap (λ (y : List ℕ). sets out to (piece_bytes numbers o y c)) i) m g s)

-- ---- all is written

module _ (ns new : List (List ℕ)) (numbers room : List ℕ) (from size : ℕ) (long : 3 ≤ size) (there : from + size ≤ length room) where
  abbrev original : List ℕ
  original = take size (drop from room)

  number_bytes_again : (low high : ℕ) → low < 256 → low ≡ get_or room from 0 → high ≡ get_or room (from + 1) 0 → (line_number (take size (drop from room)) % 256 ≡ low) × (line_number (take size (drop from room)) / 256 ≡ high)
  unfolding line_number
  number_bytes_again low high b e f =
      let x : get_or (take size (drop from room)) 0 0 ≡ low = get_or-take size (drop from room) 0 0 (omega arith) ∙ get_or-drop from room 0 0 ∙ (let z : from + 0 ≡ from = omega arith in ap (λ (i : ℕ). get_or room i 0) z) ∙ sym e in
      let y : get_or (take size (drop from room)) 1 0 ≡ high = get_or-take size (drop from room) 1 0 (omega arith) ∙ get_or-drop from room 1 0 ∙ sym f in
      (omega (arith, x, y), omega (arith, x, y))

  pub rewriting_done : {at end to : ℕ} {out : List ℕ} → Rewriting ns new numbers (token_bytes new 3 (line_tokens ns (take size (drop from room)))) room at end to out (drop at (take size (drop from room)))
      → size ≤ at → to ≤ size → (low high : ℕ) → low < 256 → low ≡ get_or room from 0 → high ≡ get_or room (from + 1) 0
      → {first second third : List ℕ} → first ≡ set out 0 low → second ≡ set first 1 high → third ≡ set second 2 to
      → (to ≡ length (line_bytes new (line_number (take size (drop from room))) (line_tokens ns (take size (drop from room))))) × (third ≡ overwritten (line_bytes new (line_number (take size (drop from room))) (line_tokens ns (take size (drop from room)))) room)
  unfolding line_bytes token_bytes
  rewriting_done {at} {end} {to} {out} k h t low high b e f {first} {second} {third} p q r =
      let l : List ℕ = take size (drop from room) in
      let body : List ℕ = token_bytes new 3 (line_tokens ns l) in
      let n = number_bytes_again low high b e f in
      let none : length l ≤ at = omega (arith, length-take size (drop from room)) in
      let x : k.text ≡ body = sym (append-nil k.text) ∙ ap (λ (ts : _). k.text ++ token_bytes new to ts) (sym (none_past ns l at end none)) ∙ k.whole in
      let y : to ≡ 3 + length body = k.place ∙ ap (λ (z : List ℕ). 3 + length z) x in
      let o : out ≡ sets room 3 body = k.bytes ∙ ap (sets room 3) x in
      let w : third ≡ sets room 0 (low ∷ high ∷ to ∷ body) =
      r ∙ ap (λ (z : List ℕ). set z 2 to) (q ∙ ap (λ (z : List ℕ). set z 1 high) (p ∙ ap (λ (z : List ℕ). set z 0 low) o ∙ set_under room 3 body 0 low (omega arith)) ∙ set_under (set room 0 low) 3 body 1 high (omega arith))
      ∙ set_under (set (set room 0 low) 1 high) 3 body 2 to (omega arith) in
      let v : low ∷ high ∷ to ∷ body ≡ line_number l % 256 ∷ line_number l / 256 ∷ (3 + length body) ∷ body = ap₂ (λ (i j : ℕ). i ∷ j ∷ to ∷ body) (sym n.0) (sym n.1) ∙ ap (λ (i : ℕ). line_number l % 256 ∷ line_number l / 256 ∷ i ∷ body) y in
      (omega (arith, y), w ∙ ap (sets room 0) v ∙ overwrites room (line_number l % 256 ∷ line_number l / 256 ∷ (3 + length body) ∷ body) (omega (arith, y)))
