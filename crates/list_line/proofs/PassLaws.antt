-- The two passes: what holds before each piece of a line.
use Prim.Native.Nat.{ℕ, suc, ◌+◌, ◌-◌, ◌≤◌, ◌<◌}
use native.Mathlib.Omega.{arith}
use native.Mathlib.Nat.{zero-add}
use native.Mathlib.Numerals.{add-one}
use mathlib.Core.Path.{◌≡◌, refl, subst, sym, ap, ap₂, ◌∙◌}
use mathlib.Core.Bool.{Bool, true, false}
use mathlib.Core.Logic.{◌⊎◌, inl, inr, ⊎_elim}
use mathlib.Core.List.{List, [], ◌∷◌, ◌++◌, append-nil, append_assoc}
use lib.Dec.{leb}
use lib.ListN.{length, drop, get_or, length-append, length-drop, drop_of_length-le}
use lib.Seq.{sets, drop-drop}
use borrow.Author.Tests.{le-leb, lt-leb, leb-true, leb-false}
use Rattle.paper.specs.Bytes.{blank}
use Rattle.paper.specs.Tokens.{Token}
use Rattle.paper.specs.Line.{line_number, tokens_from, line_tokens}
use Rattle.paper.specs.WellFormed.{formed?}
use Rattle.paper.specs.Listing.{decimal, token_text, body_text, listing_text, listing, direct_listing}
use Rattle.laws.specs.Tests.{as_T}
use Rattle.buffers.specs.Sets.{sets_append}
use Rattle.list_pieces.specs.declared.Piece.{Piece}
use Rattle.std.specs.Prelude.{Option, Some, None}
use Rattle.list_pieces.specs.Pieces.{piece_at, tokens_of_piece, size_of, end_after, Holds}
use Rattle.list_pieces.specs.Rest.{Written, Rest, Head}
use Rattle.grammar.specs.Stack.{stack}
use Rattle.list_check.specs.Passes.{Onward}
use Rattle.list_text.specs.Texts.{piece_text, Writes}
use Rattle.list_text.specs.InTurn.{then, as_text}
use Rattle.list_head.specs.Heads.{lawful_for, head_for}
use Rattle.list_line.specs.Listed.{formed_listing, capped, found, measured}
use Rattle.list_pieces.specs.WellFormed.{passes_whole}
use Rattle.list_alone.specs.FitLaws.{Fitting, fitting_first, fitting_next, fitting_fails, fitting_open, fitting_wants, fitting_done, short_go}
use Rattle.list_pieces.specs.Decoded.{pieces}
use Rattle.list_pieces.specs.RestLaws.{later, written_here}

-- ---- lengths up to a room

capped_low : (room n : ℕ) → n ≤ room → capped room n ≡ n
unfolding capped
capped_low room n h = rw (le-leb n room h)

capped_high : (room n : ℕ) → room < n → capped room n ≡ suc room
unfolding capped
capped_high room n h = rw (lt-leb n room h)

pub over_room : (room total more : ℕ) → total ≤ room + 1 → room < total → total ≡ capped room (total + more)
over_room room total more h k = let e : total ≡ suc room = omega arith in e ∙ sym (capped_high room (total + more) (omega arith))

pub past_room : (room total more : ℕ) → total ≤ room → room - total < more → room + 1 ≡ capped room (total + more)
past_room room total more h k = add-one room ∙ sym (capped_high room (total + more) (omega arith))

pub in_room : (room total more : ℕ) → total ≤ room → more ≤ room - total → total + more ≡ capped room (total + more)
in_room room total more h k = sym (capped_low room (total + more) (omega arith))

capped_go : (room n : ℕ) (b : Bool) → leb n room ≡ b → ((capped room n ≡ n) × (n ≤ room)) ⊎ ((capped room n ≡ suc room) × (room < n))
capped_go room n true e = inl (capped_low room n (leb-true n room e), leb-true n room e)
capped_go room n false e = inr (capped_high room n (leb-false n room e), leb-false n room e)

pub capped_most : (room n : ℕ) → capped room n ≤ room + 1
capped_most room n = ⊎_elim (λ w. omega (arith, w.0, w.1)) (λ w. omega (arith, w.0)) (capped_go room n (leb n room) refl)

capped_more : (room m k : ℕ) → capped room (capped room m + k) ≡ capped room (m + k)
capped_more room m k =
    ⊎_elim (λ w. ap (λ (z : ℕ). capped room (z + k)) w.0) (λ w. capped_high room (capped room m + k) (omega (arith, w.0)) ∙ sym (capped_high room (m + k) (omega (arith, w.1)))) (capped_go room m (leb m room) refl)

-- ---- the text of a piece, and of what comes after it

body_append : (xs ys : List Token) → body_text (xs ++ ys) ≡ body_text xs ++ body_text ys
unfolding body_text
body_append [] ys = refl
body_append (x ∷ xs) ys = ap (λ (z : List ℕ). token_text x ++ z) (body_append xs ys) ∙ sym (append_assoc (token_text x) (body_text xs) (body_text ys))

tokens_first : (ns : List (List ℕ)) (p end : ℕ) (u : List ℕ) (c : Piece) → 0 < length u → piece_at p end u ≡ c → tokens_from ns 0 p end u ≡ tokens_of_piece ns u c ++ later ns p end u c
tokens_first ns p end [] c h e = absurd (omega arith)
tokens_first ns p end (b ∷ s) c h e = subst (λ (z : Piece). tokens_from ns 0 p end (b ∷ s) ≡ tokens_of_piece ns (b ∷ s) z ++ later ns p end (b ∷ s) z) e (pieces ns p end b s)

-- the tokens from a place of a line on
abbrev pub tokens_at : List (List ℕ) → List ℕ → ℕ → ℕ → List Token
tokens_at ns l at end = tokens_from ns 0 at end (drop at l)

pub text_first : (ns : List (List ℕ)) (l : List ℕ) (at end : ℕ) (c : Piece) → at < length l → piece_at at end (drop at l) ≡ c
    → body_text (tokens_at ns l at end) ≡ piece_text ns (drop at l) c ++ body_text (tokens_at ns l (at + size_of c) (end_after end (drop at l) c))
unfolding piece_text
text_first ns l at end c h e =
    let m : drop (size_of c) (drop at l) ≡ drop (at + size_of c) l = drop-drop (size_of c) at l in
    ap body_text (tokens_first ns at end (drop at l) c (omega (arith, length-drop at l)) e)
    ∙ body_append (tokens_of_piece ns (drop at l) c) (later ns at end (drop at l) c)
    ∙ ap (λ (z : List ℕ). body_text (tokens_of_piece ns (drop at l) c) ++ body_text (tokens_from ns 0 (at + size_of c) (end_after end (drop at l) c) z)) m

head_listing : (direct : Bool) (ns : List (List ℕ)) (l : List ℕ) → head_for direct (line_number l) ++ body_text (tokens_at ns l 3 3) ≡ formed_listing direct ns l
unfolding listing listing_text direct_listing line_tokens
head_listing true ns l = refl
head_listing false ns l = append_assoc (decimal 5 (line_number l)) (blank ∷ []) (body_text (tokens_at ns l 3 3))

-- ---- a line that is not well-formed

pub not_measured : (direct : Bool) (ns : List (List ℕ)) (l : List ℕ) (room : ℕ) → formed? (lawful_for direct) ns l ≡ false → None ≡ measured direct ns l room
unfolding measured found
not_measured direct ns l room n = sym (ap (λ (b : Bool). found b (capped room (length (formed_listing direct ns l)))) n)

-- ---- the first pass

-- before the piece at a place: the line is well-formed exactly if the rest is; so much was counted, and so much is left
pub record Measuring (direct : Bool) (ns : List (List ℕ)) (l : List ℕ) (room : ℕ) (frames : List ℕ) (at end depth total : ℕ) : Type 0 where
  pub fitting : Fitting (lawful_for direct) ns l frames at end depth
  pub before : ℕ
  pub count : total ≡ capped room before
  pub sum : before + length (body_text (tokens_at ns l at end)) ≡ length (formed_listing direct ns l)

pub measuring_first : (direct : Bool) (ns : List (List ℕ)) (l : List ℕ) (room : ℕ) (frames : List ℕ) (k total : ℕ) {old new : List ℕ} → Head (lawful_for direct) l → get_or l 0 0 < 256 → get_or frames 0 0 ≡ 0 → Writes (head_for direct (line_number l)) 0 old k new → total ≡ capped room (0 + k)
    → Measuring direct ns l room frames 3 3 1 total
measuring_first direct ns l room frames k total h low f w e =
    let z : 0 + k ≡ length (head_for direct (line_number l)) = omega (arith, w.size) in
    record {
      fitting = fitting_first (lawful_for direct) ns l frames h low f;
      before = length (head_for direct (line_number l));
      count = e ∙ ap (capped room) z;
      sum = sym (length-append (head_for direct (line_number l)) (body_text (tokens_at ns l 3 3))) ∙ ap length (head_listing direct ns l);
    }

module _ {direct : Bool} {ns : List (List ℕ)} {l : List ℕ} {room : ℕ} {frames : List ℕ} {at end depth total : ℕ} (m : Measuring direct ns l room frames at end depth total) where
  pub measuring_next : {c : Piece} {new : List ℕ} {d : ℕ} → at < length l → piece_at at end (drop at l) ≡ c → Onward ns l at end c frames depth d new
      → {old out : List ℕ} {k : ℕ} → Writes (piece_text ns (drop at l) c) 0 old k out → {more stop to : ℕ} → more ≡ capped room (total + k) → stop ≡ end_after end (drop at l) c → to ≡ at + size_of c
      → Measuring direct ns l room new to stop d more
  measuring_next {c} {new} {d} h p o {k = k} w {more} {stop} {to} e f g =
      let t = text_first ns l at end c h p in
      let n = length-append (piece_text ns (drop at l) c) (body_text (tokens_at ns l (at + size_of c) (end_after end (drop at l) c))) in
      let next : Measuring direct ns l room new (at + size_of c) (end_after end (drop at l) c) d more = record {
        fitting = fitting_next m.fitting o;
        before = m.before + k;
        count = e ∙ ap (λ (z : ℕ). capped room (z + k)) m.count ∙ capped_more room m.before k;
        sum = omega (arith, m.sum, n, ap length t, w.size);
      } in
      subst (λ (z : ℕ). Measuring direct ns l room new z stop d more) (sym g) (subst (λ (z : ℕ). Measuring direct ns l room new (at + size_of c) z d more) (sym f) next)

  -- the rest is not that of a well-formed line
  pub measuring_fails : (Rest ns (stack frames depth) at end (drop at l) → ⊥) → None ≡ measured direct ns l room
  measuring_fails n = not_measured direct ns l room (fitting_fails m.fitting n)

  pub measuring_open : length l ≤ at → (end ≡ at → ⊥) → None ≡ measured direct ns l room
  measuring_open h n = not_measured direct ns l room (fitting_open m.fitting h n)

  pub measuring_wants : length l ≤ at → (depth ≡ 0 → ⊥) → None ≡ measured direct ns l room
  measuring_wants h n = not_measured direct ns l room (fitting_wants m.fitting h n)

  pub measuring_done : length l ≤ at → end ≡ at → depth ≡ 0 → Some total ≡ measured direct ns l room
  unfolding measured found body_text tokens_from
  measuring_done h e d =
      let t : formed? (lawful_for direct) ns l ≡ true = fitting_done m.fitting h e d in
      let z : body_text (tokens_at ns l at end) ≡ [] = ap (λ (u : List ℕ). body_text (tokens_from ns 0 at end u)) (drop_of_length-le l h) in
      let k : m.before ≡ length (formed_listing direct ns l) = omega (arith, m.sum, ap length z) in
      ap Some (m.count ∙ ap (capped room) k) ∙ sym (ap (λ (b : Bool). found b (capped room (length (formed_listing direct ns l)))) t)

-- ---- the second pass

-- Before the piece at a place: what stands there; and the text of the pieces before it, written from place n₀ on, with the text of the rest is
-- the text of all pieces.
pub record Writing (ns : List (List ℕ)) (l old : List ℕ) (n₀ at end n : ℕ) (out : List ℕ) : Type 0 where
  pub within : at ≤ length l
  pub written : Written ns at end (drop at l) (tokens_at ns l at end)
  pub text : List ℕ
  pub place : n ≡ n₀ + length text
  pub bytes : out ≡ sets old n₀ text
  pub whole : text ++ body_text (tokens_at ns l at end) ≡ body_text (tokens_at ns l 3 3)

pub formed_long : (direct : Bool) (ns : List (List ℕ)) (l : List ℕ) → formed? (lawful_for direct) ns l ≡ true → 3 ≤ length l
formed_long direct ns l e = go (leb 3 (length l)) refl
  where
    go : (b : Bool) → leb 3 (length l) ≡ b → 3 ≤ length l
    go true h = leb-true 3 (length l) h
    go false h = absurd (short_go (lawful_for direct) ns l (leb-false 3 (length l) h) (passes_whole ns l (as_T (formed? (lawful_for direct) ns l) e)))

pub writing_first : (direct : Bool) (ns : List (List ℕ)) (l old : List ℕ) (n : ℕ) → formed? (lawful_for direct) ns l ≡ true → Writing ns l old n 3 3 n old
writing_first direct ns l old n e = record {
  within = formed_long direct ns l e;
  written = (passes_whole ns l (as_T (formed? (lawful_for direct) ns l) e)).body.written;
  text = [];
  place = omega arith;
  bytes = refl;
  whole = refl;
}

module _ {ns : List (List ℕ)} {l old : List ℕ} {n₀ at end n : ℕ} {out : List ℕ} (m : Writing ns l old n₀ at end n out) where
  -- the piece there is right, and its bytes are there
  pub writing_holds : {c : Piece} → at < length l → piece_at at end (drop at l) ≡ c → Holds ns (drop at l) c × (at + size_of c ≤ length l)
  writing_holds {c} h e =
      let r = written_here ns at end (drop at l) c (omega (arith, length-drop at l)) e m.written in
      (r.0, omega (arith, r.1, length-drop at l))

  -- where all fits, this piece does
  pub writing_fits : {c : Piece} → at < length l → piece_at at end (drop at l) ≡ c → n₀ + length (body_text (tokens_at ns l 3 3)) ≤ length old → n + length (piece_text ns (drop at l) c) ≤ length old
  writing_fits {c} h e f =
      let t = text_first ns l at end c h e in
      omega (arith, m.place, ap length m.whole, length-append m.text (body_text (tokens_at ns l at end)), ap length t, length-append (piece_text ns (drop at l) c) (body_text (tokens_at ns l (at + size_of c) (end_after end (drop at l) c))))

  pub writing_next : {c : Piece} → at < length l → piece_at at end (drop at l) ≡ c → {new : List ℕ} {k : ℕ} → Writes (piece_text ns (drop at l) c) n out k new → {stop to : ℕ} → stop ≡ end_after end (drop at l) c → to ≡ at + size_of c
      → Writing ns l old n₀ to stop (n + k) new
  writing_next {c} h e {new} {k} w {stop} {to} f g =
      let r = written_here ns at end (drop at l) c (omega (arith, length-drop at l)) e m.written in
      let d : drop (size_of c) (drop at l) ≡ drop (at + size_of c) l = drop-drop (size_of c) at l in
      let t = text_first ns l at end c h e in
      let p : List ℕ = piece_text ns (drop at l) c in
      let next : Writing ns l old n₀ (at + size_of c) (end_after end (drop at l) c) (n + k) new = record {
        within = omega (arith, r.1, length-drop at l);
        written = subst (λ (z : List ℕ). Written ns (at + size_of c) (end_after end (drop at l) c) z (tokens_from ns 0 (at + size_of c) (end_after end (drop at l) c) z)) d r.2;
        text = m.text ++ p;
        place = omega (arith, m.place, w.size, length-append m.text p);
        bytes = w.bytes ∙ ap₂ (λ (o : List ℕ) (z : ℕ). sets o z p) m.bytes m.place ∙ sym (sets_append old n₀ m.text p);
        whole = append_assoc m.text p _ ∙ ap (λ (z : List ℕ). m.text ++ z) (sym t) ∙ m.whole;
      } in
      subst (λ (z : ℕ). Writing ns l old n₀ z stop (n + k) new) (sym g) (subst (λ (z : ℕ). Writing ns l old n₀ (at + size_of c) z (n + k) new) (sym f) next)

  -- all is written
  writing_body : length l ≤ at → out ≡ sets old n₀ (body_text (tokens_at ns l 3 3))
  unfolding tokens_from body_text
  writing_body h =
      let z : body_text (tokens_at ns l at end) ≡ [] = ap (λ (u : List ℕ). body_text (tokens_from ns 0 at end u)) (drop_of_length-le l h) in
      m.bytes ∙ ap (sets old n₀) (sym (append-nil m.text) ∙ ap (λ (u : List ℕ). m.text ++ u) (sym z) ∙ m.whole)

  pub writing_done : (direct : Bool) {first : List ℕ} → Writes (head_for direct (line_number l)) 0 first n₀ old → length l ≤ at → out ≡ sets first 0 (formed_listing direct ns l)
  writing_done direct w h =
      let body : List ℕ = body_text (tokens_at ns l 3 3) in
      (as_text (then w body (writing_body h ∙ ap (λ (i : ℕ). sets old i body) (sym (zero-add n₀))) refl) (head_listing direct ns l)).bytes

-- the text of all pieces fits after the head where the listing fits
pub body_fits : (direct : Bool) (ns : List (List ℕ)) (l : List ℕ) {first old : List ℕ} {n : ℕ} → Writes (head_for direct (line_number l)) 0 first n old → length old ≡ length first → length (formed_listing direct ns l) ≤ length first
    → n + length (body_text (tokens_at ns l 3 3)) ≤ length old
body_fits direct ns l w e h = omega (arith, w.size, ap length (head_listing direct ns l), length-append (head_for direct (line_number l)) (body_text (tokens_at ns l 3 3)))

-- ---- the answer

-- what the first pass says of the line and of the length of its listing
pub record Says (direct : Bool) (ns : List (List ℕ)) (l : List ℕ) (room n : ℕ) : Type 0 where
  pub formed : formed? (lawful_for direct) ns l ≡ true
  pub count : n ≡ capped room (length (formed_listing direct ns l))

found_length : (b : Bool) (k n : ℕ) → found b k ≡ Some n → (b ≡ true) × (n ≡ k)
unfolding found
found_length true k n e = (refl, (let z : n ≡ k = cc in z))
found_length false k n e = let z : ◌≡◌ {A = ℕ} 0 1 = cc in absurd (omega arith)

found_none : (b : Bool) (k : ℕ) → found b k ≡ None → b ≡ false
unfolding found
found_none true k e = let z : ◌≡◌ {A = ℕ} 0 1 = cc in absurd (omega arith)
found_none false k e = refl

pub says_length : {direct : Bool} {ns : List (List ℕ)} {l : List ℕ} {room n : ℕ} {r : Option ℕ} → r ≡ measured direct ns l room → r ≡ Some n → Says direct ns l room n
unfolding measured
says_length {direct} {ns} {l} {room} {n} e f =
    let w = found_length (formed? (lawful_for direct) ns l) (capped room (length (formed_listing direct ns l))) n (sym e ∙ f) in
    record { formed = w.0; count = w.1 }

-- a line that is found not to be well-formed
pub says_none : (direct : Bool) (ns : List (List ℕ)) (l : List ℕ) (room : ℕ) {r : Option ℕ} → r ≡ measured direct ns l room → r ≡ None → formed? (lawful_for direct) ns l ≡ false
unfolding measured
says_none direct ns l room e f = found_none (formed? (lawful_for direct) ns l) (capped room (length (formed_listing direct ns l))) (sym e ∙ f)

-- longer than the room
pub lists_long : (direct : Bool) (ns : List (List ℕ)) (l : List ℕ) (room n : ℕ) → Says direct ns l room n → room < n → room < length (formed_listing direct ns l)
lists_long direct ns l room n s h = ⊎_elim (λ w. omega (arith, s.count, w.0)) (λ w. w.1) (capped_go room (length (formed_listing direct ns l)) (leb (length (formed_listing direct ns l)) room) refl)

-- as long as it is
pub lists_fits : (direct : Bool) (ns : List (List ℕ)) (l : List ℕ) (room n : ℕ) → Says direct ns l room n → n ≤ room → (n ≡ length (formed_listing direct ns l)) × (length (formed_listing direct ns l) ≤ room)
lists_fits direct ns l room n s h = ⊎_elim (λ w. (s.count ∙ w.0, w.1)) (λ w. absurd (omega (arith, s.count, w.0))) (capped_go room (length (formed_listing direct ns l)) (leb (length (formed_listing direct ns l)) room) refl)
