-- Whether a line is well-formed: what its head decides, and what holds before each piece of it.
use Prim.Native.Nat.{ℕ, zero, suc, ◌+◌, ◌*◌, ◌≤◌, ◌<◌}
use native.Mathlib.Omega.{arith}
use Rattle.std.proofs.Math.Path.{◌≡◌, refl, ap}
use Rattle.std.proofs.Common.{subst, sym, ◌∙◌, drop_of_length-le}
use Rattle.std.specs.Prelude.{Bool, T, eqb, length, drop, get_or}
use Rattle.std.proofs.Math.Bool.{true, false}
use mathlib.Core.List.{List, [], ◌∷◌}
use Rattle.std.proofs.Math.Dec.{leb, leb→le, eqb→eq}
use borrow.Author.Tests.{leb-false, eq-eqb, eqb-true, eqb-false}
use Rattle.paper.specs.Bytes.{every}
use Rattle.paper.specs.Grammar.{start}
use Rattle.paper.specs.Line.{token_bytes, to_next, tokens_from}
use Rattle.paper.specs.WellFormed.{formed?}
use Rattle.laws.specs.Tests.{and_left, and_right, is_true, as_T}
use Rattle.list_pieces.specs.declared.Piece.{Piece}
use Rattle.list_pieces.specs.Pieces.{size_of, end_after}
use Rattle.list_pieces.specs.Rest.{Takes, Rest, Whole, Head}
use Rattle.list_pieces.specs.WellFormed.{passes_whole, whole_passes}
use Rattle.grammar.specs.Stack.{stack}
use Rattle.list_check.specs.Passes.{Onward}
use Rattle.list_head.specs.Heads.{right_head?}

not_formed : (b : Bool) → (T b → ⊥) → b ≡ false
not_formed true n = absurd (n tt)
not_formed false n = refl

-- ---- the head

empty_fails : (ns : List (List ℕ)) → Rest ns start 3 3 [] → ⊥
unfolding tokens_from Takes start
empty_fails ns r = r.taken

pub short_go : (lawful? : ℕ → Bool) (ns : List (List ℕ)) (l : List ℕ) → length l < 3 → Whole lawful? ns l → ⊥
short_go lawful? ns [] h w = empty_fails ns w.body
short_go lawful? ns (a ∷ []) h w = omega (arith, w.sized)
short_go lawful? ns (a ∷ b ∷ []) h w = omega (arith, w.sized)
short_go lawful? ns (a ∷ b ∷ c ∷ s) h w = omega arith

module _ (lawful? : ℕ → Bool) (l : List ℕ) where
  -- where it is right
  pub head_right : (r : Bool) → r ≡ right_head? lawful? l → r ≡ true → Head lawful? l
  unfolding right_head?
  head_right r e h =
      let t = as_T (right_head? lawful? l) (sym e ∙ h) in
      let u = and_right (leb 3 (length l)) _ t in
      record {
        long = leb→le 3 (length l) (and_left (leb 3 (length l)) _ t);
        sized = eqb→eq (get_or l 2 0) (length l) (and_left (eqb (get_or l 2 0) (length l)) _ u);
        lawful = and_right (eqb (get_or l 2 0) (length l)) _ u;
      }

  -- where it is not, the line is not well-formed
  pub head_wrong : (ns : List (List ℕ)) (r : Bool) → r ≡ right_head? lawful? l → r ≡ false → formed? lawful? ns l ≡ false
  unfolding right_head?
  head_wrong ns r e h = not_formed (formed? lawful? ns l) (λ t. let z : ◌≡◌ {A = ℕ} 0 1 = cc (right (passes_whole ns l t)) in omega arith)
    where
      right : Whole lawful? ns l → right_head? lawful? l ≡ true
      right w = rw (long (leb 3 (length l)) refl, eq-eqb (get_or l 2 0) (length l) w.sized) (is_true _ w.lawful)
        where
          long : (b : Bool) → leb 3 (length l) ≡ b → leb 3 (length l) ≡ true
          long true f = f
          long false f = absurd (short_go lawful? ns l (leb-false 3 (length l) f) w)

-- ---- the body

-- before the piece at a place: the line is well-formed exactly if the rest is
pub record Fitting (lawful? : ℕ → Bool) (ns : List (List ℕ)) (l frames : List ℕ) (at end depth : ℕ) : Type 0 where
  pub within : at ≤ length l
  pub shallow : depth ≤ 8 * at
  pub down : T (formed? lawful? ns l) → Rest ns (stack frames depth) at end (drop at l)
  pub up : Rest ns (stack frames depth) at end (drop at l) → T (formed? lawful? ns l)

one_frame : (frames : List ℕ) → get_or frames 0 0 ≡ 0 → stack frames 1 ≡ start
unfolding stack start
one_frame frames e = ap (λ (f : ℕ). f ∷ []) e

pub fitting_first : (lawful? : ℕ → Bool) (ns : List (List ℕ)) (l frames : List ℕ) → Head lawful? l → get_or l 0 0 < 256 → get_or frames 0 0 ≡ 0 → Fitting lawful? ns l frames 3 3 1
fitting_first lawful? ns l frames h low f =
    let s : stack frames 1 ≡ start = one_frame frames f in
    record {
      within = h.long;
      shallow = omega arith;
      down = λ t. subst (λ (fs : List ℕ). Rest ns fs 3 3 (drop 3 l)) (sym s) (passes_whole ns l t).body;
      up = λ r. whole_passes ns l low (record { lawful = h.lawful; sized = h.sized; body = subst (λ (fs : List ℕ). Rest ns fs 3 3 (drop 3 l)) s r });
    }

module _ {lawful? : ℕ → Bool} {ns : List (List ℕ)} {l frames : List ℕ} {at end depth : ℕ} (m : Fitting lawful? ns l frames at end depth) where
  -- the piece fits: so after it
  pub fitting_next : {c : Piece} {new : List ℕ} {d : ℕ} → Onward ns l at end c frames depth d new → Fitting lawful? ns l new (at + size_of c) (end_after end (drop at l) c) d
  fitting_next o = record { within = o.within; shallow = omega (arith, m.shallow, o.few); down = λ t. o.down (m.down t); up = λ r. m.up (o.up r) }

  -- with the code's own end and size of it
  pub fitting_step : {c : Piece} {new : List ℕ} {d : ℕ} → Onward ns l at end c frames depth d new → {stop step : ℕ} → stop ≡ end_after end (drop at l) c → step ≡ size_of c
      → Fitting lawful? ns l new (at + step) stop d
  fitting_step {c} {new} {d} o {stop} {step} f g =
      subst (λ (z : ℕ). Fitting lawful? ns l new (at + z) stop d) (sym g) (subst (λ (z : ℕ). Fitting lawful? ns l new (at + size_of c) z d) (sym f) (fitting_next o))

  -- the rest is not that of a well-formed line
  pub fitting_fails : (Rest ns (stack frames depth) at end (drop at l) → ⊥) → formed? lawful? ns l ≡ false
  fitting_fails n = not_formed (formed? lawful? ns l) (λ t. n (m.down t))

  ended : length l ≤ at → drop at l ≡ []
  ended h = drop_of_length-le l h

  none_left : (fs : List ℕ) → Rest ns fs at end [] → (at ≡ end) × (fs ≡ [])
  unfolding tokens_from to_next Takes
  none_left [] r = (omega (arith, r.written.next), refl)
  none_left (f ∷ fs) r = absurd r.taken

  nothing_left : at ≡ end → Rest ns [] at end []
  unfolding tokens_from to_next token_bytes every Takes
  nothing_left e = record { taken = tt; written = record { right = tt; bytes = refl; next = omega arith } }

  -- the last statement's offset is not the line's end
  pub fitting_open : length l ≤ at → (end ≡ at → ⊥) → formed? lawful? ns l ≡ false
  fitting_open h n = fitting_fails (λ r. n (sym (none_left (stack frames depth) (subst (Rest ns (stack frames depth) at end) (ended h) r)).0))

  some_frames : (d : ℕ) → (d ≡ 0 → ⊥) → stack frames d ≡ [] → ⊥
  unfolding stack
  some_frames zero n e = n refl
  some_frames (suc d) n e = let z : ◌≡◌ {A = ℕ} 0 1 = cc in absurd (omega arith)

  -- something more is wanted
  pub fitting_wants : length l ≤ at → (depth ≡ 0 → ⊥) → formed? lawful? ns l ≡ false
  fitting_wants h n = fitting_fails (λ r. some_frames depth n (none_left (stack frames depth) (subst (Rest ns (stack frames depth) at end) (ended h) r)).1)

  -- nothing more is
  pub fitting_done : length l ≤ at → end ≡ at → depth ≡ 0 → formed? lawful? ns l ≡ true
  unfolding stack
  fitting_done h e d =
      let s : stack frames depth ≡ [] = ap (stack frames) d in
      is_true (formed? lawful? ns l) (m.up (subst (λ (fs : List ℕ). Rest ns fs at end (drop at l)) (sym s) (subst (Rest ns [] at end) (sym (ended h)) (nothing_left (sym e)))))

  -- what is wanted decides at the line's end
  pub fitting_ends : length l ≤ at → end ≡ at → eqb depth 0 ≡ formed? lawful? ns l
  fitting_ends h e = go (eqb depth 0) refl
    where
      go : (b : Bool) → eqb depth 0 ≡ b → b ≡ formed? lawful? ns l
      go true f = sym (fitting_done h e (eqb-true depth 0 f))
      go false f = sym (fitting_wants h (eqb-false depth 0 f))
