-- The walk over a well-formed line: what holds before each piece of it.
use Prim.Native.Nat.{ℕ, ◌+◌, ◌≤◌, ◌<◌}
use native.Mathlib.Omega.{arith}
use mathlib.Core.Path.{◌≡◌, subst, sym, ap, ap₂, ◌∙◌}
use mathlib.Core.Bool.{true}
use mathlib.Core.List.{List, [], ◌∷◌}
use lib.ListN.{length, take, drop, get_or, length-drop, drop_of_length-le}
use lib.Seq.{drop-drop}
use Rattle.paper.specs.Grammar.{start}
use Rattle.paper.specs.Line.{lawful_number?, tokens_from, line_tokens}
use Rattle.paper.specs.Names.{names_in}
use Rattle.paper.specs.WellFormed.{formed?}
use Rattle.paper.specs.Tokens.{Token}
use Rattle.laws.specs.Tests.{as_T}
use Rattle.list_pieces.specs.declared.Piece.{Piece}
use Rattle.list_pieces.specs.Decoded.{pieces}
use Rattle.list_pieces.specs.NameLaws.{sound_numbered}
use Rattle.list_pieces.specs.PieceLaws.{piece_some}
use Rattle.list_pieces.specs.Pieces.{piece_at, tokens_of_piece, size_of, end_after, Holds}
use Rattle.list_pieces.specs.Rest.{Takes, Written, Rest, Whole, Sound}
use Rattle.list_pieces.specs.RestLaws.{later, written_here}
use Rattle.list_pieces.specs.WellFormed.{passes_whole}
use Rattle.list_text.specs.Texts.{piece_text}
use Rattle.list_weigh.specs.declared.Weight.{Weight}
use Rattle.list_weigh.specs.Weights.{nothing, plus, tokens_weight, piece_weight, head_weight, formed_weight, Small}
use Rattle.list_weigh.proofs.Sums.{plus_assoc, plus_nothing, weight_append, piece_columns}
use Rattle.list_weigh.proofs.Bounds.{small_plus, piece_small, head_small}

none_fails : (ns : List (List ℕ)) → Rest ns start 3 3 [] → ⊥
unfolding tokens_from Takes start
none_fails ns r = r.taken

whole_long : (ns : List (List ℕ)) (l : List ℕ) → Whole lawful_number? ns l → 3 ≤ length l
whole_long ns [] w = absurd (none_fails ns w.body)
whole_long ns (a ∷ []) w = absurd (omega (arith, w.sized))
whole_long ns (a ∷ b ∷ []) w = absurd (omega (arith, w.sized))
whole_long ns (a ∷ b ∷ c ∷ s) w = omega arith

-- a well-formed line has a head
pub formed_long : (ns : List (List ℕ)) (l : List ℕ) → formed? lawful_number? ns l ≡ true → 3 ≤ length l
formed_long ns l e = whole_long ns l (passes_whole ns l (as_T (formed? lawful_number? ns l) e))

-- the tokens from a place of a line on
abbrev tokens_at : List (List ℕ) → List ℕ → ℕ → ℕ → List Token
tokens_at ns l at end = tokens_from ns 0 at end (drop at l)

weight_here : (ns : List (List ℕ)) (p end : ℕ) (u : List ℕ) (c : Piece) → 0 < length u → piece_at p end u ≡ c → tokens_weight ns (tokens_from ns 0 p end u) ≡ plus (tokens_weight ns (tokens_of_piece ns u c)) (tokens_weight ns (later ns p end u c))
weight_here ns p end [] c h e = absurd (omega arith)
weight_here ns p end (b ∷ s) c h e =
    subst (λ (z : Piece). tokens_weight ns (tokens_from ns 0 p end (b ∷ s)) ≡ plus (tokens_weight ns (tokens_of_piece ns (b ∷ s) z)) (tokens_weight ns (later ns p end (b ∷ s) z))) e
    (ap (tokens_weight ns) (pieces ns p end b s) ∙ weight_append ns (tokens_of_piece ns (b ∷ s) (piece_at p end (b ∷ s))) (later ns p end (b ∷ s) (piece_at p end (b ∷ s))))

-- Before the piece at a place: what stands there; and the weight so far, which with that of the rest is the line's.
pub record Weighed (ns : List (List ℕ)) (l : List ℕ) (at end : ℕ) (w : Weight) : Type 0 where
  pub short : length l < 256
  pub within : at ≤ length l
  pub written : Written ns at end (drop at l) (tokens_at ns l at end)
  pub sum : plus w (tokens_weight ns (tokens_at ns l at end)) ≡ formed_weight ns l
  pub small : Small at w

pub weighed_first : (ns : List (List ℕ)) (l : List ℕ) (w : Weight) → get_or l 2 0 < 256 → formed? lawful_number? ns l ≡ true → w ≡ head_weight l → Weighed ns l 3 3 w
unfolding formed_weight line_tokens
weighed_first ns l w b e f = record {
  short = omega (arith, (passes_whole ns l (as_T (formed? lawful_number? ns l) e)).sized);
  within = formed_long ns l e;
  written = (passes_whole ns l (as_T (formed? lawful_number? ns l) e)).body.written;
  sum = ap (λ (z : Weight). plus z (tokens_weight ns (tokens_at ns l 3 3))) f;
  small = subst (Small 3) (sym f) (head_small l);
}

module _ (names : List ℕ) (size : ℕ) {l : List ℕ} {at end : ℕ} {w : Weight} (m : Weighed (names_in (take size names)) l at end w) (here : at < length l) {c : Piece} (is : piece_at at end (drop at l) ≡ c) where
  abbrev ns : List (List ℕ)
  ns = names_in (take size names)

  -- the piece there is right, and its bytes are there
  pub weighed_holds : Holds ns (drop at l) c × (at + size_of c ≤ length l)
  weighed_holds =
      let r = written_here ns at end (drop at l) c (omega (arith, length-drop at l)) is m.written in
      (r.0, omega (arith, r.1, length-drop at l))

  module _ (few : size ≤ 65535) {text : ℕ} (counted : text ≡ length (piece_text ns (drop at l) c)) where
    -- its weight is small
    pub weighed_small : Small (size_of c) (piece_weight c text)
    weighed_small = subst (λ (k : ℕ). Small (size_of c) (piece_weight c k)) (sym counted) (piece_small names size few (drop at l) c weighed_holds.0 (piece_some at end (drop at l) c is))

    -- and then after it
    pub weighed_next : Sound names size → {new : Weight} {stop to : ℕ} → new ≡ plus w (piece_weight c text) → stop ≡ end_after end (drop at l) c → to ≡ at + size_of c → Weighed ns l to stop new
    weighed_next sound {new} {stop} {to} e f g =
        let r = written_here ns at end (drop at l) c (omega (arith, length-drop at l)) is m.written in
        let d : drop (size_of c) (drop at l) ≡ drop (at + size_of c) l = drop-drop (size_of c) at l in
        let rest : Weight = tokens_weight ns (tokens_at ns l (at + size_of c) (end_after end (drop at l) c)) in
        let own : piece_weight c text ≡ tokens_weight ns (tokens_of_piece ns (drop at l) c) =
        ap (piece_weight c) counted ∙ piece_columns ns (sound_numbered names size sound) (drop at l) c r.0 r.1 in
        let both : tokens_weight ns (tokens_at ns l at end) ≡ plus (piece_weight c text) rest =
        weight_here ns at end (drop at l) c (omega (arith, length-drop at l)) is
        ∙ ap₂ (λ (x : Weight) (z : List ℕ). plus x (tokens_weight ns (tokens_from ns 0 (at + size_of c) (end_after end (drop at l) c) z))) (sym own) d in
        let next : Weighed ns l (at + size_of c) (end_after end (drop at l) c) new = record {
          short = m.short;
          within = omega (arith, r.1, length-drop at l);
          written = subst (λ (z : List ℕ). Written ns (at + size_of c) (end_after end (drop at l) c) z (tokens_from ns 0 (at + size_of c) (end_after end (drop at l) c) z)) d r.2;
          sum = ap (λ (z : Weight). plus z rest) e ∙ plus_assoc w (piece_weight c text) rest ∙ ap (plus w) (sym both) ∙ m.sum;
          small = subst (Small (at + size_of c)) (sym e) (small_plus at (size_of c) w (piece_weight c text) m.small weighed_small);
        } in
        subst (λ (z : ℕ). Weighed ns l z stop new) (sym g) (subst (λ (z : ℕ). Weighed ns l (at + size_of c) z new) (sym f) next)

-- all is weighed
pub weighed_done : {ns : List (List ℕ)} {l : List ℕ} {at end : ℕ} {w : Weight} → Weighed ns l at end w → length l ≤ at → (w ≡ formed_weight ns l) × Small (length l) w
unfolding tokens_from tokens_weight
weighed_done {ns} {l} {at} {end} {w} m h =
    let z : tokens_weight ns (tokens_at ns l at end) ≡ nothing = ap (λ (u : List ℕ). tokens_weight ns (tokens_from ns 0 at end u)) (drop_of_length-le l h) in
    let e : at ≡ length l = omega (arith, m.within) in
    (sym (plus_nothing w) ∙ ap (plus w) (sym z) ∙ m.sum, subst (λ (k : ℕ). Small k w) e m.small)
