-- A walk over the pieces of a line: the tokens from a place on are those of the piece there and those after it.
use Rattle.std.specs.Prelude.{ℕ, ◌+◌, ◌≤◌, ◌<◌, ◌≡◌, true, List, [], ◌∷◌, ◌++◌, length, drop}
use Rattle.std.proofs.Common.{arith, subst, ap, ◌∙◌, length-drop, drop_of_length-le, drop-drop}
use Rattle.paper.specs.Tokens.{Token}
use Rattle.paper.specs.Line.{tokens_from}
use Rattle.paper.specs.WellFormed.{well_formed?}
use Rattle.laws.specs.Tests.{as_T}
use Rattle.list_pieces.specs.declared.Piece.{Piece}
use Rattle.list_pieces.specs.Pieces.{piece_at, tokens_of_piece, size_of, end_after, Holds}
use Rattle.list_pieces.specs.Rest.{Written}
use Rattle.list_pieces.specs.Decoded.{pieces}
use Rattle.list_pieces.specs.WellFormed.{passes_whole}
use Rattle.list_pieces.specs.RestLaws.{later, written_here}

-- the tokens from a place of a line on, in a statement that ends at `end`
abbrev pub tokens_at : List (List ℕ) → List ℕ → ℕ → ℕ → List Token
tokens_at ns l at end = tokens_from ns 0 at end (drop at l)

-- they are written there
abbrev pub Stands : List (List ℕ) → List ℕ → ℕ → ℕ → Type 0
Stands ns l at end = Written ns at end (drop at l) (tokens_at ns l at end)

first_piece : (ns : List (List ℕ)) (p end : ℕ) (u : List ℕ) (c : Piece) → 0 < length u → piece_at p end u ≡ c → tokens_from ns 0 p end u ≡ tokens_of_piece ns u c ++ later ns p end u c
first_piece ns p end [] c h e = absurd (omega arith)
first_piece ns p end (b ∷ s) c h e = subst (λ (z : Piece). tokens_from ns 0 p end (b ∷ s) ≡ tokens_of_piece ns (b ∷ s) z ++ later ns p end (b ∷ s) z) e (pieces ns p end b s)

module _ (ns : List (List ℕ)) (l : List ℕ) (at end : ℕ) (c : Piece) (h : at < length l) (e : piece_at at end (drop at l) ≡ c) where
  some_left : 0 < length (drop at l)
  some_left = omega (arith, length-drop at l)

  past_piece : drop (size_of c) (drop at l) ≡ drop (at + size_of c) l
  past_piece = drop-drop (size_of c) at l

  pub tokens_split : tokens_at ns l at end ≡ tokens_of_piece ns (drop at l) c ++ tokens_at ns l (at + size_of c) (end_after end (drop at l) c)
  tokens_split =
      first_piece ns at end (drop at l) c some_left e
      ∙ ap (λ (z : List ℕ). tokens_of_piece ns (drop at l) c ++ tokens_from ns 0 (at + size_of c) (end_after end (drop at l) c) z) past_piece

  -- the piece is right, its bytes are there, and the tokens after it are written
  pub piece_stands : Stands ns l at end → Holds ns (drop at l) c × (at + size_of c ≤ length l) × Stands ns l (at + size_of c) (end_after end (drop at l) c)
  piece_stands w =
      let r = written_here ns at end (drop at l) c some_left e w in
      (r.0, omega (arith, r.1, length-drop at l), subst (λ (z : List ℕ). Written ns (at + size_of c) (end_after end (drop at l) c) z (tokens_from ns 0 (at + size_of c) (end_after end (drop at l) c) z)) past_piece r.2)

-- past the end stands no token
pub none_past : (ns : List (List ℕ)) (l : List ℕ) (at end : ℕ) → length l ≤ at → tokens_at ns l at end ≡ []
unfolding tokens_from
none_past ns l at end h = ap (tokens_from ns 0 at end) (drop_of_length-le l h)

-- at the first statement of a well-formed line
pub stands_first : (ns : List (List ℕ)) (l : List ℕ) → well_formed? ns l ≡ true → Stands ns l 3 3
stands_first ns l e = (passes_whole ns l (as_T (well_formed? ns l) e)).body.written
