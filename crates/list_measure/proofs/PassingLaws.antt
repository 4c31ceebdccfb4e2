-- The rest of a line whose names have new numbers: the piece there, and the rest after it.
use Rattle.std.specs.Prelude.{ℕ, ◌+◌, ◌≤◌, ◌<◌, ◌≡◌, List, [], ◌∷◌, ◌++◌, T, length, drop}
use Rattle.std.proofs.Common.{arith, subst, sym, ap, ◌∙◌, length-drop}
use Rattle.paper.specs.Bytes.{every}
use Rattle.paper.specs.Tokens.{Token}
use Rattle.paper.specs.Line.{to_next}
use Rattle.laws.specs.Tests.{and_left, and_right, and_both}
use Rattle.laws.specs.Names.{name_passes}
use Rattle.list_pieces.specs.declared.Piece.{Piece}
use Rattle.list_pieces.specs.Pieces.{piece_at, tokens_of_piece, size_of, end_after, Holds}
use Rattle.list_pieces.specs.PieceLaws.{Is, piece_is}
use Rattle.list_measure.specs.Numbers.{moves?, new_size, Passing}
use Rattle.list_mark.specs.Walks.{tokens_at, tokens_split, piece_stands}
use Rattle.list_measure.proofs.SizeLaws.{piece_shorter, next_of, end_stays}

every_first : (q : Token → _) (xs ys : List Token) → T (every q (xs ++ ys)) → T (every q xs)
unfolding every
every_first q [] ys t = tt
every_first q (x ∷ xs) ys t = and_both (q x) (every q xs) (and_left (q x) _ t) (every_first q xs ys (and_right (q x) (every q (xs ++ ys)) t))

every_last : (q : Token → _) (xs ys : List Token) → T (every q (xs ++ ys)) → T (every q ys)
unfolding every
every_last q [] ys t = t
every_last q (x ∷ xs) ys t = every_last q xs ys (and_right (q x) (every q (xs ++ ys)) t)

-- bytes that are there begin with a byte
pub at_front : (P : List ℕ → Type 0) (u : List ℕ) → 0 < length u → ((b : ℕ) (s : List ℕ) → P (b ∷ s)) → P u
at_front P [] h f = absurd (omega arith)
at_front P (b ∷ s) h f = f b s

module _ {ns new : List (List ℕ)} {numbers : List ℕ} {at end : ℕ} (l : List ℕ) (k : Passing ns new numbers at end (drop at l)) where
  module _ (c : Piece) (h : at < length l) (e : piece_at at end (drop at l) ≡ c) where
    -- the tokens after the piece
    abbrev pub after : List Token
    after = tokens_at ns l (at + size_of c) (end_after end (drop at l) c)

    pub parted : tokens_at ns l at end ≡ tokens_of_piece ns (drop at l) c ++ after
    parted = tokens_split ns l at end c h e

    -- the piece is right, its bytes are there, its name has a new number
    pub holds : Holds ns (drop at l) c
    holds = (piece_stands ns l at end c h e k.written).0

    pub fits : at + size_of c ≤ length l
    fits = (piece_stands ns l at end c h e k.written).1

    both : T (every (name_passes (moves? ns new numbers)) (tokens_of_piece ns (drop at l) c ++ after))
    both = subst (λ (ts : List Token). T (every (name_passes (moves? ns new numbers)) ts)) parted k.passes

    pub named_so : T (every (name_passes (moves? ns new numbers)) (tokens_of_piece ns (drop at l) c))
    named_so = every_first (name_passes (moves? ns new numbers)) (tokens_of_piece ns (drop at l) c) after both

    pub is_so : Is at end (drop at l) c
    is_so = subst (Is at end (drop at l)) e (piece_is at end (drop at l))

    pub there : size_of c ≤ length (drop at l)
    there = omega (arith, fits, length-drop at l)

    -- the rest after the piece
    pub passing_next : Passing ns new numbers (at + size_of c) (end_after end (drop at l) c) (drop (at + size_of c) l)
    passing_next = record {
      numbered = k.numbered;
      written = (piece_stands ns l at end c h e k.written).2;
      passes = every_last (name_passes (moves? ns new numbers)) (tokens_of_piece ns (drop at l) c) after both;
    }

    -- the piece is no longer than it was
    pub passing_shorter : new_size numbers c ≤ size_of c
    passing_shorter = piece_shorter ns new numbers k.numbered (drop at l) c holds named_so

    -- within a statement: how far it is to the next one
    pub passing_far : (at ≡ end → ⊥) → to_next new (tokens_at ns l at end) ≡ new_size numbers c + to_next new after
    passing_far f =
        ap (to_next new) parted
        ∙ at_front (λ u. Is at end u c → Holds ns u c → size_of c ≤ length u → T (every (name_passes (moves? ns new numbers)) (tokens_of_piece ns u c)) → to_next new (tokens_of_piece ns u c ++ after) ≡ new_size numbers c + to_next new after)
        (drop at l) (omega (arith, length-drop at l)) (λ b s i m n r. next_of ns new numbers k.numbered at end b s after c i m n r f) is_so holds there named_so

    pub passing_within : (at ≡ end → ⊥) → end_after end (drop at l) c ≡ end
    passing_within f =
        at_front (λ u. Is at end u c → Holds ns u c → end_after end u c ≡ end) (drop at l) (omega (arith, length-drop at l)) (λ b s i m. end_stays ns new numbers k.numbered at end b s [] c i m f) is_so holds

-- the rest after a piece, at the place and with the end that are found for it
pub passing_step : {ns new : List (List ℕ)} {numbers : List ℕ} {at end : ℕ} (l : List ℕ) → Passing ns new numbers at end (drop at l) → {c : Piece} → at < length l → piece_at at end (drop at l) ≡ c → {stop step : ℕ} → stop ≡ end_after end (drop at l) c → step ≡ size_of c
    → Passing ns new numbers (at + step) stop (drop (at + step) l)
passing_step {ns} {new} {numbers} {at} {end} l k {c} h e {stop} {step} f g =
    subst (λ (z : ℕ). Passing ns new numbers (at + z) stop (drop (at + z) l)) (sym g) (subst (λ (z : ℕ). Passing ns new numbers (at + size_of c) z (drop (at + size_of c) l)) (sym f) (passing_next l k c h e))
