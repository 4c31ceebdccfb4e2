-- What holds before each piece while a line's variables are marked.
use Rattle.std.specs.Prelude.{ℕ, ◌+◌, ◌≤◌, ◌<◌, ◌≡◌, refl, length, drop, set}
use Rattle.std.proofs.Common.{subst, sym, ◌∙◌}
use Rattle.std.proofs.Math.Path.{ap}
use mathlib.Core.List.{List, ◌++◌}
use Rattle.paper.specs.Tokens.{Token}
use Rattle.paper.specs.Line.{line_tokens}
use Rattle.list_pieces.specs.declared.Piece.{Piece}
use Rattle.list_pieces.specs.declared.VariableToken.{VariableToken}
use Rattle.list_pieces.specs.declared.Piece.TheVariants.{Word, Text, Target, NoTarget, Variable, Constant, Quoted, Operator}
use Rattle.list_pieces.specs.Pieces.{piece_at, tokens_of_piece, size_of, end_after, Holds}
use Rattle.list_pieces.specs.Rest.{Numbered}
use Rattle.list_mark.specs.Marks.{marked_by, marked, marked_piece, Over}
use Rattle.list_mark.specs.Walks.{tokens_at, Stands, tokens_split, piece_stands, none_past, stands_first}

-- the tokens of a piece mark what the piece marks
piece_marks : (ns : List (List ℕ)) → Numbered ns → (u : List ℕ) (c : Piece) → Holds ns u c → (ts : List Token) (m : List ℕ) → marked ns (tokens_of_piece ns u c ++ ts) m ≡ marked ns ts (marked_piece c m)
unfolding marked marked_by marked_piece tokens_of_piece
piece_marks ns d u (Word t) h ts m = refl
piece_marks ns d u (Text t n) h ts m = refl
piece_marks ns d u (Target v) h ts m = ap (λ (i : ℕ). marked ns ts (set m i 1)) (d v.number h.0.name)
piece_marks ns d u NoTarget h ts m = absurd h
piece_marks ns d u (Variable v) h ts m = ap (λ (i : ℕ). marked ns ts (set m i 1)) (d v.number h.name)
piece_marks ns d u Constant h ts m = refl
piece_marks ns d u (Quoted n) h ts m = refl
piece_marks ns d u (Operator t) h ts m = refl

-- a piece without a variable marks nothing
pub unmarked : (c : Piece) (m : List ℕ) → ((v : VariableToken) → c ≡ Target v → ⊥) → ((v : VariableToken) → c ≡ Variable v → ⊥) → m ≡ marked_piece c m
unfolding marked_piece
unmarked (Word t) m x y = refl
unmarked (Text t n) m x y = refl
unmarked (Target v) m x y = absurd (x v refl)
unmarked NoTarget m x y = refl
unmarked (Variable v) m x y = absurd (y v refl)
unmarked Constant m x y = refl
unmarked (Quoted n) m x y = refl
unmarked (Operator t) m x y = refl

-- before the piece at a place: the tokens from there on are written there, and their marks and those that are set are the marks of all
pub record Marking (ns : List (List ℕ)) (l old : List ℕ) (at end : ℕ) (m : List ℕ) : Type 0 where
  pub numbered : Numbered ns
  pub stands : Stands ns l at end
  pub marks : marked ns (tokens_at ns l at end) m ≡ marked ns (line_tokens ns l) old

pub marking_first : {ns : List (List ℕ)} {l : List ℕ} (m : List ℕ) → Over ns l → Marking ns l m 3 3 m
unfolding line_tokens
marking_first {ns} {l} m o = record { numbered = o.numbered; stands = stands_first ns l o.formed; marks = refl }

module _ {ns : List (List ℕ)} {l old : List ℕ} {at end : ℕ} {m : List ℕ} (k : Marking ns l old at end m) where
  -- the piece's bytes are there
  pub marking_fits : {c : Piece} → at < length l → piece_at at end (drop at l) ≡ c → at + size_of c ≤ length l
  marking_fits {c} h e = (piece_stands ns l at end c h e k.stands).1

  pub marking_next : {c : Piece} → at < length l → piece_at at end (drop at l) ≡ c → {new : List ℕ} {stop to : ℕ} → new ≡ marked_piece c m → stop ≡ end_after end (drop at l) c → to ≡ at + size_of c → Marking ns l old to stop new
  marking_next {c} h e {new} {stop} {to} n f g =
      let r = piece_stands ns l at end c h e k.stands in
      let next : Marking ns l old (at + size_of c) (end_after end (drop at l) c) (marked_piece c m) = record {
        numbered = k.numbered;
        stands = r.2;
        marks = sym (piece_marks ns k.numbered (drop at l) c r.0 _ m) ∙ ap (λ (ts : List Token). marked ns ts m) (sym (tokens_split ns l at end c h e)) ∙ k.marks;
      } in
      subst (λ (z : List ℕ). Marking ns l old to stop z) (sym n) (subst (λ (z : ℕ). Marking ns l old z stop (marked_piece c m)) (sym g) (subst (λ (z : ℕ). Marking ns l old (at + size_of c) z (marked_piece c m)) (sym f) next))

  pub marking_done : length l ≤ at → m ≡ marked ns (line_tokens ns l) old
  unfolding marked
  marking_done h = ap (λ (ts : List Token). marked ns ts m) (sym (none_past ns l at end h)) ∙ k.marks
