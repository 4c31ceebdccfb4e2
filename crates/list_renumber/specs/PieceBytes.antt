-- The new bytes of a piece are those of its tokens over the new names.
use Prim.Native.Nat.{ℕ, suc, ◌+◌, ◌≤◌}
use native.Mathlib.Omega.{arith}
use Rattle.std.specs.Prelude.{◌≡◌, true, false, drop}
use Rattle.std.proofs.Math.Path.{refl, sym, ap, ap₂}
use Rattle.std.proofs.Common.{subst, ◌∙◌, take-suc}
use mathlib.Core.List.{List, [], ◌∷◌, ◌++◌, append_assoc}
use Rattle.std.proofs.Math.ListN.{length, take, get_or, length-drop}
use Rattle.std.proofs.Math.Seq.{length-take-le}
use Rattle.paper.specs.Bytes.{run}
use Rattle.paper.specs.Tokens.{Token, statement, assigned, operator, raw}
use Rattle.paper.specs.Items.{raw_byte?}
use Rattle.paper.specs.Line.{number_bytes, variable_bytes, own_bytes, begins?, to_next, token_bytes}
use Rattle.list_pieces.specs.declared.Piece.{Piece}
use Rattle.list_pieces.specs.declared.Piece.TheVariants.{Word, Text, Target, NoTarget, Variable, Constant, Quoted, Operator}
use Rattle.list_pieces.specs.declared.VariableToken.{VariableToken}
use Rattle.list_pieces.specs.Pieces.{tokens_of_piece, size_of, Holds}
use Rattle.list_pieces.specs.Rest.{Numbered}
use Rattle.list_pieces.specs.PieceLaws.{Is, run_ends, not_raw}
use Rattle.list_measure.specs.Numbers.{new_size, piece_bytes}
use Rattle.list_measure.proofs.SizeLaws.{within_bytes, within_next, target_moved, NamedSo, number_own, inner}

-- a token that begins a statement, and those after it
begun_bytes : (new : List (List ℕ)) (t : Token) (w : List ℕ) → own_bytes new t ≡ w → (ts : List Token) (p : ℕ) → begins? t ≡ true → token_bytes new p (t ∷ ts) ≡ (suc p + length w + to_next new ts) ∷ (w ++ token_bytes new (suc p + length w) ts)
unfolding token_bytes
begun_bytes new t w e ts p b = rw b (ap (λ (x : List ℕ). (suc p + length x + to_next new ts) ∷ (x ++ token_bytes new (suc p + length x) ts)) e)

module _ (ns new : List (List ℕ)) (numbers : List ℕ) (d : Numbered ns) where
  -- raw text with its end, after the offset
  text_own : (p end b : ℕ) (s : List ℕ) (t n : ℕ) → Is p end (b ∷ s) (Text t n) → Holds ns (b ∷ s) (Text t n) → t ∷ (take n (drop 1 s) ++ 0x9b ∷ []) ≡ drop 1 (take (3 + n) (b ∷ s))
  text_own p end b [] t n i h = absurd (omega arith)
  text_own p end b (x ∷ s) t n i h =
      let e : 3 + n ≡ suc (suc (suc n)) = omega arith in
      let j : n ≡ run raw_byte? s = i.2 in
      let y : raw_byte? (get_or s n 0) ≡ false = subst (λ (z : ℕ). raw_byte? (get_or s z 0) ≡ false) (sym j) (run_ends raw_byte? s (omega arith)) in
      ap₂ (λ (z : ℕ) (r : List ℕ). z ∷ r) i.1 (ap (λ (z : ℕ). take n s ++ z ∷ []) (sym (not_raw (get_or s n 0) y)) ∙ sym (take-suc s n 0 (omega arith)))
      ∙ ap (λ (z : ℕ). drop 1 (take z (b ∷ x ∷ s))) (sym e)

  module _ (p end b : ℕ) (s : List ℕ) (ts : List Token) where
    -- the offset of a statement that begins with a piece at place q of the new line
    abbrev pub offset_at : Piece → ℕ → ℕ
    offset_at c q = q + new_size numbers c + to_next new ts

    word_bytes : (t o q : ℕ) → o ≡ offset_at (Word t) q → token_bytes new q (tokens_of_piece ns (b ∷ s) (Word t) ++ ts) ≡ piece_bytes numbers o (take (size_of (Word t)) (b ∷ s)) (Word t) ++ token_bytes new (q + new_size numbers (Word t)) ts
    unfolding tokens_of_piece own_bytes begins? piece_bytes new_size
    word_bytes t o q e =
        let a : suc q + 1 + to_next new ts ≡ o = omega (arith, e) in
        let k : suc q + 1 ≡ q + 2 = omega arith in
        begun_bytes new (statement t) (t ∷ []) refl ts q refl ∙ ap₂ (λ (x i : ℕ). x ∷ t ∷ token_bytes new i ts) a k

    target_bytes : (v : VariableToken) (o q : ℕ) → Holds ns (b ∷ s) (Target v) → NamedSo ns new numbers d (b ∷ s) (Target v) → o ≡ offset_at (Target v) q
        → token_bytes new q (tokens_of_piece ns (b ∷ s) (Target v) ++ ts) ≡ piece_bytes numbers o (take (size_of (Target v)) (b ∷ s)) (Target v) ++ token_bytes new (q + new_size numbers (Target v)) ts
    unfolding tokens_of_piece own_bytes begins? piece_bytes new_size
    target_bytes v o q h m e =
        let n : List ℕ = get_or ns v.number [] in
        let w : List ℕ = number_bytes (get_or numbers v.number 0) in
        let f : 0x36 ∷ variable_bytes new n ≡ 0x36 ∷ w = ap (λ (z : List ℕ). 0x36 ∷ z) (number_own ns new numbers d n (get_or numbers v.number 0) (target_moved ns new numbers d (b ∷ s) v h m).0) in
        let a : suc q + suc (length w) + to_next new ts ≡ o = omega (arith, e) in
        let k : suc q + suc (length w) ≡ q + (2 + length w) = omega arith in
        begun_bytes new (assigned n) (0x36 ∷ w) f ts q refl ∙ ap₂ (λ (x i : ℕ). x ∷ 0x36 ∷ (w ++ token_bytes new i ts)) a k

    text_bytes : (t n o q : ℕ) → Is p end (b ∷ s) (Text t n) → Holds ns (b ∷ s) (Text t n) → o ≡ offset_at (Text t n) q
        → token_bytes new q (tokens_of_piece ns (b ∷ s) (Text t n) ++ ts) ≡ piece_bytes numbers o (take (size_of (Text t n)) (b ∷ s)) (Text t n) ++ token_bytes new (q + new_size numbers (Text t n)) ts
    unfolding tokens_of_piece own_bytes begins? piece_bytes new_size size_of
    text_bytes t n o q i h e =
        let a : List ℕ = take n (drop 1 s) in
        let l : length a ≡ n = length-take-le n (drop 1 s) (omega (arith, length-drop 1 s)) in
        let f = begun_bytes new (statement t) (t ∷ []) refl (raw a ∷ operator 0x9b ∷ ts) q refl in
        let r = within_bytes new (raw a) a refl (operator 0x9b ∷ ts) (suc q + 1) n refl l in
        let k = within_bytes new (operator 0x9b) (0x9b ∷ []) refl ts (suc q + 1 + n) 1 refl refl in
        let x = within_next new (raw a) a refl (operator 0x9b ∷ ts) n refl l in
        let y = within_next new (operator 0x9b) (0x9b ∷ []) refl ts 1 refl refl in
        let z : suc q + 1 + to_next new (raw a ∷ operator 0x9b ∷ ts) ≡ o = omega (arith, e, x, y) in
        let j : suc q + 1 + n + 1 ≡ q + (3 + n) = omega arith in
        f
        ∙ ap₂ (λ (c : ℕ) (u : List ℕ). c ∷ t ∷ u) z (r ∙ ap (λ (u : List ℕ). a ++ u) k ∙ sym (append_assoc a (0x9b ∷ []) (token_bytes new (suc q + 1 + n + 1) ts)))
        ∙ ap₂ (λ (u : List ℕ) (c : ℕ). o ∷ (u ++ token_bytes new c ts)) (text_own p end b s t n i h) j

    -- the bytes of a piece's tokens, and those after it; the offset is right where the piece begins a statement
    pub bytes_of : (c : Piece) (o q : ℕ) → Is p end (b ∷ s) c → Holds ns (b ∷ s) c → size_of c ≤ length (b ∷ s) → NamedSo ns new numbers d (b ∷ s) c → (p ≡ end → o ≡ offset_at c q)
        → token_bytes new q (tokens_of_piece ns (b ∷ s) c ++ ts) ≡ piece_bytes numbers o (take (size_of c) (b ∷ s)) c ++ token_bytes new (q + new_size numbers c) ts
    bytes_of (Word t) o q i h l m f = word_bytes t o q (f i.0)
    bytes_of (Text t n) o q i h l m f = text_bytes t n o q i h (f i.0)
    bytes_of (Target v) o q i h l m f = target_bytes v o q h m (f i.0)
    bytes_of NoTarget o q i h l m f = absurd h
    bytes_of (Variable v) o q i h l m f = (inner ns new numbers d p end b s ts (Variable v) o q tt i h l m).bytes
    bytes_of Constant o q i h l m f = (inner ns new numbers d p end b s ts Constant o q tt i h l m).bytes
    bytes_of (Quoted n) o q i h l m f = (inner ns new numbers d p end b s ts (Quoted n) o q tt i h l m).bytes
    bytes_of (Operator t) o q i h l m f = (inner ns new numbers d p end b s ts (Operator t) o q tt i h l m).bytes
