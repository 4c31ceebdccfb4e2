-- How many bytes a piece has over the new names, alone and before what comes after it.
use Prim.Native.Nat.{ℕ, suc, ◌+◌, ◌≤◌, ◌<◌}
use native.Mathlib.Omega.{arith}
use Rattle.std.specs.Prelude.{◌≡◌, Bool, true, false, T, eqb, take, drop}
use Rattle.std.proofs.Math.Path.{refl, ap}
use Rattle.std.proofs.Common.{sym, ap₂, ◌∙◌}
use mathlib.Core.List.{List, [], ◌∷◌, ◌++◌}
use Rattle.std.proofs.Math.ListN.{length, get_or, length-drop}
use Rattle.std.proofs.Math.Seq.{length-take-le}
use borrow.Author.Tests.{eqb-true, eq-eqb, leb-true}
use Rattle.paper.specs.Bytes.{pick, every}
use Rattle.paper.specs.Tokens.{Token, statement, assigned, operator, variable, constant, string}
use Rattle.paper.specs.Names.{number_of}
use Rattle.paper.specs.Line.{number_bytes, variable_bytes, own_bytes, begins?, to_next, token_bytes, tokens_from, raw_statement?}
use Rattle.laws.specs.Tests.{and_left, and_right, is_true}
use Rattle.laws.specs.Names.{name_passes}
use Rattle.laws.specs.Renumbered.{lower_shorter}
use Rattle.list_pieces.specs.declared.Piece.{Piece}
use Rattle.list_pieces.specs.declared.Piece.TheVariants.{Word, Text, Target, NoTarget, Variable, Constant, Quoted, Operator}
use Rattle.list_pieces.specs.declared.VariableToken.{VariableToken}
use Rattle.list_pieces.specs.Pieces.{tokens_of_piece, size_of, end_after, Holds}
use Rattle.list_pieces.specs.Rest.{Numbered}
use Rattle.list_pieces.specs.PieceLaws.{Is}
use Rattle.list_measure.specs.Numbers.{moves?, new_size, piece_bytes}

-- ---- one token and those after it

module _ (new : List (List ℕ)) (t : Token) (w : List ℕ) (e : own_bytes new t ≡ w) (ts : List Token) where
  pub within_bytes : (p k : ℕ) → begins? t ≡ false → length w ≡ k → token_bytes new p (t ∷ ts) ≡ w ++ token_bytes new (p + k) ts
  unfolding token_bytes
  within_bytes p k b n = rw b (ap₂ (λ (x : List ℕ) (i : ℕ). x ++ token_bytes new (p + i) ts) e (ap length e ∙ n))

  pub within_next : (k : ℕ) → begins? t ≡ false → length w ≡ k → to_next new (t ∷ ts) ≡ k + to_next new ts
  unfolding to_next
  within_next k b n = rw b (ap (λ (i : ℕ). i + to_next new ts) (ap length e ∙ n))

-- ---- a piece and what comes after it

module _ (ns new : List (List ℕ)) (numbers : List ℕ) (d : Numbered ns) where
  -- the variable of a piece has a new number
  pub moved : (v : VariableToken) → v.number < length ns → T (moves? ns new numbers (get_or ns v.number [])) → (number_of new (get_or ns v.number []) ≡ get_or numbers v.number 0) × (get_or numbers v.number 0 ≤ v.number)
  unfolding moves?
  moved v h t =
      let n : List ℕ = get_or ns v.number [] in
      let i : number_of ns n ≡ v.number = d v.number h in
      let a = eqb-true (number_of new n) (get_or numbers (number_of ns n) 0) (is_true _ (and_left (eqb (number_of new n) (get_or numbers (number_of ns n) 0)) _ t)) in
      let b = leb-true (number_of new n) (number_of ns n) (is_true _ (and_right (eqb (number_of new n) (get_or numbers (number_of ns n) 0)) _ t)) in
      let e : number_of new n ≡ get_or numbers v.number 0 = a ∙ ap (λ (k : ℕ). get_or numbers k 0) i in
      (e, omega (arith, e, i, b))

  -- what is known of a piece of a line whose names move
  abbrev pub NamedSo : List ℕ → Piece → Type 0
  NamedSo u c = T (every (name_passes (moves? ns new numbers)) (tokens_of_piece ns u c))

  pub target_moved : (u : List ℕ) (v : VariableToken) → Holds ns u (Target v) → NamedSo u (Target v) → (number_of new (get_or ns v.number []) ≡ get_or numbers v.number 0) × (get_or numbers v.number 0 ≤ v.number)
  unfolding every name_passes tokens_of_piece
  target_moved u v h t = moved v h.0.name (and_left (moves? ns new numbers (get_or ns v.number [])) _ t)

  variable_moved : (u : List ℕ) (v : VariableToken) → Holds ns u (Variable v) → NamedSo u (Variable v) → (number_of new (get_or ns v.number []) ≡ get_or numbers v.number 0) × (get_or numbers v.number 0 ≤ v.number)
  unfolding every name_passes tokens_of_piece
  variable_moved u v h t = moved v h.name (and_left (moves? ns new numbers (get_or ns v.number [])) _ t)

  -- a piece is no longer than it was
  pub piece_shorter : (u : List ℕ) (c : Piece) → Holds ns u c → NamedSo u c → new_size numbers c ≤ size_of c
  unfolding new_size size_of
  piece_shorter u (Word t) h q = omega arith
  piece_shorter u (Text t n) h q = omega arith
  piece_shorter u (Target v) h q = let m = target_moved u v h q in let k : length (number_bytes v.number) ≡ v.size = h.0.form in omega (arith, lower_shorter (get_or numbers v.number 0) v.number m.1, k)
  piece_shorter u NoTarget h q = omega arith
  piece_shorter u (Variable v) h q = let m = variable_moved u v h q in let k : length (number_bytes v.number) ≡ v.size = h.form in omega (arith, lower_shorter (get_or numbers v.number 0) v.number m.1, k)
  piece_shorter u Constant h q = omega arith
  piece_shorter u (Quoted n) h q = omega arith
  piece_shorter u (Operator t) h q = omega arith

  -- ---- the bytes of each piece that stands within a statement, with the rest of the line u = b ∷ s

  pub number_own : (n : List ℕ) (k : ℕ) → number_of new n ≡ k → variable_bytes new n ≡ number_bytes k
  unfolding variable_bytes
  number_own n k e = ap number_bytes e

  constant_own : (p end b : ℕ) (s : List ℕ) → Is p end (b ∷ s) Constant → 0x0e ∷ take 6 s ≡ take 7 (b ∷ s)
  constant_own p end b s i = ap (λ (z : ℕ). z ∷ take 6 s) (sym i)

  quoted_own : (p end b : ℕ) (s : List ℕ) (n : ℕ) → Is p end (b ∷ s) (Quoted n) → Holds ns (b ∷ s) (Quoted n) → 0x0f ∷ length (take n (drop 1 s)) ∷ take n (drop 1 s) ≡ take (2 + n) (b ∷ s)
  quoted_own p end b [] n i h = absurd (omega (arith, h.0))
  quoted_own p end b (x ∷ s) n i h =
      let e : 2 + n ≡ suc (suc n) = omega arith in
      let l : length (take n s) ≡ n = length-take-le n s (omega (arith, h.0)) in
      ap₂ (λ (y z : ℕ). y ∷ z ∷ take n s) (sym i.0) (l ∙ i.1) ∙ ap (λ (z : ℕ). take z (b ∷ x ∷ s)) (sym e)

  -- how many bytes they are
  pub bytes_long : (o : ℕ) (u : List ℕ) (c : Piece) → Holds ns u c → size_of c ≤ length u → length (piece_bytes numbers o (take (size_of c) u) c) ≡ new_size numbers c
  unfolding piece_bytes new_size size_of
  bytes_long o u (Word t) h l = refl
  bytes_long o u (Text t n) h l = omega (arith, length-drop 1 (take (3 + n) u), length-take-le (3 + n) u l)
  bytes_long o u (Target v) h l = omega arith
  bytes_long o u NoTarget h l = absurd h
  bytes_long o u (Variable v) h l = refl
  bytes_long o u Constant h l = length-take-le 7 u l
  bytes_long o u (Quoted n) h l = length-take-le (2 + n) u l
  bytes_long o u (Operator t) h l = refl

  module _ (p end b : ℕ) (s : List ℕ) (ts : List Token) where
    -- one token within a statement: its own bytes are the piece's
    pub record Inside (c : Piece) (o q : ℕ) : Type 0 where
      pub bytes : token_bytes new q (tokens_of_piece ns (b ∷ s) c ++ ts) ≡ piece_bytes numbers o (take (size_of c) (b ∷ s)) c ++ token_bytes new (q + new_size numbers c) ts
      pub next : to_next new (tokens_of_piece ns (b ∷ s) c ++ ts) ≡ new_size numbers c + to_next new ts

    inside : (c : Piece) (o q : ℕ) (t : Token) → tokens_of_piece ns (b ∷ s) c ≡ t ∷ [] → begins? t ≡ false → own_bytes new t ≡ piece_bytes numbers o (take (size_of c) (b ∷ s)) c → length (piece_bytes numbers o (take (size_of c) (b ∷ s)) c) ≡ new_size numbers c → Inside c o q
    inside c o q t f g e n = record {
      bytes = ap (λ (z : List Token). token_bytes new q (z ++ ts)) f ∙ within_bytes new t (piece_bytes numbers o (take (size_of c) (b ∷ s)) c) e ts q (new_size numbers c) g n;
      next = ap (λ (z : List Token). to_next new (z ++ ts)) f ∙ within_next new t (piece_bytes numbers o (take (size_of c) (b ∷ s)) c) e ts (new_size numbers c) g n;
    }

    -- a piece that stands within a statement
    abbrev pub Inner : Piece → Type 0
    Inner (Word t) = ⊥
    Inner (Text t n) = ⊥
    Inner (Target v) = ⊥
    Inner NoTarget = ⊥
    Inner (Variable v) = Unit {0}
    Inner Constant = Unit {0}
    Inner (Quoted n) = Unit {0}
    Inner (Operator t) = Unit {0}

    pub inner : (c : Piece) (o q : ℕ) → Inner c → Is p end (b ∷ s) c → Holds ns (b ∷ s) c → size_of c ≤ length (b ∷ s) → NamedSo (b ∷ s) c → Inside c o q
    unfolding tokens_of_piece own_bytes begins? piece_bytes size_of
    inner (Word t) o q x i h l m = absurd x
    inner (Text t n) o q x i h l m = absurd x
    inner (Target v) o q x i h l m = absurd x
    inner NoTarget o q x i h l m = absurd x
    inner (Variable v) o q x i h l m = inside (Variable v) o q (variable (get_or ns v.number [])) refl refl (number_own (get_or ns v.number []) (get_or numbers v.number 0) (variable_moved (b ∷ s) v h m).0) (bytes_long o (b ∷ s) (Variable v) h l)
    inner Constant o q x i h l m = inside Constant o q (constant (take 6 s)) refl refl (constant_own p end b s i) (bytes_long o (b ∷ s) Constant h l)
    inner (Quoted n) o q x i h l m = inside (Quoted n) o q (string (take n (drop 1 s))) refl refl (quoted_own p end b s n i h) (bytes_long o (b ∷ s) (Quoted n) h l)
    inner (Operator t) o q x i h l m = inside (Operator t) o q (operator t) refl refl refl (bytes_long o (b ∷ s) (Operator t) h l)

    -- within a statement a piece stands before the next one
    pub next_of : (c : Piece) → Is p end (b ∷ s) c → Holds ns (b ∷ s) c → size_of c ≤ length (b ∷ s) → NamedSo (b ∷ s) c → (p ≡ end → ⊥) → to_next new (tokens_of_piece ns (b ∷ s) c ++ ts) ≡ new_size numbers c + to_next new ts
    next_of (Word t) i h l m f = absurd (f i.0)
    next_of (Text t n) i h l m f = absurd (f i.0)
    next_of (Target v) i h l m f = absurd (f i.0)
    next_of NoTarget i h l m f = absurd h
    next_of (Variable v) i h l m f = (inner (Variable v) 0 0 tt i h l m).next
    next_of Constant i h l m f = (inner Constant 0 0 tt i h l m).next
    next_of (Quoted n) i h l m f = (inner (Quoted n) 0 0 tt i h l m).next
    next_of (Operator t) i h l m f = (inner (Operator t) 0 0 tt i h l m).next

    -- and does not move its end
    pub end_stays : (c : Piece) → Is p end (b ∷ s) c → Holds ns (b ∷ s) c → (p ≡ end → ⊥) → end_after end (b ∷ s) c ≡ end
    unfolding end_after
    end_stays (Word t) i h f = absurd (f i.0)
    end_stays (Text t n) i h f = absurd (f i.0)
    end_stays (Target v) i h f = absurd (f i.0)
    end_stays NoTarget i h f = absurd h
    end_stays (Variable v) i h f = refl
    end_stays Constant i h f = refl
    end_stays (Quoted n) i h f = refl
    end_stays (Operator t) i h f = refl

-- where a statement ends, another begins, or nothing stands
begins_go : (new : List (List ℕ)) (x y : Bool) (n : List ℕ) (t : ℕ) (a c d : List Token) → to_next new (pick x (assigned n ∷ a) (pick y (statement t ∷ c) (statement t ∷ d))) ≡ 0
unfolding to_next begins?
begins_go new true y n t a c d = refl
begins_go new false true n t a c d = refl
begins_go new false false n t a c d = refl

pub next_begins : (ns new : List (List ℕ)) (p end : ℕ) (u : List ℕ) → p ≡ end → to_next new (tokens_from ns 0 p end u) ≡ 0
unfolding tokens_from to_next
next_begins ns new p end [] e = refl
next_begins ns new p end (b ∷ s) e = rw (eq-eqb p end e) (begins_go new (eqb (get_or s 0 0) 0x36) (raw_statement? (get_or s 0 0)) _ (get_or s 0 0) _ _ _)
