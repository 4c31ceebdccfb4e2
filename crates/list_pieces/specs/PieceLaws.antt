-- What the tests that tell a piece say of its bytes; and tokens that are written: those of a piece, and those after it.
use Prim.Native.Nat.{ℕ, suc, ◌+◌, ◌-◌, ◌≤◌, ◌<◌}
use native.Mathlib.Omega.{arith}
use Rattle.std.specs.Prelude.{◌≡◌, Bool, true, not, eqb}
use Rattle.std.proofs.Math.Path.{refl, subst, sym, ap, ap₂}
use Rattle.std.proofs.Common.{◌∙◌, lt→ltb, take-append-drop, drop-cons, eqb-true}
use Rattle.std.proofs.Math.Bool.{false}
use mathlib.Core.List.{List, [], ◌∷◌, ◌++◌}
use Rattle.std.proofs.Math.Dec.{T, ltb→lt}
use Rattle.std.proofs.Math.ListN.{length, take, drop, get_or, length-append, length-drop}
use Rattle.std.proofs.Math.Seq.{drop-drop, length-take-le, get_or-drop}
use Rattle.std.proofs.lemmas.Bool.{eqb-false}
use Rattle.paper.specs.Bytes.{pick, run, every}
use Rattle.paper.specs.Tokens.{Token, statement, assigned, operator, variable, constant, string, raw}
use Rattle.paper.specs.Names.{number_of, known?}
use Rattle.paper.specs.Items.{raw_byte?}
use Rattle.paper.specs.Line.{own_bytes, begins?, number_bytes, variable_byte?, variable_size, variable_bytes, raw_statement?}
use Rattle.paper.specs.WellFormed.{right_token?}
use Rattle.laws.specs.Tests.{and_left, and_right, and_both, as_T}
use Rattle.laws.specs.Variables.{byte_form}
use Rattle.laws.specs.Constants.{six_long}
use Rattle.buffers.specs.Runs.{run_within}
use Rattle.list_pieces.specs.declared.Piece.{Piece}
use Rattle.list_pieces.specs.declared.VariableToken.{VariableToken}
use Rattle.list_pieces.specs.declared.Piece.TheVariants.{Word, Text, Target, NoTarget, Variable, Constant, Quoted, Operator}
use Rattle.list_pieces.specs.Variables.{variable_at}
use Rattle.list_pieces.specs.VariableLaws.{bytes_some, none_low, written_read, read_size, read_written}
use Rattle.list_pieces.specs.Pieces.{piece_at, size_of, end_after, Named, Holds}
use Rattle.list_pieces.specs.Rest.{Numbered, Written}
use Rattle.list_pieces.specs.Written.{head_is, within, within_up, begun, begun_up}

-- ---- what the tests say

-- what is known of the bytes s at offset p, in a statement that ends at `end`, where this piece stands
abbrev pub Is : ℕ → ℕ → List ℕ → Piece → Type 0
Is p end s (Word t) = (p ≡ end) × (t ≡ get_or s 1 0)
Is p end s (Text t n) = (p ≡ end) × (t ≡ get_or s 1 0) × (n ≡ run raw_byte? (drop 2 s))
Is p end s (Target v) = (p ≡ end) × (get_or s 1 0 ≡ 0x36) × (v ≡ variable_at (drop 2 s)) × (v.size ≡ 0 → ⊥)
Is p end s NoTarget = (variable_at (drop 2 s)).size ≡ 0
Is p end s (Variable v) = (v ≡ variable_at s) × (v.size ≡ 0 → ⊥)
Is p end s Constant = get_or s 0 0 ≡ 0x0e
Is p end s (Quoted n) = (get_or s 0 0 ≡ 0x0f) × (n ≡ get_or s 1 0)
Is p end s (Operator t) = (t ≡ get_or s 0 0) × ((variable_at s).size ≡ 0)

target_is : (p end : ℕ) (s : List ℕ) (x : Bool) → let v = variable_at (drop 2 s) in p ≡ end → get_or s 1 0 ≡ 0x36 → eqb v.size 0 ≡ x → Is p end s (pick x NoTarget (Target v))
target_is p end s true e h k = eqb-true (variable_at (drop 2 s)).size 0 k
target_is p end s false e h k = (e, h, refl, eqb-false (variable_at (drop 2 s)).size 0 k)

begun_is : (p end : ℕ) (s : List ℕ) (x y : Bool) → let v = variable_at (drop 2 s) in p ≡ end → eqb (get_or s 1 0) 0x36 ≡ x
    → Is p end s (pick x (pick (eqb v.size 0) NoTarget (Target v)) (pick y (Text (get_or s 1 0) (run raw_byte? (drop 2 s))) (Word (get_or s 1 0))))
begun_is p end s true y e h = target_is p end s (eqb (variable_at (drop 2 s)).size 0) e (eqb-true (get_or s 1 0) 0x36 h) refl
begun_is p end s false true e h = (e, refl, refl)
begun_is p end s false false e h = (e, refl)

within_is : (p end : ℕ) (s : List ℕ) (x y z : Bool) → let v = variable_at s in eqb v.size 0 ≡ x → eqb (get_or s 0 0) 0x0e ≡ y → eqb (get_or s 0 0) 0x0f ≡ z
    → Is p end s (pick x (pick y Constant (pick z (Quoted (get_or s 1 0)) (Operator (get_or s 0 0)))) (Variable v))
within_is p end s false y z h k l = (refl, eqb-false (variable_at s).size 0 h)
within_is p end s true true z h k l = eqb-true (get_or s 0 0) 0x0e k
within_is p end s true false true h k l = (eqb-true (get_or s 0 0) 0x0f l, refl)
within_is p end s true false false h k l = (refl, eqb-true (variable_at s).size 0 h)

is_go : (p end : ℕ) (s : List ℕ) (x : Bool) (c d : Piece) → (x ≡ true → Is p end s c) → Is p end s d → Is p end s (pick x c d)
is_go p end s true c d f g = f refl
is_go p end s false c d f g = g

pub piece_is : (p end : ℕ) (s : List ℕ) → Is p end s (piece_at p end s)
unfolding piece_at
piece_is p end s =
    is_go p end s (eqb p end) _ _ (λ e. begun_is p end s (eqb (get_or s 1 0) 0x36) (raw_statement? (get_or s 1 0)) (eqb-true p end e) refl)
    (within_is p end s (eqb (variable_at s).size 0) (eqb (get_or s 0 0) 0x0e) (eqb (get_or s 0 0) 0x0f) refl refl refl)

-- every piece has a byte
is_some : (p end : ℕ) (s : List ℕ) (c : Piece) → Is p end s c → 1 ≤ size_of c
unfolding size_of
is_some p end s (Word t) i = omega arith
is_some p end s (Text t n) i = omega arith
is_some p end s (Target v) i = omega arith
is_some p end s NoTarget i = omega arith
is_some p end s (Variable v) i = let n : v.size ≡ 0 → ⊥ = i.1 in omega (arith, n)
is_some p end s Constant i = omega arith
is_some p end s (Quoted n) i = omega arith
is_some p end s (Operator t) i = omega arith

pub piece_some : (p end : ℕ) (s : List ℕ) (c : Piece) → piece_at p end s ≡ c → 1 ≤ size_of c
piece_some p end s c e = is_some p end s c (subst (Is p end s) e (piece_is p end s))

-- and few more than are left of the line
token_most : (s : List ℕ) → (variable_at s).size ≤ 2
unfolding variable_at variable_size
token_most s = go (variable_byte? (get_or s 0 0)) (eqb (get_or s 0 0) 0)
  where
    go : (a b : Bool) → pick a (pick b 2 1) 0 ≤ 2
    go true true = omega arith
    go true false = omega arith
    go false b = omega arith

is_few : (p end : ℕ) (s : List ℕ) (c : Piece) → get_or s 1 0 < 256 → Is p end s c → size_of c ≤ 258 + length s
unfolding size_of
is_few p end s (Word t) h i = omega arith
is_few p end s (Text t n) h i = omega (arith, i.2, run_within raw_byte? (drop 2 s), length-drop 2 s)
is_few p end s (Target v) h i = omega (arith, ap (λ (z : VariableToken). z.size) i.2, token_most (drop 2 s))
is_few p end s NoTarget h i = omega arith
is_few p end s (Variable v) h i = omega (arith, ap (λ (z : VariableToken). z.size) i.0, token_most s)
is_few p end s Constant h i = omega arith
is_few p end s (Quoted n) h i = omega (arith, i.1)
is_few p end s (Operator t) h i = omega arith

pub piece_few : (p end : ℕ) (s : List ℕ) (c : Piece) → get_or s 1 0 < 256 → piece_at p end s ≡ c → size_of c ≤ 258 + length s
piece_few p end s c h e = is_few p end s c h (subst (Is p end s) e (piece_is p end s))

-- A variable's token that is told of bytes has the form of its number: it is right if its number is that of a name and its bytes are there.
told : (ns : List (List ℕ)) (s : List ℕ) (v : VariableToken) → v ≡ variable_at s → (v.size ≡ 0 → ⊥) → get_or s 0 0 < 256 → v.number < length ns → v.size ≤ length s → Named ns s v
unfolding variable_at
told ns s v e n b h l =
    let m = ap (λ (z : VariableToken). z.size) e in
    let r = read_size s (λ z. n (m ∙ z)) in
    record { name = h; form = ap (λ (z : VariableToken). length (number_bytes z.number)) e ∙ byte_form s b ∙ sym (m ∙ r.1); there = l }

pub variable_told : (ns : List (List ℕ)) (p end : ℕ) (s : List ℕ) (v : VariableToken) → piece_at p end s ≡ Variable v → get_or s 0 0 < 256 → v.number < length ns → v.size ≤ length s → Named ns s v
variable_told ns p end s v e = let i = subst (Is p end s) e (piece_is p end s) in told ns s v i.0 i.1

pub target_told : (ns : List (List ℕ)) (p end : ℕ) (s : List ℕ) (v : VariableToken) → piece_at p end s ≡ Target v → get_or s 2 0 < 256 → v.number < length ns → 2 + v.size ≤ length s → Named ns (drop 2 s) v
target_told ns p end s v e b h l =
    let i = subst (Is p end s) e (piece_is p end s) in told ns (drop 2 s) v i.2 i.3 (omega (arith, get_or-drop 2 s 0 0)) h (omega (arith, length-drop 2 s))

-- an operator is below 128
pub operator_below : (p end : ℕ) (s : List ℕ) (t : ℕ) → piece_at p end s ≡ Operator t → t < 128
operator_below p end s t e = let i = subst (Is p end s) e (piece_is p end s) in subst (λ (z : ℕ). z < 128) (sym i.0) (none_low s i.1)

-- ---- runs

run_ends_go : (q : ℕ → Bool) (x : ℕ) (s : List ℕ) (b : Bool) → q x ≡ b → (run q s < length s → q (get_or s (run q s) 0) ≡ false) → pick b (suc (run q s)) 0 < suc (length s) → q (get_or (x ∷ s) (pick b (suc (run q s)) 0) 0) ≡ false
run_ends_go q x s true e ih h = ih (omega arith)
run_ends_go q x s false e ih h = e

pub run_ends : (q : ℕ → Bool) (s : List ℕ) → run q s < length s → q (get_or s (run q s) 0) ≡ false
unfolding run
run_ends q [] h = absurd (omega arith)
run_ends q (x ∷ s) h = run_ends_go q x s (q x) refl (λ k. run_ends q s k) h

run_raw_go : (x : ℕ) (u : List ℕ) (y : Bool) → raw_byte? x ≡ y → T (every raw_byte? (take (run raw_byte? u) u)) → T (every raw_byte? (take (pick y (suc (run raw_byte? u)) 0) (x ∷ u)))
unfolding every
run_raw_go x u true e ih = and_both (raw_byte? x) _ (as_T (raw_byte? x) e) ih
run_raw_go x u false e ih = tt

run_raw : (u : List ℕ) → T (every raw_byte? (take (run raw_byte? u) u))
unfolding run every
run_raw [] = tt
run_raw (x ∷ u) = run_raw_go x u (raw_byte? x) refl (run_raw u)

pub not_raw : (b : ℕ) → raw_byte? b ≡ false → b ≡ 0x9b
unfolding raw_byte?
not_raw b h = go (eqb b 0x9b) refl h
  where
    go : (x : Bool) → eqb b 0x9b ≡ x → not x ≡ false → b ≡ 0x9b
    go true e k = eqb-true b 0x9b e
    go false e k = absurd (as_T false (sym k))

-- ---- places

at_place : {ns : List (List ℕ)} {p q end : ℕ} {s : List ℕ} {ts : List Token} → p ≡ q → Written ns p end s ts → Written ns q end s ts
at_place {ns} {p} {q} {end} {s} {ts} e w = subst (λ (z : ℕ). Written ns z end s ts) e w

at_bytes : {ns : List (List ℕ)} {p end : ℕ} {s r : List ℕ} {ts : List Token} → s ≡ r → Written ns p end s ts → Written ns p end r ts
at_bytes {ns} {p} {end} {s} {r} {ts} e w = subst (λ (z : List ℕ). Written ns p end z ts) e w

-- a list that has something in front is long enough
front_long : (xs : List ℕ) (s r : List ℕ) → xs ++ r ≡ s → length xs ≤ length s
front_long xs s r e = omega (arith, length-append xs r, ap length e)

-- ---- pieces of one token, less

module _ (ns : List (List ℕ)) (p end b : ℕ) (s : List ℕ) (gs : List Token) where
  -- what is left after a piece
  abbrev pub Left : Piece → Type 0
  Left c = Holds ns (b ∷ s) c × (size_of c ≤ suc (length s)) × Written ns (p + size_of c) (end_after end (b ∷ s) c) (drop (size_of c) (b ∷ s)) gs

  pub less_word : (t : ℕ) → Written ns p end (b ∷ s) (statement t ∷ gs) → Left (Word t)
  unfolding own_bytes begins? size_of end_after
  less_word t w =
      let r = begun ns (statement t) gs p end b s refl w in
      let l : 1 ≤ length s = front_long (t ∷ []) s (drop 1 s) r.front in
      (omega arith, omega arith, at_place (omega arith) r.others)

  -- the bytes after an offset
  after_offset : (k n : ℕ) → suc k ≡ n → drop k s ≡ drop n (b ∷ s)
  after_offset k n e = ap (λ (z : ℕ). drop z (b ∷ s)) e

  -- the token of a name is read as such
  named : (v : VariableToken) (n u : List ℕ) → v ≡ record { number = number_of ns n; size = length (variable_bytes ns n) } → T (known? ns n) → length (variable_bytes ns n) ≤ length u → Named ns u v
  unfolding known? variable_bytes
  named v n u e k l =
      let i : v.number ≡ number_of ns n = ap (λ (z : VariableToken). z.number) e in
      let m : v.size ≡ length (number_bytes (number_of ns n)) = ap (λ (z : VariableToken). z.size) e in
      record { name = omega (arith, ltb→lt (number_of ns n) (length ns) k); form = ap (λ (z : ℕ). length (number_bytes z)) i ∙ sym m; there = omega arith }

  pub less_target : (v : VariableToken) → Is p end (b ∷ s) (Target v) → Written ns p end (b ∷ s) (assigned (get_or ns v.number []) ∷ gs) → Left (Target v)
  unfolding own_bytes begins? size_of end_after right_token?
  less_target v i w =
      let n : List ℕ = get_or ns v.number [] in
      let r = begun ns (assigned n) gs p end b s refl w in
      let o : List ℕ = variable_bytes ns n in
      let l : suc (length o) ≤ length s = front_long (0x36 ∷ o) s (drop (suc (length o)) s) r.front in
      let e : v ≡ record { number = number_of ns n; size = length o } = i.2 ∙ written_read ns n (drop (suc (length o)) s) (drop 1 s) (ap (drop 1) r.front) in
      let m : v.size ≡ length o = ap (λ (z : VariableToken). z.size) e in (
        (named v n (drop 1 s) e (and_left (known? ns n) _ r.is_right) (omega (arith, length-drop 1 s)), and_right (known? ns n) _ r.is_right),
        omega arith,
        at_place (omega arith) (at_bytes (after_offset (suc (length o)) (2 + v.size) (omega arith)) r.others),
      )

  -- without a variable's token nothing is written there
  pub less_none : Is p end (b ∷ s) NoTarget → (n : List ℕ) → Written ns p end (b ∷ s) (assigned n ∷ gs) → ⊥
  unfolding own_bytes begins?
  less_none i n w =
      let r = begun ns (assigned n) gs p end b s refl w in
      let o : List ℕ = variable_bytes ns n in
      let e = written_read ns n (drop (suc (length o)) s) (drop 1 s) (ap (drop 1) r.front) in
      let m : (variable_at (drop 1 s)).size ≡ length o = ap (λ (z : VariableToken). z.size) e in
      omega (arith, bytes_some ns n, m, i)

  pub less_variable : (v : VariableToken) → Is p end (b ∷ s) (Variable v) → Written ns p end (b ∷ s) (variable (get_or ns v.number []) ∷ gs) → Left (Variable v)
  unfolding own_bytes begins? size_of end_after right_token?
  less_variable v i w =
      let n : List ℕ = get_or ns v.number [] in
      let r = within ns (variable n) gs p end (b ∷ s) refl w in
      let o : List ℕ = variable_bytes ns n in
      let l : length o ≤ suc (length s) = front_long o (b ∷ s) (drop (length o) (b ∷ s)) r.front in
      let e : v ≡ record { number = number_of ns n; size = length o } = i.0 ∙ written_read ns n (drop (length o) (b ∷ s)) (b ∷ s) r.front in
      let m : v.size ≡ length o = ap (λ (z : VariableToken). z.size) e in
      (named v n (b ∷ s) e r.is_right (omega arith), omega arith, subst (λ (z : ℕ). Written ns (p + z) end (drop z (b ∷ s)) gs) (sym m) r.others)

  pub less_constant : Written ns p end (b ∷ s) (constant (take 6 s) ∷ gs) → Left Constant
  unfolding own_bytes begins? size_of end_after right_token?
  less_constant w =
      let r = within ns (constant (take 6 s)) gs p end (b ∷ s) refl w in
      let l : length (take 6 s) ≡ 6 = six_long (take 6 s) r.is_right in
      let m : suc (length (take 6 s)) ≡ 7 = ap suc l in
      let g : suc (length (take 6 s)) ≤ suc (length s) = front_long (0x0e ∷ take 6 s) (b ∷ s) _ r.front in
      let f : 7 ≤ suc (length s) = omega arith in
      (r.is_right, f, subst (λ (k : ℕ). Written ns (p + k) end (drop k (b ∷ s)) gs) m r.others)

  pub less_quoted : (n : ℕ) → Is p end (b ∷ s) (Quoted n) → Written ns p end (b ∷ s) (string (take n (drop 1 s)) ∷ gs) → Left (Quoted n)
  unfolding own_bytes begins? size_of end_after right_token?
  less_quoted n i w =
      let d : List ℕ = take n (drop 1 s) in
      let r = within ns (string d) gs p end (b ∷ s) refl w in
      let x : length d ≡ get_or s 0 0 = ap (λ (z : List ℕ). get_or z 1 0) r.front in
      let l : length d ≡ n = x ∙ sym i.1 in
      let m : suc (suc (length d)) ≡ 2 + n = omega arith in
      let f : suc (suc (length d)) ≤ suc (length s) = front_long (0x0f ∷ length d ∷ d) (b ∷ s) _ r.front in
      ((omega arith, r.is_right), omega arith, subst (λ (k : ℕ). Written ns (p + k) end (drop k (b ∷ s)) gs) m r.others)

  -- an operator, whatever it is: the byte that stands there
  pub less_operator : (t : ℕ) → Written ns p end (b ∷ s) (operator t ∷ gs) → (t ≡ b) × Left (Operator b)
  unfolding own_bytes begins? size_of end_after right_token?
  less_operator t w =
      let r = within ns (operator t) gs p end (b ∷ s) refl w in
      (head_is r.front, (tt, omega arith, r.others))

  -- raw text and whatever operator ends it
  pub less_text : (t n k : ℕ) → Is p end (b ∷ s) (Text t n) → Written ns p end (b ∷ s) (statement t ∷ raw (take n (drop 1 s)) ∷ operator k ∷ gs) → (k ≡ 0x9b) × Left (Text t n)
  unfolding own_bytes begins? size_of end_after right_token?
  less_text t n k i w =
      let u : List ℕ = drop 1 s in
      let d : List ℕ = take n u in
      let r = begun ns (statement t) (raw d ∷ operator k ∷ gs) p end b s refl w in
      let q = within ns (raw d) (operator k ∷ gs) (suc p + 1) b u refl r.others in
      let a = within ns (operator k) gs (suc p + 1 + length d) b (drop (length d) u) refl q.others in
      let h : 1 ≤ length s = front_long (t ∷ []) s u r.front in
      let j : n ≡ run raw_byte? u = i.2 in
      let l : length d ≡ n = length-take-le n u (omega (arith, run_within raw_byte? u, j)) in
      let m : 1 ≤ length (drop (length d) u) = front_long (k ∷ []) (drop (length d) u) _ a.front in
      let o : n < length u = omega (arith, length-drop (length d) u) in
      let v : length u ≡ length s - 1 = length-drop 1 s in
      let x : k ≡ get_or u n 0 = ap (λ (z : List ℕ). get_or z 0 0) a.front ∙ get_or-drop (length d) u 0 0 ∙ (let z : length d + 0 ≡ n = omega arith in ap (λ (i : ℕ). get_or u i 0) z) in
      let y : raw_byte? (get_or u n 0) ≡ false = subst (λ (z : ℕ). raw_byte? (get_or u z 0) ≡ false) (sym j) (run_ends raw_byte? u (omega arith)) in
      let e : drop 1 (drop (length d) u) ≡ drop (3 + n) (b ∷ s) =
      drop-drop 1 (length d) u ∙ drop-drop (length d + 1) 1 s ∙ (let z : suc (1 + (length d + 1)) ≡ 3 + n = omega arith in ap (λ (i : ℕ). drop i (b ∷ s)) z) in
      (x ∙ not_raw (get_or u n 0) y, (omega arith, omega arith, at_place (omega arith) (at_bytes e a.others)))

-- ---- and one more

pub known_there : (ns : List (List ℕ)) → Numbered ns → (i : ℕ) → i < length ns → T (known? ns (get_or ns i []))
unfolding known?
known_there ns d i h = lt→ltb (number_of ns (get_or ns i [])) (length ns) (omega (arith, d i h))

whole : (s : List ℕ) (n : ℕ) (xs : List ℕ) → xs ≡ take n s → length xs ≡ n → xs ++ drop (length xs) s ≡ s
whole s n xs e l = ap₂ (λ (a : List ℕ) (k : ℕ). a ++ drop k s) e l ∙ take-append-drop n s

module _ (ns : List (List ℕ)) (d : Numbered ns) (p end b : ℕ) (s : List ℕ) (gs : List Token) where
  -- what is written after a piece
  abbrev pub Later : Piece → Type 0
  Later c = Written ns (p + size_of c) (end_after end (b ∷ s) c) (drop (size_of c) (b ∷ s)) gs

  one_front : (s : List ℕ) (t : ℕ) → 1 ≤ length s → t ≡ get_or s 0 0 → t ∷ drop 1 s ≡ s
  one_front s t h e = ap (λ (z : ℕ). z ∷ drop 1 s) e ∙ sym (drop-cons s 0 0 h)

  pub more_word : (t : ℕ) → Is p end (b ∷ s) (Word t) → Holds ns (b ∷ s) (Word t) → Later (Word t) → Written ns p end (b ∷ s) (statement t ∷ gs)
  unfolding own_bytes begins? size_of end_after right_token?
  more_word t i h w =
      subst (λ (e : ℕ). Written ns p e (b ∷ s) (statement t ∷ gs)) i.0
      (begun_up ns (statement t) gs p b s refl (record { is_right = tt; front = one_front s t (omega arith) i.1; others = at_place (omega arith) w }))

  pub more_target : (v : VariableToken) → Is p end (b ∷ s) (Target v) → Holds ns (b ∷ s) (Target v) → Later (Target v) → Written ns p end (b ∷ s) (assigned (get_or ns v.number []) ∷ gs)
  unfolding own_bytes begins? size_of end_after right_token?
  more_target v i h w =
      let n : List ℕ = get_or ns v.number [] in
      let o : List ℕ = variable_bytes ns n in
      let x = read_written ns n (drop 1 s) (subst (λ (z : VariableToken). z.size ≡ 0 → ⊥) i.2 i.3) (d v.number h.0.name ∙ ap (λ (z : VariableToken). z.number) i.2) (subst (λ (z : VariableToken). length (number_bytes z.number) ≡ z.size) i.2 h.0.form) (subst (λ (z : VariableToken). z.size ≤ length (drop 1 s)) i.2 h.0.there) in
      let m : length o ≡ v.size = x.0 ∙ ap (λ (z : VariableToken). z.size) (sym i.2) in
      let j : drop (length o) (drop 1 s) ≡ drop (suc (length o)) s = drop-drop (length o) 1 s ∙ (let z : 1 + length o ≡ suc (length o) = omega arith in ap (λ (k : ℕ). drop k s) z) in
      let l : 1 ≤ length s = omega (arith, bytes_some ns n, ap length x.1, length-append o (drop (length o) (drop 1 s)), length-drop 1 s) in
      subst (λ (e : ℕ). Written ns p e (b ∷ s) (assigned n ∷ gs)) i.0
      (begun_up ns (assigned n) gs p b s refl (record {
        is_right = and_both (known? ns n) _ (known_there ns d v.number h.0.name) h.1;
        front = ap (λ (z : List ℕ). 0x36 ∷ (o ++ z)) (sym j) ∙ ap (λ (z : List ℕ). 0x36 ∷ z) x.1 ∙ one_front s 0x36 l (sym i.1);
        others = at_place (omega arith) (at_bytes (sym (after_offset ns p end b s gs (suc (length o)) (2 + v.size) (omega arith))) w);
      }))

  pub more_variable : (v : VariableToken) → Is p end (b ∷ s) (Variable v) → Holds ns (b ∷ s) (Variable v) → Later (Variable v) → Written ns p end (b ∷ s) (variable (get_or ns v.number []) ∷ gs)
  unfolding own_bytes begins? size_of end_after right_token?
  more_variable v i h w =
      let n : List ℕ = get_or ns v.number [] in
      let x = read_written ns n (b ∷ s) (subst (λ (z : VariableToken). z.size ≡ 0 → ⊥) i.0 i.1) (d v.number h.name ∙ ap (λ (z : VariableToken). z.number) i.0) (subst (λ (z : VariableToken). length (number_bytes z.number) ≡ z.size) i.0 h.form) (subst (λ (z : VariableToken). z.size ≤ suc (length s)) i.0 h.there) in
      let m : v.size ≡ length (variable_bytes ns n) = ap (λ (z : VariableToken). z.size) i.0 ∙ sym x.0 in
      within_up ns (variable n) gs p end (b ∷ s) refl (record {
        is_right = known_there ns d v.number h.name;
        front = x.1;
        others = subst (λ (z : ℕ). Written ns (p + z) end (drop z (b ∷ s)) gs) m w;
      })

  pub more_constant : Is p end (b ∷ s) Constant → Holds ns (b ∷ s) Constant → Later Constant → Written ns p end (b ∷ s) (constant (take 6 s) ∷ gs)
  unfolding own_bytes begins? size_of end_after right_token?
  more_constant i h w =
      let l : length (take 6 s) ≡ 6 = six_long (take 6 s) h in
      let m : suc (length (take 6 s)) ≡ 7 = ap suc l in
      within_up ns (constant (take 6 s)) gs p end (b ∷ s) refl (record {
        is_right = h;
        front = whole (b ∷ s) 7 (0x0e ∷ take 6 s) (ap (λ (z : ℕ). z ∷ take 6 s) (sym i)) m;
        others = subst (λ (k : ℕ). Written ns (p + k) end (drop k (b ∷ s)) gs) (sym m) w;
      })

  pub more_quoted : (n : ℕ) → Is p end (b ∷ s) (Quoted n) → Holds ns (b ∷ s) (Quoted n) → Later (Quoted n) → Written ns p end (b ∷ s) (string (take n (drop 1 s)) ∷ gs)
  unfolding own_bytes begins? size_of end_after right_token?
  more_quoted n i h w =
      let u : List ℕ = drop 1 s in
      let v : length u ≡ length s - 1 = length-drop 1 s in
      let q : List ℕ = take n u in
      let l : length q ≡ n = length-take-le n u (omega (arith, h.0)) in
      let m : suc (suc (length q)) ≡ 2 + n = omega arith in
      let f : 0x0f ∷ length q ∷ (q ++ drop (length q) u) ≡ b ∷ s =
      ap (λ (z : List ℕ). 0x0f ∷ length q ∷ z) (whole u n q refl l) ∙ ap₂ (λ (x : ℕ) (z : List ℕ). x ∷ z) (sym i.0) (one_front s (length q) (omega (arith, h.0)) (l ∙ i.1)) in
      let g : drop (length q) u ≡ drop (suc (length q)) s = drop-drop (length q) 1 s ∙ (let z : 1 + length q ≡ suc (length q) = omega arith in ap (λ (k : ℕ). drop k s) z) in
      within_up ns (string q) gs p end (b ∷ s) refl (record {
        is_right = h.1;
        front = ap (λ (z : List ℕ). 0x0f ∷ length q ∷ (q ++ z)) (sym g) ∙ f;
        others = subst (λ (k : ℕ). Written ns (p + k) end (drop k (b ∷ s)) gs) (sym m) w;
      })

  pub more_operator : Later (Operator b) → Written ns p end (b ∷ s) (operator b ∷ gs)
  unfolding own_bytes begins? size_of end_after right_token?
  more_operator w = within_up ns (operator b) gs p end (b ∷ s) refl (record { is_right = tt; front = refl; others = w })

  pub more_text : (t n : ℕ) → Is p end (b ∷ s) (Text t n) → Holds ns (b ∷ s) (Text t n) → Later (Text t n) → Written ns p end (b ∷ s) (statement t ∷ raw (take n (drop 1 s)) ∷ operator 0x9b ∷ gs)
  unfolding own_bytes begins? size_of end_after right_token?
  more_text t n i h w =
      let u : List ℕ = drop 1 s in
      let a : List ℕ = take n u in
      let v : length u ≡ length s - 1 = length-drop 1 s in
      let j : n ≡ run raw_byte? u = i.2 in
      let l : length a ≡ n = length-take-le n u (omega arith) in
      let y : raw_byte? (get_or u n 0) ≡ false = subst (λ (z : ℕ). raw_byte? (get_or u z 0) ≡ false) (sym j) (run_ends raw_byte? u (omega arith)) in
      let o : n < length u = omega arith in
      let f : 0x9b ∷ drop (suc n) u ≡ drop n u = sym (drop-cons u n 0 o ∙ ap (λ (z : ℕ). z ∷ drop (suc n) u) (not_raw (get_or u n 0) y)) in
      let e : drop (3 + n) (b ∷ s) ≡ drop 1 (drop n u) =
      (let z : 3 + n ≡ suc (1 + (n + 1)) = omega arith in ap (λ (k : ℕ). drop k (b ∷ s)) z) ∙ sym (drop-drop (n + 1) 1 s) ∙ sym (drop-drop 1 n u) in
      let g : drop (suc n) u ≡ drop 1 (drop n u) = (let z : suc n ≡ n + 1 = omega arith in ap (λ (k : ℕ). drop k u) z) ∙ sym (drop-drop 1 n u) in
      let third : Written ns (suc p + 1 + length a) b (drop (length a) u) (operator 0x9b ∷ gs) =
      subst (λ (k : ℕ). Written ns (suc p + 1 + k) b (drop k u) (operator 0x9b ∷ gs)) (sym l)
      (within_up ns (operator 0x9b) gs (suc p + 1 + n) b (drop n u) refl (record {
        is_right = tt;
        front = ap (λ (z : List ℕ). 0x9b ∷ z) (sym g) ∙ f;
        others = at_place (omega arith) (at_bytes e w);
      })) in
      let second : Written ns (suc p + 1) b u (raw a ∷ operator 0x9b ∷ gs) =
      within_up ns (raw a) (operator 0x9b ∷ gs) (suc p + 1) b u refl (record {
        is_right = subst (λ (k : ℕ). T (every raw_byte? (take k u))) (sym j) (run_raw u);
        front = whole u n a refl l;
        others = third;
      }) in
      subst (λ (k : ℕ). Written ns p k (b ∷ s) (statement t ∷ raw a ∷ operator 0x9b ∷ gs)) i.0
      (begun_up ns (statement t) (raw a ∷ operator 0x9b ∷ gs) p b s refl (record { is_right = tt; front = one_front s t (omega arith) i.1; others = second }))
