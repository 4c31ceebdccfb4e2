-- The tokens of bytes: those of the piece at the front, and then those of the bytes after it.
use Prim.Native.Nat.{ℕ, zero, suc, pred, ◌+◌}
use Rattle.std.proofs.Math.Nat.{add-zero}
use native.Mathlib.Omega.{arith}
use Rattle.std.specs.Prelude.{◌≡◌, Bool, ◌||◌, eqb, leb, take}
use Rattle.std.proofs.Math.Path.{refl, ap}
use Rattle.std.proofs.Common.{ap₂, ◌∙◌}
use Rattle.std.proofs.Math.Bool.{true, false}
use mathlib.Core.List.{List, [], ◌∷◌, ◌++◌}
use Rattle.std.proofs.Math.ListN.{drop, get_or}
use Rattle.paper.specs.Bytes.{pick, run}
use Rattle.paper.specs.Tokens.{Token, statement, assigned, operator, variable, constant, string, raw}
use Rattle.paper.specs.Items.{raw_byte?}
use Rattle.paper.specs.Line.{variable_byte?, variable_size, variable_number, variable_name, raw_statement?, tokens_from}
use Rattle.list_pieces.specs.declared.Piece.{Piece}
use Rattle.list_pieces.specs.declared.Piece.TheVariants.{Word, Text, Target, NoTarget, Variable, Constant, Quoted, Operator}
use Rattle.list_pieces.specs.declared.VariableToken.{VariableToken}
use Rattle.list_pieces.specs.Variables.{variable_at}
use Rattle.list_pieces.specs.Pieces.{piece_at, tokens_of_piece, size_of, end_after}

module _ (ns : List (List ℕ)) where
  -- bytes passed over
  skip : (n p end : ℕ) (s : List ℕ) → tokens_from ns n p end s ≡ tokens_from ns 0 (p + n) end (drop n s)
  unfolding tokens_from
  skip zero p end s = rw add-zero
  skip (suc n) p end [] = refl
  skip (suc n) p end (b ∷ s) = skip n (suc p) end s ∙ (let e : suc p + n ≡ p + suc n = omega arith in ap (λ (q : ℕ). tokens_from ns 0 q end (drop n s)) e)

  -- the tokens after a piece
  abbrev after : ℕ → ℕ → List ℕ → Piece → List Token
  after p end s c = tokens_from ns 0 (p + size_of c) (end_after end s c) (drop (size_of c) s)

  -- the token that begins with a byte, by whether it is 80 or more and whether it is 00
  abbrev token_by : Bool → Bool → ℕ → VariableToken
  token_by x y i = record { number = i; size = pick (x || y) (pick y 2 1) 0 }

  -- a token and those after its bytes
  token_on : (t : Token) (p end b : ℕ) (s : List ℕ) (k m : ℕ) → suc p + k ≡ p + m → drop k s ≡ drop m (b ∷ s) → t ∷ tokens_from ns k (suc p) end s ≡ t ∷ tokens_from ns 0 (p + m) end (drop m (b ∷ s))
  token_on t p end b s k m q d = ap (λ (l : List Token). t ∷ l) (skip k (suc p) end s ∙ ap₂ (λ (i : ℕ) (l : List ℕ). tokens_from ns 0 i end l) q d)

  -- after 36 stands a variable's token, or a byte that is none
  target_go : (x y : Bool) (p end b : ℕ) (s : List ℕ)
      → assigned (variable_name ns (drop 1 s)) ∷ tokens_from ns (suc (pick y 2 1)) (suc p) b s
      ≡ (let v = token_by x y (variable_number (drop 1 s)) in let c = pick (eqb v.size 0) NoTarget (Target v) in tokens_of_piece ns (b ∷ s) c ++ after p end (b ∷ s) c)
  unfolding tokens_of_piece size_of end_after variable_name
  target_go true true p end b s = token_on _ p b b s 3 4 (omega arith) refl
  target_go true false p end b s = token_on _ p b b s 2 3 (omega arith) refl
  target_go false true p end b s = token_on _ p b b s 3 4 (omega arith) refl
  target_go false false p end b s = token_on _ p b b s 2 3 (omega arith) refl

  begun_go : (x y : Bool) (p end b : ℕ) (s : List ℕ) (t : Piece) → assigned (variable_name ns (drop 1 s)) ∷ tokens_from ns (suc (variable_size (drop 1 s))) (suc p) b s ≡ tokens_of_piece ns (b ∷ s) t ++ after p end (b ∷ s) t
      → pick x (assigned (variable_name ns (drop 1 s)) ∷ tokens_from ns (suc (variable_size (drop 1 s))) (suc p) b s)
      (pick y (statement (get_or s 0 0) ∷ raw (take (run raw_byte? (drop 1 s)) (drop 1 s)) ∷ operator 0x9b ∷ tokens_from ns (2 + run raw_byte? (drop 1 s)) (suc p) b s)
      (statement (get_or s 0 0) ∷ tokens_from ns 1 (suc p) b s))
      ≡ (let c = pick x t (pick y (Text (get_or s 0 0) (run raw_byte? (drop 1 s))) (Word (get_or s 0 0))) in tokens_of_piece ns (b ∷ s) c ++ after p end (b ∷ s) c)
  unfolding tokens_of_piece size_of end_after
  begun_go true y p end b s t h = h
  begun_go false true p end b s t h =
      let n : ℕ = run raw_byte? (drop 1 s) in
      let q : suc p + (2 + n) ≡ p + (3 + n) = omega arith in
      let m : suc (2 + n) ≡ 3 + n = omega arith in
      let r : drop (2 + n) s ≡ drop (3 + n) (b ∷ s) = ap (λ (k : ℕ). drop k (b ∷ s)) m in
      ap (λ (l : List Token). statement (get_or s 0 0) ∷ raw (take n (drop 1 s)) ∷ operator 0x9b ∷ l)
      (skip (2 + n) (suc p) b s ∙ ap (λ (z : ℕ). tokens_from ns 0 z b (drop (2 + n) s)) q ∙ ap (tokens_from ns 0 (p + (3 + n)) b) r)
  begun_go false false p end b s t h =
      let q : suc p + 1 ≡ p + 2 = omega arith in
      ap (λ (l : List Token). statement (get_or s 0 0) ∷ l) (skip 1 (suc p) b s ∙ ap (λ (z : ℕ). tokens_from ns 0 z b (drop 1 s)) q)

  within_go : (x o y z : Bool) (p end b : ℕ) (s : List ℕ)
      → pick (x || o) (variable (variable_name ns (b ∷ s)) ∷ tokens_from ns (pred (pick o 2 1)) (suc p) end s)
      (pick y (constant (take 6 s) ∷ tokens_from ns 6 (suc p) end s)
      (pick z (string (take (get_or s 0 0) (drop 1 s)) ∷ tokens_from ns (suc (get_or s 0 0)) (suc p) end s)
      (operator b ∷ tokens_from ns 0 (suc p) end s)))
      ≡ (let v = token_by x o (variable_number (b ∷ s)) in
      let c = pick (eqb v.size 0) (pick y Constant (pick z (Quoted (get_or s 0 0)) (Operator b))) (Variable v) in
      tokens_of_piece ns (b ∷ s) c ++ after p end (b ∷ s) c)
  unfolding tokens_of_piece size_of end_after variable_name
  within_go true true y z p end b s = token_on _ p end b s 1 2 (omega arith) refl
  within_go true false y z p end b s = token_on _ p end b s 0 1 (omega arith) refl
  within_go false true y z p end b s = token_on _ p end b s 1 2 (omega arith) refl
  within_go false false true z p end b s =
      let q : suc p + 6 ≡ p + 7 = omega arith in ap (λ (l : List Token). constant (take 6 s) ∷ l) (skip 6 (suc p) end s ∙ ap (λ (k : ℕ). tokens_from ns 0 k end (drop 6 s)) q)
  within_go false false false true p end b s =
      let n : ℕ = get_or s 0 0 in
      let q : suc p + suc n ≡ p + (2 + n) = omega arith in
      let m : suc (suc n) ≡ 2 + n = omega arith in
      let r : drop (suc n) s ≡ drop (2 + n) (b ∷ s) = ap (λ (k : ℕ). drop k (b ∷ s)) m in
      ap (λ (l : List Token). string (take n (drop 1 s)) ∷ l)
      (skip (suc n) (suc p) end s ∙ ap (λ (k : ℕ). tokens_from ns 0 k end (drop (suc n) s)) q ∙ ap (tokens_from ns 0 (p + (2 + n)) end) r)
  within_go false false false false p end b s =
      let q : suc p ≡ p + 1 = omega arith in ap (λ (k : ℕ). operator b ∷ tokens_from ns 0 k end s) q

  either : (x : Bool) (a b : List Token) (c d : Piece) (f : Piece → List Token) → a ≡ f c → b ≡ f d → pick x a b ≡ f (pick x c d)
  either true a b c d f h k = h
  either false a b c d f h k = k

  -- bytes that are there begin with their piece
  pub pieces : (p end b : ℕ) (s : List ℕ)
      → tokens_from ns 0 p end (b ∷ s) ≡ (let c = piece_at p end (b ∷ s) in tokens_of_piece ns (b ∷ s) c ++ tokens_from ns 0 (p + size_of c) (end_after end (b ∷ s) c) (drop (size_of c) (b ∷ s)))
  unfolding tokens_from piece_at variable_at variable_byte? variable_size
  pieces p end b s =
      let f : ℕ = get_or (drop 1 s) 0 0 in
      either (eqb p end) _ _ _ _ (λ c. tokens_of_piece ns (b ∷ s) c ++ after p end (b ∷ s) c)
      (begun_go (eqb (get_or s 0 0) 0x36) (raw_statement? (get_or s 0 0)) p end b s _ (target_go (leb 0x80 f) (eqb f 0) p end b s))
      (within_go (leb 0x80 b) (eqb b 0) (eqb b 0x0e) (eqb b 0x0f) p end b s)
