-- Weights are small: so many bytes have a listing of at most 65,536 times as many, over a name table of at most 65,535 bytes.
use Prim.Native.Nat.{ℕ, zero, suc, ◌+◌, ◌-◌, ◌*◌, ◌/◌, ◌%◌, ◌≤◌}
use native.Mathlib.Omega.{arith}
use Rattle.std.specs.Prelude.{◌≡◌, refl, Bool, true, false, T, leb, ltb, take, drop, get_or}
use Rattle.std.proofs.Math.Path.{ap}
use mathlib.Core.List.{List, [], ◌∷◌, ◌++◌}
use Rattle.std.proofs.Common.{leb→le}
use Rattle.std.proofs.Math.ListN.{length, length-append, length-take}
use Rattle.paper.specs.Bytes.{pick, every, blank}
use Rattle.paper.specs.Classes.{unfit}
use Rattle.paper.specs.Words.{Word, word, word_of, statements, operators, word_operator?}
use Rattle.paper.specs.Tokens.{Token, statement, assigned, operator, variable, constant, string, raw}
use Rattle.paper.specs.Constants.{right_constant?}
use Rattle.paper.specs.Names.{in_front, names_in, less_open}
use Rattle.paper.specs.Line.{line_number}
use Rattle.paper.specs.Listing.{decimal, operator_text, token_text, body_text}
use Rattle.paper.specs.Open.{all_Bytes, all_Words}
use Rattle.laws.specs.Classes.{word_passes}
use Rattle.grounds.specs.ConstantSize.{fifteen}
use Rattle.names_numbered.specs.Standing.{bare_short}
use Rattle.list_pieces.specs.declared.Piece.{Piece}
use Rattle.list_pieces.specs.declared.Piece.TheVariants as Piece'
use Rattle.list_pieces.specs.Pieces.{tokens_of_piece, size_of, Holds}
use Rattle.list_text.specs.Texts.{piece_text}
use Rattle.list_weigh.specs.declared.Weight.{Weight}
use Rattle.list_weigh.specs.Weights.{plus, piece_weight, head_weight, Small}

-- ---- weights added

pub small_plus : (m n : ℕ) (a b : Weight) → Small m a → Small n b → Small (m + n) (plus a b)
unfolding plus
small_plus m n a b s t = record { listing = omega arith; variables = omega arith; numbers = omega arith; strings = omega arith; raw_text = omega arith; others = omega arith }

-- of more bytes
pub small_more : (m n : ℕ) (a : Weight) → m ≤ n → Small m a → Small n a
small_more m n a h s = record { listing = omega arith; variables = omega arith; numbers = omega arith; strings = omega arith; raw_text = omega arith; others = omega arith }

-- ---- words are short

unfoldable short? : Word → Bool
short? w = leb (length w.spelling) 8

unknown_short : (k : ℕ) → T (short? (word k "" unfit))
unfolding short? word all_Bytes
unknown_short k = tt

statements_short : T (every short? statements)
unfolding short? all_Bytes all_Words
statements_short = tt

operators_short : T (every short? operators)
unfolding short? all_Bytes all_Words
operators_short = tt

statement_short : (t : ℕ) → length (token_text (statement t)) ≤ 9
unfolding token_text short?
statement_short t = omega (arith, length-append (word_of statements t).spelling (blank ∷ []), leb→le (length (word_of statements t).spelling) 8 (word_passes short? statements t statements_short (unknown_short t)))

operator_short : (t : ℕ) → length (token_text (operator t)) ≤ 10
unfolding token_text operator_text short?
operator_short t = go (word_operator? t) (word_of operators t).spelling (leb→le (length (word_of operators t).spelling) 8 (word_passes short? operators t operators_short (unknown_short t)))
  where
    go : (b : Bool) (s : List ℕ) → length s ≤ 8 → length (pick b (blank ∷ s ++ blank ∷ []) s) ≤ 10
    go true s h = omega (arith, length-append s (blank ∷ []))
    go false s h = omega arith

-- ---- no name is longer than its table

name_most : (bs : List ℕ) (k : ℕ) → length (get_or (names_in bs) k []) ≤ length bs
unfolding names_in in_front
name_most [] zero = omega arith
name_most [] (suc k) = omega arith
name_most (b ∷ bs) k = go (leb 128 b) (names_in bs) (name_most bs) k
  where
    go : (x : Bool) (r : List (List ℕ)) → ((i : ℕ) → length (get_or r i []) ≤ length bs) → (k : ℕ) → length (get_or (pick x (((b - 128) ∷ []) ∷ r) (in_front b r)) k []) ≤ length (b ∷ bs)
    go true r h zero = omega arith
    go true r h (suc k) = omega (arith, h k)
    go false [] h zero = omega arith
    go false [] h (suc k) = omega arith
    go false (n ∷ ns) h zero = omega (arith, h 0)
    go false (n ∷ ns) h (suc k) = omega (arith, h (suc k))

-- ---- pieces

raw_own : (b : List ℕ) → token_text (raw b) ≡ b
unfolding token_text
raw_own b = refl

le_trans : {a b c : ℕ} → a ≤ b → b ≤ c → a ≤ c
le_trans h k = omega arith

module _ (names : List ℕ) (size : ℕ) (few : size ≤ 65535) where
  abbrev ns : List (List ℕ)
  ns = names_in (take size names)

  bare_most : (k : ℕ) → length (less_open (get_or ns k [])) ≤ 65535
  bare_most k = omega (arith, bare_short (get_or ns k []), name_most (take size names) k, length-take size names)

  one_most : (t : Token) (k : ℕ) → length (token_text t) ≤ k → length (body_text (t ∷ [])) ≤ k
  unfolding body_text
  one_most t k h = omega (arith, length-append (token_text t) [])

  name_text : (n : List ℕ) → (length (token_text (variable n)) ≡ length (less_open n)) × (length (token_text (assigned n)) ≡ length (less_open n))
  unfolding token_text
  name_text n = (refl, refl)

  constant_most : (b : List ℕ) → T (right_constant? b) → length (token_text (constant b)) ≤ 15
  unfolding token_text
  constant_most b h = fifteen b h

  quoted_most : (b : List ℕ) → length (token_text (string b)) ≤ 2 + length b
  unfolding token_text
  quoted_most b = omega (arith, length-append b (34 ∷ []))

  remark_most : (t : ℕ) (b : List ℕ) → length (body_text (statement t ∷ raw b ∷ operator 0x9b ∷ [])) ≤ 19 + length b
  unfolding body_text
  remark_most t b =
      let o : List ℕ = token_text (operator 0x9b) in
      let own : token_text (raw b) ≡ b = raw_own b in
      omega
      (arith, length-append (token_text (statement t)) (token_text (raw b) ++ (o ++ [])), length-append (token_text (raw b)) (o ++ []), length-append o [], statement_short t, operator_short 0x9b, ap length own)

  text_most : (u : List ℕ) (c : Piece) → Holds ns u c → 1 ≤ size_of c → length (piece_text ns u c) ≤ 65536 * size_of c
  unfolding piece_text tokens_of_piece size_of
  text_most u (Piece'.Word t) h s = one_most (statement t) _ (omega (arith, statement_short t))
  text_most u (Piece'.Text t n) h s = let m = remark_most t (take n (drop 2 u)) in le_trans m (omega (arith, length-take n (drop 2 u)))
  text_most u (Piece'.Target v) h s = one_most (assigned (get_or ns v.number [])) _ (omega (arith, bare_most v.number, (name_text (get_or ns v.number [])).1))
  text_most u Piece'.NoTarget h s = absurd h
  text_most u (Piece'.Variable v) h s = one_most (variable (get_or ns v.number [])) _ (omega (arith, bare_most v.number, (name_text (get_or ns v.number [])).0))
  text_most u Piece'.Constant h s = one_most (constant (take 6 (drop 1 u))) _ (omega (arith, constant_most (take 6 (drop 1 u)) h))
  text_most u (Piece'.Quoted n) h s = one_most (string (take n (drop 2 u))) _ (omega (arith, quoted_most (take n (drop 2 u)), length-take n (drop 2 u)))
  text_most u (Piece'.Operator t) h s = one_most (operator t) _ (omega (arith, operator_short t))

  -- a piece of a well-formed line
  pub piece_small : (u : List ℕ) (c : Piece) → Holds ns u c → 1 ≤ size_of c → Small (size_of c) (piece_weight c (length (piece_text ns u c)))
  unfolding piece_weight size_of
  piece_small u c h s = go c (length (piece_text ns u c)) (text_most u c h s)
    where
      go : (c : Piece) (k : ℕ) → k ≤ 65536 * size_of c → Small (size_of c) (piece_weight c k)
      go (Piece'.Word t) k h = record { listing = h; variables = omega arith; numbers = omega arith; strings = omega arith; raw_text = omega arith; others = omega arith }
      go (Piece'.Text t n) k h = record { listing = h; variables = omega arith; numbers = omega arith; strings = omega arith; raw_text = omega arith; others = omega arith }
      go (Piece'.Target v) k h = record { listing = h; variables = omega arith; numbers = omega arith; strings = omega arith; raw_text = omega arith; others = omega arith }
      go Piece'.NoTarget k h = record { listing = h; variables = omega arith; numbers = omega arith; strings = omega arith; raw_text = omega arith; others = omega arith }
      go (Piece'.Variable v) k h = record { listing = h; variables = omega arith; numbers = omega arith; strings = omega arith; raw_text = omega arith; others = omega arith }
      go Piece'.Constant k h = record { listing = h; variables = omega arith; numbers = omega arith; strings = omega arith; raw_text = omega arith; others = omega arith }
      go (Piece'.Quoted n) k h = record { listing = h; variables = omega arith; numbers = omega arith; strings = omega arith; raw_text = omega arith; others = omega arith }
      go (Piece'.Operator t) k h = record { listing = h; variables = omega arith; numbers = omega arith; strings = omega arith; raw_text = omega arith; others = omega arith }

-- ---- heads and error lines

decimal_short : (k n : ℕ) → length (decimal k n) ≤ k
unfolding decimal
decimal_short zero n = omega arith
decimal_short (suc k) n = go (ltb n 10) (decimal_short k (n / 10))
  where
    go : (b : Bool) → length (decimal k (n / 10)) ≤ k → length (pick b ((48 + n) ∷ []) (decimal k (n / 10) ++ (48 + n % 10) ∷ [])) ≤ suc k
    go true h = omega arith
    go false h = omega (arith, length-append (decimal k (n / 10)) ((48 + n % 10) ∷ []))

pub head_few : (l : List ℕ) → length (decimal 5 (line_number l) ++ blank ∷ []) ≤ 6
head_few l = omega (arith, decimal_short 5 (line_number l), length-append (decimal 5 (line_number l)) (blank ∷ []))

pub head_small : (l : List ℕ) → Small 3 (head_weight l)
unfolding head_weight
head_small l = record { listing = omega (arith, head_few l); variables = omega arith; numbers = omega arith; strings = omega arith; raw_text = omega arith; others = omega arith }
