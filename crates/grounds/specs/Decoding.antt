-- The bytes of tokens, decoded, are the tokens again.
use Prim.Native.Nat.{ℕ, zero, suc, ◌+◌}
use Rattle.std.proofs.Math.Nat.{add-zero}
use native.Mathlib.Omega.{arith}
use Rattle.std.specs.Prelude.{◌≡◌, Bool, true, false, T, eqb, ltb, get_or}
use Rattle.std.proofs.Math.Path.{refl, ap}
use Rattle.std.proofs.Common.{subst, sym, ◌∙◌}
use mathlib.Core.List.{List, [], ◌∷◌, ◌++◌}
use Rattle.std.proofs.Math.Dec.{leb-suc-suc}
use Rattle.std.proofs.Math.ListN.{length, length-append}
use Rattle.std.proofs.Math.Seq.{take-append_seam, take_at}
use borrow.Author.Tests.{ne_eqb, eq-eqb}
use Rattle.paper.specs.Bytes.{pick, same}
use Rattle.paper.specs.Tokens.{Token, statement, assigned, operator, variable, constant, string, raw}
use Rattle.paper.specs.Names.{number_of, known?}
use Rattle.paper.specs.Items.{raw_byte?}
use Rattle.paper.specs.Line.{to_next, token_bytes, line_bytes, line_number, variable_bytes, own_bytes, begins?, variable_byte?, variable_name, raw_statement?, tokens_from, line_tokens}
use Rattle.laws.specs.Names.{same_eq}
use Rattle.laws.specs.Variables.{variable_token}
use Rattle.laws.specs.Runs.{All, run_all}

-- token lists whose bytes can be told apart: each token's bytes are what its kind has, and raw text stands after REM or DATA alone
pub data Shapes (ns : List (List ℕ)) : List Token → Type 0 where
  no_tokens : Shapes ns []
  a_statement : (k : ℕ) (ts : List Token) → raw_statement? k ≡ false → eqb k 0x36 ≡ false → Shapes ns ts → Shapes ns (statement k ∷ ts)
  a_text : (k : ℕ) (b : List ℕ) → raw_statement? k ≡ true → eqb k 0x36 ≡ false → All raw_byte? b → Shapes ns (statement k ∷ raw b ∷ operator 0x9b ∷ [])
  a_target : (n : List ℕ) (ts : List Token) → get_or ns (number_of ns n) [] ≡ n → Shapes ns ts → Shapes ns (assigned n ∷ ts)
  an_operator : (j : ℕ) (ts : List Token) → variable_byte? j ≡ false → eqb j 0x0e ≡ false → eqb j 0x0f ≡ false → Shapes ns ts → Shapes ns (operator j ∷ ts)
  a_variable : (n : List ℕ) (ts : List Token) → get_or ns (number_of ns n) [] ≡ n → Shapes ns ts → Shapes ns (variable n ∷ ts)
  a_constant : (b : List ℕ) (ts : List Token) → length b ≡ 6 → Shapes ns ts → Shapes ns (constant b ∷ ts)
  a_string : (b : List ℕ) (ts : List Token) → Shapes ns ts → Shapes ns (string b ∷ ts)

module _ (ns : List (List ℕ)) where
  skip : (xs ys : List ℕ) (p stop : ℕ) → tokens_from ns (length xs) p stop (xs ++ ys) ≡ tokens_from ns 0 (p + length xs) stop ys
  unfolding tokens_from
  skip [] ys p stop = rw add-zero
  skip (x ∷ xs) ys p stop = skip xs ys (suc p) stop ∙ ap (λ (q : ℕ). tokens_from ns 0 q stop ys) (omega arith)

  skip_all : (n : ℕ) (xs : List ℕ) (p stop : ℕ) → length xs ≡ n → tokens_from ns n p stop xs ≡ []
  unfolding tokens_from
  skip_all n [] p stop e = refl
  skip_all zero (x ∷ xs) p stop e = absurd (omega arith)
  skip_all (suc n) (x ∷ xs) p stop e = skip_all n xs (suc p) stop (omega arith)

  nine_b : raw_byte? 0x9b ≡ false
  unfolding raw_byte?
  nine_b = refl

  decode : (ts : List Token) → Shapes ns ts → (p stop : ℕ) → stop ≡ p + to_next ns ts → tokens_from ns 0 p stop (token_bytes ns p ts) ≡ ts
  unfolding tokens_from token_bytes to_next own_bytes begins? variable_bytes variable_name variable_byte?
  decode ts no_tokens p stop e = refl
  decode ts (a_statement k r h n s) p stop e =
      let q : ℕ = suc p + 1 in
      let two : suc (suc p) ≡ q = omega arith in
      rw (eq-eqb p stop (omega arith), n, h)
      (ap (λ (l : List Token). statement k ∷ l) (ap (λ (o : ℕ). tokens_from ns 0 o (q + to_next ns r) (token_bytes ns q r)) two ∙ decode r s q (q + to_next ns r) refl))
  decode ts (a_text k b h n a) p stop e =
      let l : length (k ∷ (b ++ 0x9b ∷ [])) ≡ 2 + length b = omega (arith, length-append b (0x9b ∷ [])) in
      rw (eq-eqb p stop (omega arith), n, h, run_all raw_byte? b (0x9b ∷ []) a nine_b, take-append_seam b (0x9b ∷ []), skip_all (2 + length b) (k ∷ (b ++ 0x9b ∷ [])) (suc p) (suc p + 1 + (length b + 1)) l)
  decode ts (a_target m r h s) p stop e =
      let t = variable_token (number_of ns m) in
      let q : ℕ = suc p + suc (suc (length t.others)) in
      let z : List ℕ = token_bytes ns q r in
      let past : suc (suc (suc p)) + length t.others ≡ q = omega arith in
      rw (t.is, eq-eqb p stop (omega arith), t.size z, t.number z, h)
      (ap (λ (l : List Token). assigned m ∷ l) (skip t.others z (suc (suc (suc p))) (q + to_next ns r) ∙ ap (λ (o : ℕ). tokens_from ns 0 o (q + to_next ns r) z) past ∙ decode r s q (q + to_next ns r) refl))
  decode ts (an_operator j r h n o s) p stop e =
      let one : suc p ≡ p + 1 = omega arith in
      rw (ne_eqb p stop (λ q. omega arith), h, n, o)
      (ap (λ (l : List Token). operator j ∷ l) (ap (λ (q : ℕ). tokens_from ns 0 q stop (token_bytes ns (p + 1) r)) one ∙ decode r s (p + 1) stop (omega arith)))
  decode ts (a_variable m r h s) p stop e =
      let t = variable_token (number_of ns m) in
      let q : ℕ = p + suc (length t.others) in
      let z : List ℕ = token_bytes ns q r in
      let past : suc p + length t.others ≡ q = omega arith in
      rw (t.is, ne_eqb p stop (λ k. omega (arith, ap length t.is, e, k)), t.begins, t.size z, t.number z, h)
      (ap (λ (l : List Token). variable m ∷ l) (skip t.others z (suc p) stop ∙ ap (λ (o : ℕ). tokens_from ns 0 o stop z) past ∙ decode r s q stop (omega (arith, ap length t.is, e))))
  decode ts (a_constant b r h s) p stop e =
      let q : ℕ = p + suc (length b) in
      let z : List ℕ = token_bytes ns q r in
      let past : suc p + length b ≡ q = omega arith in
      rw (ne_eqb p stop (λ q. omega arith), take_at b z 6 h)
      (ap (λ (l : List Token). constant b ∷ l)
      (ap (λ (n : ℕ). tokens_from ns n (suc p) stop (b ++ z)) (sym h) ∙ skip b z (suc p) stop ∙ ap (λ (o : ℕ). tokens_from ns 0 o stop z) past ∙ decode r s q stop (omega arith)))
  decode ts (a_string b r s) p stop e =
      let q : ℕ = p + suc (suc (length b)) in
      let z : List ℕ = token_bytes ns q r in
      let past : suc (suc p) + length b ≡ q = omega arith in
      rw (ne_eqb p stop (λ q. omega arith), take-append_seam b z)
      (ap (λ (l : List Token). string b ∷ l) (skip b z (suc (suc p)) stop ∙ ap (λ (o : ℕ). tokens_from ns 0 o stop z) past ∙ decode r s q stop (omega arith)))

-- ---- names by their numbers

known_go : (m : List ℕ) (ms : List (List ℕ)) (n : List ℕ) (b : Bool) → same m n ≡ b → (T (ltb (number_of ms n) (length ms)) → get_or ms (number_of ms n) [] ≡ n) → T (ltb (pick b 0 (suc (number_of ms n))) (suc (length ms))) → get_or (m ∷ ms) (pick b 0 (suc (number_of ms n))) [] ≡ n
known_go m ms n true e ih k = same_eq m n e
known_go m ms n false e ih k = ih (subst T (leb-suc-suc (suc (number_of ms n)) (length ms)) k)

-- a known name is the one with its number
pub known_name : (ns : List (List ℕ)) (n : List ℕ) → T (known? ns n) → get_or ns (number_of ns n) [] ≡ n
unfolding known? number_of
known_name [] n k = absurd k
known_name (m ∷ ms) n k = known_go m ms n (same m n) refl (λ h. known_name ms n h) k

-- ---- a line

-- the tokens of a line's bytes
pub line_decode : (ns : List (List ℕ)) (n : ℕ) (ts : List Token) → Shapes ns ts → to_next ns ts ≡ 0 → line_tokens ns (line_bytes ns n ts) ≡ ts
unfolding line_tokens line_bytes
line_decode ns n ts s e = decode ns ts s 3 3 (omega arith)

-- the number of a line's bytes
pub line_number_of : (ns : List (List ℕ)) (n : ℕ) (ts : List Token) → line_number (line_bytes ns n ts) ≡ n
unfolding line_number line_bytes
line_number_of ns n ts = omega arith
