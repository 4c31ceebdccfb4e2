-- Weights added: in any grouping; of tokens; and of a line, which is what the definitions of its columns say.
use Rattle.std.specs.Prelude.{ℕ, suc, ◌+◌, ◌≤◌, ◌≡◌, Bool, true, false, drop, get_or}
use Rattle.std.proofs.Common.{arith, ◌∙◌, length-append}
use Rattle.std.proofs.Math.Path.{refl, sym, ap}
use mathlib.Core.List.{List, [], ◌∷◌, ◌++◌}
use Rattle.std.proofs.Math.ListN.{length, length-drop}
use Rattle.std.proofs.Math.Seq.{length-take-le}
use Rattle.paper.specs.Bytes.{pick, bytes, blank}
use Rattle.paper.specs.Tokens.{Token}
use Rattle.paper.specs.Line.{number_bytes, variable_bytes, line_number, line_tokens}
use Rattle.paper.specs.Listing.{decimal, token_text, body_text, direct_listing}
use Rattle.paper.specs.Errors.{error_line?, error_text, line_text, line_listing}
use Rattle.paper.specs.Weigh.{share, shares, in_else, sum, line_variables, line_numbers, line_strings, line_raw, line_else}
use Rattle.list_pieces.specs.declared.Piece.{Piece}
use Rattle.list_pieces.specs.declared.Piece.TheVariants.{Word, Text, Target, NoTarget, Variable, Constant, Quoted, Operator}
use Rattle.list_pieces.specs.declared.VariableToken.{VariableToken}
use Rattle.list_pieces.specs.Pieces.{tokens_of_piece, size_of, Named, Holds}
use Rattle.list_pieces.specs.Rest.{Numbered}
use Rattle.list_text.specs.Texts.{piece_text}
use Rattle.list_weigh.specs.declared.Weight.{Weight}
use Rattle.list_weigh.specs.Weights.{nothing, plus, token_weight, tokens_weight, piece_weight, head_weight, formed_weight, error_weight, line_weight}

-- ---- weights

-- equal in each column
pub same_weight : {a b c d e f a' b' c' d' e' f' : ℕ} → a ≡ a' → b ≡ b' → c ≡ c' → d ≡ d' → e ≡ e' → f ≡ f'
    → ◌≡◌ {A = Weight} (record { listing = a; variables = b; numbers = c; strings = d; raw_text = e; others = f }) (record { listing = a'; variables = b'; numbers = c'; strings = d'; raw_text = e'; others = f' })
same_weight p q r s t u = rw (p, q, r, s, t, u)

pub plus_assoc : (a b c : Weight) → plus (plus a b) c ≡ plus a (plus b c)
unfolding plus
plus_assoc a b c = same_weight (omega arith) (omega arith) (omega arith) (omega arith) (omega arith) (omega arith)

pub plus_nothing : (a : Weight) → plus a nothing ≡ a
unfolding plus
plus_nothing a = same_weight (omega arith) (omega arith) (omega arith) (omega arith) (omega arith) (omega arith)

pub nothing_plus : (a : Weight) → plus nothing a ≡ a
unfolding plus
nothing_plus a = same_weight (omega arith) (omega arith) (omega arith) (omega arith) (omega arith) (omega arith)

-- ---- tokens

module _ (ns : List (List ℕ)) where
  pub weight_append : (xs ys : List Token) → tokens_weight ns (xs ++ ys) ≡ plus (tokens_weight ns xs) (tokens_weight ns ys)
  unfolding tokens_weight
  weight_append [] ys = sym (nothing_plus (tokens_weight ns ys))
  weight_append (x ∷ xs) ys = ap (plus (token_weight ns x)) (weight_append xs ys) ∙ sym (plus_assoc (token_weight ns x) (tokens_weight ns xs) (tokens_weight ns ys))

  -- column by column
  pub weight_sums : (ts : List Token)
      → tokens_weight ns ts
      ≡ record {
        listing = length (body_text ts);
        variables = sum (λ t. (shares ns t).variables) ts;
        numbers = sum (λ t. (shares ns t).numbers) ts;
        strings = sum (λ t. (shares ns t).strings) ts;
        raw_text = sum (λ t. (shares ns t).raw_text) ts;
        others = sum in_else ts;
      }
  unfolding tokens_weight token_weight plus body_text sum
  weight_sums [] = refl
  weight_sums (t ∷ ts) = ap (plus (token_weight ns t)) (weight_sums ts) ∙ same_weight (sym (length-append (token_text t) (body_text ts))) refl refl refl refl refl

-- ---- pieces

module _ (ns : List (List ℕ)) (numbered : Numbered ns) (u : List ℕ) where
  named : (v : VariableToken) (w : List ℕ) → Named ns w v → v.size ≡ length (variable_bytes ns (get_or ns v.number []))
  unfolding variable_bytes
  named v w n = sym n.form ∙ ap (λ (i : ℕ). length (number_bytes i)) (sym (numbered v.number n.name))

  sums_of : (c : Piece) → Holds ns u c → size_of c ≤ length u
      → piece_weight c (length (piece_text ns u c))
      ≡ (let ts = tokens_of_piece ns u c in
      record {
        listing = length (body_text ts);
        variables = sum (λ t. (shares ns t).variables) ts;
        numbers = sum (λ t. (shares ns t).numbers) ts;
        strings = sum (λ t. (shares ns t).strings) ts;
        raw_text = sum (λ t. (shares ns t).raw_text) ts;
        others = sum in_else ts;
      })
  unfolding piece_weight piece_text tokens_of_piece sum shares share in_else size_of
  sums_of (Word t) h s = refl
  sums_of (Text t n) h s = same_weight refl refl refl refl (omega (arith, length-take-le n (drop 2 u) (omega (arith, length-drop 2 u)))) refl
  sums_of (Target v) h s = same_weight refl (omega (arith, named v (drop 2 u) h.0)) refl refl refl refl
  sums_of NoTarget h s = absurd h
  sums_of (Variable v) h s = same_weight refl (omega (arith, named v u h)) refl refl refl refl
  sums_of Constant h s = same_weight refl refl (omega (arith, length-take-le 6 (drop 1 u) (omega (arith, length-drop 1 u)))) refl refl refl
  sums_of (Quoted n) h s = same_weight refl refl refl (omega (arith, length-take-le n (drop 2 u) (omega (arith, length-drop 2 u)))) refl refl
  sums_of (Operator t) h s = refl

  -- a piece of a well-formed line is its tokens
  pub piece_columns : (c : Piece) → Holds ns u c → size_of c ≤ length u → piece_weight c (length (piece_text ns u c)) ≡ tokens_weight ns (tokens_of_piece ns u c)
  piece_columns c h s = sums_of c h s ∙ sym (weight_sums ns (tokens_of_piece ns u c))

-- ---- lines

module _ (ns : List (List ℕ)) (l : List ℕ) where
  -- by whether it is an error line
  abbrev by : Bool → Weight
  by b =
      let ts = line_tokens ns l in
      record {
        listing = suc (length (decimal 5 (line_number l) ++ blank ∷ pick b (bytes "ERROR- " ++ error_text l) (direct_listing ns l)));
        variables = pick b 0 (sum (λ t. (shares ns t).variables) ts);
        numbers = pick b 0 (sum (λ t. (shares ns t).numbers) ts);
        strings = pick b 0 (sum (λ t. (shares ns t).strings) ts);
        raw_text = pick b (length (error_text l)) (sum (λ t. (shares ns t).raw_text) ts);
        others = pick b 6 (3 + sum in_else ts);
      }

  by_test : by (error_line? l) ≡ line_weight ns l
  unfolding line_weight line_listing line_text line_variables line_numbers line_strings line_raw line_else
  by_test = refl

  front : (text : List ℕ) → suc (length (decimal 5 (line_number l) ++ blank ∷ [])) + length text ≡ suc (length (decimal 5 (line_number l) ++ blank ∷ text))
  front text = omega (arith, length-append (decimal 5 (line_number l)) (blank ∷ []), length-append (decimal 5 (line_number l)) (blank ∷ text))

  -- a line that is no error line
  pub formed_columns : false ≡ error_line? l → formed_weight ns l ≡ line_weight ns l
  unfolding formed_weight head_weight plus direct_listing
  formed_columns e =
      ap (plus (head_weight l)) (weight_sums ns (line_tokens ns l)) ∙ same_weight (front (body_text (line_tokens ns l))) (omega arith) (omega arith) (omega arith) (omega arith) (omega arith) ∙ ap by e ∙ by_test

  -- an error line
  pub error_columns : true ≡ error_line? l → error_weight l ≡ line_weight ns l
  unfolding error_weight head_weight plus
  error_columns e = same_weight (front (bytes "ERROR- " ++ error_text l)) refl refl refl (omega arith) refl ∙ ap by e ∙ by_test
