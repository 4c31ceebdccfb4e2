-- Texts written one after the other, and the texts of single tokens.
use Prim.Native.Nat.{ℕ, zero, suc, ◌+◌, ◌-◌, ◌≤◌, ◌<◌}
use native.Mathlib.Omega.{arith}
use mathlib.Core.Path.{◌≡◌, refl, subst, sym, ap, ap₂, ◌∙◌}
use mathlib.Core.Bool.{Bool, true, false, not}
use mathlib.Core.List.{List, [], ◌∷◌, ◌++◌, append-nil}
use lib.Dec.{T, leb, leb→le}
use lib.ListN.{length, take, drop, get_or, set, length-append, length-drop}
use lib.Seq.{sets, take_all, drop-drop, length-take-le}
use Rattle.paper.specs.Bytes.{pick, bytes, same, every, blank}
use Rattle.paper.specs.Classes.{unfit}
use Rattle.paper.specs.Words.{Word, word, word_of, statements, operators, read_operators, functions, word_operator?}
use Rattle.paper.specs.Tokens.{Token, statement, assigned, operator, variable, constant, string, raw}
use Rattle.paper.specs.Constants.{constant_text}
use Rattle.paper.specs.Names.{names_in, less_open}
use Rattle.paper.specs.Listing.{operator_text, token_text, body_text}
use Rattle.paper.specs.Open.{all_Bytes, all_Words}
use Rattle.buffers.specs.Sets.{sets_out, sets_more}
use Rattle.constant_text.specs.Texts.{six_here}
use Rattle.constant_text.specs.Laws.{here_six}
use Rattle.tokens.specs.Tables.{fixed_words, end_to_end, read_words}
use Rattle.tokens.specs.Parts.{source_of, bytes_at, statement_part, operator_part}
use Rattle.tokens.specs.Spellings.{statement_spelling, operator_spelling}
use Rattle.tokens.specs.declared.Part.{Part}
use Rattle.tokens.specs.declared.Source.{Source}
use Rattle.tokens.specs.declared.Source.TheVariants.{Fixed, Names}
use Rattle.names_form.specs.Tables.{cleared}
use Rattle.names_numbered.specs.Standing.{all_cleared, stands_text}
use Rattle.names_numbered.specs.Answers.{Stands}
use Rattle.names_numbered.specs.declared.Name.{Name}
use Rattle.list_pieces.specs.declared.VariableToken.{VariableToken}
use Rattle.list_pieces.specs.declared.Piece.{Piece}
use Rattle.list_pieces.specs.declared.Piece.TheVariants as Piece'
use Rattle.list_pieces.specs.Pieces.{tokens_of_piece}
use Rattle.list_text.specs.Texts.{piece_text, Writes}
use Rattle.list_text.specs.InTurn.{then, as_text, one_text, writes_then}
use Rattle.laws.specs.Classes.{word_passes}
use Rattle.laws.specs.Names.{same_eq}
use Rattle.laws.specs.Tests.{is_true}

-- ---- bytes with their top bits cleared

pub length_cleared : (xs : List ℕ) → length (all_cleared xs) ≡ length xs
unfolding all_cleared
length_cleared [] = refl
length_cleared (x ∷ xs) = ap suc (length_cleared xs)

getD_cleared : (xs : List ℕ) (i : ℕ) → i < length xs → get_or (all_cleared xs) i 0 ≡ cleared (get_or xs i 0)
unfolding all_cleared
getD_cleared [] i h = absurd (omega arith)
getD_cleared (x ∷ xs) zero h = refl
getD_cleared (x ∷ xs) (suc i) h = getD_cleared xs i (omega arith)

-- one more byte
pub cleared_more : (l : List ℕ) (n : ℕ) (xs : List ℕ) (i b : ℕ) (out new : List ℕ) → i < length xs → out ≡ sets l n (take i (all_cleared xs)) → b ≡ cleared (get_or xs i 0) → new ≡ set out (n + i) b → new ≡ sets l n (take (i + 1) (all_cleared xs))
cleared_more l n xs i b out new h e f g =
    g ∙ ap₂ (λ (o : List ℕ) (c : ℕ). set o (n + i) c) e (f ∙ sym (getD_cleared xs i h)) ∙ sets_more l n (all_cleared xs) i (omega (arith, length_cleared xs))

-- and all of them
pub cleared_all : (l : List ℕ) (n : ℕ) (xs : List ℕ) (i : ℕ) (out : List ℕ) → length xs ≤ i → out ≡ sets l n (take i (all_cleared xs)) → out ≡ sets l n (all_cleared xs)
cleared_all l n xs i out h e = e ∙ ap (sets l n) (take_all i (all_cleared xs) (omega (arith, length_cleared xs)))

unfoldable clear_word? : Word → Bool
clear_word? w = same (all_cleared w.spelling) w.spelling

clear_unknown : (k : ℕ) → T (clear_word? (word k "" unfit))
unfolding clear_word? word all_cleared all_Bytes
clear_unknown k = tt

clear_statements : T (every clear_word? statements)
unfolding clear_word? all_cleared cleared all_Bytes all_Words
clear_statements = tt

clear_operators : T (every clear_word? operators)
unfolding clear_word? all_cleared cleared all_Bytes all_Words
clear_operators = tt

pub statement_text : (names : List ℕ) (t : ℕ) → all_cleared (bytes_at fixed_words names (statement_part t)) ≡ (word_of statements t).spelling
unfolding clear_word?
statement_text names t = ap all_cleared (statement_spelling names t) ∙ same_eq _ _ (is_true _ (word_passes clear_word? statements t clear_statements (clear_unknown t)))

pub operator_word : (names : List ℕ) (t : ℕ) → all_cleared (bytes_at fixed_words names (operator_part t)) ≡ (word_of operators t).spelling
unfolding clear_word?
operator_word names t = ap all_cleared (operator_spelling names t) ∙ same_eq _ _ (is_true _ (word_passes clear_word? operators t clear_operators (clear_unknown t)))

-- ---- single tokens

pub spelled : {x : List ℕ} {n m : ℕ} {old new text : List ℕ} → text ≡ x → new ≡ sets old n (all_cleared text) → m ≡ length text → Writes (all_cleared x) n old m new
spelled {x} {n} {m} {old} e f g = record { size = g ∙ ap length e ∙ sym (length_cleared x); bytes = f ∙ ap (λ (z : List ℕ). sets old n (all_cleared z)) e }

pub word_text : (t : ℕ) (names : List ℕ) {n r : ℕ} {old mid new : List ℕ} → Writes (all_cleared (bytes_at fixed_words names (statement_part t))) n old r mid → new ≡ set mid (n + r) blank → Writes (token_text (statement t)) n old (r + 1) new
unfolding token_text
word_text t names w e = then (as_text w (statement_text names t)) (blank ∷ []) e refl

pub sign_text : (t : ℕ) (names : List ℕ) {n r : ℕ} {old new : List ℕ} {b : Bool} → b ≡ word_operator? t → not b ≡ true → Writes (all_cleared (bytes_at fixed_words names (operator_part t))) n old r new → Writes (token_text (operator t)) n old r new
unfolding token_text operator_text
sign_text t names {b = b} e h w = as_text w (operator_word names t ∙ sym (go b e h))
  where
    go : (b : Bool) → b ≡ word_operator? t → not b ≡ true → pick (word_operator? t) (blank ∷ (word_of operators t).spelling ++ blank ∷ []) (word_of operators t).spelling ≡ (word_of operators t).spelling
    go true e h = absurd (subst T (sym h) tt)
    go false e h = rw (← e)

pub operator_words : (t : ℕ) (names : List ℕ) {n r : ℕ} {old one mid new : List ℕ} {b : Bool} → b ≡ word_operator? t → not b ≡ false → one ≡ set old n blank → Writes (all_cleared (bytes_at fixed_words names (operator_part t))) (n + 1) one r mid
    → new ≡ set mid (n + 1 + r) blank → Writes (token_text (operator t)) n old (r + 2) new
unfolding token_text operator_text
operator_words t names {n} {r} {old} {one} {mid} {new} {b} e h o w f =
    let z : n + 1 + r ≡ n + (1 + r) = omega arith in
    let k : r + 2 ≡ (1 + r) + 1 = omega arith in
    as_text (then (writes_then (one_text o) (as_text w (operator_word names t)) refl) (blank ∷ []) (f ∙ ap (λ (i : ℕ). set mid i blank) z) k) (sym (go b e h))
  where
    go : (b : Bool) → b ≡ word_operator? t → not b ≡ false → pick (word_operator? t) (blank ∷ (word_of operators t).spelling ++ blank ∷ []) (word_of operators t).spelling ≡ blank ∷ (word_of operators t).spelling ++ blank ∷ []
    go true e h = rw (← e)
    go false e h = absurd (subst T h tt)

pub name_text : (names : List ℕ) (size : ℕ) {number n r : ℕ} {old new : List ℕ} {m : Name} → Stands (names_in (take size names)) number m
    → Writes (all_cleared (bytes_at fixed_words names (record { source = Names; from = m.from; end = m.end }))) n old r new → Writes (less_open (get_or (names_in (take size names)) number [])) n old r new
unfolding bytes_at source_of
name_text names size s w = as_text w (stands_text names size s)

pub quoted_text : (n from k : ℕ) (l : List ℕ) {old one mid new : List ℕ} → from + k ≤ length l → one ≡ set old n 34 → mid ≡ sets one (n + 1) (take (from + k - from) (drop from l)) → new ≡ set mid (n + 1 + k) 34
    → Writes (34 ∷ take k (drop from l) ++ 34 ∷ []) n old (k + 2) new
quoted_text n from k l {old} {one} {mid} {new} h o m e =
    let a : from + k - from ≡ k = omega arith in
    let b : length (take k (drop from l)) ≡ k = length-take-le k (drop from l) (omega (arith, length-drop from l)) in
    let z : n + 1 + k ≡ n + (1 + k) = omega arith in
    let f : k + 2 ≡ (1 + k) + 1 = omega arith in
    let g : 1 + k ≡ 1 + length (take k (drop from l)) = omega arith in
    then (then (one_text o) (take k (drop from l)) (m ∙ ap (λ (i : ℕ). sets one (n + 1) (take i (drop from l))) a) g) (34 ∷ []) (e ∙ ap (λ (i : ℕ). set mid i 34) z) f

pub raw_text : (t n at k r : ℕ) (l : List ℕ) {old mid new : List ℕ} → at + (3 + k) ≤ length l → Writes (token_text (statement t)) n old r mid → new ≡ sets mid (n + r) (take (at + 2 + k - (at + 2)) (drop (at + 2) l))
    → Writes (token_text (statement t) ++ take k (drop (at + 2) l)) n old (r + k) new
raw_text t n at k r l {old} {mid} {new} h w e =
    let a : at + 2 + k - (at + 2) ≡ k = omega arith in
    let b : length (take k (drop (at + 2) l)) ≡ k = length-take-le k (drop (at + 2) l) (omega (arith, length-drop (at + 2) l)) in
    then w (take k (drop (at + 2) l)) (e ∙ ap (λ (i : ℕ). sets mid (n + r) (take i (drop (at + 2) l))) a) (ap (λ (i : ℕ). r + i) (sym b))

-- ---- pieces

raw_own : (b : List ℕ) → token_text (raw b) ≡ b
unfolding token_text
raw_own b = refl

module _ (ns : List (List ℕ)) (u : List ℕ) where
  one_piece : (c : Piece) (t : Token) → tokens_of_piece ns u c ≡ t ∷ [] → token_text t ≡ piece_text ns u c
  unfolding piece_text body_text
  one_piece c t e = sym (ap body_text e ∙ append-nil (token_text t))

  pub word_piece : (t : ℕ) → token_text (statement t) ≡ piece_text ns u (Piece'.Word t)
  unfolding tokens_of_piece
  word_piece t = one_piece (Piece'.Word t) (statement t) refl

  pub target_piece : (v : VariableToken) → less_open (get_or ns v.number []) ≡ piece_text ns u (Piece'.Target v)
  unfolding tokens_of_piece token_text
  target_piece v = one_piece (Piece'.Target v) (assigned (get_or ns v.number [])) refl

  pub variable_piece : (v : VariableToken) → less_open (get_or ns v.number []) ≡ piece_text ns u (Piece'.Variable v)
  unfolding tokens_of_piece token_text
  variable_piece v = one_piece (Piece'.Variable v) (variable (get_or ns v.number [])) refl

  pub quoted_piece : (k : ℕ) → 34 ∷ take k (drop 2 u) ++ 34 ∷ [] ≡ piece_text ns u (Piece'.Quoted k)
  unfolding tokens_of_piece token_text
  quoted_piece k = one_piece (Piece'.Quoted k) (string (take k (drop 2 u))) refl

  pub operator_piece : (t : ℕ) → token_text (operator t) ≡ piece_text ns u (Piece'.Operator t)
  unfolding tokens_of_piece
  operator_piece t = one_piece (Piece'.Operator t) (operator t) refl

  no_text : token_text (operator 0x9b) ≡ []
  unfolding token_text operator_text all_Bytes all_Words
  no_text = refl

  pub text_piece : (t k : ℕ) → token_text (statement t) ++ take k (drop 2 u) ≡ piece_text ns u (Piece'.Text t k)
  unfolding tokens_of_piece piece_text body_text
  text_piece t k =
      sym (ap (λ (z : List ℕ). token_text (statement t) ++ (token_text (raw (take k (drop 2 u))) ++ (z ++ []))) no_text ∙ ap (λ (z : List ℕ). token_text (statement t) ++ z) (append-nil (token_text (raw (take k (drop 2 u))))) ∙ raw_is)
    where
      raw_is : token_text (statement t) ++ token_text (raw (take k (drop 2 u))) ≡ token_text (statement t) ++ take k (drop 2 u)
      raw_is = ap (λ (z : List ℕ). token_text (statement t) ++ z) (raw_own (take k (drop 2 u)))

-- ---- words are short

unfoldable short_word? : Word → Bool
short_word? w = leb (length w.spelling) 8

short_unknown : (k : ℕ) → T (short_word? (word k "" unfit))
unfolding short_word? word all_Bytes
short_unknown k = tt

short_statements : T (every short_word? statements)
unfolding short_word? all_Bytes all_Words
short_statements = tt

short_operators : T (every short_word? operators)
unfolding short_word? all_Bytes all_Words
short_operators = tt

pub short_statement : (t : ℕ) (names : List ℕ) {n r : ℕ} {old mid : List ℕ} → Writes (all_cleared (bytes_at fixed_words names (statement_part t))) n old r mid → r ≤ 8
unfolding short_word?
short_statement t names w = omega (arith, w.size, ap length (statement_text names t), leb→le (length (word_of statements t).spelling) 8 (word_passes short_word? statements t short_statements (short_unknown t)))

pub short_operator : (t : ℕ) (names : List ℕ) {n r : ℕ} {old mid : List ℕ} → Writes (all_cleared (bytes_at fixed_words names (operator_part t))) n old r mid → r ≤ 8
unfolding short_word?
short_operator t names w = omega (arith, w.size, ap length (operator_word names t), leb→le (length (word_of operators t).spelling) 8 (word_passes short_word? operators t short_operators (short_unknown t)))

pub short_text : (t : ℕ) {n r : ℕ} {old mid : List ℕ} → Writes (token_text (statement t)) n old r mid → r ≤ 9
unfolding token_text short_word?
short_text t w = omega (arith, w.size, length-append (word_of statements t).spelling (blank ∷ []), leb→le (length (word_of statements t).spelling) 8 (word_passes short_word? statements t short_statements (short_unknown t)))

-- ---- constants

constant_piece : (ns : List (List ℕ)) (u : List ℕ) → constant_text (take 6 (drop 1 u)) ≡ piece_text ns u Piece'.Constant
unfolding tokens_of_piece token_text
constant_piece ns u = one_piece ns u Piece'.Constant (constant (take 6 (drop 1 u))) refl

pub constant_writes : (ns : List (List ℕ)) (l : List ℕ) (at n : ℕ) {old new : List ℕ} {r : ℕ} → at + 7 ≤ length l → r ≡ length (constant_text (six_here l (at + 1))) → new ≡ sets old n (constant_text (six_here l (at + 1)))
    → Writes (piece_text ns (drop at l) Piece'.Constant) n old r new
constant_writes ns l at n {old} h e f =
    let s : constant_text (six_here l (at + 1)) ≡ piece_text ns (drop at l) Piece'.Constant =
    ap constant_text (here_six l (at + 1) (omega arith) ∙ ap (take 6) (sym (drop-drop 1 at l))) ∙ constant_piece ns (drop at l) in
    record { size = e ∙ ap length s; bytes = f ∙ ap (sets old n) s }

pub text_writes : (ns : List (List ℕ)) (l : List ℕ) (at t k : ℕ) → token_text (statement t) ++ take k (drop (at + 2) l) ≡ piece_text ns (drop at l) (Piece'.Text t k)
text_writes ns l at t k = ap (λ (z : List ℕ). token_text (statement t) ++ take k z) (sym (drop-drop 2 at l)) ∙ text_piece ns (drop at l) t k

pub quoted_writes : (ns : List (List ℕ)) (l : List ℕ) (at k : ℕ) → 34 ∷ take k (drop (at + 2) l) ++ 34 ∷ [] ≡ piece_text ns (drop at l) (Piece'.Quoted k)
quoted_writes ns l at k = ap (λ (z : List ℕ). 34 ∷ take k z ++ 34 ∷ []) (sym (drop-drop 2 at l)) ∙ quoted_piece ns (drop at l) k

-- a spelling for which there is no room
pub unwritten : (x : List ℕ) {n m : ℕ} {old : List ℕ} → length old ≤ n → m ≡ length x → Writes (all_cleared x) n old m old
unwritten x {n} {m} {old} h e = record { size = e ∙ sym (length_cleared x); bytes = sym (sets_out old n (all_cleared x) h) }

words_long : length fixed_words ≡ 355
unfolding fixed_words end_to_end read_words statements read_operators functions word bytes
words_long = refl

pub fixed_size : {r : ℕ} (names : List ℕ) (p : Part) → p.source ≡ Fixed → ((s : List ℕ) → length s ≡ 355 → r ≡ length (take (p.end - p.from) (drop p.from s))) → r ≡ length (bytes_at fixed_words names p)
unfolding bytes_at source_of
fixed_size names p e h = h fixed_words words_long ∙ ap (λ (x : Source). length (take (p.end - p.from) (drop p.from (source_of fixed_words names x)))) (sym e)

pub names_size : {r : ℕ} (names : List ℕ) (p : Part) → p.source ≡ Names → ((s : List ℕ) → length s ≡ length names → r ≡ length (take (p.end - p.from) (drop p.from s))) → r ≡ length (bytes_at fixed_words names p)
unfolding bytes_at source_of
names_size names p e h = h names refl ∙ ap (λ (x : Source). length (take (p.end - p.from) (drop p.from (source_of fixed_words names x)))) (sym e)
