-- The tokens of a lawful line have bytes that can be told apart.
use Rattle.std.specs.Prelude.{ℕ, ◌≡◌, refl, Bool, true, false, not, ◌&&◌, ◌||◌, List, [], ◌∷◌, map, T, eqb}
use Rattle.std.proofs.Common.{arith, subst, sym, ap, ◌∙◌, T_not, eqb→eq, eqb-true, ne_eqb}
use Rattle.paper.specs.Bytes.{pick, every, among}
use Rattle.paper.specs.Classes.{unfit, colon, remark, raw_text, raw_end, line_end, number, quoted, numeric_variable, string_variable, array, first_numeric, first_string, first_array}
use Rattle.paper.specs.Words.{Word, word_of, statements}
use Rattle.paper.specs.Tokens.{Token, statement, assigned, operator, variable, constant, string, raw, out_of_range, unreadable, class, operator_class, by_kind, read_as}
use Rattle.paper.specs.Names.{known?}
use Rattle.paper.specs.Items.{opens}
use Rattle.paper.specs.Machine.{Taken}
use Rattle.paper.specs.Grammar.{Gives, given}
use Rattle.paper.specs.Line.{variable_byte?, raw_statement?, begins?, to_next}
use Rattle.paper.specs.WellFormed.{right_token?}
use Rattle.paper.specs.Open.{all_Bytes, all_Words}
use Rattle.laws.specs.Tests.{and_left, and_right, is_true, is_false, or_else, as_T, and_both}
use Rattle.laws.specs.Classes.{at_kind}
use Rattle.laws.specs.Constants.{six_long}
use Rattle.laws.specs.Given.{given_operator, operator_given}
use Rattle.grounds.specs.Place.{sources}
use Rattle.grounds.specs.TokenRuns.{AllFit}
use Rattle.grounds.specs.Given.{fits, tokens_given, plain_byte?, op_both, op_fits, symbol_class?, own_given, own_all, no_symbol_statement, no_symbol_name, no_symbol_number, no_symbol_quoted, at_word}
use Rattle.grounds.specs.Neighbours.{Apart, first_class?}
use Rattle.grounds.proofs.Closed.{closed, end_class?}
use Rattle.grounds.proofs.Reading.{Fine, Side, side, op_known, op_line, op_raw_end, nothing_after, raw_shape, closed_rest, statement_first, quiet, quiet_name, quiet_first, quiet_value, end_is, raw_first, both}
use Rattle.grounds.specs.Decoding.{Shapes, no_tokens, a_statement, a_text, a_target, an_operator, a_variable, a_constant, a_string, known_name}

-- ---- statement words by their tokens

unfoldable raw_word? : Word → Bool
raw_word? w = (not (eqb w.class remark) || raw_statement? w.token) && ((eqb w.class remark || not (raw_statement? w.token)) && not (eqb w.token 0x36))

raw_words : T (every raw_word? statements)
unfolding raw_word? raw_statement? all_Bytes all_Words class
raw_words = tt

raw_word : (k : ℕ) → T (not (eqb (class (statement k)) unfit)) → T ((not (eqb (class (statement k)) remark) || raw_statement? k) && ((eqb (class (statement k)) remark || not (raw_statement? k)) && not (eqb k 0x36)))
unfolding class raw_word?
raw_word k n =
    let w = at_word raw_word? statements k raw_words n in
    subst (λ (z : ℕ). T ((not (eqb (word_of statements k).class remark) || raw_statement? z) && ((eqb (word_of statements k).class remark || not (raw_statement? z)) && not (eqb z 0x36)))) w.1 w.0

imp : (a b : Bool) → T (not a || b) → a ≡ true → T b
imp true b t e = t
imp false b t e = absurd (as_T false e)

imp_not : (a b : Bool) → T (a || b) → a ≡ false → T b
imp_not true b t e = absurd (as_T false (sym e))
imp_not false b t e = t

-- ---- operators

nine_b : read_as 0x9b ≡ 0x9b
unfolding read_as
nine_b = refl

not_raw_end : (e : Gives) (j : ℕ) → T (fits e (operator_class j)) → eqb j 0x9b ≡ false → (variable_byte? (given_operator e j) ≡ false) × (eqb (given_operator e j) 0x0e ≡ false) × (eqb (given_operator e j) 0x0f ≡ false)
unfolding plain_byte?
not_raw_end e j h b =
    let o = op_both e j (op_fits e j h) in
    let k : ℕ = given_operator e j in
    let p = both (not (variable_byte? k) || eqb k 0x9b) _ o.2 in (
      or_else (not (variable_byte? k)) (eqb k 0x9b) p.0 (λ t. is_false (variable_byte? k) t)
          (λ t.
          let kk : k ≡ 0x9b = eqb→eq k 0x9b t in
          let j9 : j ≡ 0x9b = sym o.0 ∙ ap read_as kk ∙ nine_b in
          absurd (T_not (eqb j 0x9b) (subst (λ (z : Bool). T (not z)) (sym b) tt) (subst (λ (z : ℕ). T (eqb z 0x9b)) (sym j9) tt))),
      is_false (eqb k 0x0e) (and_left (not (eqb k 0x0e)) _ p.1),
      is_false (eqb k 0x0f) (and_right (not (eqb k 0x0e)) _ p.1),
    )

-- ---- all

abbrev Ask : List (List ℕ) → List (Taken Gives Token) → Type 0
Ask ns xs = (c : ℕ) → Apart c (sources xs) → Fine ns (sources xs) → T (closed (map class (sources xs))) → T (not (eqb c remark)) → T (not (eqb c raw_text)) → Shapes ns (tokens_given xs)

ask : (ns : List (List ℕ)) (xs : List (Taken Gives Token)) (d : ℕ) → Ask ns xs → Apart d (sources xs) → Fine ns (sources xs) → T (closed (d ∷ map class (sources xs))) → T (quiet d) → Shapes ns (tokens_given xs)
unfolding quiet
ask ns xs d ih a f e q =
    let r = and_right (not (end_class? d)) _ q in
    ih d a f (closed_rest d (map class (sources xs)) e (and_left (not (end_class? d)) _ q)) (and_left (not (eqb d remark)) _ r) (and_right (not (eqb d remark)) _ r)

shape_operator : (ns : List (List ℕ)) (e : Gives) (j : ℕ) (xs : List (Taken Gives Token)) (c : ℕ) (x : Bool) → eqb j 0x16 ≡ x → (y : Bool) → eqb j 0x9b ≡ y → T (fits e (operator_class j)) → AllFit fits class xs → Ask ns xs → T (not (eqb (operator_class j) unfit)) → Side c (operator_class j)
    → Apart (operator_class j) (sources xs) → Fine ns (sources xs) → T (closed (operator_class j ∷ map class (sources xs))) → T (not (eqb c raw_text)) → Shapes ns (given e (operator j) ∷ tokens_given xs)
unfolding every quiet
shape_operator ns e j xs c x a true b h g ih n s p f l r =
    let j9 : j ≡ 0x9b = eqb-true j 0x9b b in
    let j16 : eqb j 0x16 ≡ false = ne_eqb j 0x16 (λ e. omega arith) in
    absurd (T_not (eqb c raw_text) r (raw_first (eqb c raw_text) (subst (Side c) (op_raw_end j j16 b) s).raw_ends))
shape_operator ns e j xs c true a false b h g ih n s p f l r =
    let q = not_raw_end e j h b in
    let z : sources xs ≡ [] = nothing_after (operator_class j) (sources xs) p (end_is (operator_class j) (op_line j a)) in
    let w : tokens_given xs ≡ [] = own_all xs g (subst (λ (u : List Token). T (every (λ (t : Token). not (symbol_class? (class t))) u)) (sym z) tt) ∙ z in
    subst (λ (u : Token). Shapes ns (u ∷ tokens_given xs)) (sym (operator_given e j)) (an_operator (given_operator e j) (tokens_given xs) q.0 q.1 q.2 (subst (Shapes ns) (sym w) no_tokens))
shape_operator ns e j xs c false a false b h g ih n s p f l r =
    let q = not_raw_end e j h b in
    let o = op_known j a b n in
    let w : T (quiet (operator_class j)) = and_both (not (end_class? (operator_class j))) _ o.not_end (and_both (not (eqb (operator_class j) remark)) _ o.not_remark o.not_raw) in
    subst (λ (u : Token). Shapes ns (u ∷ tokens_given xs)) (sym (operator_given e j)) (an_operator (given_operator e j) (tokens_given xs) q.0 q.1 q.2 (ask ns xs (operator_class j) ih p f l w))

raw_own : (b : List ℕ) → T (every (λ (t : Token). not (symbol_class? (class t))) (raw b ∷ operator 0x9b ∷ []))
unfolding every class symbol_class? operator_class all_Bytes
raw_own b = tt

shape_statement : (ns : List (List ℕ)) (k : ℕ) (xs : List (Taken Gives Token)) (x : Bool) → eqb (class (statement k)) remark ≡ x → AllFit fits class xs → Ask ns xs → T (not (eqb (class (statement k)) unfit))
    → Apart (class (statement k)) (sources xs) → Fine ns (sources xs) → T (closed (class (statement k) ∷ map class (sources xs))) → Shapes ns (statement k ∷ tokens_given xs)
unfolding every quiet
shape_statement ns k xs true m g ih n p f l =
    let w : class (statement k) ≡ remark = eqb-true (class (statement k)) remark m in
    let t = raw_word k n in
    let r = raw_shape ns (sources xs) (subst (λ (z : ℕ). Apart z (sources xs)) w p) f (subst (λ (z : ℕ). T (closed (z ∷ map class (sources xs)))) w l) in
    let own : tokens_given xs ≡ raw r.0 ∷ operator 0x9b ∷ [] = own_all xs g (subst (λ (u : List Token). T (every (λ (t : Token). not (symbol_class? (class t))) u)) (sym r.1.0) (raw_own r.0)) ∙ r.1.0 in
    let q = both (not (eqb (class (statement k)) remark) || raw_statement? k) _ t in
    let q2 = both (eqb (class (statement k)) remark || not (raw_statement? k)) _ q.1 in
    subst (λ (u : List Token). Shapes ns (statement k ∷ u)) (sym own)
    (a_text k r.0 (is_true (raw_statement? k) (imp (eqb (class (statement k)) remark) (raw_statement? k) q.0 m)) (is_false (eqb k 0x36) q2.1) r.1.1)
shape_statement ns k xs false m g ih n p f l =
    let t = raw_word k n in
    let q = both (not (eqb (class (statement k)) remark) || raw_statement? k) _ t in
    let q2 = both (eqb (class (statement k)) remark || not (raw_statement? k)) _ q.1 in
    let d = statement_first k n in
    let w : T (quiet (class (statement k))) = and_both (not (end_class? (class (statement k)))) _ d.2 (and_both (not (eqb (class (statement k)) remark)) _ (subst (λ (z : Bool). T (not z)) (sym m) tt) d.1) in
    a_statement k (tokens_given xs) (is_false (raw_statement? k) (imp_not (eqb (class (statement k)) remark) (not (raw_statement? k)) q2.0 m)) (is_false (eqb k 0x36) q2.1) (ask ns xs (class (statement k)) ih p f l w)

shape_go : (ns : List (List ℕ)) (e : Gives) (t : Token) (xs : List (Taken Gives Token)) → T (fits e (class t)) → AllFit fits class xs → Ask ns xs → (c : ℕ) → Side c (class t) → Apart (class t) (sources xs) → T (not (eqb (class t) unfit)) → T (right_token? ns t) → Fine ns (sources xs)
    → T (closed (class t ∷ map class (sources xs))) → T (not (eqb c remark)) → T (not (eqb c raw_text)) → Shapes ns (given e t ∷ tokens_given xs)
unfolding class right_token? symbol_class? among
shape_go ns e (statement k) xs h g ih c s p n y f l m r =
    subst (λ (u : Token). Shapes ns (u ∷ tokens_given xs)) (sym (own_given e (statement k) h (no_symbol_statement k))) (shape_statement ns k xs (eqb (class (statement k)) remark) refl g ih n p f l)
shape_go ns e (assigned w) xs h g ih c s p n y f l m r =
    subst (λ (u : Token). Shapes ns (u ∷ tokens_given xs)) (sym (own_given e (assigned w) h (no_symbol_name w first_numeric first_string first_array tt tt tt)))
    (a_target w (tokens_given xs) (known_name ns w (and_left (known? ns w) _ y)) (ask ns xs (by_kind w first_numeric first_string first_array) ih p f l (quiet_first w)))
shape_go ns e (operator j) xs h g ih c s p n y f l m r = shape_operator ns e j xs c (eqb j 0x16) refl (eqb j 0x9b) refl h g ih n s p f l r
shape_go ns e (variable w) xs h g ih c s p n y f l m r =
    subst (λ (u : Token). Shapes ns (u ∷ tokens_given xs)) (sym (own_given e (variable w) h (no_symbol_name w numeric_variable string_variable array tt tt tt)))
    (a_variable w (tokens_given xs) (known_name ns w y) (ask ns xs (by_kind w numeric_variable string_variable array) ih p f l (quiet_name w)))
shape_go ns e (constant b) xs h g ih c s p n y f l m r =
    subst (λ (u : Token). Shapes ns (u ∷ tokens_given xs)) (sym (own_given e (constant b) h no_symbol_number)) (a_constant b (tokens_given xs) (six_long b y) (ask ns xs number ih p f l quiet_value.0))
shape_go ns e (string b) xs h g ih c s p n y f l m r =
    subst (λ (u : Token). Shapes ns (u ∷ tokens_given xs)) (sym (own_given e (string b) h no_symbol_quoted)) (a_string b (tokens_given xs) (ask ns xs quoted ih p f l quiet_value.1))
shape_go ns e (raw b) xs h g ih c s p n y f l m r = absurd (T_not (eqb c remark) m (raw_there (eqb c remark) s.raw_here))
  where
    raw_there : (x : Bool) → T (pick x (eqb raw_text raw_text) (not (eqb raw_text raw_text))) → T x
    raw_there true t = tt
    raw_there false t = t
shape_go ns e out_of_range xs h g ih c s p n y f l m r = absurd y
shape_go ns e unreadable xs h g ih c s p n y f l m r = absurd y

-- the tokens that a lawful run over right tokens gives have bytes that can be told apart
pub shapes : (ns : List (List ℕ)) (xs : List (Taken Gives Token)) → AllFit fits class xs → Ask ns xs
unfolding tokens_given sources closed
shapes ns [] g c a f l m r = no_tokens
shapes ns (x ∷ xs) g c a f l m r = shape_go ns x.gave x.from xs g.0 g.1 (λ d p q u v w. shapes ns xs g.1 d p q u v w) c (side c (class x.from) a.0) a.1 f.0.0 f.0.1 f.1 l m r

-- ---- the first token begins a statement

-- what may come at the start of a line has a class of statement position
pub first_only : (d : ℕ) → Side colon d → T (first_class? d)
unfolding opens
first_only d s = or_else (first_class? d) (eqb d number) s.position (λ h. h) (λ h. absurd (T_not (eqb d number) s.no_number h))

not_first : (d : ℕ) → Side colon d → T (not (first_class? d)) → ⊥
not_first d s n = T_not (first_class? d) n (first_only d s)

operator_first : (j : ℕ) (x : Bool) → eqb j 0x16 ≡ x → (y : Bool) → eqb j 0x9b ≡ y → T (not (eqb (operator_class j) unfit)) → Side colon (operator_class j) → ⊥
unfolding first_class? among
operator_first j true a y b n s = not_first line_end (subst (Side colon) (op_line j a) s) tt
operator_first j false a true b n s = not_first raw_end (subst (Side colon) (op_raw_end j a b) s) tt
operator_first j false a false b n s = not_first (operator_class j) s (op_known j a b n).not_first

-- The tokens of a line begin with a statement's word that is not refused, or with the name that is assigned to.
pub data Start : List Token → Type 0 where
  no_start : Start []
  with_word : (k : ℕ) (ts : List Token) → T (not (eqb (class (statement k)) unfit)) → Start (statement k ∷ ts)
  with_name : (n : List ℕ) (ts : List Token) → Start (assigned n ∷ ts)

start_go : (ns : List (List ℕ)) (e : Gives) (t : Token) (ts : List Token) → T (fits e (class t)) → Side colon (class t) → T (not (eqb (class t) unfit)) → T (right_token? ns t) → Start (given e t ∷ ts)
unfolding class right_token? symbol_class? among first_class?
start_go ns e (statement k) ts h s n y = subst (λ (u : Token). Start (u ∷ ts)) (sym (own_given e (statement k) h (no_symbol_statement k))) (with_word k ts n)
start_go ns e (assigned w) ts h s n y = subst (λ (u : Token). Start (u ∷ ts)) (sym (own_given e (assigned w) h (no_symbol_name w first_numeric first_string first_array tt tt tt))) (with_name w ts)
start_go ns e (operator j) ts h s n y = absurd (operator_first j (eqb j 0x16) refl (eqb j 0x9b) refl n s)
start_go ns e (variable w) ts h s n y = absurd (not_first _ s (at_kind (λ d. not (first_class? d)) w numeric_variable string_variable array tt tt tt))
start_go ns e (constant b) ts h s n y = absurd (not_first number s tt)
start_go ns e (string b) ts h s n y = absurd (not_first quoted s tt)
start_go ns e (raw b) ts h s n y = absurd (not_first raw_text s tt)
start_go ns e out_of_range ts h s n y = absurd y
start_go ns e unreadable ts h s n y = absurd y

-- what a lawful run over right tokens gives begins so
pub starts : (ns : List (List ℕ)) (es : List (Taken Gives Token)) → AllFit fits class es → Apart colon (sources es) → Fine ns (sources es) → Start (tokens_given es)
unfolding tokens_given sources
starts ns [] g a f = no_start
starts ns (x ∷ xs) g a f = start_go ns x.gave x.from (tokens_given xs) g.0 (side colon (class x.from) a.0) f.0.0 f.0.1

at_start : (ns : List (List ℕ)) (ts : List Token) → Start ts → to_next ns ts ≡ 0
unfolding to_next begins?
at_start ns ts no_start = refl
at_start ns ts (with_word k r h) = refl
at_start ns ts (with_name n r) = refl

-- the first token of a line begins a statement
pub starts_statement : (ns : List (List ℕ)) (es : List (Taken Gives Token)) → AllFit fits class es → Apart colon (sources es) → Fine ns (sources es) → to_next ns (tokens_given es) ≡ 0
starts_statement ns es g a f = at_start ns (tokens_given es) (starts ns es g a f)
