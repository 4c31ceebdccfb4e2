-- What a row gives determines the item: read again, the token given is the item's own, and it is written the same.
use Rattle.std.specs.Prelude.{ℕ, ◌≡◌, refl, Bool, true, false, not, ◌&&◌, ◌||◌, List, [], ◌∷◌, map, T, eqb}
use Rattle.std.proofs.Common.{subst, sym, ap, ◌∙◌, T_not, eqb→eq, eqb-true, eq-eqb}
use Rattle.paper.specs.Bytes.{pick, same, every, among}
use Rattle.paper.specs.Classes.{unfit, number, quoted, numeric_variable, string_variable, array, first_numeric, first_string, first_array, raw_text, line_end, raw_end, comparison, equals, plus_minus, open_sign, comma}
use Rattle.paper.specs.Words.{Word, word, word_of, statements, operators}
use Rattle.paper.specs.Tokens.{Token, statement, assigned, operator, variable, constant, string, raw, out_of_range, unreadable, class, operator_class, by_kind, as_read, read_as}
use Rattle.paper.specs.Machine.{Act, Taken, read}
use Rattle.paper.specs.Grammar.{Gives, itself, for_strings, as_prefix, put, given, grammar, may_be_empty, look}
use Rattle.paper.specs.Line.{variable_byte?}
use Rattle.paper.specs.Listing.{token_text, operator_text, body_text}
use Rattle.paper.specs.WellFormed.{right_token?}
use Rattle.paper.specs.Open.{all_Bytes, all_Words, all_Tokens, all_Grammar, all_Machine, all_Listing}
use Rattle.laws.specs.Tests.{and_left, and_right, is_true, or_else}
use Rattle.laws.specs.Classes.{at_kind}
use Rattle.laws.specs.Given.{given_operator, operator_given}
use Rattle.laws.specs.Names.{same_eq}
use Rattle.grounds.specs.Place.{by_class, sources}
use Rattle.grounds.specs.TokenRuns.{row_fits, Fits, find_fits, AllFit, RunFits, read_fits}

-- ---- a test at every word of a table holds at the word of a token, if that is there

-- if the word of a token is not unfit, the test holds there, and the word has that token
pub at_word : (P : Word → Bool) (ws : List Word) (t : ℕ) → T (every P ws) → T (not (eqb (word_of ws t).class unfit)) → T (P (word_of ws t)) × ((word_of ws t).token ≡ t)
unfolding word_of every word
at_word P [] t e n = absurd n
at_word P (w ∷ ws) t e n = at_go P w ws t (eqb w.token t) refl e (λ k m. at_word P ws t k m) n
  where
    at_go : (P : Word → Bool) (w : Word) (ws : List Word) (t : ℕ) (b : Bool) → eqb w.token t ≡ b → T (P w && every P ws)
        → (T (every P ws) → T (not (eqb (word_of ws t).class unfit)) → T (P (word_of ws t)) × ((word_of ws t).token ≡ t))
        → T (not (eqb (pick b w (word_of ws t)).class unfit)) → T (P (pick b w (word_of ws t))) × ((pick b w (word_of ws t)).token ≡ t)
    at_go P w ws t true h e ih n = (and_left (P w) (every P ws) e, eqb-true w.token t h)
    at_go P w ws t false h e ih n = ih (and_right (P w) (every P ws) e) n

-- a test of classes that passes at every word, and at `unfit`, passes at the class of any token
pub at_class : (q : ℕ → Bool) (ws : List Word) (t : ℕ) → T (every (λ (w : Word). q w.class) ws) → T (q unfit) → T (q (word_of ws t).class)
unfolding word_of every word
at_class q [] t e u = u
at_class q (w ∷ ws) t e u = go (eqb w.token t) (at_class q ws t (and_right (q w.class) (every (λ (w : Word). q w.class) ws) e) u)
  where
    go : (b : Bool) → T (q (word_of ws t).class) → T (q (pick b w (word_of ws t)).class)
    go true k = and_left (q w.class) (every (λ (w : Word). q w.class) ws) e
    go false k = k

-- ---- the test of a row

-- an operator's byte is no variable's, number's or string's, unless it ends raw text
unfoldable pub plain_byte? : ℕ → Bool
plain_byte? k = (not (variable_byte? k) || eqb k 0x9b) && (not (eqb k 0x0e) && not (eqb k 0x0f))

-- the operator j as the row gives it is read as j, and written as j
unfoldable pub operator_fits : Gives → ℕ → Bool
operator_fits e j = eqb (read_as (given_operator e j)) j && (same (operator_text (given_operator e j)) (operator_text j) && plain_byte? (given_operator e j))

-- classes of which all items are operators, and of which a row may give another token
unfoldable pub symbol_class? : ℕ → Bool
symbol_class? c = among c (comparison ∷ equals ∷ plus_minus ∷ open_sign ∷ comma ∷ [])

-- the row gives the token as it is
unfoldable pub itself? : Gives → Bool
itself? itself = true
itself? for_strings = false
itself? as_prefix = false
itself? (put k) = false

-- the same at a word of this class
unfoldable pub word_fits : Gives → ℕ → Word → Bool
word_fits e c w = not (eqb w.class c) || operator_fits e w.token

-- what is tested of each row: it takes what fits; only a symbol becomes another token; and each operator of the class can be told from what it becomes
unfoldable pub fits : Gives → ℕ → Bool
fits e c =
    not (eqb c unfit)
    && ((itself? e || symbol_class? c) && ((not (eqb line_end c) || operator_fits e 0x16) && ((not (eqb raw_end c) || operator_fits e 0x9b) && every (word_fits e c) operators)))

rows_fit : T (every (row_fits fits) grammar)
unfolding row_fits fits word_fits itself? symbol_class? operator_fits plain_byte? variable_byte? given_operator all_Bytes all_Words all_Tokens all_Grammar all_Machine all_Listing
rows_fit = tt

look_fits : (f c : ℕ) → Fits fits c (look f c)
unfolding look
look_fits f c = find_fits fits grammar may_be_empty f c rows_fit

-- ---- what the test says of an item's token

-- that test, in parts
pub op_both : (e : Gives) (j : ℕ) → T (operator_fits e j) → (read_as (given_operator e j) ≡ j) × (operator_text (given_operator e j) ≡ operator_text j) × T (plain_byte? (given_operator e j))
unfolding operator_fits
op_both e j t =
    let k : ℕ = given_operator e j in
    let r = and_right (eqb (read_as k) j) _ t in
    (eqb→eq (read_as k) j (and_left (eqb (read_as k) j) _ t), same_eq (operator_text k) (operator_text j) (is_true (same (operator_text k) (operator_text j)) (and_left (same (operator_text k) (operator_text j)) _ r)), and_right (same (operator_text k) (operator_text j)) (plain_byte? k) r)

-- the test of an operator j, from the test of its class
pub op_fits : (e : Gives) (j : ℕ) → T (fits e (operator_class j)) → T (operator_fits e j)
unfolding fits operator_class word_fits
op_fits e j t = go (eqb j 0x16) refl (eqb j 0x9b) refl t
  where
    rest_of : (c : ℕ) → T (fits e c) → T ((not (eqb line_end c) || operator_fits e 0x16) && ((not (eqb raw_end c) || operator_fits e 0x9b) && every (word_fits e c) operators))
    rest_of c t = and_right (itself? e || symbol_class? c) _ (and_right (not (eqb c unfit)) _ t)

    or_right : (c : ℕ) (b : Bool) → T (not (eqb c c) || b) → T b
    or_right c b t = or_else (not (eqb c c)) b t (λ n. absurd (subst (λ (z : Bool). T (not z)) (eq-eqb c c refl) n)) (λ h. h)

    go : (x : Bool) → eqb j 0x16 ≡ x → (y : Bool) → eqb j 0x9b ≡ y → T (fits e (pick x line_end (pick y raw_end (word_of operators j).class))) → T (operator_fits e j)
    go true h y g t = subst (λ (z : ℕ). T (operator_fits e z)) (sym (eqb-true j 0x16 h)) (or_right line_end (operator_fits e 0x16) (and_left (not (eqb line_end line_end) || operator_fits e 0x16) ((not (eqb raw_end line_end) || operator_fits e 0x9b) && every (word_fits e line_end) operators) (rest_of line_end t)))
    go false h true g t = subst (λ (z : ℕ). T (operator_fits e z)) (sym (eqb-true j 0x9b g)) (or_right raw_end (operator_fits e 0x9b) (and_left (not (eqb raw_end raw_end) || operator_fits e 0x9b) (every (word_fits e raw_end) operators) (and_right (not (eqb line_end raw_end) || operator_fits e 0x16) ((not (eqb raw_end raw_end) || operator_fits e 0x9b) && every (word_fits e raw_end) operators) (rest_of raw_end t))))
    go false h false g t =
        let c : ℕ = (word_of operators j).class in
        let w = at_word (word_fits e c) operators j (and_right (not (eqb raw_end c) || operator_fits e 0x9b) _ (and_right (not (eqb line_end c) || operator_fits e 0x16) _ (rest_of c t))) (and_left (not (eqb c unfit)) _ t) in
        subst (λ (z : ℕ). T (operator_fits e z)) w.1 (or_right c (operator_fits e (word_of operators j).token) w.0)

-- a token that is no operator has no class of symbols
pub no_symbol_statement : (k : ℕ) → T (not (symbol_class? (class (statement k))))
unfolding symbol_class? class all_Words all_Bytes
no_symbol_statement k = at_class (λ c. not (symbol_class? c)) statements k tt tt

-- no name, number, string or raw text is a symbol that becomes another
pub no_symbol_name : (n : List ℕ) (a b c : ℕ) → T (not (symbol_class? a)) → T (not (symbol_class? b)) → T (not (symbol_class? c)) → T (not (symbol_class? (by_kind n a b c)))
no_symbol_name n a b c x y z = at_kind (λ k. not (symbol_class? k)) n a b c x y z

-- a number is none
pub no_symbol_number : T (not (symbol_class? number))
unfolding symbol_class? among
no_symbol_number = tt

-- a string is none
pub no_symbol_quoted : T (not (symbol_class? quoted))
unfolding symbol_class? among
no_symbol_quoted = tt

-- raw text is none
pub no_symbol_raw : T (not (symbol_class? raw_text))
unfolding symbol_class? among
no_symbol_raw = tt

no_symbol_unfit : T (not (symbol_class? unfit))
unfolding symbol_class? among
no_symbol_unfit = tt

-- what is known of an item's token t that a row gives e for
record Known (e : Gives) (t : Token) : Type 0 where
  pub back : as_read (given e t) ≡ t
  pub text : token_text (given e t) ≡ token_text t
  pub right : (ns : List (List ℕ)) → right_token? ns (given e t) ≡ right_token? ns t

-- an item that is no operator gives itself
itself_known : (e : Gives) (t : Token) → T (itself? e || symbol_class? (class t)) → T (not (symbol_class? (class t))) → e ≡ itself
unfolding itself?
itself_known itself t h n = refl
itself_known for_strings t h n = absurd (T_not (symbol_class? (class t)) n h)
itself_known as_prefix t h n = absurd (T_not (symbol_class? (class t)) n h)
itself_known (put k) t h n = absurd (T_not (symbol_class? (class t)) n h)

itself_made : (t : Token) → as_read t ≡ t → Known itself t
unfolding given
itself_made t b = record { back = b; text = refl; right = (λ ns. refl) }

own_known : (e : Gives) (t : Token) → as_read t ≡ t → T (itself? e || symbol_class? (class t)) → T (not (symbol_class? (class t))) → Known e t
own_known e t b i n = subst (λ (x : Gives). Known x t) (sym (itself_known e t i n)) (itself_made t b)

op_known : (e : Gives) (j : ℕ) → T (fits e (operator_class j)) → Known e (operator j)
unfolding token_text right_token? as_read
op_known e j h =
    let o = op_both e j (op_fits e j h) in
    let g = operator_given e j in
    record {
      back = ap as_read g ∙ ap operator o.0;
      text = ap token_text g ∙ o.1;
      right = (λ ns. ap (right_token? ns) g);
    }

recover_go : (e : Gives) (t : Token) → T (fits e (class t)) → T (itself? e || symbol_class? (class t)) → Known e t
unfolding as_read class symbol_class? among
recover_go e (statement k) h i = own_known e (statement k) refl i (no_symbol_statement k)
recover_go e (assigned n) h i = own_known e (assigned n) refl i (no_symbol_name n first_numeric first_string first_array tt tt tt)
recover_go e (operator j) h i = op_known e j h
recover_go e (variable n) h i = own_known e (variable n) refl i (no_symbol_name n numeric_variable string_variable array tt tt tt)
recover_go e (constant b) h i = own_known e (constant b) refl i no_symbol_number
recover_go e (string b) h i = own_known e (string b) refl i no_symbol_quoted
recover_go e (raw b) h i = own_known e (raw b) refl i no_symbol_raw
recover_go e out_of_range h i = own_known e out_of_range refl i no_symbol_number
recover_go e unreadable h i = own_known e unreadable refl i no_symbol_unfit

recover : (e : Gives) (t : Token) → T (fits e (class t)) → Known e t
unfolding fits
recover e t h = recover_go e t h (and_left (itself? e || symbol_class? (class t)) _ (and_right (not (eqb (class t) unfit)) _ h))

-- ---- a whole run over tokens

-- the grammar, reading tokens in the place of items
unfoldable pub look_token : ℕ → Token → Act Gives
unfolding by_class
look_token = by_class look class

-- the tokens that a run over tokens gives
unfoldable pub tokens_given : List (Taken Gives Token) → List Token
tokens_given [] = []
tokens_given (t ∷ ts) = given t.gave t.from ∷ tokens_given ts

-- whatever a run takes passes the test of rows
pub run_fits : (s : List ℕ) (js : List Token) → RunFits fits class (read look_token s js)
unfolding look_token
run_fits s js = read_fits fits look class look_fits s js

-- the tokens given are read as the tokens taken
pub all_back : (es : List (Taken Gives Token)) → AllFit fits class es → map as_read (tokens_given es) ≡ sources es
unfolding tokens_given sources
all_back [] f = refl
all_back (t ∷ ts) f = rw ((recover t.gave t.from f.0).back, all_back ts f.1)

-- and are listed the same
pub all_text : (es : List (Taken Gives Token)) → AllFit fits class es → body_text (tokens_given es) ≡ body_text (sources es)
unfolding tokens_given sources body_text
all_text [] f = refl
all_text (t ∷ ts) f = rw ((recover t.gave t.from f.0).text, all_text ts f.1)

-- and are right where these are
pub all_right : (ns : List (List ℕ)) (es : List (Taken Gives Token)) → AllFit fits class es → every (right_token? ns) (tokens_given es) ≡ every (right_token? ns) (sources es)
unfolding tokens_given sources every
all_right ns [] f = refl
all_right ns (t ∷ ts) f = rw ((recover t.gave t.from f.0).right ns, all_right ns ts f.1)

-- each class that is taken fits somewhere
pub taken_fit : (e : Gives) (c : ℕ) → T (fits e c) → T (not (eqb c unfit))
unfolding fits
taken_fit e c t = and_left (not (eqb c unfit)) _ t

-- an item of no symbol's class gives itself
pub own_given : (e : Gives) (t : Token) → T (fits e (class t)) → T (not (symbol_class? (class t))) → given e t ≡ t
unfolding fits given
own_given e t h n = ap (λ (x : Gives). given x t) (itself_known e t (and_left (itself? e || symbol_class? (class t)) _ (and_right (not (eqb (class t) unfit)) _ h)) n)

-- if none is a symbol that becomes another, they are the same tokens
pub own_all : (xs : List (Taken Gives Token)) → AllFit fits class xs → T (every (λ (t : Token). not (symbol_class? (class t))) (sources xs)) → tokens_given xs ≡ sources xs
unfolding tokens_given sources every
own_all [] f n = refl
own_all (x ∷ xs) f n =
    rw (own_given x.gave x.from f.0 (and_left (not (symbol_class? (class x.from))) _ n), own_all xs f.1 (and_right (not (symbol_class? (class x.from))) _ n))
