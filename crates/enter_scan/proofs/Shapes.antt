-- A shape is the item that the definitions have at the front of a text.
use Rattle.std.specs.Prelude.{ℕ, suc, ◌+◌, ◌≡◌, refl, Bool, true, false, not, ◌&&◌, ◌||◌, List, [], ◌∷◌, ◌++◌, ltb, eqb, take, drop, get_or}
use Rattle.std.proofs.Common.{arith, sym, ap, ◌∙◌, append-nil, eqb-true, ne_eqb}
use Rattle.paper.specs.Bytes.{pick, digit?, letter?, letter_or_digit?, run}
use Rattle.paper.specs.Words.{Found, found, nowhere, find_word, statements, operators}
use Rattle.paper.specs.Tokens.{statement, operator, string, unreadable}
use Rattle.paper.specs.Constants.{value, constant_of}
use Rattle.paper.specs.Items.{Item, item, statement_or, operator_or, variable_at, name_token, name_at, sign_size, power_size, with_power, number_at, string_byte?, string_at, symbol_or, symbol_at, item_at}
use Rattle.tokens.specs.Same.{no_bool}
use Rattle.constant_bytes.specs.Numerals.{digits_in, numeral_token}
use Rattle.enter_scan.specs.declared.Kind.{Kind}
use Rattle.enter_scan.specs.declared.Kind.TheVariants.{Numeric, Text, Array, Number, Quoted, Operator, Function, Statement, Bad}
use Rattle.enter_scan.specs.Token.{token_of}
use Rattle.enter_scan.specs.Kinds.{Shape, shape, name_size, variable_kind, statement_kind, reserved_kind, name_kind, name_shape, fraction_size, digits_size, no_power, power_at, number_with, number_shape, string_ended, string_shape, symbol_kind, symbol_shape, shape_at}

-- the item of a shape at the front of a text that stands at the place p
abbrev pub item_of : Bool → ℕ → List ℕ → Shape → Item
item_of first p s x = item p x.size (token_of x.kind s first)

-- ---- names

word_token : (t : ℕ) (b : Bool) (s : List ℕ) (first : Bool) → token_of (pick b (Operator (record { 0 = t })) (Function (record { 0 = t }))) s first ≡ operator t
unfolding token_of
word_token t true s first = refl
word_token t false s first = refl

reserved_token : (f : Found) (k : Kind) (s : List ℕ) (first : Bool) → token_of (reserved_kind f k) s first ≡ operator_or f (token_of k s first)
unfolding reserved_kind operator_or
reserved_token (found t) k s first = word_token t (ltb t 0x3d) s first
reserved_token nowhere k s first = refl

statement_token : (f : Found) (k : Kind) (s : List ℕ) (first : Bool) → token_of (statement_kind f k) s first ≡ statement_or f (token_of k s first)
unfolding statement_kind statement_or token_of
statement_token (found t) k s first = refl
statement_token nowhere k s first = refl

-- what a name is, from what it is as a variable
name_word : (first : Bool) (w v s : List ℕ) (k : Kind) → token_of k s first ≡ variable_at first v → token_of (name_kind first w k) s first ≡ name_token first w v
unfolding name_kind name_token
name_word true w v s k e =
    statement_token (find_word statements w) (reserved_kind (find_word operators w) k) s true
    ∙ ap (statement_or (find_word statements w)) (reserved_token (find_word operators w) k s true ∙ ap (operator_or (find_word operators w)) e)
name_word false w v s k e = reserved_token (find_word operators w) k s false ∙ ap (operator_or (find_word operators w)) e

variable_token : (d o : Bool) (n : ℕ) (s : List ℕ) (first : Bool)
    → token_of (pick d (Text n) (pick o (Array n) (Numeric n))) s first ≡ variable_at first (pick (not d && o) (take n s ++ 40 ∷ []) (take n s))
unfolding token_of
variable_token true o n s first = refl
variable_token false true n s first = refl
variable_token false false n s first = refl

pub name_item : (first : Bool) (p : ℕ) (s : List ℕ) → item_of first p s (name_shape first s) ≡ name_at first p s
unfolding name_shape name_at name_size variable_kind
name_item first p s =
    let n = run letter_or_digit? s in
    let d = eqb (get_or s n 0) 36 in
    let m = pick d (suc n) n in
    ap (item p m)
    (name_word first (take m s) (pick (not d && eqb (get_or s m 0) 40) (take m s ++ 40 ∷ []) (take m s)) s (pick d (Text m) (pick (eqb (get_or s m 0) 40) (Array m) (Numeric m)))
    (variable_token d (eqb (get_or s m 0) 40) m s first))

-- ---- numbers

power_go : (first : Bool) (p n f a v g k x : ℕ) (s : List ℕ) (some down : Bool) → value 0 (take a s ++ take f (drop (suc a) s)) ≡ v
    → item_of first p s
    (shape (Number (record { whole = a; fraction = f; down = (pick some (record { size = suc g + k; down = down; power = x }) no_power).down; power = (pick some (record { size = suc g + k; down = down; power = x }) no_power).power }))
    (n + (pick some (record { size = suc g + k; down = down; power = x }) no_power).size))
    ≡ pick some (pick down (item p (suc n + g + k) (constant_of v 0 (f + x))) (item p (suc n + g + k) (constant_of v x f))) (item p n (constant_of v 0 f))
unfolding token_of numeral_token digits_in
power_go first p n f a v g k x s true true e = let m : n + (suc g + k) ≡ suc n + g + k = omega arith in rw (e, m)
power_go first p n f a v g k x s true false e = let m : n + (suc g + k) ≡ suc n + g + k = omega arith in rw (e, m)
power_go first p n f a v g k x s false down e = let m : n + 0 ≡ n = omega arith in rw (e, m)

with_power_item : (first : Bool) (p n f a v : ℕ) (s : List ℕ) → value 0 (take a s ++ take f (drop (suc a) s)) ≡ v
    → item_of first p s (shape (Number (record { whole = a; fraction = f; down = (power_at s n).down; power = (power_at s n).power })) (n + (power_at s n).size)) ≡ with_power p s n v f
unfolding power_at with_power
with_power_item first p n f a v s e =
    let t = drop (suc n) s in
    let g = sign_size (get_or t 0 0) in
    let k = power_size (drop g t) in
    power_go first p n f a v g k (value 0 (take k (drop g t))) s (eqb (get_or s n 0) 69 && ltb 0 k) (eqb (get_or t 0 0) 45) e

number_go : (first : Bool) (p a b : ℕ) (s : List ℕ) (point : Bool)
    → item_of first p s (shape (Number (record { whole = a; fraction = pick point b 0; down = (power_at s (pick point (suc a + b) a)).down; power = (power_at s (pick point (suc a + b) a)).power })) (pick point (suc a + b) a + (power_at s (pick point (suc a + b) a)).size))
    ≡ pick point (with_power p s (suc a + b) (value 0 (take a s ++ take b (drop (suc a) s))) b) (with_power p s a (value 0 (take a s)) 0)
number_go first p a b s true = with_power_item first p (suc a + b) b a (value 0 (take a s ++ take b (drop (suc a) s))) s refl
number_go first p a b s false = with_power_item first p a 0 a (value 0 (take a s)) s (ap (value 0) (append-nil (take a s)))

pub number_item : (first : Bool) (p : ℕ) (s : List ℕ) → item_of first p s (number_shape s) ≡ number_at p s
unfolding number_shape number_with number_at fraction_size digits_size
number_item first p s = let a = run digit? s in number_go first p a (run digit? (drop (suc a) s)) s (eqb (get_or s a 0) 46)

-- ---- strings and symbols

string_go : (first : Bool) (p n : ℕ) (s : List ℕ) (closed marked : Bool) → (closed ≡ true → marked ≡ false)
    → item_of first p s (pick closed (shape (Quoted n) (suc (suc n))) (pick marked (shape Bad (suc n)) (shape (Quoted n) (suc n))))
    ≡ item p (pick closed (suc (suc n)) (suc n)) (pick marked unreadable (string (take n (drop 1 s))))
unfolding token_of
string_go first p n s true true h = no_bool (sym (h refl))
string_go first p n s true false h = refl
string_go first p n s false true h = refl
string_go first p n s false false h = refl

pub string_item : (first : Bool) (p b : ℕ) (t : List ℕ) → item_of first p (b ∷ t) (string_shape (b ∷ t)) ≡ string_at p (b ∷ t)
unfolding string_shape string_ended string_at
string_item first p b t =
    let n = run string_byte? t in
    let c = get_or t n 0 in
    string_go first p n (b ∷ t) (eqb c 34) (eqb c 0x9b) (λ h. ne_eqb c 0x9b (λ e. omega (arith, eqb-true c 34 h)))

symbol_go : (first : Bool) (p n : ℕ) (s : List ℕ) (f : Found) (x : Shape) (i : Item) → item_of first p s x ≡ i → item_of first p s (symbol_kind n f x) ≡ symbol_or p n f i
unfolding symbol_kind symbol_or token_of
symbol_go first p n s (found t) x i e = refl
symbol_go first p n s nowhere x i e = e

pub symbol_item : (first : Bool) (p b c : ℕ) (s : List ℕ) → item_of first p s (symbol_shape b c) ≡ symbol_at p b c
unfolding symbol_shape symbol_at token_of
symbol_item first p b c s =
    symbol_go first p 2 s (find_word operators (b ∷ c ∷ [])) (symbol_kind 1 (find_word operators (b ∷ [])) (shape Bad 1)) _
    (symbol_go first p 1 s (find_word operators (b ∷ [])) (shape Bad 1) (item p 1 unreadable) refl)

-- ---- all

pick_item : (first : Bool) (p : ℕ) (s : List ℕ) (c : Bool) (x y : Shape) (i j : Item) → item_of first p s x ≡ i → item_of first p s y ≡ j → item_of first p s (pick c x y) ≡ pick c i j
pick_item first p s true x y i j e f = e
pick_item first p s false x y i j e f = f

-- what stands at the front of a text that is not empty
pub item_shape : (first : Bool) (p b : ℕ) (t : List ℕ) → item_of first p (b ∷ t) (shape_at first (b ∷ t)) ≡ item_at first p (b ∷ t)
unfolding shape_at item_at token_of
item_shape first p b t =
    let s = b ∷ t in
    let c = get_or t 0 0 in
    pick_item first p s (letter? b) (name_shape first s) _ (name_at first p s) _ (name_item first p s)
    (pick_item first p s (digit? b || (eqb b 46 && digit? c)) (number_shape s) _ (number_at p s) _ (number_item first p s)
    (pick_item first p s (eqb b 34) (string_shape s) _ (string_at p s) _ (string_item first p b t)
    (pick_item first p s (eqb b 63 && first) (shape (Statement (record { 0 = 0x28 })) 1) (symbol_shape b c) (item p 1 (statement 0x28)) (symbol_at p b c) refl (symbol_item first p b c s))))
