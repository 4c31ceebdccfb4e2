-- What the items of any text are: right but for the table's names, with names that a table may hold; and an end stands last, nowhere else.
use Rattle.std.specs.Prelude.{ℕ, zero, suc, pred, ◌+◌, ◌≡◌, Bool, not, ◌&&◌, ◌||◌, eqb, ltb, length, drop, get_or}
use Rattle.std.proofs.Common.{arith, sym, ap, ◌∙◌, eqb-true}
use Rattle.std.proofs.Math.Path.{refl, subst}
use Rattle.std.proofs.Math.Bool.{true, false}
use mathlib.Core.List.{List, [], ◌∷◌, ◌++◌, append-nil}
use Rattle.std.proofs.Math.Dec.{T}
use Rattle.std.proofs.Math.ListN.{take}
use Rattle.std.proofs.Math.Seq.{drop-append_seam}
use Rattle.paper.specs.Bytes.{pick, digit?, letter?, letter_or_digit?, blank?, run, same, every}
use Rattle.paper.specs.Classes.{unfit, remark, numeric_variable, string_variable, array, first_numeric, first_string, first_array}
use Rattle.paper.specs.Words.{Word, Found, found, nowhere, found?, find_word, statements, operators, statement_word?, reserved?}
use Rattle.paper.specs.Tokens.{Token, statement, assigned, operator, variable, constant, string, raw, out_of_range, unreadable, class, operator_class}
use Rattle.paper.specs.Constants.{right_constant?, constant_of, six, in_range, value}
use Rattle.paper.specs.Names.{less_open, name?, name_end?}
use Rattle.paper.specs.Items.{Item, item, item_at, name_at, name_token, variable_at, statement_or, operator_or, with_power, number_at, string_at, symbol_at, symbol_or, string_byte?, raw_byte?, raw_from, raw_at, scan, opens, sign_size, power_size}
use Rattle.paper.specs.Open.{all_Bytes, all_Words, all_Tokens}
use Rattle.laws.specs.Tests.{and_left, and_right, and_both, as_T}
use Rattle.laws.specs.Runs.{All, run_all}
use Rattle.laws.specs.Classes.{at_kind}
use Rattle.grounds.proofs.NameReads.{open_plain, open_last}
use Rattle.promises.proofs.ConstantRight.{six_right}
use Rattle.grounds.specs.Given.{at_class}
use Rattle.grounds.proofs.Closed.{end_class?}

-- a name that may be added to a table
unfoldable pub new_name? : List ℕ → Bool
new_name? n = name? n && not (reserved? (less_open n))

-- right but for the table's names: what the scanner sees to
unfoldable pub scanned_right? : Token → Bool
scanned_right? (statement t) = true
scanned_right? (assigned n) = new_name? n && not (statement_word? (less_open n))
scanned_right? (operator t) = true
scanned_right? (variable n) = new_name? n
scanned_right? (constant b) = right_constant? b
scanned_right? (string b) = every string_byte? b
scanned_right? (raw b) = every raw_byte? b
scanned_right? out_of_range = true
scanned_right? unreadable = true

-- a token that stands inside a line
pub record Within (t : Token) : Type 0 where
  pub right : T (scanned_right? t)
  pub no_end : T (not (end_class? (class t)))

-- ---- classes that are no end

-- a class that is no end
unfoldable no_end? : ℕ → Bool
no_end? c = not (end_class? c)

statements_no_end : T (every (λ (w : Word). no_end? w.class) statements)
unfolding no_end? end_class? all_Bytes all_Words
statements_no_end = tt

operators_no_end : T (every (λ (w : Word). no_end? (operator_class w.token)) operators)
unfolding no_end? end_class? all_Bytes all_Words all_Tokens
operators_no_end = tt

-- a test of every token of a table passes at the token of a word that is found there
found_every : (q : ℕ → Bool) (ws : List Word) (s : List ℕ) (t : ℕ) → T (every (λ (w : Word). q w.token) ws) → find_word ws s ≡ found t → T (q t)
unfolding find_word every
found_every q [] s t e f = let z : ◌≡◌ {A = ℕ} 0 1 = cc in absurd (omega arith)
found_every q (w ∷ ws) s t e f =
    go (same w.spelling s) f (λ g. found_every q ws s t (and_right (q w.token) (every (λ (w : Word). q w.token) ws) e) g)
  where
    go : (b : Bool) → pick b (found w.token) (find_word ws s) ≡ found t → (find_word ws s ≡ found t → T (q t)) → T (q t)
    go true f ih = let z : w.token ≡ t = cc in subst (λ (k : ℕ). T (q k)) z (and_left (q w.token) (every (λ (w : Word). q w.token) ws) e)
    go false f ih = ih f

a_statement : (t : ℕ) → Within (statement t)
unfolding class scanned_right? no_end? end_class?
a_statement t = record { right = tt; no_end = at_class no_end? statements t statements_no_end tt }

an_operator : (s : List ℕ) (t : ℕ) → find_word operators s ≡ found t → Within (operator t)
unfolding class scanned_right? no_end?
an_operator s t e = record { right = tt; no_end = found_every (λ k. no_end? (operator_class k)) operators s t operators_no_end e }

-- ---- names

run_all_of : (q : ℕ → Bool) (s : List ℕ) → All q (take (run q s) s)
unfolding run
run_all_of q [] = tt
run_all_of q (x ∷ s) = go (q x) refl (run_all_of q s)
  where
    go : (b : Bool) → q x ≡ b → All q (take (run q s) s) → All q (take (pick b (suc (run q s)) 0) (x ∷ s))
    go true e t = (e, t)
    go false e t = tt

take_next : (s : List ℕ) (n : ℕ) → eqb (get_or s n 0) 36 ≡ true → take (suc n) s ≡ take n s ++ 36 ∷ []
take_next [] n e = let z : ◌≡◌ {A = ℕ} 0 1 = cc in absurd (omega arith)
take_next (x ∷ s) zero e = ap (λ (z : ℕ). z ∷ []) (eqb-true x 36 e)
take_next (x ∷ s) (suc n) e = ap (λ (z : List ℕ). x ∷ z) (take_next s n e)

-- letters and digits, the first a letter, and then an end that a name may have
name_with : (x ys : List ℕ) → All letter_or_digit? x → letter? (get_or x 0 0) ≡ true → letter_or_digit? (get_or ys 0 0) ≡ false → T (name_end? ys) → T (name? (x ++ ys))
unfolding name? letter?
name_with [] ys a l e t = let z : ◌≡◌ {A = ℕ} 0 1 = cc in absurd (omega arith)
name_with (b ∷ x) ys a l e t = rw (l, run_all letter_or_digit? (b ∷ x) ys a e, drop-append_seam x ys) t

-- the first of a run is the first of the text
run_first : (s : List ℕ) → letter? (get_or s 0 0) ≡ true → letter? (get_or (take (run letter_or_digit? s) s) 0 0) ≡ true
unfolding run letter_or_digit?
run_first [] h = h
run_first (x ∷ s) h = subst (λ (b : Bool). letter? (get_or (take (pick b (suc (run letter_or_digit? s)) 0) (x ∷ s)) 0 0) ≡ true) (sym (either (digit? x) ∙ h)) h
  where
    either : (d : Bool) → d || letter? x ≡ letter? x
    either true = sym h
    either false = refl

-- What a name in a text is: less its `(` it is what stands there, and a table may hold it
record Spelled (w n : List ℕ) : Type 0 where
  pub less : less_open n ≡ w
  pub is_name : T (name? n)

module _ (s : List ℕ) (letter : letter? (get_or s 0 0) ≡ true) where
  letters : List ℕ
  letters = take (run letter_or_digit? s) s

  with_end : (y : ℕ) → letter_or_digit? y ≡ false → T (name_end? (y ∷ [])) → T (name? (letters ++ y ∷ []))
  unfolding letters
  with_end y e t = name_with letters (y ∷ []) (run_all_of letter_or_digit? s) (run_first s letter) e t

  spelled : (d : Bool) → eqb (get_or s (run letter_or_digit? s) 0) 36 ≡ d → (c : Bool)
      → Spelled (take (pick d (suc (run letter_or_digit? s)) (run letter_or_digit? s)) s) (pick (not d && c) (take (pick d (suc (run letter_or_digit? s)) (run letter_or_digit? s)) s ++ 40 ∷ []) (take (pick d (suc (run letter_or_digit? s)) (run letter_or_digit? s)) s))
  unfolding letters name_end? all_Bytes
  spelled true e c =
      let t : take (suc (run letter_or_digit? s)) s ≡ letters ++ 36 ∷ [] = take_next s (run letter_or_digit? s) e in
      subst (λ (l : List ℕ). Spelled l l) (sym t) (record { less = open_last letters 36; is_name = with_end 36 refl tt })
  spelled false e true = record { less = open_last letters 40 ∙ append-nil letters; is_name = with_end 40 refl tt }
  spelled false e false =
      record {
        less = open_plain letters (run_all_of letter_or_digit? s);
        is_name = subst (λ (l : List ℕ). T (name? l)) (append-nil letters) (name_with letters [] (run_all_of letter_or_digit? s) (run_first s letter) refl tt);
      }

-- ---- what a name is

new_name : (w n : List ℕ) → Spelled w n → T (not (reserved? w)) → T (new_name? n)
unfolding new_name?
new_name w n h r = and_both (name? n) (not (reserved? (less_open n))) h.is_name (subst (λ (l : List ℕ). T (not (reserved? l))) (sym h.less) r)

a_variable : (w n : List ℕ) → Spelled w n → T (not (reserved? w)) → Within (variable n)
unfolding class scanned_right? no_end? end_class?
a_variable w n h r = record { right = new_name w n h r; no_end = at_kind no_end? n numeric_variable string_variable array tt tt tt }

a_target : (w n : List ℕ) → Spelled w n → T (not (reserved? w)) → T (not (statement_word? w)) → Within (assigned n)
unfolding class scanned_right? no_end? end_class?
a_target w n h r k =
    record {
      right = and_both (new_name? n) (not (statement_word? (less_open n))) (new_name w n h r) (subst (λ (l : List ℕ). T (not (statement_word? l))) (sym h.less) k);
      no_end = at_kind no_end? n first_numeric first_string first_array tt tt tt;
    }

or_operator : (w : List ℕ) (f : Found) → find_word operators w ≡ f → (t : Token) → (T (not (reserved? w)) → Within t) → Within (operator_or f t)
unfolding operator_or reserved? found?
or_operator w (found k) e t h = an_operator w k e
or_operator w nowhere e t h = h (subst (λ (f : Found). T (not (found? f))) (sym e) tt)

or_statement : (w : List ℕ) (f : Found) → find_word statements w ≡ f → (t : Token) → (T (not (statement_word? w)) → Within t) → Within (statement_or f t)
unfolding statement_or statement_word? found?
or_statement w (found k) e t h = a_statement k
or_statement w nowhere e t h = h (subst (λ (f : Found). T (not (found? f))) (sym e) tt)

name_within : (first : Bool) (w n : List ℕ) → Spelled w n → Within (name_token first w n)
unfolding name_token variable_at
name_within true w n h = or_statement w (find_word statements w) refl _ (λ k. or_operator w (find_word operators w) refl _ (λ r. a_target w n h r k))
name_within false w n h = or_operator w (find_word operators w) refl _ (λ r. a_variable w n h r)

-- ---- one item

-- the same of an item
pub record Inner (i : Item) : Type 0 where
  pub token : Within i.token

inner : (p n : ℕ) (t : Token) → Within t → Inner (item p n t)
unfolding item
inner p n t h = record { token = h }

pick_inner : (b : Bool) (i j : Item) → (b ≡ true → Inner i) → Inner j → Inner (pick b i j)
pick_inner true i j x y = x refl
pick_inner false i j x y = y

a_constant : (v u d : ℕ) → Within (constant_of v u d)
unfolding constant_of class scanned_right? end_class?
a_constant v u d = go (in_range v u d) refl
  where
    go : (b : Bool) → in_range v u d ≡ b → Within (pick b (constant (six v u d)) out_of_range)
    go true e = record { right = six_right v u d (as_T (in_range v u d) e); no_end = tt }
    go false e = record { right = tt; no_end = tt }

power_inner : (p : ℕ) (s : List ℕ) (n v f : ℕ) → Inner (with_power p s n v f)
unfolding with_power
power_inner p s n v f =
    let t : List ℕ = drop (suc n) s in
    let g : ℕ = sign_size (get_or t 0 0) in
    let e : List ℕ = drop g t in
    let k : ℕ = power_size e in
    let x : ℕ = value 0 (take k e) in
    let down : Item = item p (suc n + g + k) (constant_of v 0 (f + x)) in
    let up : Item = item p (suc n + g + k) (constant_of v x f) in
    pick_inner (eqb (get_or s n 0) 69 && ltb 0 k) (pick (eqb (get_or t 0 0) 45) down up) (item p n (constant_of v 0 f))
    (λ h. pick_inner (eqb (get_or t 0 0) 45) down up (λ y. inner p (suc n + g + k) (constant_of v 0 (f + x)) (a_constant v 0 (f + x))) (inner p (suc n + g + k) (constant_of v x f) (a_constant v x f)))
    (inner p n (constant_of v 0 f) (a_constant v 0 f))

number_inner : (p : ℕ) (s : List ℕ) → Inner (number_at p s)
unfolding number_at
number_inner p s =
    let a : ℕ = run digit? s in
    let t : List ℕ = drop (suc a) s in
    let b : ℕ = run digit? t in
    let v : ℕ = value 0 (take a s ++ take b t) in
    let w : ℕ = value 0 (take a s) in
    pick_inner (eqb (get_or s a 0) 46) (with_power p s (suc a + b) v b) (with_power p s a w 0) (λ h. power_inner p s (suc a + b) v b) (power_inner p s a w 0)

no_item : (p n : ℕ) → Inner (item p n unreadable)
unfolding class scanned_right? end_class?
no_item p n = inner p n unreadable (record { right = tt; no_end = tt })

-- bytes of a run pass its test
every_run : (q : ℕ → Bool) (s : List ℕ) → T (every q (take (run q s) s))
unfolding every run
every_run q [] = tt
every_run q (x ∷ s) = go (q x) refl (every_run q s)
  where
    go : (b : Bool) → q x ≡ b → T (every q (take (run q s) s)) → T (every q (take (pick b (suc (run q s)) 0) (x ∷ s)))
    go true e t = and_both (q x) (every q (take (run q s) s)) (as_T (q x) e) t
    go false e t = tt

string_inner : (p : ℕ) (s : List ℕ) → Inner (string_at p s)
unfolding string_at class scanned_right? end_class?
string_inner p s = go (eqb (get_or t n 0) 0x9b)
  where
    t : List ℕ
    t = drop 1 s

    n : ℕ
    n = run string_byte? t

    m : ℕ
    m = pick (eqb (get_or t n 0) 34) (suc (suc n)) (suc n)

    go : (marked : Bool) → Inner (item p m (pick marked unreadable (string (take n t))))
    go true = no_item p m
    go false = inner p m (string (take n t)) (record { right = every_run string_byte? t; no_end = tt })

or_symbol : (s : List ℕ) (p n : ℕ) (f : Found) → find_word operators s ≡ f → (i : Item) → Inner i → Inner (symbol_or p n f i)
unfolding symbol_or
or_symbol s p n (found t) e i h = inner p n (operator t) (an_operator s t e)
or_symbol s p n nowhere e i h = h

symbol_inner : (p b c : ℕ) → Inner (symbol_at p b c)
unfolding symbol_at
symbol_inner p b c = or_symbol (b ∷ c ∷ []) p 2 (find_word operators (b ∷ c ∷ [])) refl _ (or_symbol (b ∷ []) p 1 (find_word operators (b ∷ [])) refl _ (no_item p 1))

name_inner : (first : Bool) (p : ℕ) (s : List ℕ) → letter? (get_or s 0 0) ≡ true → Inner (name_at first p s)
unfolding name_at
name_inner first p s l = inner p _ _ (name_within first _ _ (spelled s l (eqb (get_or s (run letter_or_digit? s) 0) 36) refl _))

item_inner : (first : Bool) (p : ℕ) (s : List ℕ) → Inner (item_at first p s)
unfolding item_at
item_inner first p s =
    let b : ℕ = get_or s 0 0 in
    let c : ℕ = get_or s 1 0 in
    let last : Item = pick (eqb b 63 && first) (item p 1 (statement 0x28)) (symbol_at p b c) in
    let third : Item = pick (eqb b 34) (string_at p s) last in
    let second : Item = pick (digit? b || (eqb b 46 && digit? c)) (number_at p s) third in
    pick_inner (letter? b) (name_at first p s) second (λ h. name_inner first p s h)
    (pick_inner (digit? b || (eqb b 46 && digit? c)) (number_at p s) third (λ h. number_inner p s)
    (pick_inner (eqb b 34) (string_at p s) last (λ h. string_inner p s)
    (pick_inner (eqb b 63 && first) (item p 1 (statement 0x28)) (symbol_at p b c) (λ h. inner p 1 (statement 0x28) (a_statement 0x28)) (symbol_inner p b c))))

-- ---- all items

-- the last item of a text: the line's end, the end of raw text, or 9B in raw text, which is no item
unfoldable pub last? : ℕ → Bool
last? c = end_class? c || eqb c unfit

-- a last item, right but for the table's names
pub record Last (i : Item) : Type 0 where
  pub right : T (scanned_right? i.token)
  pub is_last : T (last? (class i.token))

-- items inside a line, and then a last one
abbrev pub Scanned : List Item → Type 0
Scanned [] = ⊥
Scanned (i ∷ []) = Last i
Scanned (i ∷ j ∷ is) = Inner i × Scanned (j ∷ is)

before : (i : Item) (is : List Item) → Inner i → Scanned is → Scanned (i ∷ is)
before i [] h s = absurd s
before i (j ∷ is) h s = (h, s)

pick_scanned : (b : Bool) (x y : List Item) → Scanned x → Scanned y → Scanned (pick b x y)
pick_scanned true x y a b = a
pick_scanned false x y a b = b

last_item : (p n : ℕ) (t : Token) → T (scanned_right? t) → T (last? (class t)) → Scanned (item p n t ∷ [])
unfolding item
last_item p n t r l = record { right = r; is_last = l }

raw_scanned : (p : ℕ) (s : List ℕ) → Scanned (raw_from p s)
unfolding raw_from class scanned_right? last? end_class? all_Tokens
raw_scanned p s =
    let n : ℕ = run raw_byte? s in
    let ends : List Item = pick (eqb n (length s)) (item (p + n) 0 (operator 0x9b) ∷ []) (item (p + n) 1 unreadable ∷ []) in
    before (item p n (raw (take n s))) ends (inner p n (raw (take n s)) (record { right = every_run raw_byte? s; no_end = tt }))
    (pick_scanned (eqb n (length s)) (item (p + n) 0 (operator 0x9b) ∷ []) (item (p + n) 1 unreadable ∷ []) (last_item (p + n) 0 (operator 0x9b) tt tt) (last_item (p + n) 1 unreadable tt tt))

end_scanned : (p : ℕ) → Scanned (item p 0 (operator 0x16) ∷ [])
unfolding scanned_right? last? end_class? all_Tokens
end_scanned p = last_item p 0 (operator 0x16) tt tt

-- what the scanner makes of any text
pub scanned_items : (s : List ℕ) (n : ℕ) (first : Bool) (p : ℕ) → Scanned (scan n first p s)
unfolding scan raw_at
scanned_items [] n first p = end_scanned p
scanned_items (b ∷ s) (suc n) first p = scanned_items s n first (suc p)
scanned_items (b ∷ s) zero first p =
    let i : Item = item_at first p (b ∷ s) in
    let c : ℕ = class i.token in
    let q : ℕ = p + i.size in
    let t : List ℕ = drop i.size (b ∷ s) in
    let more : List Item = scan (pred i.size) (opens c) (suc p) s in
    pick_scanned (blank? b) (scan zero first (suc p) s) (i ∷ pick (eqb c remark) (raw_at q t) more) (scanned_items s zero first (suc p))
    (before i (pick (eqb c remark) (raw_at q t) more) (item_inner first p (b ∷ s))
    (pick_scanned (eqb c remark) (raw_at q t) more
    (pick_scanned (blank? (get_or t 0 0)) (raw_from (suc q) (drop 1 t)) (raw_from q t) (raw_scanned (suc q) (drop 1 t)) (raw_scanned q t)) (scanned_items s (pred i.size) (opens c) (suc p))))

-- every item is right but for the table's names
abbrev pub AllRight : List Item → Type 0
AllRight [] = Unit {0}
AllRight (i ∷ is) = T (scanned_right? i.token) × AllRight is

-- from what the scanner makes
pub all_right : (is : List Item) → Scanned is → AllRight is
all_right [] s = tt
all_right (i ∷ []) s = (s.right, tt)
all_right (i ∷ j ∷ is) s = (s.0.token.right, all_right (j ∷ is) s.1)
