-- What a token is, by its class.
use Rattle.std.specs.Prelude.{ℕ, ◌≤◌, ◌<◌, ◌≡◌, refl, Bool, true, false, ◌&&◌, ◌||◌, List, [], ◌∷◌, eqb, leb, ltb}
use Rattle.std.proofs.Common.{arith, sym, ap, subst, ◌∙◌, eqb-true, ltb-true, leb-true, le-leb, eq-eqb}
use Rattle.paper.specs.Bytes.{pick, every}
use Rattle.paper.specs.Classes.{unfit, open_sign, close_sign, channel_sign, raw_text, remark}
use Rattle.paper.specs.Words.{Word, word, word_of, statements, operators}
use Rattle.paper.specs.Tokens.{Token, statement, assigned, operator, variable, constant, string, raw, out_of_range, unreadable, out_of_range?, by_kind, operator_class, class}
use Rattle.paper.specs.Open.{all_Bytes, all_Words, all_Tokens}
use Rattle.laws.specs.Names.{every_first, every_rest}
use Rattle.tokens.specs.Same.{no_bool}

-- the number of a word's or symbol's token
unfoldable pub own_of : Token → ℕ
own_of (statement t) = t
own_of (assigned n) = 0
own_of (operator t) = t
own_of (variable n) = 0
own_of (constant b) = 0
own_of (string b) = 0
own_of (raw b) = 0
own_of out_of_range = 0
own_of unreadable = 0

-- ---- the classes in the tables

word_go : (p : Word → Bool) (w : Word) (ws : List Word) (t : ℕ) (b : Bool) → eqb w.token t ≡ b → every p (w ∷ ws) ≡ true → p (word_of ws t) ≡ true → p (word_of (w ∷ ws) t) ≡ true
unfolding word_of
word_go p w ws t true e h ih = rw e (every_first p w ws h)
word_go p w ws t false e h ih = rw e ih

-- what holds of all words of a table, and of no word, holds of the word with a token
word_all : (p : Word → Bool) (ws : List Word) (t : ℕ) → every p ws ≡ true → p (word t "" unfit) ≡ true → p (word_of ws t) ≡ true
unfolding word_of
word_all p [] t h k = k
word_all p (w ∷ ws) t h k = word_go p w ws t (eqb w.token t) refl h (word_all p ws t (every_rest p w ws h) k)

kind_between : (x : List ℕ) (l h n s a : ℕ) → l ≤ n → n ≤ h → l ≤ s → s ≤ h → l ≤ a → a ≤ h → (l ≤ by_kind x n s a) × (by_kind x n s a ≤ h)
unfolding by_kind
kind_between [] l h n s a n1 n2 s1 s2 a1 a2 = (n1, n2)
kind_between (x ∷ []) l h n s a n1 n2 s1 s2 a1 a2 = go (eqb x 36) (eqb x 40)
  where
    go : (b c : Bool) → (l ≤ pick b s (pick c a n)) × (pick b s (pick c a n) ≤ h)
    go true c = (s1, s2)
    go false true = (a1, a2)
    go false false = (n1, n2)
kind_between (x ∷ y ∷ ys) l h n s a n1 n2 s1 s2 a1 a2 = kind_between (y ∷ ys) l h n s a n1 n2 s1 s2 a1 a2

-- the classes of statement words: none that fits, or from `remark` on
unfoldable pub statement_class? : ℕ → Bool
statement_class? c = eqb c 2 || leb remark c

-- the classes of operators and functions: the line's ends, none that fits, or from `open_sign` to `channel_sign`
unfoldable pub symbol_class? : ℕ → Bool
symbol_class? c = leb c 2 || (leb open_sign c && leb c channel_sign)

pub statement_classes : (t : ℕ) → statement_class? (class (statement t)) ≡ true
unfolding all_Bytes all_Words all_Tokens statement_class?
statement_classes t = word_all (λ w. statement_class? w.class) statements t refl refl

operator_go : (a b : Bool) (c : ℕ) → symbol_class? c ≡ true → symbol_class? (pick a 0 (pick b 1 c)) ≡ true
unfolding symbol_class?
operator_go true b c h = refl
operator_go false true c h = refl
operator_go false false c h = h

pub operator_classes : (t : ℕ) → symbol_class? (class (operator t)) ≡ true
unfolding all_Bytes all_Words all_Tokens symbol_class?
operator_classes t = operator_go (eqb t 0x16) (eqb t 0x9b) (word_of operators t).class (word_all (λ w. symbol_class? w.class) operators t refl refl)

pub no_statement : (c : ℕ) → statement_class? c ≡ true → 3 ≤ c → c < remark → ⊥
unfolding statement_class?
no_statement c e l h = go (eqb c 2) (leb remark c) refl refl e
  where
    go : (a b : Bool) → eqb c 2 ≡ a → leb remark c ≡ b → (a || b) ≡ true → ⊥
    go true b p q z = omega (arith, eqb-true c 2 p)
    go false true p q z = omega (arith, leb-true remark c q)
    go false false p q z = no_bool z

low_statement : (c : ℕ) → statement_class? c ≡ true → c ≤ 1 → ⊥
unfolding statement_class?
low_statement c e h = go (eqb c 2) (leb remark c) refl refl e
  where
    go : (a b : Bool) → eqb c 2 ≡ a → leb remark c ≡ b → (a || b) ≡ true → ⊥
    go true b p q z = omega (arith, eqb-true c 2 p)
    go false true p q z = omega (arith, leb-true remark c q)
    go false false p q z = no_bool z

pub no_symbol : (c : ℕ) → symbol_class? c ≡ true → 3 ≤ c → c ≤ 10 → ⊥
unfolding symbol_class?
no_symbol c e l h = go (leb c 2) (leb open_sign c) refl refl e
  where
    go : (a b : Bool) → leb c 2 ≡ a → leb open_sign c ≡ b → (a || (b && leb c channel_sign)) ≡ true → ⊥
    go true b p q z = omega (arith, leb-true c 2 p)
    go false true p q z = omega (arith, leb-true open_sign c q)
    go false false p q z = no_bool z

high_symbol : (c : ℕ) → symbol_class? c ≡ true → channel_sign < c → ⊥
unfolding symbol_class?
high_symbol c e l = go (leb c 2) (leb open_sign c) (leb c channel_sign) refl refl refl e
  where
    go : (a b d : Bool) → leb c 2 ≡ a → leb open_sign c ≡ b → leb c channel_sign ≡ d → (a || (b && d)) ≡ true → ⊥
    go true b d p q r z = omega (arith, leb-true c 2 p)
    go false true true p q r z = omega (arith, leb-true c channel_sign r)
    go false true false p q r z = no_bool z
    go false false d p q r z = no_bool z

first_between : (n : List ℕ) → (8 ≤ class (assigned n)) × (class (assigned n) ≤ 10)
unfolding class
first_between n = kind_between n 8 10 8 9 10 (omega arith) (omega arith) (omega arith) (omega arith) (omega arith) (omega arith)

variable_between : (n : List ℕ) → (5 ≤ class (variable n)) × (class (variable n) ≤ 7)
unfolding class
variable_between n = kind_between n 5 7 5 6 7 (omega arith) (omega arith) (omega arith) (omega arith) (omega arith) (omega arith)

class_constant : (b : List ℕ) → class (constant b) ≡ 3
unfolding class
class_constant b = refl

class_string : (b : List ℕ) → class (string b) ≡ 4
unfolding class
class_string b = refl

class_raw : (b : List ℕ) → class (raw b) ≡ raw_text
unfolding class
class_raw b = refl

class_far : class out_of_range ≡ 3
unfolding class
class_far = refl

class_unreadable : class unreadable ≡ 2
unfolding class
class_unreadable = refl

-- ---- a token by its class

-- from `open_sign` to `channel_sign`: an operator or function
pub operator_by_class : (t : Token) → open_sign ≤ class t → class t ≤ channel_sign → t ≡ operator (own_of t)
unfolding own_of
operator_by_class (statement t) l h = absurd (no_statement (class (statement t)) (statement_classes t) (omega arith) (omega arith))
operator_by_class (assigned n) l h = absurd (omega (arith, (first_between n).1))
operator_by_class (operator t) l h = refl
operator_by_class (variable n) l h = absurd (omega (arith, (variable_between n).1))
operator_by_class (constant b) l h = absurd (omega (arith, l, class_constant b))
operator_by_class (string b) l h = absurd (omega (arith, l, class_string b))
operator_by_class (raw b) l h = absurd (omega (arith, h, class_raw b))
operator_by_class out_of_range l h = absurd (omega (arith, l, class_far))
operator_by_class unreadable l h = absurd (omega (arith, l, class_unreadable))

-- 0: the line's end
pub end_by_class : (t : Token) → class t ≡ 0 → t ≡ operator (own_of t)
unfolding own_of
end_by_class (statement t) h = absurd (low_statement (class (statement t)) (statement_classes t) (omega arith))
end_by_class (assigned n) h = absurd (omega (arith, (first_between n).0))
end_by_class (operator t) h = refl
end_by_class (variable n) h = absurd (omega (arith, (variable_between n).0))
end_by_class (constant b) h = absurd (omega (arith, h, class_constant b))
end_by_class (string b) h = absurd (omega (arith, h, class_string b))
end_by_class (raw b) h = absurd (omega (arith, h, class_raw b))
end_by_class out_of_range h = absurd (omega (arith, h, class_far))
end_by_class unreadable h = absurd (omega (arith, h, class_unreadable))

-- from `remark` on: a statement word
pub statement_by_class : (t : Token) → remark ≤ class t → t ≡ statement (own_of t)
unfolding own_of
statement_by_class (statement t) l = refl
statement_by_class (assigned n) l = absurd (omega (arith, (first_between n).1))
statement_by_class (operator t) l = absurd (high_symbol (class (operator t)) (operator_classes t) (omega arith))
statement_by_class (variable n) l = absurd (omega (arith, (variable_between n).1))
statement_by_class (constant b) l = absurd (omega (arith, l, class_constant b))
statement_by_class (string b) l = absurd (omega (arith, l, class_string b))
statement_by_class (raw b) l = absurd (omega (arith, l, class_raw b))
statement_by_class out_of_range l = absurd (omega (arith, l, class_far))
statement_by_class unreadable l = absurd (omega (arith, l, class_unreadable))

-- only a number can be out of range
pub in_range_by_class : (t : Token) → eqb (class t) 3 ≡ false → out_of_range? t ≡ false
unfolding out_of_range? class
in_range_by_class (statement t) h = refl
in_range_by_class (assigned n) h = refl
in_range_by_class (operator t) h = refl
in_range_by_class (variable n) h = refl
in_range_by_class (constant b) h = refl
in_range_by_class (string b) h = refl
in_range_by_class (raw b) h = refl
in_range_by_class out_of_range h = no_bool (sym h)
in_range_by_class unreadable h = refl

both_go : (p : ℕ → ℕ → Bool) (w : Word) (ws : List Word) (t : ℕ) (b : Bool) → eqb w.token t ≡ b → p w.class w.token ≡ true → p (word_of ws t).class t ≡ true → p (word_of (w ∷ ws) t).class t ≡ true
unfolding word_of
both_go p w ws t true e h ih = rw e (subst (λ (x : ℕ). p w.class x ≡ true) (eqb-true w.token t e) h)
both_go p w ws t false e h ih = rw e ih

-- what holds of class and token of all words of a table, and of no word, holds of a token with its class
word_both : (p : ℕ → ℕ → Bool) (ws : List Word) (t : ℕ) → every (λ w. p w.class w.token) ws ≡ true → p unfit t ≡ true → p (word_of ws t).class t ≡ true
unfolding word_of word
word_both p [] t h k = k
word_both p (w ∷ ws) t h k =
    both_go p w ws t (eqb w.token t) refl (every_first (λ w. p w.class w.token) w ws h) (word_both p ws t (every_rest (λ w. p w.class w.token) w ws h) k)

abbrev small? : ℕ → ℕ → Bool
small? c t = pick (leb 3 c) (ltb t 96) true

operators_small : every (λ w. small? w.class w.token) operators ≡ true
unfolding all_Bytes all_Words
operators_small = refl

-- an operator's token that fits is below 96
pub small_operator : (t : ℕ) → 3 ≤ class (operator t) → t < 96
unfolding class operator_class
small_operator t h = go (eqb t 0x16) (eqb t 0x9b) h
  where
    go : (a b : Bool) → 3 ≤ pick a 0 (pick b 1 (word_of operators t).class) → t < 96
    go true b k = absurd (omega arith)
    go false true k = absurd (omega arith)
    go false false k = ltb-true t 96 (rw (le-leb 3 (word_of operators t).class k) at (word_both small? operators t operators_small refl))

abbrev closing? : ℕ → ℕ → Bool
closing? c t = pick (eqb c 12) (eqb t 0x2c) true

operators_closing : every (λ w. closing? w.class w.token) operators ≡ true
unfolding all_Bytes all_Words
operators_closing = refl

closing_operator : (t : ℕ) → class (operator t) ≡ 12 → 0x2c ≡ t
unfolding class operator_class
closing_operator t h = go (eqb t 0x16) (eqb t 0x9b) h
  where
    go : (a b : Bool) → pick a 0 (pick b 1 (word_of operators t).class) ≡ 12 → 0x2c ≡ t
    go true b k = absurd (omega arith)
    go false true k = absurd (omega arith)
    go false false k = sym (eqb-true t 0x2c (rw (eq-eqb (word_of operators t).class 12 k) at (word_both closing? operators t operators_closing refl)))

-- `)` alone closes
pub closing : (t : Token) → class t ≡ close_sign → 0x2c ≡ own_of t
closing t h =
    let e : t ≡ operator (own_of t) = operator_by_class t (omega (arith, h)) (omega (arith, h)) in
    closing_operator (own_of t) (ap class (sym e) ∙ h)
