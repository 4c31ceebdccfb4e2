-- A name of a sound table, as it is listed, is read as that variable.
use Rattle.std.specs.Prelude.{ℕ, suc, ◌≤◌, ◌≡◌, refl, Bool, true, false, not, ◌&&◌, List, [], ◌∷◌, ◌++◌, T, eqb, leb, length, take, drop, get_or}
use Rattle.std.proofs.Common.{arith, subst, sym, ap, ◌∙◌, append_assoc, append-nil, eqb→eq, leb→le, eqb-true, ne_eqb}
use Rattle.std.proofs.Math.Seq.{take-append_seam}
use Rattle.paper.specs.Bytes.{pick, digit?, letter?, letter_or_digit?, blank?, run, among}
use Rattle.paper.specs.Classes.{numeric_variable, string_variable, array, first_numeric, first_string, first_array, remark}
use Rattle.paper.specs.Words.{Found, found, nowhere, found?, find_word, statements, operators, statement_word?, reserved?}
use Rattle.paper.specs.Tokens.{class, by_kind}
use Rattle.paper.specs.Names.{name?, name_end?, less_open}
use Rattle.paper.specs.Items.{item, item_at, name_at, name_token, variable_at, statement_or, operator_or, opens}
use Rattle.paper.specs.Open.{all_Bytes}
use Rattle.laws.specs.Tests.{and_left, and_right, is_true, is_false, or_else, as_T}
use Rattle.laws.specs.Runs.{All, run_all, seam}
use Rattle.grounds.specs.WordReading.{Next, scan_item, after, ends_name}

-- ---- the three kinds of a name

-- letters and digits; with `$` at the end; with `(` at the end
pub data Kind (n : List ℕ) : Type 0 where
  plain_name : All letter_or_digit? n → Kind n
  dollar_name : (w : List ℕ) → All letter_or_digit? w → n ≡ w ++ 36 ∷ [] → Kind n
  array_name : (w : List ℕ) → All letter_or_digit? w → n ≡ w ++ 40 ∷ [] → Kind n

longer : (x : ℕ) (xs : List ℕ) → letter_or_digit? x ≡ true → Kind xs → Kind (x ∷ xs)
longer x xs h (plain_name a) = plain_name (h, a)
longer x xs h (dollar_name w a e) = dollar_name (x ∷ w) (h, a) (ap (λ (l : List ℕ). x ∷ l) e)
longer x xs h (array_name w a e) = array_name (x ∷ w) (h, a) (ap (λ (l : List ℕ). x ∷ l) e)

ending : (x : ℕ) (xs : List ℕ) → T (name_end? (x ∷ xs)) → Kind (x ∷ xs)
unfolding name_end?
ending x [] t =
    or_else (eqb x 36) (eqb x 40) t (λ h. dollar_name [] tt (ap (λ (z : ℕ). z ∷ []) (eqb→eq x 36 h))) (λ h. array_name [] tt (ap (λ (z : ℕ). z ∷ []) (eqb→eq x 40 h)))
ending x (y ∷ ys) t = absurd t

kind_go : (x : ℕ) (xs : List ℕ) (b : Bool) → letter_or_digit? x ≡ b → (T (name_end? (drop (run letter_or_digit? xs) xs)) → Kind xs) → T (name_end? (drop (pick b (suc (run letter_or_digit? xs)) 0) (x ∷ xs))) → Kind (x ∷ xs)
kind_go x xs true h ih t = longer x xs h (ih t)
kind_go x xs false h ih t = ending x xs t

-- a name is of one of these kinds
pub name_kind : (n : List ℕ) → T (name_end? (drop (run letter_or_digit? n) n)) → Kind n
unfolding run
name_kind [] t = plain_name tt
name_kind (x ∷ xs) t = kind_go x xs (letter_or_digit? x) refl (λ h. name_kind xs h) t

-- ---- what a kind says

not_end : (x : ℕ) → letter_or_digit? x ≡ true → (eqb x 36 ≡ false) × (eqb x 40 ≡ false)
unfolding letter_or_digit? digit? letter?
not_end x h =
    or_else (leb 48 x && leb x 57) (leb 65 x && leb x 90) (as_T _ h)
    (λ t. let l : 48 ≤ x = leb→le 48 x (and_left (leb 48 x) _ t) in (ne_eqb x 36 (λ e. omega arith), ne_eqb x 40 (λ e. omega arith)))
    (λ t. let l : 65 ≤ x = leb→le 65 x (and_left (leb 65 x) _ t) in (ne_eqb x 36 (λ e. omega arith), ne_eqb x 40 (λ e. omega arith)))

kind_plain : (n : List ℕ) (a b c : ℕ) → All letter_or_digit? n → by_kind n a b c ≡ a
unfolding by_kind
kind_plain [] a b c h = refl
kind_plain (x ∷ []) a b c h = rw ((not_end x h.0).0, (not_end x h.0).1)
kind_plain (x ∷ y ∷ r) a b c h = kind_plain (y ∷ r) a b c h.1

kind_last : (w : List ℕ) (x a b c : ℕ) → by_kind (w ++ x ∷ []) a b c ≡ pick (eqb x 36) b (pick (eqb x 40) c a)
unfolding by_kind
kind_last [] x a b c = refl
kind_last (y ∷ []) x a b c = refl
kind_last (y ∷ z ∷ r) x a b c = kind_last (z ∷ r) x a b c

-- less its `(`, a plain name is itself
pub open_plain : (n : List ℕ) → All letter_or_digit? n → less_open n ≡ n
unfolding less_open
open_plain [] h = refl
open_plain (x ∷ []) h = rw (not_end x h.0).1
open_plain (x ∷ y ∷ r) h = ap (λ (l : List ℕ). x ∷ l) (open_plain (y ∷ r) h.1)

-- a name that ends in `(` loses it, and no other does
pub open_last : (w : List ℕ) (x : ℕ) → less_open (w ++ x ∷ []) ≡ w ++ pick (eqb x 40) [] (x ∷ [])
unfolding less_open
open_last [] x = refl
open_last (y ∷ []) x = refl
open_last (y ∷ z ∷ r) x = ap (λ (l : List ℕ). y ∷ l) (open_last (z ∷ r) x)

-- ---- reading

plain_item : (first : Bool) (p b : ℕ) (t ys : List ℕ) → letter? b ≡ true → All letter_or_digit? (b ∷ t) → letter_or_digit? (get_or ys 0 0) ≡ false → eqb (get_or ys 0 0) 36 ≡ false → eqb (get_or ys 0 0) 40 ≡ false
    → item_at first p ((b ∷ t) ++ ys) ≡ item p (length (b ∷ t)) (name_token first (b ∷ t) (b ∷ t))
unfolding item_at name_at
plain_item first p b t ys hl ha hw hd ho = rw (hl, run_all letter_or_digit? (b ∷ t) ys ha hw, seam (b ∷ t) ys, hd) (rw (take-append_seam t ys, seam t ys, ho))

forty : letter_or_digit? 40 ≡ false
unfolding all_Bytes
forty = refl

dollar_sign : letter_or_digit? 36 ≡ false
unfolding all_Bytes
dollar_sign = refl

array_item : (first : Bool) (p b : ℕ) (t ys : List ℕ) → letter? b ≡ true → All letter_or_digit? (b ∷ t) → eqb (get_or ys 0 0) 40 ≡ true
    → item_at first p ((b ∷ t) ++ ys) ≡ item p (length (b ∷ t)) (name_token first (b ∷ t) ((b ∷ t) ++ 40 ∷ []))
unfolding item_at name_at
array_item first p b t ys hl ha ho =
    let e : get_or ys 0 0 ≡ 40 = eqb-true (get_or ys 0 0) 40 ho in
    let hw : letter_or_digit? (get_or ys 0 0) ≡ false = ap letter_or_digit? e ∙ forty in
    let hd : eqb (get_or ys 0 0) 36 ≡ false = ap (λ (z : ℕ). eqb z 36) e in
    rw (hl, run_all letter_or_digit? (b ∷ t) ys ha hw, seam (b ∷ t) ys, hd) (rw (take-append_seam t ys, seam t ys, ho))

take_more : (t : List ℕ) (x : ℕ) (ys : List ℕ) → take (suc (length t)) (t ++ x ∷ ys) ≡ t ++ x ∷ []
take_more [] x ys = refl
take_more (y ∷ t) x ys = ap (λ (l : List ℕ). y ∷ l) (take_more t x ys)

length_more : (t : List ℕ) (x : ℕ) → length (t ++ x ∷ []) ≡ suc (length t)
length_more [] x = refl
length_more (y ∷ t) x = ap suc (length_more t x)

dollar_item : (first : Bool) (p b : ℕ) (t ys : List ℕ) → letter? b ≡ true → All letter_or_digit? (b ∷ t)
    → item_at first p ((b ∷ t ++ 36 ∷ []) ++ ys) ≡ item p (length (b ∷ t ++ 36 ∷ [])) (name_token first (b ∷ t ++ 36 ∷ []) (b ∷ t ++ 36 ∷ []))
unfolding item_at name_at
dollar_item first p b t ys hl ha =
    rw (append_assoc t (36 ∷ []) ys, hl, run_all letter_or_digit? (b ∷ t) (36 ∷ ys) ha dollar_sign, seam t (36 ∷ ys))
    (rw (take_more t 36 ys, length_more t 36))

-- ---- a name is no word

is_nowhere : (f : Found) → T (not (found? f)) → f ≡ nowhere
unfolding found?
is_nowhere (found t) n = absurd n
is_nowhere nowhere n = refl

variable_token : (first : Bool) (s n : List ℕ) → T (not (reserved? s)) → (T first → T (not (statement_word? s))) → name_token first s n ≡ variable_at first n
unfolding name_token statement_or operator_or reserved? statement_word?
variable_token true s n r w = rw (is_nowhere (find_word statements s) (w tt), is_nowhere (find_word operators s) r)
variable_token false s n r w = rw (is_nowhere (find_word operators s) r)

-- no name's class is that of REM, or opens statement position
unfoldable variable_class? : ℕ → Bool
variable_class? c = not (eqb c remark) && not (opens c)

variable_plain : (first : Bool) (n : List ℕ) → (class (variable_at first n) ≡ by_kind n (pick first first_numeric numeric_variable) (pick first first_string string_variable) (pick first first_array array))
unfolding variable_at class
variable_plain true n = refl
variable_plain false n = refl

no_blank : (b : ℕ) → letter? b ≡ true → blank? b ≡ false
unfolding letter? blank?
no_blank b h = let l : 65 ≤ b = leb→le 65 b (and_left (leb 65 b) (leb b 90) (as_T _ h)) in ne_eqb b 32 (λ e. omega arith)

-- from an item to what is read
finish : (first : Bool) (p b : ℕ) (t ys n : List ℕ) → letter? b ≡ true → item_at first p ((b ∷ t) ++ ys) ≡ item p (length (b ∷ t)) (variable_at first n) → eqb (class (variable_at first n)) remark ≡ false → opens (class (variable_at first n)) ≡ false
    → Next first p (b ∷ t) (variable_at first n) false ys
finish first p b t ys n hl hi hr ho = subst (λ (z : Bool). Next first p (b ∷ t) (variable_at first n) z ys) ho (scan_item b t ys first p (variable_at first n) (no_blank b hl) hi hr)

class_plain : (first : Bool) (n : List ℕ) → All letter_or_digit? n → class (variable_at first n) ≡ pick first first_numeric numeric_variable
class_plain first n a = variable_plain first n ∙ kind_plain n _ _ _ a

class_last : (first : Bool) (w : List ℕ) (x : ℕ) → class (variable_at first (w ++ x ∷ [])) ≡ pick (eqb x 36) (pick first first_string string_variable) (pick (eqb x 40) (pick first first_array array) (pick first first_numeric numeric_variable))
class_last first w x = variable_plain first (w ++ x ∷ []) ∙ kind_last w x _ _ _

calm : (first : Bool) (a b : ℕ) → T (variable_class? a) → T (variable_class? b) → (eqb (pick first a b) remark ≡ false) × (opens (pick first a b) ≡ false)
unfolding variable_class?
calm true a b x y = (is_false (eqb a remark) (and_left (not (eqb a remark)) _ x), is_false (opens a) (and_right (not (eqb a remark)) _ x))
calm false a b x y = (is_false (eqb b remark) (and_left (not (eqb b remark)) _ y), is_false (opens b) (and_right (not (eqb b remark)) _ y))

plain_next : (first : Bool) (n : List ℕ) → All letter_or_digit? n → letter? (get_or n 0 0) ≡ true → T (not (reserved? n)) → (T first → T (not (statement_word? n))) → (ys : List ℕ) → T (ends_name (get_or ys 0 0) && not (eqb (get_or ys 0 0) 40)) → (p : ℕ)
    → Next first p n (variable_at first n) false ys
unfolding ends_name variable_class? opens all_Bytes
plain_next first [] a l r w ys h p = absurd (no_letter_zero l)
  where
    no_letter_zero : letter? 0 ≡ true → ⊥
    no_letter_zero e = let z : ◌≡◌ {A = ℕ} 0 1 = cc in omega arith
plain_next first (b ∷ t) a l r w ys h p =
    let x : ℕ = get_or ys 0 0 in
    let e = and_left (not (letter_or_digit? x) && not (eqb x 36)) (not (eqb x 40)) h in
    let c = class_plain first (b ∷ t) a in
    let m = calm first first_numeric numeric_variable tt tt in
    finish first p b t ys (b ∷ t) l
    (plain_item first p b t ys l a (is_false (letter_or_digit? x) (and_left (not (letter_or_digit? x)) _ e)) (is_false (eqb x 36) (and_right (not (letter_or_digit? x)) _ e)) (is_false (eqb x 40) (and_right (not (letter_or_digit? x) && not (eqb x 36)) _ h))
    ∙ ap (item p (length (b ∷ t))) (variable_token first (b ∷ t) (b ∷ t) r w))
    (ap (λ (z : ℕ). eqb z remark) c ∙ m.0) (ap opens c ∙ m.1)

array_next : (first : Bool) (b : ℕ) (t : List ℕ) → All letter_or_digit? (b ∷ t) → letter? b ≡ true → T (not (reserved? (b ∷ t))) → (T first → T (not (statement_word? (b ∷ t)))) → (ys : List ℕ) → T (eqb (get_or ys 0 0) 40) → (p : ℕ)
    → Next first p (b ∷ t) (variable_at first ((b ∷ t) ++ 40 ∷ [])) false ys
unfolding variable_class? opens
array_next first b t a l r w ys h p =
    let c = class_last first (b ∷ t) 40 in
    let m = calm first first_array array tt tt in
    finish first p b t ys ((b ∷ t) ++ 40 ∷ []) l
    (array_item first p b t ys l a (is_true (eqb (get_or ys 0 0) 40) h) ∙ ap (item p (length (b ∷ t))) (variable_token first (b ∷ t) ((b ∷ t) ++ 40 ∷ []) r w))
    (ap (λ (z : ℕ). eqb z remark) c ∙ m.0) (ap opens c ∙ m.1)

dollar_next : (first : Bool) (b : ℕ) (t : List ℕ) → All letter_or_digit? (b ∷ t) → letter? b ≡ true → T (not (reserved? ((b ∷ t) ++ 36 ∷ []))) → (T first → T (not (statement_word? ((b ∷ t) ++ 36 ∷ [])))) → (ys : List ℕ) (p : ℕ)
    → Next first p ((b ∷ t) ++ 36 ∷ []) (variable_at first ((b ∷ t) ++ 36 ∷ [])) false ys
unfolding variable_class? opens
dollar_next first b t a l r w ys p =
    let c = class_last first (b ∷ t) 36 in
    let m = calm first first_string string_variable tt tt in
    finish first p b (t ++ 36 ∷ []) ys ((b ∷ t) ++ 36 ∷ []) l
    (dollar_item first p b t ys l a ∙ ap (item p (length (b ∷ t ++ 36 ∷ []))) (variable_token first ((b ∷ t) ++ 36 ∷ []) ((b ∷ t) ++ 36 ∷ []) r w))
    (ap (λ (z : ℕ). eqb z remark) c ∙ m.0) (ap opens c ∙ m.1)

-- what may come after a name, by its kind
after_plain : (first : Bool) (x : ℕ) → T (after (pick first first_numeric numeric_variable) x) → T (ends_name x && not (eqb x 40))
unfolding after among
after_plain true x t = t
after_plain false x t = t

after_array : (first : Bool) (x : ℕ) → T (after (pick first first_array array) x) → T (eqb x 40)
unfolding after among
after_array true x t = t
after_array false x t = t

letter_first : (w : List ℕ) (x : ℕ) → letter? (get_or (w ++ x ∷ []) 0 0) ≡ true → letter? x ≡ false → (b : ℕ) × ((t : List ℕ) × ((w ≡ b ∷ t) × (letter? b ≡ true)))
letter_first [] x h n = absurd (two_values (sym h ∙ n))
  where
    two_values : ◌≡◌ {A = Bool} true false → ⊥
    two_values e = let z : ◌≡◌ {A = ℕ} 0 1 = cc in omega arith
letter_first (b ∷ t) x h n = (b, (t, (refl, h)))

no_letter_sign : (letter? 36 ≡ false) × (letter? 40 ≡ false)
unfolding letter?
no_letter_sign = (refl, refl)

name_next_go : (first : Bool) (n : List ℕ) → Kind n → letter? (get_or n 0 0) ≡ true → T (not (reserved? (less_open n))) → (T first → T (not (statement_word? (less_open n)))) → (ys : List ℕ) → T (after (class (variable_at first n)) (get_or ys 0 0)) → (p : ℕ)
    → Next first p (less_open n) (variable_at first n) false ys
name_next_go first n (plain_name a) l r w ys h p =
    let o = open_plain n a in
    subst (λ (z : List ℕ). Next first p z (variable_at first n) false ys) (sym o)
    (plain_next first n a l (subst (λ (z : List ℕ). T (not (reserved? z))) o r) (λ f. subst (λ (z : List ℕ). T (not (statement_word? z))) o (w f)) ys
    (after_plain first (get_or ys 0 0) (subst (λ (z : ℕ). T (after z (get_or ys 0 0))) (class_plain first n a) h)) p)
name_next_go first n (dollar_name w a e) l r s ys h p =
    let f = letter_first w 36 (subst (λ (z : List ℕ). letter? (get_or z 0 0) ≡ true) e l) no_letter_sign.0 in
    let eq : n ≡ (f.0 ∷ f.1.0) ++ 36 ∷ [] = e ∙ ap (λ (z : List ℕ). z ++ 36 ∷ []) f.1.1.0 in
    let o : less_open n ≡ (f.0 ∷ f.1.0) ++ 36 ∷ [] = ap less_open eq ∙ open_last (f.0 ∷ f.1.0) 36 in
    subst (λ (z : List ℕ). Next first p z (variable_at first n) false ys) (sym o)
    (subst (λ (z : List ℕ). Next first p ((f.0 ∷ f.1.0) ++ 36 ∷ []) (variable_at first z) false ys) (sym eq)
    (dollar_next first f.0 f.1.0 (subst (All letter_or_digit?) f.1.1.0 a) f.1.1.1 (subst (λ (z : List ℕ). T (not (reserved? z))) o r) (λ k. subst (λ (z : List ℕ). T (not (statement_word? z))) o (s k)) ys p))
name_next_go first n (array_name w a e) l r s ys h p =
    let f = letter_first w 40 (subst (λ (z : List ℕ). letter? (get_or z 0 0) ≡ true) e l) no_letter_sign.1 in
    let eq : n ≡ (f.0 ∷ f.1.0) ++ 40 ∷ [] = e ∙ ap (λ (z : List ℕ). z ++ 40 ∷ []) f.1.1.0 in
    let o : less_open n ≡ f.0 ∷ f.1.0 = ap less_open eq ∙ open_last (f.0 ∷ f.1.0) 40 ∙ append-nil (f.0 ∷ f.1.0) in
    subst (λ (z : List ℕ). Next first p z (variable_at first n) false ys) (sym o)
    (subst (λ (z : List ℕ). Next first p (f.0 ∷ f.1.0) (variable_at first z) false ys) (sym eq)
    (array_next first f.0 f.1.0 (subst (All letter_or_digit?) f.1.1.0 a) f.1.1.1 (subst (λ (z : List ℕ). T (not (reserved? z))) o r) (λ k. subst (λ (z : List ℕ). T (not (statement_word? z))) o (s k)) ys
    (after_array first (get_or ys 0 0) (subst (λ (z : ℕ). T (after z (get_or ys 0 0))) (ap (λ (z : List ℕ). class (variable_at first z)) eq ∙ class_last first (f.0 ∷ f.1.0) 40) h)) p))

-- a name as it is listed, before what may come after it
pub name_next : (first : Bool) (n : List ℕ) → T (name? n) → T (not (reserved? (less_open n))) → (T first → T (not (statement_word? (less_open n)))) → (ys : List ℕ) → T (after (class (variable_at first n)) (get_or ys 0 0)) → (p : ℕ)
    → Next first p (less_open n) (variable_at first n) false ys
unfolding name?
name_next first n t = name_next_go first n (name_kind n (and_right (letter? (get_or n 0 0)) _ t)) (is_true (letter? (get_or n 0 0)) (and_left (letter? (get_or n 0 0)) _ t))
