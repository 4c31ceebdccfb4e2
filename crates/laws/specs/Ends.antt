-- Where a refused item ends (document 02, §8): past the item that stands at its place in the text, whatever was read before it. So code that knows a
-- refusal's place can find its end there.
use Rattle.std.specs.Prelude.{ℕ, zero, suc, pred, ◌+◌, ◌≡◌, refl, Bool, true, false, not, ◌&&◌, ◌||◌, List, [], ◌∷◌, ◌++◌, T, eqb, ltb, length, take, drop, get_or}
use Rattle.std.proofs.Common.{arith, subst, sym, ap, ◌∙◌, T_not, eqb→eq, drop-drop, eqb-true}
use Rattle.std.proofs.lemmas.Bool.{eqb-false}
use Rattle.paper.specs.Bytes.{pick, digit?, letter?, blank?, run, every}
use Rattle.paper.specs.Classes.{raw_text, remark}
use Rattle.paper.specs.Frames.{want_raw_text}
use Rattle.paper.specs.Words.{statements, operators, Found, found, nowhere, find_word}
use Rattle.paper.specs.Tokens.{Token, statement, assigned, operator, variable, constant, string, raw, out_of_range, unreadable, out_of_range?, class}
use Rattle.paper.specs.Constants.{value, constant_of, in_range, six}
use Rattle.paper.specs.Items.{Item, item, span_of, statement_or, operator_or, variable_at, name_token, name_at, sign_size, power_size, with_power, number_at, string_byte?, string_at, symbol_or, symbol_at, item_at, size_at, raw_byte?, raw_from, raw_at, opens, scan, items}
use Rattle.paper.specs.Machine as Machine'
use Rattle.paper.specs.Machine.{Act, leave, refuse, Row, Step, took, over, refused, step_act, Taken, Run, left, done, bad, and_taken, step, go_on, read}
use Rattle.paper.specs.Grammar.{Gives, itself, grammar, may_be_empty, look, look_item, if_in_range, look_in_range, start}
use Rattle.paper.specs.Open.{all_Bytes, all_Words, all_Items, all_Grammar, all_Machine}
use Rattle.laws.specs.Tests.{or_else}
use Rattle.laws.specs.RowTests.{at_rows}

-- ---- one item

-- raw text
unfoldable raw? : Token → Bool
raw? (statement t) = false
raw? (assigned n) = false
raw? (operator t) = false
raw? (variable n) = false
raw? (constant b) = false
raw? (string b) = false
raw? (raw b) = true
raw? out_of_range = false
raw? unreadable = false

-- an item at place p that is no raw text, of the same length as another
abbrev Alike : ℕ → Item → Item → Type 0
Alike p x y = (x.place ≡ p) × (x.size ≡ y.size) × (raw? x.token ≡ false)

pick_alike : (p : ℕ) (b : Bool) (x y x' y' : Item) → Alike p x x' → Alike p y y' → Alike p (pick b x y) (pick b x' y')
pick_alike p true x y x' y' h k = h
pick_alike p false x y x' y' h k = k

item_alike : (p q n : ℕ) (t u : Token) → raw? t ≡ false → Alike p (item p n t) (item q n u)
unfolding item
item_alike p q n t u h = (refl, refl, h)

operator_plain : (f : Found) (first : Bool) (n : List ℕ) → raw? (operator_or f (variable_at first n)) ≡ false
unfolding operator_or variable_at raw?
operator_plain (found t) first n = refl
operator_plain nowhere true n = refl
operator_plain nowhere false n = refl

statement_plain : (f : Found) (t : Token) → raw? t ≡ false → raw? (statement_or f t) ≡ false
unfolding statement_or raw?
statement_plain (found k) t h = refl
statement_plain nowhere t h = h

name_plain : (first : Bool) (s n : List ℕ) → raw? (name_token first s n) ≡ false
unfolding name_token
name_plain true s n = statement_plain (find_word statements s) _ (operator_plain (find_word operators s) true n)
name_plain false s n = operator_plain (find_word operators s) false n

constant_plain : (v u d : ℕ) → raw? (constant_of v u d) ≡ false
unfolding constant_of raw?
constant_plain v u d = go (in_range v u d)
  where
    go : (b : Bool) → raw? (pick b (constant (six v u d)) out_of_range) ≡ false
    go true = refl
    go false = refl

power_alike : (p q : ℕ) (s : List ℕ) (n v f : ℕ) → Alike p (with_power p s n v f) (with_power q s n v f)
unfolding with_power
power_alike p q s n v f =
    let t : List ℕ = drop (suc n) s in
    let g : ℕ = sign_size (get_or t 0 0) in
    let e : List ℕ = drop g t in
    let k : ℕ = power_size e in
    let x : ℕ = value 0 (take k e) in
    let m : ℕ = suc n + g + k in
    pick_alike p (eqb (get_or s n 0) 69 && ltb 0 k) _ _ _ _
    (pick_alike p (eqb (get_or t 0 0) 45) _ _ _ _ (item_alike p q m (constant_of v 0 (f + x)) (constant_of v 0 (f + x)) (constant_plain v 0 (f + x))) (item_alike p q m (constant_of v x f) (constant_of v x f) (constant_plain v x f)))
    (item_alike p q n (constant_of v 0 f) (constant_of v 0 f) (constant_plain v 0 f))

string_alike : (p q : ℕ) (s : List ℕ) → Alike p (string_at p s) (string_at q s)
unfolding string_at raw?
string_alike p q s = let t : List ℕ = drop 1 s in let n : ℕ = run string_byte? t in item_alike p q _ _ _ (go (eqb (get_or t n 0) 0x9b) (take n t))
  where
    go : (marked : Bool) (text : List ℕ) → raw? (pick marked unreadable (string text)) ≡ false
    go true text = refl
    go false text = refl

found_alike : (p q n : ℕ) (f : Found) (x y : Item) → Alike p x y → Alike p (symbol_or p n f x) (symbol_or q n f y)
unfolding symbol_or raw?
found_alike p q n (found t) x y h = item_alike p q n (operator t) (operator t) refl
found_alike p q n nowhere x y h = h

symbol_alike : (p q b c : ℕ) → Alike p (symbol_at p b c) (symbol_at q b c)
unfolding symbol_at raw?
symbol_alike p q b c = found_alike p q 2 (find_word operators (b ∷ c ∷ [])) _ _ (found_alike p q 1 (find_word operators (b ∷ [])) _ _ (item_alike p q 1 unreadable unreadable refl))

-- `?` is one byte in statement position and elsewhere
print_sign : (q c : ℕ) → (symbol_at q 63 c).size ≡ 1
unfolding all_Bytes all_Words all_Items
print_sign q c = refl

last_alike : (first : Bool) (p q b c : ℕ) (d : Bool) → eqb b 63 ≡ d → Alike p (pick (d && first) (item p 1 (statement 0x28)) (symbol_at p b c)) (pick (d && false) (item q 1 (statement 0x28)) (symbol_at q b c))
unfolding item raw?
last_alike true p q b c true e = (refl, sym (ap (λ (z : ℕ). (symbol_at q z c).size) (eqb-true b 63 e) ∙ print_sign q c), refl)
last_alike false p q b c true e = symbol_alike p q b c
last_alike first p q b c false e = symbol_alike p q b c

-- neither its place nor statement position changes an item's length
scanned_alike : (first : Bool) (p b : ℕ) (s : List ℕ) → Alike p (item_at first p (b ∷ s)) (item_at false 0 (b ∷ s))
unfolding item_at name_at number_at
scanned_alike first p b s =
    let c : ℕ = get_or s 0 0 in
    let t : List ℕ = b ∷ s in
    let a : ℕ = run digit? t in
    let u : List ℕ = drop (suc a) t in
    let d : ℕ = run digit? u in
    let v : ℕ = value 0 (take a t ++ take d u) in
    let w : ℕ = value 0 (take a t) in
    pick_alike p (letter? b) _ _ _ _ (item_alike p 0 _ _ _ (name_plain first _ _))
    (pick_alike p (digit? b || (eqb b 46 && digit? c)) _ _ _ _ (pick_alike p (eqb (get_or t a 0) 46) _ _ _ _ (power_alike p 0 t (suc a + d) v d) (power_alike p 0 t a w 0))
    (pick_alike p (eqb b 34) _ _ _ _ (string_alike p 0 t) (last_alike first p 0 b c (eqb b 63) refl)))

-- ---- a byte that starts no item

-- an item that fits nowhere has one byte
abbrev Single : Item → Type 0
Single x = x.token ≡ unreadable → x.size ≡ 1

pick_single : (b : Bool) (x y : Item) → Single x → Single y → Single (pick b x y)
pick_single true x y h k = h
pick_single false x y h k = k

reserved_fits : (f : Found) (n : List ℕ) → operator_or f (variable_at false n) ≡ unreadable → ⊥
unfolding operator_or variable_at
reserved_fits (found t) n e = let z : ◌≡◌ {A = ℕ} 0 1 = cc in omega arith
reserved_fits nowhere n e = let z : ◌≡◌ {A = ℕ} 0 1 = cc in omega arith

name_single : (p : ℕ) (s : List ℕ) → Single (name_at false p s)
unfolding name_at name_token item
name_single p s e = absurd (reserved_fits (find_word operators _) _ e)

constant_fits : (v u d : ℕ) → constant_of v u d ≡ unreadable → ⊥
unfolding constant_of
constant_fits v u d = go (in_range v u d)
  where
    go : (b : Bool) → pick b (constant (six v u d)) out_of_range ≡ unreadable → ⊥
    go true e = let z : ◌≡◌ {A = ℕ} 0 1 = cc in omega arith
    go false e = let z : ◌≡◌ {A = ℕ} 0 1 = cc in omega arith

power_single : (p : ℕ) (s : List ℕ) (n v f : ℕ) → Single (with_power p s n v f)
unfolding with_power item
power_single p s n v f =
    let t : List ℕ = drop (suc n) s in
    let k : ℕ = power_size (drop (sign_size (get_or t 0 0)) t) in
    pick_single (eqb (get_or s n 0) 69 && ltb 0 k) _ _ (pick_single (eqb (get_or t 0 0) 45) _ _ (λ e. absurd (constant_fits v 0 _ e)) (λ e. absurd (constant_fits v _ f e))) (λ e. absurd (constant_fits v 0 f e))

found_single : (p n : ℕ) (f : Found) (x : Item) → Single x → Single (symbol_or p n f x)
unfolding symbol_or item
found_single p n (found t) x h e = let z : ◌≡◌ {A = ℕ} 0 1 = cc in absurd (omega arith)
found_single p n nowhere x h e = h e

symbol_single : (p b c : ℕ) → Single (symbol_at p b c)
unfolding symbol_at item
symbol_single p b c = found_single p 2 (find_word operators (b ∷ c ∷ [])) _ (found_single p 1 (find_word operators (b ∷ [])) _ (λ e. refl))

last_single : (p b c : ℕ) (d : Bool) → Single (pick (d && false) (item p 1 (statement 0x28)) (symbol_at p b c))
last_single p b c true = symbol_single p b c
last_single p b c false = symbol_single p b c

-- a byte that starts no item has one, unless it is a quote
pub unfit_size : (b : ℕ) (s : List ℕ) → (item_at false 0 (b ∷ s)).token ≡ unreadable → (b ≡ 34 → ⊥) → size_at (b ∷ s) ≡ 1
unfolding size_at item_at number_at
unfit_size b s h q =
    let c : ℕ = get_or s 0 0 in
    let t : List ℕ = b ∷ s in
    let a : ℕ = run digit? t in
    let u : List ℕ = drop (suc a) t in
    let d : ℕ = run digit? u in
    pick_single (letter? b) (name_at false 0 t) _ (name_single 0 t)
    (pick_single (digit? b || (eqb b 46 && digit? c)) (number_at 0 t) _ (pick_single (eqb (get_or t a 0) 46) _ _ (power_single 0 t (suc a + d) _ d) (power_single 0 t a _ 0)) (go (eqb b 34) refl))
    h
  where
    go : (x : Bool) → eqb b 34 ≡ x → Single (pick x (string_at 0 (b ∷ s)) (pick (eqb b 63 && false) (item 0 1 (statement 0x28)) (symbol_at 0 b (get_or s 0 0))))
    go true e = absurd (q (eqb-true b 34 e))
    go false e = last_single 0 b (get_or s 0 0) (eqb b 63)

-- ---- the items of a text

-- an item of the text s, which begins at place p, is as long as the item that stands at its place
pub record Ends (p : ℕ) (s : List ℕ) (i : Item) : Type 0 where
  pub on : ℕ
  pub stands : i.place ≡ p + on
  pub long : i.size ≡ size_at (drop on s)

-- all items end so but raw text, which stands only after REM and DATA; b says that one of these is the item before the first
abbrev AllEnd : Bool → ℕ → List ℕ → List Item → Type 0
AllEnd b p s [] = Unit {0}
AllEnd b p s (i ∷ is) = ((raw? i.token ≡ true → T b) × (raw? i.token ≡ false → Ends p s i)) × AllEnd (eqb (class i.token) remark) p s is

pick_end : (b : Bool) (p : ℕ) (s : List ℕ) (c : Bool) (x y : List Item) → AllEnd b p s x → AllEnd b p s y → AllEnd b p s (pick c x y)
pick_end b p s true x y h k = h
pick_end b p s false x y h k = k

-- the items of what is left of a text after m bytes
moved_on : (b : Bool) (m p : ℕ) (s : List ℕ) (is : List Item) → AllEnd b (p + m) (drop m s) is → AllEnd b p s is
moved_on b m p s [] a = tt
moved_on b m p s (i ∷ is) a = ((a.0.0, (λ r. go (a.0.1 r))), moved_on (eqb (class i.token) remark) m p s is a.1)
  where
    go : Ends (p + m) (drop m s) i → Ends p s i
    go h = record { on = m + h.on; stands = h.stands ∙ omega arith; long = h.long ∙ ap size_at (drop-drop h.on m s) }

one_on : (b : Bool) (p c : ℕ) (s : List ℕ) (is : List Item) → AllEnd b (suc p) s is → AllEnd b p (c ∷ s) is
one_on b p c s is a = moved_on b 1 p (c ∷ s) is (subst (λ (z : ℕ). AllEnd b z s is) (omega arith) a)

-- raw text stops at a 9B
run_stops : (s : List ℕ) → (run raw_byte? s ≡ length s → ⊥) → (r : List ℕ) × (drop (run raw_byte? s) s ≡ 0x9b ∷ r)
unfolding run raw_byte?
run_stops [] n = absurd (n refl)
run_stops (x ∷ s) n = go (eqb x 0x9b) refl (run_stops s) n
  where
    go : (b : Bool) → eqb x 0x9b ≡ b → ((run raw_byte? s ≡ length s → ⊥) → (r : List ℕ) × (drop (run raw_byte? s) s ≡ 0x9b ∷ r))
        → (pick (not b) (suc (run raw_byte? s)) 0 ≡ suc (length s) → ⊥) → (r : List ℕ) × (drop (pick (not b) (suc (run raw_byte? s)) 0) (x ∷ s) ≡ 0x9b ∷ r)
    go true e ih n = (s, ap (λ (z : ℕ). z ∷ s) (eqb-true x 0x9b e))
    go false e ih n = ih (λ h. n (ap suc h))

-- a 9B has one byte
pub mark_size : (r : List ℕ) → size_at (0x9b ∷ r) ≡ 1
unfolding size_at all_Bytes all_Words all_Items
mark_size r = refl

-- the end of a text has none
pub end_size : size_at [] ≡ 0
unfolding size_at
end_size = refl

drop_all : (s : List ℕ) → drop (length s) s ≡ []
drop_all [] = refl
drop_all (x ∷ s) = drop_all s

raw_end : (p : ℕ) (s : List ℕ) → AllEnd true p s (raw_from p s)
unfolding raw_from item raw?
raw_end p s = (((λ h. tt), (λ h. let z : ◌≡◌ {A = ℕ} 0 1 = cc in absurd (omega arith))), go (eqb (run raw_byte? s) (length s)) refl)
  where
    go : (b : Bool) → eqb (run raw_byte? s) (length s) ≡ b
        → AllEnd (eqb (class (raw (take (run raw_byte? s) s))) remark) p s (pick b (item (p + run raw_byte? s) 0 (operator 0x9b) ∷ []) (item (p + run raw_byte? s) 1 unreadable ∷ []))
    go true e = (((λ h. let z : ◌≡◌ {A = ℕ} 0 1 = cc in absurd (omega arith)), (λ h. record { on = run raw_byte? s; stands = refl; long = sym (ap size_at (ap (λ (z : ℕ). drop z s) (eqb-true (run raw_byte? s) (length s) e) ∙ drop_all s) ∙ end_size) })), tt)
    go false e =
        let r = run_stops s (eqb-false (run raw_byte? s) (length s) e) in
        (((λ h. let z : ◌≡◌ {A = ℕ} 0 1 = cc in absurd (omega arith)), (λ h. record { on = run raw_byte? s; stands = refl; long = sym (ap size_at r.1 ∙ mark_size r.0) })), tt)

raw_at_end : (p : ℕ) (s : List ℕ) → AllEnd true p s (raw_at p s)
unfolding raw_at
raw_at_end p s = go (blank? (get_or s 0 0))
  where
    go : (b : Bool) → AllEnd true p s (pick b (raw_from (suc p) (drop 1 s)) (raw_from p s))
    go true = moved_on true 1 p s (raw_from (suc p) (drop 1 s)) (subst (λ (z : ℕ). AllEnd true z (drop 1 s) (raw_from (suc p) (drop 1 s))) (omega arith) (raw_end (suc p) (drop 1 s)))
    go false = raw_end p s

plain_not : (t : Token) → raw? t ≡ false → raw? t ≡ true → ⊥
plain_not t h k = let e : false ≡ true = sym h ∙ k in let z : ◌≡◌ {A = ℕ} 0 1 = cc in omega arith

-- all items that the scanner gives
scan_end : (s : List ℕ) (n : ℕ) (first : Bool) (p : ℕ) → AllEnd false p s (scan n first p s)
unfolding scan item raw? size_at
scan_end [] n first p = (((λ h. let z : ◌≡◌ {A = ℕ} 0 1 = cc in absurd (omega arith)), (λ h. record { on = 0; stands = omega arith; long = refl })), tt)
scan_end (b ∷ s) (suc n) first p = one_on false p b s (scan n first (suc p) s) (scan_end s n first (suc p))
scan_end (b ∷ s) zero first p =
    let i : Item = item_at first p (b ∷ s) in
    let c : ℕ = class i.token in
    let t : List ℕ = drop i.size (b ∷ s) in
    let more : List Item = scan (pred i.size) (opens c) (suc p) s in
    let like = scanned_alike first p b s in
    pick_end false p (b ∷ s) (blank? b) (scan zero first (suc p) s) (i ∷ pick (eqb c remark) (raw_at (p + i.size) t) more)
    (one_on false p b s (scan zero first (suc p) s) (scan_end s zero first (suc p)))
    (((λ h. absurd (plain_not i.token like.2 h)), (λ h. record { on = 0; stands = like.0 ∙ omega arith; long = like.1 })), go (eqb c remark) (raw_at (p + i.size) t) more (moved_on true i.size p (b ∷ s) (raw_at (p + i.size) t) (raw_at_end (p + i.size) t)) (one_on false p b s more (scan_end s (pred i.size) (opens c) (suc p))))
  where
    go : (x : Bool) (text more : List Item) → AllEnd true p (b ∷ s) text → AllEnd false p (b ∷ s) more → AllEnd x p (b ∷ s) (pick x text more)
    go true text more h k = h
    go false text more h k = k

-- ---- after REM and DATA the grammar wants raw text, and takes it

unfoldable wants_raw? : List ℕ → Bool
wants_raw? [] = false
wants_raw? (f ∷ fs) = eqb f want_raw_text

unfoldable row_wants : Row Gives → Bool
row_wants r = not (eqb r.class remark) || wants_raw? r.wants

rows_want : T (every row_wants grammar)
unfolding row_wants wants_raw? all_Bytes all_Grammar all_Machine
rows_want = tt

abbrev ActWants : ℕ → ℕ → Act Gives → Type 0
ActWants f c (Machine'.take e p) = T (eqb c remark) → T (wants_raw? p)
ActWants f c leave = Unit {0}
ActWants f c (refuse k) = Unit {0}

row_does : (r : Row Gives) → T (row_wants r) → ActWants r.frame r.class (Machine'.take r.gives r.wants)
unfolding row_wants
row_does r t h = or_else (not (eqb r.class remark)) (wants_raw? r.wants) t (λ n. absurd (T_not (eqb r.class remark) n h)) (λ w. w)

look_wants : (f c : ℕ) → ActWants f c (look f c)
unfolding look
look_wants f c = at_rows ActWants row_wants may_be_empty row_does (λ f c h. tt) (λ f c. tt) grammar f c rows_want

range_wants : (b : Bool) (f c : ℕ) (a : Act Gives) → ActWants f c a → ActWants f c (if_in_range b a)
unfolding if_in_range
range_wants true f c a h = h
range_wants false f c (Machine'.take e p) h = tt
range_wants false f c leave h = tt
range_wants false f c (refuse k) h = tt

abbrev StepWants : ℕ → Step Gives → Type 0
StepWants c (took e z) = T (eqb c remark) → T (wants_raw? z)
StepWants c over = Unit {0}
StepWants c (refused k) = Unit {0}

wants_more : (p fs : List ℕ) → T (wants_raw? p) → T (wants_raw? (p ++ fs))
unfolding wants_raw?
wants_more [] fs t = absurd t
wants_more (f ∷ p) fs t = t

act_wants : (f c : ℕ) (fs : List ℕ) (a : Act Gives) (r : Step Gives) → ActWants f c a → StepWants c r → StepWants c (step_act a fs r)
unfolding step_act
act_wants f c fs (Machine'.take e p) r k o = λ h. wants_more p fs (k h)
act_wants f c fs leave r k o = o
act_wants f c fs (refuse n) r k o = tt

step_wants : (s : List ℕ) (i : Item) → StepWants (class i.token) (step look_in_range s i)
unfolding step look_in_range look_item
step_wants [] i = tt
step_wants (f ∷ fs) i =
    let c : ℕ = class i.token in
    act_wants f c fs (look_in_range f i) (step look_in_range fs i) (range_wants (not (out_of_range? i.token)) f c (look f c) (look_wants f c)) (step_wants fs i)

raw_row : look want_raw_text raw_text ≡ Machine'.take itself []
unfolding all_Bytes all_Grammar all_Machine
raw_row = refl

-- what raw text is to the grammar
raw_kind : (t : Token) → raw? t ≡ true → (class t ≡ raw_text) × (out_of_range? t ≡ false)
unfolding raw? class out_of_range?
raw_kind (statement k) h = let z : ◌≡◌ {A = ℕ} 0 1 = cc in absurd (omega arith)
raw_kind (assigned n) h = let z : ◌≡◌ {A = ℕ} 0 1 = cc in absurd (omega arith)
raw_kind (operator k) h = let z : ◌≡◌ {A = ℕ} 0 1 = cc in absurd (omega arith)
raw_kind (variable n) h = let z : ◌≡◌ {A = ℕ} 0 1 = cc in absurd (omega arith)
raw_kind (constant b) h = let z : ◌≡◌ {A = ℕ} 0 1 = cc in absurd (omega arith)
raw_kind (string b) h = let z : ◌≡◌ {A = ℕ} 0 1 = cc in absurd (omega arith)
raw_kind (raw b) h = (refl, refl)
raw_kind out_of_range h = let z : ◌≡◌ {A = ℕ} 0 1 = cc in absurd (omega arith)
raw_kind unreadable h = let z : ◌≡◌ {A = ℕ} 0 1 = cc in absurd (omega arith)

-- a stack that wants raw text takes it
takes_raw : (s : List ℕ) (i : Item) → T (wants_raw? s) → raw? i.token ≡ true → (z : List ℕ) × (step look_in_range s i ≡ took itself z)
unfolding wants_raw? look_in_range look_item if_in_range step step_act
takes_raw [] i w h = absurd w
takes_raw (f ∷ fs) i w h =
    let e : f ≡ want_raw_text = eqb→eq f want_raw_text w in
    let k = raw_kind i.token h in
    (fs, rw (k.1, e, k.0, raw_row))

-- ---- a refused item

-- the item that a run refuses ends so
abbrev RefusedEnds : ℕ → List ℕ → Run Gives Item → Type 0
RefusedEnds p s (left ts fs) = Unit {0}
RefusedEnds p s (done ts is) = Unit {0}
RefusedEnds p s (bad k ts []) = Unit {0}
RefusedEnds p s (bad k ts (i ∷ is)) = Ends p s i

more_ends : (p : ℕ) (s : List ℕ) (t : Taken Gives Item) (r : Run Gives Item) → RefusedEnds p s r → RefusedEnds p s (and_taken t r)
unfolding and_taken
more_ends p s t (left ts fs) n = tt
more_ends p s t (done ts is) n = tt
more_ends p s t (bad k ts []) n = tt
more_ends p s t (bad k ts (i ∷ is)) n = n

apart : (k : ℕ) (z : List ℕ) → refused k ≡ took itself z → ⊥
apart k z e = let w : ◌≡◌ {A = ℕ} 0 1 = cc in omega arith

-- raw text is never refused
never_raw : (fs : List ℕ) (i : Item) (k : ℕ) (b : Bool) → raw? i.token ≡ b → (b ≡ true → T (wants_raw? fs)) → step look_in_range fs i ≡ refused k → b ≡ false
never_raw fs i k true e w h = let t = takes_raw fs i (w refl) e in absurd (apart k t.0 (sym h ∙ t.1))
never_raw fs i k false e w h = refl

run_ends : (p : ℕ) (s : List ℕ) (is : List Item) (b : Bool) (fs : List ℕ) → AllEnd b p s is → (T b → T (wants_raw? fs)) → RefusedEnds p s (read look_in_range fs is)
unfolding read go_on
run_ends p s [] b fs a w = tt
run_ends p s (i ∷ is) b fs a w = go (step look_in_range fs i) refl (step_wants fs i) (λ z k. run_ends p s is (eqb (class i.token) remark) z a.1 k)
  where
    go : (x : Step Gives) → step look_in_range fs i ≡ x → StepWants (class i.token) x → ((z : List ℕ) → (T (eqb (class i.token) remark) → T (wants_raw? z)) → RefusedEnds p s (read look_in_range z is))
        → RefusedEnds p s (go_on look_in_range x i is (λ z. read look_in_range z is))
    go (took e z) h k ih = more_ends p s _ (read look_in_range z is) (ih z k)
    go over h k ih = tt
    go (refused m) h k ih = a.0.1 (never_raw fs i m (raw? i.token) refl (λ t. w (a.0.0 t)) h)

-- an item of the text s, which begins at place p, that is refused
pub refused_ends : (p : ℕ) (s : List ℕ) (k : ℕ) (ts : List (Taken Gives Item)) (i : Item) (rest : List Item) → read look_in_range start (items p s) ≡ bad k ts (i ∷ rest) → Ends p s i
unfolding items
refused_ends p s k ts i rest e = subst (RefusedEnds p s) e (run_ends p s (scan 0 true p s) false start (scan_end s 0 true p) (λ t. absurd t))

-- so in a whole text, of which this stands from place p on
pub end_in : (text : List ℕ) (p : ℕ) (s : List ℕ) (i : Item) → drop p text ≡ s → Ends p s i → (span_of i).end ≡ i.place + size_at (drop i.place text)
end_in text p s i d h = ap (λ (n : ℕ). i.place + n) (h.long ∙ ap size_at (ap (drop h.on) (sym d) ∙ drop-drop h.on p text ∙ ap (λ (n : ℕ). drop n text) (sym h.stands)))
