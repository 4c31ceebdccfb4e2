-- What it is for a word or symbol of the tables, as it is listed, to be read as itself; and what `<` and `>` need for it.
use Rattle.std.specs.Prelude.{ℕ, suc, pred, ◌+◌, ◌≡◌, refl, Bool, true, false, not, ◌&&◌, List, [], ◌∷◌, ◌++◌, T, eqb, length, get_or}
use Rattle.std.proofs.Common.{add-zero, arith, subst, sym, ap, ◌∙◌, eqb→eq, eqb-true, ne_eqb}
use Rattle.std.proofs.lemmas.Bool.{eqb-false}
use Rattle.paper.specs.Bytes.{pick, digit?, letter?, letter_or_digit?, blank?, among}
use Rattle.paper.specs.Classes.{unfit, number, numeric_variable, array, first_numeric, first_array, comparison, remark, string_function, function_of_string, function_of_number}
use Rattle.paper.specs.Words.{Word, word, word_of, operators, find_word, found, nowhere}
use Rattle.paper.specs.Tokens.{Token, statement, operator, class, operator_class}
use Rattle.paper.specs.Items.{Item, item, item_at, opens, scan, raw_from, symbol_at, symbol_or}
use Rattle.paper.specs.Listing.{operator_text, token_text}
use Rattle.paper.specs.Open.{all_Bytes, all_Words, all_Tokens, all_Items}
use Rattle.laws.specs.Tests.{and_left, and_right, is_false}
use Rattle.grounds.specs.ConstantText.{ends_number}

infixr 60 ◌▸◌
-- the tokens of items
unfoldable pub read_tokens : List Item → List Token
read_tokens [] = []
read_tokens (i ∷ is) = i.token ∷ read_tokens is

-- a byte that ends a name
unfoldable pub ends_name : ℕ → Bool
ends_name x = not (letter_or_digit? x) && not (eqb x 36)

-- what byte may come after an item of class c, so that it is read as it stands (0: no byte)
unfoldable pub after : ℕ → ℕ → Bool
after c x =
    pick (eqb c number) (ends_number x)
    (pick (among c (numeric_variable ∷ first_numeric ∷ [])) (ends_name x && not (eqb x 40))
    (pick (among c (array ∷ first_array ∷ function_of_string ∷ function_of_number ∷ string_function ∷ [])) (eqb x 40)
    (pick (eqb c comparison) (not (eqb x 61) && not (eqb x 62)) true)))

-- a text is read as the token t, and then what follows, in statement position or not
pub record Next (first : Bool) (p : ℕ) (text : List ℕ) (t : Token) (position : Bool) (ys : List ℕ) : Type 0 where
  pub at : ℕ
  pub is : read_tokens (scan 0 first p (text ++ ys)) ≡ t ∷ read_tokens (scan 0 position at ys)

-- over the bytes of an item
scan_skip : (xs ys : List ℕ) (first : Bool) (p : ℕ) → scan (length xs) first p (xs ++ ys) ≡ scan 0 first (p + length xs) ys
unfolding scan
scan_skip [] ys first p = rw add-zero
scan_skip (x ∷ xs) ys first p = scan_skip xs ys first (suc p) ∙ ap (λ (q : ℕ). scan 0 first q ys) (omega arith)

-- an item at the front, and then the rest
scan_first : (b : ℕ) (t ys : List ℕ) (first : Bool) (p : ℕ) (i : Item) → blank? b ≡ false → item_at first p (b ∷ t ++ ys) ≡ i → i.size ≡ length (b ∷ t) → eqb (class i.token) remark ≡ false
    → scan 0 first p ((b ∷ t) ++ ys) ≡ i ∷ scan 0 (opens (class i.token)) (p + i.size) ys
unfolding scan
scan_first b t ys first p i hb hi hl hr =
    rw (hb, hi, hr)
    (ap (λ (l : List Item). i ∷ l)
    (ap (λ (n : ℕ). scan (pred n) (opens (class i.token)) (suc p) (t ++ ys)) hl ∙ scan_skip t ys (opens (class i.token)) (suc p)
    ∙ ap (λ (q : ℕ). scan 0 (opens (class i.token)) q ys) (omega arith)))

-- the same of an item that is read whole
pub scan_item : (b : ℕ) (t ys : List ℕ) (first : Bool) (p : ℕ) (k : Token) → blank? b ≡ false → item_at first p (b ∷ t ++ ys) ≡ item p (length (b ∷ t)) k → eqb (class k) remark ≡ false
    → Next first p (b ∷ t) k (opens (class k)) ys
unfolding item read_tokens
scan_item b t ys first p k hb hi hr = record { at = p + length (b ∷ t); is = ap read_tokens (scan_first b t ys first p (item p (length (b ∷ t)) k) hb hi refl hr) }

-- ---- the tables

-- something holds at each word of a table
pub data Each (P : Word → Type 0) : List Word → Type 0 where
  no_more : Each P []
  ◌▸◌ : {w : Word} {ws : List Word} → P w → Each P ws → Each P (w ∷ ws)

each_go : (P : Word → Type 0) (w : Word) (ws : List Word) (t : ℕ) (b : Bool) → eqb w.token t ≡ b → P w
    → (T (not (eqb (word_of ws t).class unfit)) → P (word_of ws t) × ((word_of ws t).token ≡ t))
    → T (not (eqb (pick b w (word_of ws t)).class unfit)) → P (pick b w (word_of ws t)) × ((pick b w (word_of ws t)).token ≡ t)
each_go P w ws t true h e ih n = (e, eqb-true w.token t h)
each_go P w ws t false h e ih n = ih n

-- then it holds at the word of a token, if that is there
pub at_each : (P : Word → Type 0) (ws : List Word) (t : ℕ) → Each P ws → T (not (eqb (word_of ws t).class unfit)) → P (word_of ws t) × ((word_of ws t).token ≡ t)
unfolding word_of word
at_each P ws t no_more n = absurd n
at_each P ws t (◌▸◌ {w} {ws = rest} e es) n = each_go P w rest t (eqb w.token t) refl e (λ m. at_each P rest t es m) n

-- an operator or function, with what may come after it, is read as itself
unfoldable pub OperatorReads : Word → Type 0
OperatorReads w = T (not (eqb w.class unfit)) → (ys : List ℕ) → T (after w.class (get_or ys 0 0)) → (p : ℕ) → Next false p (operator_text w.token) (operator w.token) (opens w.class) ys

-- a function's name stands before `(`
pub opened : (p : ℕ) (text : List ℕ) (t : Token) (position : Bool) (ys : List ℕ) → T (eqb (get_or ys 0 0) 40) → ((s : List ℕ) → Next false p text t position (40 ∷ s)) → Next false p text t position ys
opened p text t position [] a f = absurd a
opened p text t position (x ∷ s) a f = subst (λ (z : ℕ). Next false p text t position (z ∷ s)) (sym (eqb→eq x 40 a)) (f s)

not_byte : (x b : ℕ) → T (not (eqb x b)) → eqb b x ≡ false
not_byte x b t = ne_eqb b x (λ e. eqb-false x b (is_false (eqb x b) t) (sym e))

empty_less : (p : ℕ) → Next false p (60 ∷ []) (operator 0x20) false []
unfolding all_Bytes all_Words all_Tokens all_Items read_tokens
empty_less p = record { at = suc p; is = refl }

empty_greater : (p : ℕ) → Next false p (62 ∷ []) (operator 0x21) false []
unfolding all_Bytes all_Words all_Tokens all_Items read_tokens
empty_greater p = record { at = suc p; is = refl }

less_one : find_word operators (60 ∷ []) ≡ found 0x20
unfolding all_Bytes all_Words
less_one = refl

greater_one : find_word operators (62 ∷ []) ≡ found 0x21
unfolding all_Bytes all_Words
greater_one = refl

less_alone : (x : ℕ) → eqb 61 x ≡ false → eqb 62 x ≡ false → find_word operators (60 ∷ x ∷ []) ≡ nowhere
unfolding all_Bytes all_Words
less_alone x e g = rw (e, g)

greater_alone : (x : ℕ) → eqb 61 x ≡ false → find_word operators (62 ∷ x ∷ []) ≡ nowhere
unfolding all_Bytes all_Words
greater_alone x e = rw (e)

less_item : (x : ℕ) (ys : List ℕ) (p : ℕ) → find_word operators (60 ∷ x ∷ []) ≡ nowhere → item_at false p (60 ∷ x ∷ ys) ≡ item p 1 (operator 0x20)
unfolding item_at symbol_at symbol_or letter? digit?
less_item x ys p h = rw (h, less_one)

greater_item : (x : ℕ) (ys : List ℕ) (p : ℕ) → find_word operators (62 ∷ x ∷ []) ≡ nowhere → item_at false p (62 ∷ x ∷ ys) ≡ item p 1 (operator 0x21)
unfolding item_at symbol_at symbol_or letter? digit?
greater_item x ys p h = rw (h, greater_one)

-- `<` and `>` are read alone where no other symbol follows
pub less_reads : (ys : List ℕ) → T (after comparison (get_or ys 0 0)) → (p : ℕ) → Next false p (60 ∷ []) (operator 0x20) false ys
unfolding after among blank? opens class operator_class all_Bytes all_Words
less_reads [] a p = empty_less p
less_reads (x ∷ ys) a p =
    let e : eqb 61 x ≡ false = not_byte x 61 (and_left (not (eqb x 61)) (not (eqb x 62)) a) in
    let g : eqb 62 x ≡ false = not_byte x 62 (and_right (not (eqb x 61)) (not (eqb x 62)) a) in
    scan_item 60 [] (x ∷ ys) false p (operator 0x20) refl (less_item x ys p (less_alone x e g)) refl

-- and `>`
pub greater_reads : (ys : List ℕ) → T (after comparison (get_or ys 0 0)) → (p : ℕ) → Next false p (62 ∷ []) (operator 0x21) false ys
unfolding after among blank? opens class operator_class all_Bytes all_Words
greater_reads [] a p = empty_greater p
greater_reads (x ∷ ys) a p =
    let e : eqb 61 x ≡ false = not_byte x 61 (and_left (not (eqb x 61)) (not (eqb x 62)) a) in
    scan_item 62 [] (x ∷ ys) false p (operator 0x21) refl (greater_item x ys p (greater_alone x e)) refl

-- statement words, with the blank after them; after REM and DATA comes raw text
unfoldable pub after_statement : Bool → ℕ → List ℕ → List Item
after_statement true p ys = raw_from p ys
after_statement false p ys = scan 0 false p ys

-- a statement word's text is read as that statement, and then what follows
pub record StatementNext (p k : ℕ) (raw? : Bool) (ys : List ℕ) : Type 0 where
  pub at : ℕ
  pub is : read_tokens (scan 0 true p (token_text (statement k) ++ ys)) ≡ statement k ∷ read_tokens (after_statement raw? at ys)

-- a statement word is read as itself
unfoldable pub StatementReads : Word → Type 0
StatementReads w = T (not (eqb w.class unfit)) → (ys : List ℕ) (p : ℕ) → StatementNext p w.token (eqb w.class remark) ys
