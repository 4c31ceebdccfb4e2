-- Names and their numbers, names as bytes and bytes as names, names added in order.
use Rattle.std.specs.Prelude.{ℕ, zero, suc, ◌+◌, ◌-◌, ◌≤◌, ◌<◌, ◌≡◌, refl, Bool, true, false, not, ◌&&◌, ◌||◌, List, [], ◌∷◌, ◌++◌, eqb, leb, ltb, length, take, drop, get_or}
use Rattle.std.proofs.Common.{arith, subst, sym, ap, ◌∙◌, append_assoc, append-nil, length-append, take-append-drop, ltb-true, ltb-false, lt-ltb, le-ltb, leb-true, le-leb, eqb-true, eq-eqb}
use Rattle.std.proofs.Math.Seq.{drop-append_seam}
use Rattle.std.proofs.lemmas.Bool.{lt-leb}
use Rattle.paper.specs.Bytes.{pick, digit?, letter?, letter_or_digit?, run, same, every}
use Rattle.paper.specs.Words.{reserved?}
use Rattle.paper.specs.Names.{in_front, names_in, marked, name_bytes, name_end?, name?, less_open, number_of, known?, all_different, most_names, sound_names, sound_table, add_name, add_names}
use Rattle.paper.specs.Tokens.{Token, statement, assigned, operator, variable, constant, string, raw, out_of_range, unreadable}

and_first : (a b : Bool) → a && b ≡ true → a ≡ true
and_first true b h = refl
and_first false b h = h

and_second : (a b : Bool) → a && b ≡ true → b ≡ true
and_second true b h = h
and_second false b h = let z : ◌≡◌ {A = ℕ} 0 1 = cc in absurd (omega arith)

-- ---- two lists of bytes that are the same

pub same_self : (s : List ℕ) → same s s ≡ true
unfolding same
same_self [] = refl
same_self (x ∷ xs) = rw (eq-eqb x x refl) (same_self xs)

pub same_eq : (s t : List ℕ) → same s t ≡ true → s ≡ t
unfolding same
same_eq [] [] h = refl
same_eq [] (y ∷ ys) h = let z : ◌≡◌ {A = ℕ} 0 1 = cc in absurd (omega arith)
same_eq (x ∷ xs) [] h = let z : ◌≡◌ {A = ℕ} 0 1 = cc in absurd (omega arith)
same_eq (x ∷ xs) (y ∷ ys) h = go (eqb x y) refl h (λ k. same_eq xs ys k)
  where
    go : (b : Bool) → eqb x y ≡ b → pick b (same xs ys) false ≡ true → (same xs ys ≡ true → xs ≡ ys) → x ∷ xs ≡ y ∷ ys
    go true e k f = ap (λ (n : ℕ). n ∷ xs) (eqb-true x y e) ∙ ap (λ (l : List ℕ). y ∷ l) (f k)
    go false e k f = let z : ◌≡◌ {A = ℕ} 0 1 = cc in absurd (omega arith)

pub same_ne : (s t : List ℕ) → (s ≡ t → ⊥) → same s t ≡ false
same_ne s t f = go (same s t) refl
  where
    go : (b : Bool) → same s t ≡ b → b ≡ false
    go true e = absurd (f (same_eq s t e))
    go false e = refl

-- ---- a name's number

pub number_most : (ns : List (List ℕ)) (n : List ℕ) → number_of ns n ≤ length ns
unfolding number_of
number_most [] n = omega arith
number_most (m ∷ ms) n = go (same m n) (number_most ms n)
  where
    go : (b : Bool) → number_of ms n ≤ length ms → pick b 0 (suc (number_of ms n)) ≤ suc (length ms)
    go true h = omega arith
    go false h = omega arith

pub number_front : (ns more : List (List ℕ)) (n : List ℕ) → number_of ns n < length ns → number_of (ns ++ more) n ≡ number_of ns n
unfolding number_of
number_front [] more n h = absurd (omega arith)
number_front (m ∷ ms) more n h = go (same m n) h (λ k. number_front ms more n k)
  where
    go : (b : Bool) → pick b 0 (suc (number_of ms n)) < suc (length ms) → (number_of ms n < length ms → number_of (ms ++ more) n ≡ number_of ms n)
        → pick b 0 (suc (number_of (ms ++ more) n)) ≡ pick b 0 (suc (number_of ms n))
    go true k f = refl
    go false k f = ap suc (f (omega arith))

pub number_behind : (ns more : List (List ℕ)) (n : List ℕ) → length ns ≤ number_of ns n → number_of (ns ++ more) n ≡ length ns + number_of more n
unfolding number_of
number_behind [] more n h = let z : number_of more n ≡ 0 + number_of more n = omega arith in z
number_behind (m ∷ ms) more n h = go (same m n) h (λ k. number_behind ms more n k)
  where
    go : (b : Bool) → suc (length ms) ≤ pick b 0 (suc (number_of ms n)) → (length ms ≤ number_of ms n → number_of (ms ++ more) n ≡ length ms + number_of more n)
        → pick b 0 (suc (number_of (ms ++ more) n)) ≡ suc (length ms) + number_of more n
    go true k f = absurd (omega arith)
    go false k f = let z : suc (number_of (ms ++ more) n) ≡ suc (length ms) + number_of more n = omega (arith, f (omega arith)) in z

pub known_less : (ns : List (List ℕ)) (n : List ℕ) → known? ns n ≡ true → number_of ns n < length ns
unfolding known?
known_less ns n h = ltb-true (number_of ns n) (length ns) h

pub unknown_most : (ns : List (List ℕ)) (n : List ℕ) → known? ns n ≡ false → number_of ns n ≡ length ns
unfolding known?
unknown_most ns n h = let a = ltb-false (number_of ns n) (length ns) h in let b = number_most ns n in omega arith

pub less_known : (ns : List (List ℕ)) (n : List ℕ) → number_of ns n < length ns → known? ns n ≡ true
unfolding known?
less_known ns n h = lt-ltb (number_of ns n) (length ns) h

pub most_unknown : (ns : List (List ℕ)) (n : List ℕ) → length ns ≤ number_of ns n → known? ns n ≡ false
unfolding known?
most_unknown ns n h = le-ltb (number_of ns n) (length ns) h

-- a name known among the first names keeps its number; else it is counted on among the others
pub number_known : (ns more : List (List ℕ)) (n : List ℕ) → known? ns n ≡ true → number_of (ns ++ more) n ≡ number_of ns n
number_known ns more n h = number_front ns more n (known_less ns n h)

pub number_unknown : (ns more : List (List ℕ)) (n : List ℕ) → known? ns n ≡ false → number_of (ns ++ more) n ≡ length ns + number_of more n
number_unknown ns more n h = let a = unknown_most ns n h in number_behind ns more n (omega arith)

pub known_front : (ns more : List (List ℕ)) (n : List ℕ) → known? ns n ≡ true → known? (ns ++ more) n ≡ true
known_front ns more n h =
    let a = known_less ns n h in
    less_known (ns ++ more) n (omega (arith, number_known ns more n h, length-append ns more))

pub known_behind : (ns more : List (List ℕ)) (n : List ℕ) → known? ns n ≡ false → known? (ns ++ more) n ≡ known? more n
unfolding known?
known_behind ns more n h = go (ltb (number_of more n) (length more)) refl
  where
    go : (b : Bool) → ltb (number_of more n) (length more) ≡ b → ltb (number_of (ns ++ more) n) (length (ns ++ more)) ≡ b
    go true e = lt-ltb (number_of (ns ++ more) n) (length (ns ++ more)) (omega (arith, ltb-true (number_of more n) (length more) e, number_unknown ns more n h, length-append ns more))
    go false e = le-ltb (number_of (ns ++ more) n) (length (ns ++ more)) (omega (arith, ltb-false (number_of more n) (length more) e, number_unknown ns more n h, length-append ns more))

pub known_one : (n : List ℕ) → known? (n ∷ []) n ≡ true
unfolding number_of known?
known_one n = rw (same_self n)

-- in a table with no name twice the number of the name with number i is i
pub number_at : (ns : List (List ℕ)) (i : ℕ) → all_different ns ≡ true → i < length ns → number_of ns (get_or ns i []) ≡ i
unfolding all_different number_of
number_at [] i d h = absurd (omega arith)
number_at (n ∷ ns) zero d h = rw (same_self n)
number_at (n ∷ ns) (suc i) d h = go (known? ns n) refl d (λ e. number_at ns i e (omega arith))
  where
    go : (b : Bool) → known? ns n ≡ b → not b && all_different ns ≡ true → (all_different ns ≡ true → number_of ns (get_or ns i []) ≡ i)
        → pick (same n (get_or ns i [])) 0 (suc (number_of ns (get_or ns i []))) ≡ suc i
    go true e k f = let z : ◌≡◌ {A = ℕ} 0 1 = cc in absurd (omega arith)
    go false e k f =
        let at = f k in
        let other : same n (get_or ns i []) ≡ false = same_ne n (get_or ns i []) (λ q.
        let u = unknown_most ns n e in
        let v : number_of ns n ≡ i = ap (number_of ns) q ∙ at in
        omega arith) in
        rw (other) (ap suc at)

-- ---- adding names

-- what adding a name puts behind the names: nothing, or the name
unfoldable pub name_added : List (List ℕ) → List ℕ → List (List ℕ)
name_added ns n = pick (known? ns n) [] (n ∷ [])

pub add_append : (ns : List (List ℕ)) (n : List ℕ) → add_name ns n ≡ ns ++ name_added ns n
unfolding add_name name_added
add_append ns n = go (known? ns n)
  where
    go : (b : Bool) → pick b ns (ns ++ n ∷ []) ≡ ns ++ pick b [] (n ∷ [])
    go true = sym (append-nil ns)
    go false = refl

pub add_known : (ns : List (List ℕ)) (n : List ℕ) → known? ns n ≡ true → add_name ns n ≡ ns
unfolding add_name
add_known ns n h = rw (h)

pub add_unknown : (ns : List (List ℕ)) (n : List ℕ) → known? ns n ≡ false → add_name ns n ≡ ns ++ n ∷ []
unfolding add_name
add_unknown ns n h = rw (h)

-- a name that was added is known, with the number that it had or would get
pub known_added : (ns : List (List ℕ)) (n : List ℕ) → known? (add_name ns n) n ≡ true
known_added ns n = go (known? ns n) refl
  where
    go : (b : Bool) → known? ns n ≡ b → known? (add_name ns n) n ≡ true
    go true e = rw (add_known ns n e) e
    go false e = rw (add_unknown ns n e, known_behind ns (n ∷ []) n e) (known_one n)

pub number_added : (ns : List (List ℕ)) (n : List ℕ) → number_of (add_name ns n) n ≡ number_of ns n
unfolding number_of
number_added ns n = go (known? ns n) refl
  where
    go : (b : Bool) → known? ns n ≡ b → number_of (add_name ns n) n ≡ number_of ns n
    go true e = rw (add_known ns n e)
    go false e =
        let z : number_of (n ∷ []) n ≡ 0 = rw (same_self n) in
        let u = unknown_most ns n e in
        let w : length ns + number_of (n ∷ []) n ≡ number_of ns n = omega arith in
        rw (add_unknown ns n e) (number_unknown ns (n ∷ []) n e ∙ w)

-- a test that the names and the added one pass is passed by all
pub every_append : {A : Type 0} (p : A → Bool) (xs ys : List A) → every p xs ≡ true → every p ys ≡ true → every p (xs ++ ys) ≡ true
unfolding every
every_append p [] ys h k = k
every_append p (x ∷ xs) ys h k = go (p x) h (λ e. every_append p xs ys e k)
  where
    go : (b : Bool) → b && every p xs ≡ true → (every p xs ≡ true → every p (xs ++ ys) ≡ true) → b && every p (xs ++ ys) ≡ true
    go true e f = f e
    go false e f = e

-- ---- the names of tokens, added one after the other

-- the names, with that of one token
unfoldable pub add_token : List (List ℕ) → Token → List (List ℕ)
add_token ns (statement t) = ns
add_token ns (assigned n) = add_name ns n
add_token ns (operator t) = ns
add_token ns (variable n) = add_name ns n
add_token ns (constant b) = ns
add_token ns (string b) = ns
add_token ns (raw b) = ns
add_token ns out_of_range = ns
add_token ns unreadable = ns

pub adds_step : (ns : List (List ℕ)) (t : Token) (ts : List Token) → add_names ns (t ∷ ts) ≡ add_names (add_token ns t) ts
unfolding add_names add_token
adds_step ns (statement t) ts = refl
adds_step ns (assigned n) ts = refl
adds_step ns (operator t) ts = refl
adds_step ns (variable n) ts = refl
adds_step ns (constant b) ts = refl
adds_step ns (string b) ts = refl
adds_step ns (raw b) ts = refl
adds_step ns out_of_range ts = refl
adds_step ns unreadable ts = refl

pub adds_none : (ns : List (List ℕ)) → add_names ns [] ≡ ns
unfolding add_names
adds_none ns = refl

pub adds_append : (ns : List (List ℕ)) (ts us : List Token) → add_names ns (ts ++ us) ≡ add_names (add_names ns ts) us
adds_append ns [] us = ap (λ (x : List (List ℕ)). add_names x us) (sym (adds_none ns))
adds_append ns (t ∷ ts) us =
    adds_step ns t (ts ++ us) ∙ adds_append (add_token ns t) ts us ∙ ap (λ (x : List (List ℕ)). add_names x us) (sym (adds_step ns t ts))

-- the name of a token, if it has one, passes a test
unfoldable pub name_passes : (List ℕ → Bool) → Token → Bool
name_passes p (statement t) = true
name_passes p (assigned n) = p n
name_passes p (operator t) = true
name_passes p (variable n) = p n
name_passes p (constant b) = true
name_passes p (string b) = true
name_passes p (raw b) = true
name_passes p out_of_range = true
name_passes p unreadable = true

-- What holds of names, and of them with a name added that passes a test, holds of them with the names of a token added; and of tokens.
pub token_keeps : (p : List ℕ → Bool) (P : List (List ℕ) → Type 0) → ((ns : List (List ℕ)) (n : List ℕ) → p n ≡ true → P ns → P (add_name ns n))
    → (ns : List (List ℕ)) (t : Token) → name_passes p t ≡ true → P ns → P (add_token ns t)
unfolding add_token name_passes
token_keeps p P f ns (statement t) h k = k
token_keeps p P f ns (assigned n) h k = f ns n h k
token_keeps p P f ns (operator t) h k = k
token_keeps p P f ns (variable n) h k = f ns n h k
token_keeps p P f ns (constant b) h k = k
token_keeps p P f ns (string b) h k = k
token_keeps p P f ns (raw b) h k = k
token_keeps p P f ns out_of_range h k = k
token_keeps p P f ns unreadable h k = k

pub every_first : {A : Type 0} (p : A → Bool) (x : A) (xs : List A) → every p (x ∷ xs) ≡ true → p x ≡ true
unfolding every
every_first p x xs h = and_first (p x) (every p xs) h

pub every_rest : {A : Type 0} (p : A → Bool) (x : A) (xs : List A) → every p (x ∷ xs) ≡ true → every p xs ≡ true
unfolding every
every_rest p x xs h = and_second (p x) (every p xs) h

pub adds_keep : (p : List ℕ → Bool) (P : List (List ℕ) → Type 0) → ((ns : List (List ℕ)) (n : List ℕ) → p n ≡ true → P ns → P (add_name ns n))
    → (ns : List (List ℕ)) (ts : List Token) → every (name_passes p) ts ≡ true → P ns → P (add_names ns ts)
adds_keep p P f ns [] h k = subst P (sym (adds_none ns)) k
adds_keep p P f ns (t ∷ ts) h k =
    subst P (sym (adds_step ns t ts))
    (adds_keep p P f (add_token ns t) ts (every_rest (name_passes p) t ts h) (token_keeps p P f ns t (every_first (name_passes p) t ts h) k))

any_name : List ℕ → Bool
any_name n = true

every_any : (ts : List Token) → every (name_passes any_name) ts ≡ true
unfolding every name_passes any_name
every_any [] = refl
every_any (t ∷ ts) = go t (every_any ts)
  where
    go : (t : Token) → every (name_passes any_name) ts ≡ true → name_passes any_name t && every (name_passes any_name) ts ≡ true
    go (statement t) e = e
    go (assigned n) e = e
    go (operator t) e = e
    go (variable n) e = e
    go (constant b) e = e
    go (string b) e = e
    go (raw b) e = e
    go out_of_range e = e
    go unreadable e = e

-- the same where nothing is asked of the added name
pub adds_keep_any : (P : List (List ℕ) → Type 0) → ((ns : List (List ℕ)) (n : List ℕ) → P ns → P (add_name ns n))
    → (ns : List (List ℕ)) (ts : List Token) → P ns → P (add_names ns ts)
adds_keep_any P f ns ts k = adds_keep any_name P (λ ms n h j. f ms n j) ns ts (every_any ts) k

-- the names that tokens add behind the names
unfoldable pub names_added : List (List ℕ) → List Token → List (List ℕ)
names_added ns ts = drop (length ns) (add_names ns ts)

-- names that begin with others
pub record Extends (ns ms : List (List ℕ)) : Type 0 where
  pub more : List (List ℕ)
  pub whole : ms ≡ ns ++ more

pub extends_added : (ns ms : List (List ℕ)) (n : List ℕ) → Extends ns ms → Extends ns (add_name ms n)
extends_added ns ms n e =
    record { more = e.more ++ name_added ms n; whole = add_append ms n ∙ ap (λ (x : List (List ℕ)). x ++ name_added ms n) e.whole ∙ append_assoc ns e.more (name_added ms n) }

pub adds_extend : (ns : List (List ℕ)) (ts : List Token) → Extends ns (add_names ns ts)
adds_extend ns ts = adds_keep_any (Extends ns) (λ ms n e. extends_added ns ms n e) ns ts (record { more = []; whole = sym (append-nil ns) })

pub adds_front : (ns : List (List ℕ)) (ts : List Token) → add_names ns ts ≡ ns ++ names_added ns ts
unfolding names_added
adds_front ns ts =
    let e = adds_extend ns ts in
    let d : drop (length ns) (add_names ns ts) ≡ e.more = ap (drop (length ns)) e.whole ∙ drop-append_seam ns e.more in
    e.whole ∙ ap (λ (x : List (List ℕ)). ns ++ x) (sym d)

-- ---- bytes as names

-- no bytes, or a last one with its top bit set: what follows begins a name
unfoldable pub closed? : List ℕ → Bool
closed? [] = true
closed? (x ∷ []) = leb 128 x
closed? (x ∷ y ∷ ys) = closed? (y ∷ ys)

pub names_some : (b : ℕ) (bs : List ℕ) → 0 < length (names_in (b ∷ bs))
unfolding names_in in_front
names_some b bs = go (leb 128 b) (names_in bs)
  where
    go : (x : Bool) (r : List (List ℕ)) → 0 < length (pick x (((b - 128) ∷ []) ∷ r) (in_front b r))
    go true r = omega arith
    go false [] = omega arith
    go false (n ∷ ns) = omega arith

front_append : (b : ℕ) (r more : List (List ℕ)) → 0 < length r → in_front b (r ++ more) ≡ in_front b r ++ more
unfolding in_front
front_append b [] more h = absurd (omega arith)
front_append b (n ∷ ns) more h = refl

-- where bytes end with a name's end the names are those of the parts
pub names_append : (a b : List ℕ) → closed? a ≡ true → names_in (a ++ b) ≡ names_in a ++ names_in b
unfolding names_in closed?
names_append [] b h = refl
names_append (x ∷ []) b h = rw (h)
names_append (x ∷ y ∷ ys) b h =
    let more : names_in (y ∷ ys ++ b) ≡ names_in (y ∷ ys) ++ names_in b = names_append (y ∷ ys) b h in
    ap (λ (r : List (List ℕ)). pick (leb 128 x) (((x - 128) ∷ []) ∷ r) (in_front x r)) more ∙ go (leb 128 x)
  where
    go : (t : Bool) → pick t (((x - 128) ∷ []) ∷ (names_in (y ∷ ys) ++ names_in b)) (in_front x (names_in (y ∷ ys) ++ names_in b))
        ≡ pick t (((x - 128) ∷ []) ∷ names_in (y ∷ ys)) (in_front x (names_in (y ∷ ys))) ++ names_in b
    go true = refl
    go false = front_append x (names_in (y ∷ ys)) (names_in b) (names_some y ys)

pub closed_append : (a b : List ℕ) → closed? a ≡ true → closed? b ≡ true → closed? (a ++ b) ≡ true
unfolding closed?
closed_append [] b h k = k
closed_append (x ∷ []) [] h k = h
closed_append (x ∷ []) (y ∷ ys) h k = k
closed_append (x ∷ y ∷ ys) b h k = closed_append (y ∷ ys) b h k

-- a byte with its top bit clear
abbrev pub top_clear? : ℕ → Bool
top_clear? b = ltb b 128

-- a name that has bytes, none with its top bit set
unfoldable pub plain_name : List ℕ → Bool
plain_name n = ltb 0 (length n) && every top_clear? n

pub plain_some : (n : List ℕ) → plain_name n ≡ true → 0 < length n
unfolding plain_name
plain_some n h = ltb-true 0 (length n) (and_first (ltb 0 (length n)) (every top_clear? n) h)

pub plain_low : (n : List ℕ) → plain_name n ≡ true → every top_clear? n ≡ true
unfolding plain_name
plain_low n h = and_second (ltb 0 (length n)) (every top_clear? n) h

pub some_plain : (n : List ℕ) → 0 < length n → every top_clear? n ≡ true → plain_name n ≡ true
unfolding plain_name
some_plain n h k = rw (lt-ltb 0 (length n) h) k

pub closed_marked : (n : List ℕ) → closed? (marked n) ≡ true
unfolding closed? marked
closed_marked [] = refl
closed_marked (x ∷ []) = le-leb 128 (x + 128) (omega arith)
closed_marked (x ∷ y ∷ []) = closed_marked (y ∷ [])
closed_marked (x ∷ y ∷ z ∷ zs) = closed_marked (y ∷ z ∷ zs)

pub closed_names : (ns : List (List ℕ)) → closed? (name_bytes ns) ≡ true
unfolding name_bytes closed?
closed_names [] = refl
closed_names (n ∷ ns) = closed_append (marked n) (name_bytes ns) (closed_marked n) (closed_names ns)

pub name_bytes_append : (ns ms : List (List ℕ)) → name_bytes (ns ++ ms) ≡ name_bytes ns ++ name_bytes ms
unfolding name_bytes
name_bytes_append [] ms = refl
name_bytes_append (n ∷ ns) ms = ap (λ (l : List ℕ). marked n ++ l) (name_bytes_append ns ms) ∙ sym (append_assoc (marked n) (name_bytes ns) (name_bytes ms))

pub length_marked : (n : List ℕ) → length (marked n) ≡ length n
unfolding marked
length_marked [] = refl
length_marked (x ∷ []) = refl
length_marked (x ∷ y ∷ ys) = ap suc (length_marked (y ∷ ys))

front_some : (x : ℕ) (n : List ℕ) (ns : List (List ℕ)) → in_front x (n ∷ ns) ≡ (x ∷ n) ∷ ns
unfolding in_front
front_some x n ns = refl

low_names : (x : ℕ) (xs b : List ℕ) → every top_clear? (x ∷ xs) ≡ true → names_in (marked (x ∷ xs) ++ b) ≡ (x ∷ xs) ∷ names_in b
unfolding marked names_in
low_names x [] b h =
    let top : leb 128 (x + 128) ≡ true = le-leb 128 (x + 128) (omega arith) in
    let back : x + 128 - 128 ≡ x = omega arith in
    rw (top, back)
low_names x (y ∷ ys) b h =
    let low : leb 128 x ≡ false = lt-leb 128 x (ltb-true x 128 (every_first top_clear? x (y ∷ ys) h)) in
    rw (low, low_names y ys b (every_rest top_clear? x (y ∷ ys) h)) (front_some x (y ∷ ys) (names_in b))

-- a marked name, and bytes after it: the name, and their names
pub names_marked : (n b : List ℕ) → plain_name n ≡ true → names_in (marked n ++ b) ≡ n ∷ names_in b
names_marked [] b h = absurd (omega (arith, plain_some [] h))
names_marked (x ∷ xs) b h = low_names x xs b (plain_low (x ∷ xs) h)

-- names as bytes, read again
pub names_of_bytes : (ns : List (List ℕ)) → every plain_name ns ≡ true → names_in (name_bytes ns) ≡ ns
unfolding name_bytes names_in
names_of_bytes [] h = refl
names_of_bytes (n ∷ ns) h =
    names_marked n (name_bytes ns) (every_first plain_name n ns h) ∙ ap (λ (l : List (List ℕ)). n ∷ l) (names_of_bytes ns (every_rest plain_name n ns h))

-- and after other bytes
pub names_of_more : (a : List ℕ) (ns : List (List ℕ)) → closed? a ≡ true → every plain_name ns ≡ true → names_in (a ++ name_bytes ns) ≡ names_in a ++ ns
names_of_more a ns h k = names_append a (name_bytes ns) h ∙ ap (λ (l : List (List ℕ)). names_in a ++ l) (names_of_bytes ns k)

-- the marked bytes of a byte in front of the first of some names
front_bytes : (x : ℕ) (ns : List (List ℕ)) → 0 < length ns → (0 < length (get_or ns 0 [])) → name_bytes (in_front x ns) ≡ x ∷ name_bytes ns
unfolding in_front name_bytes marked
front_bytes x [] h k = absurd (omega arith)
front_bytes x ([] ∷ ns) h k = absurd (omega arith)
front_bytes x ((y ∷ ys) ∷ ns) h k = refl

first_some : (b : ℕ) (bs : List ℕ) → 0 < length (get_or (names_in (b ∷ bs)) 0 [])
unfolding names_in in_front
first_some b bs = go (leb 128 b) (names_in bs)
  where
    go : (x : Bool) (r : List (List ℕ)) → 0 < length (get_or (pick x (((b - 128) ∷ []) ∷ r) (in_front b r)) 0 [])
    go true r = omega arith
    go false [] = omega arith
    go false (n ∷ ns) = omega arith

-- bytes that end with a name's end are the bytes of their names
pub bytes_of_names : (bs : List ℕ) → closed? bs ≡ true → name_bytes (names_in bs) ≡ bs
unfolding closed? names_in name_bytes marked
bytes_of_names [] h = refl
bytes_of_names (x ∷ []) h =
    let back : x - 128 + 128 ≡ x = omega (arith, leb-true 128 x h) in
    rw (h) (ap (λ (n : ℕ). n ∷ []) back)
bytes_of_names (x ∷ y ∷ ys) h = go (leb 128 x) refl (bytes_of_names (y ∷ ys) h)
  where
    go : (t : Bool) → leb 128 x ≡ t → name_bytes (names_in (y ∷ ys)) ≡ y ∷ ys
        → name_bytes (pick t (((x - 128) ∷ []) ∷ names_in (y ∷ ys)) (in_front x (names_in (y ∷ ys)))) ≡ x ∷ y ∷ ys
    go true e f = let back : x - 128 + 128 ≡ x = omega (arith, leb-true 128 x e) in ap (λ (n : ℕ). n ∷ name_bytes (names_in (y ∷ ys))) back ∙ ap (λ (l : List ℕ). x ∷ l) f
    go false e f = front_bytes x (names_in (y ∷ ys)) (names_some y ys) (first_some y ys) ∙ ap (λ (l : List ℕ). x ∷ l) f

-- and others are not
pub same_bytes : (bs : List ℕ) → same (name_bytes (names_in bs)) bs ≡ closed? bs
same_bytes bs = go (closed? bs) refl
  where
    go : (t : Bool) → closed? bs ≡ t → same (name_bytes (names_in bs)) bs ≡ t
    go true e = ap (λ (l : List ℕ). same l bs) (bytes_of_names bs e) ∙ same_self bs
    go false e = same_ne (name_bytes (names_in bs)) bs (λ q. let z : ◌≡◌ {A = ℕ} 0 1 = bools (sym (closed_names (names_in bs)) ∙ ap closed? q ∙ e) in omega arith)
      where
        bools : true ≡ false → ◌≡◌ {A = ℕ} 0 1
        bools e = cc

-- ---- names of a sound table

-- a letter or digit has no top bit
letter_low : (x : ℕ) → letter_or_digit? x ≡ true → x < 128
unfolding letter_or_digit? digit? letter?
letter_low x e = go (leb 48 x) (leb x 57) (leb 65 x) (leb x 90) refl refl e
  where
    go : (a b c d : Bool) → leb x 57 ≡ b → leb x 90 ≡ d → (a && b) || (c && d) ≡ true → x < 128
    go a true c d e f h = omega (arith, leb-true x 57 e)
    go a false c true e f h = omega (arith, leb-true x 90 f)
    go true false true false e f h = let z : ◌≡◌ {A = ℕ} 0 1 = cc in absurd (omega arith)
    go true false false false e f h = let z : ◌≡◌ {A = ℕ} 0 1 = cc in absurd (omega arith)
    go false false true false e f h = let z : ◌≡◌ {A = ℕ} 0 1 = cc in absurd (omega arith)
    go false false false false e f h = let z : ◌≡◌ {A = ℕ} 0 1 = cc in absurd (omega arith)

pub low_run : (n : List ℕ) → every top_clear? (take (run letter_or_digit? n) n) ≡ true
unfolding run every
low_run [] = refl
low_run (x ∷ xs) = go (letter_or_digit? x) refl (low_run xs)
  where
    go : (t : Bool) → letter_or_digit? x ≡ t → every top_clear? (take (run letter_or_digit? xs) xs) ≡ true
        → every top_clear? (take (pick t (suc (run letter_or_digit? xs)) 0) (x ∷ xs)) ≡ true
    go true e k = rw (lt-ltb x 128 (letter_low x e)) k
    go false e k = refl

low_end : (l : List ℕ) → name_end? l ≡ true → every top_clear? l ≡ true
unfolding name_end? every
low_end [] h = refl
low_end (x ∷ []) h = go (eqb x 36) (eqb x 40) refl refl h
  where
    go : (a b : Bool) → eqb x 36 ≡ a → eqb x 40 ≡ b → a || b ≡ true → ltb x 128 && true ≡ true
    go true b e f k = rw (eqb-true x 36 e)
    go false true e f k = rw (eqb-true x 40 f)
    go false false e f k = let z : ◌≡◌ {A = ℕ} 0 1 = cc in absurd (omega arith)
low_end (x ∷ y ∷ ys) h = let z : ◌≡◌ {A = ℕ} 0 1 = cc in absurd (omega arith)

some_letter : (n : List ℕ) → letter? (get_or n 0 0) ≡ true → 0 < length n
unfolding letter?
some_letter [] h = let z : ◌≡◌ {A = ℕ} 0 1 = cc in absurd (omega arith)
some_letter (x ∷ xs) h = omega arith

pub name_plain : (n : List ℕ) → name? n ≡ true → plain_name n ≡ true
unfolding name?
name_plain n h =
    let r = run letter_or_digit? n in
    let low : every top_clear? (take r n ++ drop r n) ≡ true =
    every_append top_clear? (take r n) (drop r n) (low_run n) (low_end (drop r n) (and_second (letter? (get_or n 0 0)) (name_end? (drop r n)) h)) in
    some_plain n (some_letter n (and_first (letter? (get_or n 0 0)) (name_end? (drop r n)) h)) (rw take-append-drop at low)

pub names_plain : (ns : List (List ℕ)) → every name? ns ≡ true → every plain_name ns ≡ true
unfolding every
names_plain [] h = refl
names_plain (n ∷ ns) h = rw (name_plain n (every_first name? n ns h)) (names_plain ns (every_rest name? n ns h))

-- what a sound table is, as facts
pub record Sound (table : List ℕ) (size count : ℕ) : Type 0 where
  pub within : size ≤ length table
  pub whole : closed? (take size table) ≡ true
  pub counted : length (names_in (take size table)) ≡ count
  pub few : count ≤ most_names
  pub shapes : every name? (names_in (take size table)) ≡ true
  pub plain : every plain_name (names_in (take size table)) ≡ true
  pub different : all_different (names_in (take size table)) ≡ true
  pub no_words : every (λ n. not (reserved? (less_open n))) (names_in (take size table)) ≡ true

pub sound_facts : (table : List ℕ) (size count : ℕ) → sound_table table size count ≡ true → Sound table size count
unfolding sound_table sound_names
sound_facts table size count h =
    let bs = take size table in
    let ns = names_in bs in
    let all = every (λ n. not (reserved? (less_open n))) ns in
    let a = leb size (length table) in
    let b = same (name_bytes ns) bs in
    let c = eqb (length ns) count in
    let d = leb (length ns) most_names in
    let e = every name? ns in
    let f = all_different ns in
    let h₁ = and_second a (b && (c && (d && (e && (f && all))))) h in
    let h₂ = and_second b (c && (d && (e && (f && all)))) h₁ in
    let h₃ = and_second c (d && (e && (f && all))) h₂ in
    let h₄ = and_second d (e && (f && all)) h₃ in
    let h₅ = and_second e (f && all) h₄ in
    let counted : length ns ≡ count = eqb-true (length ns) count (and_first c (d && (e && (f && all))) h₂) in
    let shapes = and_first e (f && all) h₄ in
    record {
      within = leb-true size (length table) (and_first a (b && (c && (d && (e && (f && all))))) h);
      whole = sym (same_bytes bs) ∙ and_first b (c && (d && (e && (f && all)))) h₁;
      counted = counted;
      few = omega (arith, leb-true (length ns) most_names (and_first d (e && (f && all)) h₃));
      shapes = shapes;
      plain = names_plain ns shapes;
      different = and_first f all h₅;
      no_words = and_second f all h₅;
    }

-- ---- the name with a number is known, and an empty name is not

number_early : (ns : List (List ℕ)) (i : ℕ) → i < length ns → number_of ns (get_or ns i []) ≤ i
unfolding number_of
number_early [] i h = absurd (omega arith)
number_early (n ∷ ns) zero h = rw (same_self n) (omega arith)
number_early (n ∷ ns) (suc i) h = go (same n (get_or ns i [])) (number_early ns i (omega arith))
  where
    go : (b : Bool) → number_of ns (get_or ns i []) ≤ i → pick b 0 (suc (number_of ns (get_or ns i []))) ≤ suc i
    go true k = omega arith
    go false k = omega arith

pub known_at : (ns : List (List ℕ)) (i : ℕ) → i < length ns → known? ns (get_or ns i []) ≡ true
known_at ns i h = less_known ns (get_or ns i []) (omega (arith, number_early ns i h))
