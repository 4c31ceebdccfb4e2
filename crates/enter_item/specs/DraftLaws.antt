-- A draft with its offsets put in is the line: statement by statement, and whole.
use Rattle.std.specs.Prelude.{ℕ, suc, ◌+◌, ◌-◌, ◌/◌, ◌%◌, ◌≤◌, ◌<◌, ◌≡◌, refl, Bool, true, false, not, ◌&&◌, List, [], ◌∷◌, ◌++◌, ltb, length, set}
use Rattle.std.proofs.Common.{arith, add-zero, mod-eq_of_lt, sym, ap, ap₂, ◌∙◌, append_assoc, length-append, set-set, ltb-true}
use Rattle.std.proofs.Math.Nat.{div-add-mod}
use Rattle.std.proofs.lemmas.List.Edits.{sets}
use Rattle.std.proofs.lemmas.List.{set_comm}
use Rattle.paper.specs.Bytes.{pick, every}
use Rattle.paper.specs.Tokens.{Token, statement, assigned, operator, variable, constant, string, raw, out_of_range, unreadable}
use Rattle.paper.specs.Names.{number_of, add_name, add_names}
use Rattle.paper.specs.Line.{own_bytes, number_bytes, variable_bytes, begins?, to_next, token_bytes, line_bytes, direct_number}
use Rattle.laws.specs.Names.{adds_extend}
use Rattle.tokens.specs.Same.{no_bool}
use Rattle.enter_item.specs.Draft.{low, lows, written, after, draft, until_next, with_offsets, written_line, still}
use Rattle.enter_item.specs.NameLaws.{add_one_by_one, number_at_end, number_below}

-- ---- drafts one after another

draft_go : (b : Bool) (w d e : List ℕ) → pick b (0 ∷ w ++ (d ++ e)) (w ++ (d ++ e)) ≡ pick b (0 ∷ w ++ d) (w ++ d) ++ e
draft_go true w d e = ap (λ (l : List ℕ). 0 ∷ l) (sym (append_assoc w d e))
draft_go false w d e = sym (append_assoc w d e)

pub draft_append : (ks : List (List ℕ)) (ts us : List Token) → draft ks (ts ++ us) ≡ draft ks ts ++ draft (add_names ks ts) us
unfolding draft add_names
draft_append ks [] us = refl
draft_append ks (t ∷ ts) us =
    ap (λ (l : List ℕ). pick (begins? t) (0 ∷ written ks t ++ l) (written ks t ++ l)) (draft_append (after ks t) ts us)
    ∙ draft_go (begins? t) (written ks t) (draft (after ks t) ts) (draft (add_names (after ks t) ts) us)
    ∙ ap (λ (k : List (List ℕ)). pick (begins? t) (0 ∷ written ks t ++ draft (after ks t) ts) (written ks t ++ draft (after ks t) ts) ++ draft k us) (sym (add_one_by_one ks t ts))

-- ---- where no statement begins

and_left : (a b : Bool) → (a && b) ≡ true → a ≡ true
and_left true b h = refl
and_left false b h = h

and_right : (a b : Bool) → (a && b) ≡ true → b ≡ true
and_right true b h = h
and_right false b h = no_bool h

not_left : (a : Bool) → not a ≡ true → a ≡ false
not_left true h = no_bool h
not_left false h = refl

pub still_first : (t : Token) (ts : List Token) → still (t ∷ ts) ≡ true → begins? t ≡ false
unfolding still every
still_first t ts h = not_left (begins? t) (and_left (not (begins? t)) (still ts) h)

pub still_rest : (t : Token) (ts : List Token) → still (t ∷ ts) ≡ true → still ts ≡ true
unfolding still every
still_rest t ts h = and_right (not (begins? t)) (still ts) h

pub still_more : (t : Token) (ts : List Token) → begins? t ≡ false → still ts ≡ true → still (t ∷ ts) ≡ true
unfolding still every
still_more t ts h k = rw h k

pub still_none : still [] ≡ true
unfolding still every
still_none = refl

pub still_append : (ts us : List Token) → still ts ≡ true → still us ≡ true → still (ts ++ us) ≡ true
still_append [] us h k = k
still_append (t ∷ ts) us h k = still_more t (ts ++ us) (still_first t ts h) (still_append ts us (still_rest t ts h) k)

next_still : (ks : List (List ℕ)) (ts : List Token) → still ts ≡ true → until_next ks ts ≡ length (draft ks ts)
unfolding until_next draft
next_still ks [] h = refl
next_still ks (t ∷ ts) h =
    let z : length (written ks t) + until_next (after ks t) ts ≡ length (written ks t ++ draft (after ks t) ts) =
    omega (arith, next_still (after ks t) ts (still_rest t ts h), length-append (written ks t) (draft (after ks t) ts)) in
    rw (still_first t ts h) z

-- tokens within a statement need no offset
offsets_still : (ks : List (List ℕ)) (p : ℕ) (ts : List Token) → still ts ≡ true → with_offsets ks p ts ≡ draft ks ts
unfolding with_offsets draft
offsets_still ks p [] h = refl
offsets_still ks p (t ∷ ts) h = rw (still_first t ts h) (ap (λ (l : List ℕ). written ks t ++ l) (offsets_still (after ks t) (p + length (written ks t)) ts (still_rest t ts h)))

-- a statement's offset is where it ends
pub statement_offsets : (ks : List (List ℕ)) (p : ℕ) (t : Token) (ts : List Token) → begins? t ≡ true → still ts ≡ true
    → with_offsets ks p (t ∷ ts) ≡ low (p + length (draft ks (t ∷ ts))) ∷ written ks t ++ draft (after ks t) ts
unfolding with_offsets draft
statement_offsets ks p t ts h k =
    let e : suc p + length (written ks t) + until_next (after ks t) ts ≡ p + suc (length (written ks t ++ draft (after ks t) ts)) =
    omega (arith, next_still (after ks t) ts k, length-append (written ks t) (draft (after ks t) ts)) in
    rw h (ap (λ (x : ℕ). low x ∷ written ks t ++ with_offsets (after ks t) (suc p + length (written ks t)) ts) e
    ∙ ap (λ (l : List ℕ). low (p + suc (length (written ks t ++ draft (after ks t) ts))) ∷ written ks t ++ l) (offsets_still (after ks t) (suc p + length (written ks t)) ts k))

pub statement_draft : (ks : List (List ℕ)) (t : Token) (ts : List Token) → begins? t ≡ true → draft ks (t ∷ ts) ≡ 0 ∷ written ks t ++ draft (after ks t) ts
unfolding draft
statement_draft ks t ts h = rw h

-- ---- statements one after another

-- tokens that begin with a statement, or none
unfoldable pub Starts : List Token → Type 0
Starts [] = Unit {0}
Starts (t ∷ ts) = begins? t ≡ true

next_starts : (ks : List (List ℕ)) (us : List Token) → Starts us → until_next ks us ≡ 0
unfolding until_next Starts
next_starts ks [] h = refl
next_starts ks (t ∷ us) h = rw h

next_append : (ks : List (List ℕ)) (ts us : List Token) → Starts us → until_next ks (ts ++ us) ≡ until_next ks ts
unfolding until_next
next_append ks [] us h = next_starts ks us h
next_append ks (t ∷ ts) us h = ap (λ (x : ℕ). pick (begins? t) 0 (length (written ks t) + x)) (next_append (after ks t) ts us h)

module _ (ks : List (List ℕ)) (p : ℕ) (t : Token) (ts us : List Token) (w : List ℕ) where
  size_begun : (d : List ℕ) → suc p + length w + length d ≡ p + length (low (suc p + length w + until_next (after ks t) ts) ∷ w ++ d)
  size_begun d = omega (arith, length-append w d)

  size_within : (d : List ℕ) → p + length w + length d ≡ p + length (w ++ d)
  size_within d = omega (arith, length-append w d)

offsets_go : (ks : List (List ℕ)) (p : ℕ) (t : Token) (ts us : List Token) (b : Bool) → begins? t ≡ b → Starts us
    → ((n : ℕ) → with_offsets (after ks t) n (ts ++ us) ≡ with_offsets (after ks t) n ts ++ with_offsets (add_names (after ks t) ts) (n + length (with_offsets (after ks t) n ts)) us)
    → with_offsets ks p (t ∷ ts ++ us) ≡ with_offsets ks p (t ∷ ts) ++ with_offsets (add_names (after ks t) ts) (p + length (with_offsets ks p (t ∷ ts))) us
unfolding with_offsets
offsets_go ks p t ts us true e s ih =
    let w = written ks t in
    let n = suc p + length w in
    let d = with_offsets (after ks t) n ts in
    let k = add_names (after ks t) ts in
    rw e
    (ap (λ (x : ℕ). low (n + x) ∷ w ++ with_offsets (after ks t) n (ts ++ us)) (next_append (after ks t) ts us s)
    ∙ ap (λ (l : List ℕ). low (n + until_next (after ks t) ts) ∷ w ++ l) (ih n)
    ∙ ap (λ (x : ℕ). low (n + until_next (after ks t) ts) ∷ w ++ (d ++ with_offsets k x us)) (size_begun ks p t ts us w d)
    ∙ ap (λ (l : List ℕ). low (n + until_next (after ks t) ts) ∷ l) (sym (append_assoc w d (with_offsets k (p + length (low (n + until_next (after ks t) ts) ∷ w ++ d)) us))))
offsets_go ks p t ts us false e s ih =
    let w = written ks t in
    let n = p + length w in
    let d = with_offsets (after ks t) n ts in
    let k = add_names (after ks t) ts in
    rw e
    (ap (λ (l : List ℕ). w ++ l) (ih n)
    ∙ ap (λ (x : ℕ). w ++ (d ++ with_offsets k x us)) (size_within ks p t ts us w d)
    ∙ sym (append_assoc w d (with_offsets k (p + length (w ++ d)) us)))

-- what comes before a statement does not know of it
pub offsets_append : (ks : List (List ℕ)) (p : ℕ) (ts us : List Token) → Starts us
    → with_offsets ks p (ts ++ us) ≡ with_offsets ks p ts ++ with_offsets (add_names ks ts) (p + length (with_offsets ks p ts)) us
unfolding with_offsets add_names
offsets_append ks p [] us s = ap (λ (x : ℕ). with_offsets ks x us) (sym (add-zero p))
offsets_append ks p (t ∷ ts) us s =
    offsets_go ks p t ts us (begins? t) refl s (λ n. offsets_append (after ks t) n ts us s)
    ∙ ap (λ (k : List (List ℕ)). with_offsets ks p (t ∷ ts) ++ with_offsets k (p + length (with_offsets ks p (t ∷ ts))) us) (sym (add_one_by_one ks t ts))

-- ---- the whole line, over all its names

low_small : (n : ℕ) → n < 256 → low n ≡ n
unfolding low
low_small n h = mod-eq_of_lt h

-- a name has the number over all names that it has over those known before it
name_stays : (ks ns : List (List ℕ)) (n : List ℕ) (ts : List Token) → ns ≡ add_names (add_name ks n) ts → number_of ns n ≡ number_of ks n
name_stays ks ns n ts e = let l = adds_extend (add_name ks n) ts in ap (λ (x : List (List ℕ)). number_of x n) (e ∙ l.whole) ∙ number_at_end ks l.more n

-- and so has its token
variable_stays : (ks ns : List (List ℕ)) (n : List ℕ) (ts : List Token) → ns ≡ add_names (add_name ks n) ts → variable_bytes ks n ≡ variable_bytes ns n
unfolding variable_bytes
variable_stays ks ns n ts e = ap number_bytes (sym (name_stays ks ns n ts e))

lows_size : (bs : List ℕ) → length (lows bs) ≡ length bs
unfolding lows
lows_size [] = refl
lows_size (b ∷ bs) = ap suc (lows_size bs)

-- a token is as long as it is over all names
written_size : (ks ns : List (List ℕ)) (t : Token) (ts : List Token) → ns ≡ add_names (after ks t) ts → length (written ks t) ≡ length (own_bytes ns t)
unfolding written own_bytes add_names
written_size ks ns (statement t) ts e = refl
written_size ks ns (assigned n) ts e = ap suc (lows_size (variable_bytes ks n) ∙ ap length (variable_stays ks ns n ts e))
written_size ks ns (operator t) ts e = refl
written_size ks ns (variable n) ts e = lows_size (variable_bytes ks n) ∙ ap length (variable_stays ks ns n ts e)
written_size ks ns (constant b) ts e = refl
written_size ks ns (string b) ts e = refl
written_size ks ns (raw b) ts e = refl
written_size ks ns out_of_range ts e = refl
written_size ks ns unreadable ts e = refl

-- the next statement is as far off
next_own : (ks ns : List (List ℕ)) (ts : List Token) → ns ≡ add_names ks ts → until_next ks ts ≡ to_next ns ts
unfolding until_next to_next
next_own ks ns [] e = refl
next_own ks ns (t ∷ ts) e =
    let f : ns ≡ add_names (after ks t) ts = e ∙ add_one_by_one ks t ts in
    let z : length (written ks t) + until_next (after ks t) ts ≡ length (own_bytes ns t) + to_next ns ts = omega (arith, written_size ks ns t ts f, next_own (after ks t) ns ts f) in
    ap (λ (x : ℕ). pick (begins? t) 0 x) z

-- a number below 256 has a token of bytes
lows_number : (i : ℕ) → i < 256 → lows (number_bytes i) ≡ number_bytes i
unfolding lows number_bytes
lows_number i h = go (ltb i 128) refl
  where
    go : (b : Bool) → ltb i 128 ≡ b → lows (pick b ((0x80 + i) ∷ []) (0 ∷ (i - 128) ∷ [])) ≡ pick b ((0x80 + i) ∷ []) (0 ∷ (i - 128) ∷ [])
    go true e = ap (λ (x : ℕ). x ∷ []) (low_small (0x80 + i) (omega (arith, ltb-true i 128 e)))
    go false e = ap₂ (λ (x y : ℕ). x ∷ y ∷ []) (low_small 0 (omega arith)) (low_small (i - 128) (omega arith))

low_name : (ks ns : List (List ℕ)) (n : List ℕ) (ts : List Token) → ns ≡ add_names (add_name ks n) ts → length ns ≤ 256 → lows (variable_bytes ks n) ≡ variable_bytes ns n
unfolding variable_bytes
low_name ks ns n ts e h =
    let l = adds_extend (add_name ks n) ts in
    let b : number_of ks n < 256 = omega (arith, number_below ks n, ap length (e ∙ l.whole), length-append (add_name ks n) l.more) in
    lows_number (number_of ks n) b ∙ variable_stays ks ns n ts e

written_own : (ks ns : List (List ℕ)) (t : Token) (ts : List Token) → ns ≡ add_names (after ks t) ts → length ns ≤ 256 → written ks t ≡ own_bytes ns t
unfolding written own_bytes add_names
written_own ks ns (statement t) ts e h = refl
written_own ks ns (assigned n) ts e h = ap (λ (l : List ℕ). 0x36 ∷ l) (low_name ks ns n ts e h)
written_own ks ns (operator t) ts e h = refl
written_own ks ns (variable n) ts e h = low_name ks ns n ts e h
written_own ks ns (constant b) ts e h = refl
written_own ks ns (string b) ts e h = refl
written_own ks ns (raw b) ts e h = refl
written_own ks ns out_of_range ts e h = refl
written_own ks ns unreadable ts e h = refl

size_go : (ks ns : List (List ℕ)) (p : ℕ) (t : Token) (ts : List Token) (b : Bool) → begins? t ≡ b → length (written ks t) ≡ length (own_bytes ns t)
    → ((n m : ℕ) → n ≡ m → length (with_offsets (after ks t) n ts) ≡ length (token_bytes ns m ts)) → length (with_offsets ks p (t ∷ ts)) ≡ length (token_bytes ns p (t ∷ ts))
unfolding with_offsets token_bytes
size_go ks ns p t ts true e l ih =
    let w = written ks t in
    let v = own_bytes ns t in
    let i = ih (suc p + length w) (suc p + length v) (omega arith) in
    let z : suc (length (w ++ with_offsets (after ks t) (suc p + length w) ts)) ≡ suc (length (v ++ token_bytes ns (suc p + length v) ts)) =
    omega (arith, i, l, length-append w (with_offsets (after ks t) (suc p + length w) ts), length-append v (token_bytes ns (suc p + length v) ts)) in
    rw e z
size_go ks ns p t ts false e l ih =
    let w = written ks t in
    let v = own_bytes ns t in
    let i = ih (p + length w) (p + length v) (omega arith) in
    let z : length (w ++ with_offsets (after ks t) (p + length w) ts) ≡ length (v ++ token_bytes ns (p + length v) ts) =
    omega (arith, i, l, length-append w (with_offsets (after ks t) (p + length w) ts), length-append v (token_bytes ns (p + length v) ts)) in
    rw e z

-- a line is as long as it is over all names
pub offsets_size : (ks ns : List (List ℕ)) (p : ℕ) (ts : List Token) → ns ≡ add_names ks ts → length (with_offsets ks p ts) ≡ length (token_bytes ns p ts)
unfolding with_offsets token_bytes
offsets_size ks ns p [] e = refl
offsets_size ks ns p (t ∷ ts) e =
    let f : ns ≡ add_names (after ks t) ts = e ∙ add_one_by_one ks t ts in
    size_go ks ns p t ts (begins? t) refl (written_size ks ns t ts f) (λ n m z. ap (λ (x : ℕ). length (with_offsets (after ks t) x ts)) z ∙ offsets_size (after ks t) ns m ts f)

-- up to the next statement is not past the line's end
next_within : (ns : List (List ℕ)) (p : ℕ) (ts : List Token) → to_next ns ts ≤ length (token_bytes ns p ts)
unfolding to_next token_bytes
next_within ns p [] = omega arith
next_within ns p (t ∷ ts) = go (begins? t) (next_within ns (p + length (own_bytes ns t)) ts)
  where
    go : (b : Bool) → to_next ns ts ≤ length (token_bytes ns (p + length (own_bytes ns t)) ts)
        → pick b 0 (length (own_bytes ns t) + to_next ns ts)
        ≤ length (pick b ((suc p + length (own_bytes ns t) + to_next ns ts) ∷ own_bytes ns t ++ token_bytes ns (suc p + length (own_bytes ns t)) ts) (own_bytes ns t ++ token_bytes ns (p + length (own_bytes ns t)) ts))
    go true h = omega arith
    go false h = omega (arith, length-append (own_bytes ns t) (token_bytes ns (p + length (own_bytes ns t)) ts))

fits_go : (ks ns : List (List ℕ)) (p : ℕ) (t : Token) (ts : List Token) (b : Bool) → begins? t ≡ b → written ks t ≡ own_bytes ns t → until_next (after ks t) ts ≡ to_next ns ts → p + length (token_bytes ns p (t ∷ ts)) ≤ 255
    → ((n : ℕ) → n + length (token_bytes ns n ts) ≤ 255 → with_offsets (after ks t) n ts ≡ token_bytes ns n ts) → with_offsets ks p (t ∷ ts) ≡ token_bytes ns p (t ∷ ts)
unfolding with_offsets token_bytes
fits_go ks ns p t ts true e w x h ih =
    let v = own_bytes ns t in
    let n = suc p + length v in
    let g : p + suc (length (v ++ token_bytes ns n ts)) ≤ 255 = rw e at h in
    let s : n + length (token_bytes ns n ts) ≤ 255 = omega (arith, length-append v (token_bytes ns n ts)) in
    let o : low (n + until_next (after ks t) ts) ≡ n + to_next ns ts =
    ap (λ (y : ℕ). low (n + y)) x ∙ low_small (n + to_next ns ts) (omega (arith, next_within ns n ts)) in
    rw (e, w) (ap (λ (x : ℕ). x ∷ v ++ with_offsets (after ks t) n ts) o ∙ ap (λ (l : List ℕ). (n + to_next ns ts) ∷ v ++ l) (ih n s))
fits_go ks ns p t ts false e w x h ih =
    let v = own_bytes ns t in
    let n = p + length v in
    let g : p + length (v ++ token_bytes ns n ts) ≤ 255 = rw e at h in
    let s : n + length (token_bytes ns n ts) ≤ 255 = omega (arith, length-append v (token_bytes ns n ts)) in
    rw (e, w) (ap (λ (l : List ℕ). v ++ l) (ih n s))

fits_over : (ks ns : List (List ℕ)) (p : ℕ) (ts : List Token) → ns ≡ add_names ks ts → length ns ≤ 256 → p + length (token_bytes ns p ts) ≤ 255 → with_offsets ks p ts ≡ token_bytes ns p ts
unfolding with_offsets token_bytes
fits_over ks ns p [] e n h = refl
fits_over ks ns p (t ∷ ts) e n h =
    let f : ns ≡ add_names (after ks t) ts = e ∙ add_one_by_one ks t ts in
    fits_go ks ns p t ts (begins? t) refl (written_own ks ns t ts f n) (next_own (after ks t) ns ts f) h (λ m k. fits_over (after ks t) ns m ts f n k)

-- a line of at most 255 bytes over at most 256 names is written as it is
pub line_fits : (ks : List (List ℕ)) (n : ℕ) (ts : List Token) → length (add_names ks ts) ≤ 256 → length (line_bytes (add_names ks ts) n ts) ≤ 255
    → written_line ks n ts ≡ line_bytes (add_names ks ts) n ts
unfolding written_line line_bytes
line_fits ks n ts h k =
    let e : with_offsets ks 3 ts ≡ token_bytes (add_names ks ts) 3 ts = fits_over ks (add_names ks ts) 3 ts refl h (omega arith) in
    let z : low (3 + length (with_offsets ks 3 ts)) ≡ 3 + length (token_bytes (add_names ks ts) 3 ts) =
    ap (λ (l : List ℕ). low (3 + length l)) e ∙ low_small (3 + length (token_bytes (add_names ks ts) 3 ts)) (omega arith) in
    ap (λ (x : ℕ). n % 256 ∷ n / 256 ∷ x ∷ with_offsets ks 3 ts) z ∙ ap (λ (l : List ℕ). n % 256 ∷ n / 256 ∷ (3 + length (token_bytes (add_names ks ts) 3 ts)) ∷ l) e

-- its length is the line's in any case
pub line_size : (ks : List (List ℕ)) (n : ℕ) (ts : List Token) → length (written_line ks n ts) ≡ length (line_bytes (add_names ks ts) n ts)
unfolding written_line line_bytes
line_size ks n ts = ap (λ (x : ℕ). suc (suc (suc x))) (offsets_size ks (add_names ks ts) 3 ts refl)

-- ---- a byte put over the first of some written bytes

pub sets_set : (l : List ℕ) (n i v : ℕ) (xs : List ℕ) → n < i → set (sets l i xs) n v ≡ sets (set l n v) i xs
sets_set l n i v [] h = refl
sets_set l n i v (x ∷ xs) h = sets_set (set l i x) n (suc i) v xs (omega arith) ∙ ap (λ (k : List ℕ). sets k (suc i) xs) (set_comm l i n x v (λ e. omega arith))

-- the offset is put in at the end
pub patched : {o₁ o₂ : List ℕ} (o : List ℕ) (n b v : ℕ) (xs : List ℕ) → o₁ ≡ sets o n (b ∷ xs) → o₂ ≡ set o₁ n v → o₂ ≡ sets o n (v ∷ xs)
patched o n b v xs p q = q ∙ ap (λ (l : List ℕ). set l n v) p ∙ sets_set (set o n b) n (suc n) v xs (omega arith) ∙ ap (λ (l : List ℕ). sets l (suc n) xs) (set-set o n b v)

-- ---- the number of a line

-- the high byte of a line's number is a byte
pub high_byte : (n : ℕ) → n ≤ direct_number → low (n / 256) ≡ n / 256
unfolding low
high_byte n h = mod-eq_of_lt (below n h)
  where
    below : (n : ℕ) → n ≤ direct_number → n / 256 < 256
    below n h = omega (arith, div-add-mod n 256)
