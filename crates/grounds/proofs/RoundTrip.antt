-- A well-formed line, listed and read again, is the same line, and adds no name; so no two lines have one listing.
use Rattle.std.specs.Prelude.{ℕ, zero, suc, ◌+◌, ◌*◌, ◌/◌, ◌%◌, ◌^◌, ◌≤◌, ◌<◌, ◌≡◌, refl, Bool, true, false, List, [], ◌∷◌, ◌++◌, map, T, ltb, length, take, drop}
use Rattle.std.proofs.Common.{pow-suc, div-lt_iff_lt-mul, arith, subst, sym, ap, ap₂, ◌∙◌, leb→le, le-leb, lt-ltb, le-ltb, ltb-true, ltb-false}
use Rattle.std.proofs.Math.Seq.{take-append_seam}
use Rattle.paper.specs.Bytes.{blank, digit?, run, every}
use Rattle.paper.specs.Classes.{colon}
use Rattle.paper.specs.Tokens.{Token, statement, assigned, operator, variable, constant, string, raw, out_of_range, unreadable, out_of_range?, class}
use Rattle.paper.specs.Names.{known?, sound_names, add_name, add_names}
use Rattle.paper.specs.Items.{Item, items, scan, opens}
use Rattle.paper.specs.Machine.{Taken, Run, left, done, bad, read}
use Rattle.paper.specs.Grammar.{Gives, given, look_item, start}
use Rattle.paper.specs.Line.{to_next, line_bytes, line_number, lawful_number?, line_tokens}
use Rattle.paper.specs.Constants.{value}
use Rattle.paper.specs.Listing.{decimal, body_text, listing_text, listing}
use Rattle.paper.specs.WellFormed.{tokens_of, Lawful, right_token?, Formed, WellFormed}
use Rattle.paper.specs.Calls.{tokens, outcome, translate}
use Rattle.laws.specs.Tests.{and_left, and_right, is_true}
use Rattle.laws.specs.Runs.{All, all_append, run_all, past}
use Rattle.grounds.specs.ConstantText.{value_append}
use Rattle.grounds.specs.Place.{by_class, sources, told, Told}
use Rattle.grounds.specs.InRange.{out?, NoneOut, taken_by, same_in_range}
use Rattle.grounds.specs.TokenRuns.{on_taken, on_run, through, read_through, AllFit, RunFits}
use Rattle.grounds.specs.Given.{look_token, fits, tokens_given, run_fits, all_text, all_right, taken_fit}
use Rattle.grounds.specs.Neighbours.{Apart, run_apart}
use Rattle.grounds.proofs.Closed.{closed, run_closed}
use Rattle.grounds.specs.WordReading.{read_tokens}
use Rattle.grounds.proofs.Reading.{Fine, Rest, rescan}
use Rattle.grounds.specs.Decoding.{Shapes, line_decode, line_number_of}
use Rattle.grounds.proofs.Shaped.{Start, starts, shapes, starts_statement}

-- the token of an item
unfoldable pub token_of : Item → Token
token_of i = i.token

-- ---- runs over items and over tokens

-- a run over items is the run over their tokens
pub as_tokens : (is : List Item) → on_run token_of (read look_item start is) ≡ read look_token start (map token_of is)
unfolding look_item look_token by_class through token_of
as_tokens is = read_through look_token token_of start is

-- and gives the same tokens
pub tokens_same : (es : List (Taken Gives Item)) → tokens_of es ≡ tokens_given (on_taken token_of es)
unfolding tokens_of tokens_given on_taken token_of
tokens_same [] = refl
tokens_same (t ∷ ts) = ap (λ (l : List Token). given t.gave t.from.token ∷ l) (tokens_same ts)

-- ---- what is known of a lawful run over tokens

-- what is known of a lawful run over tokens, each of them right
pub record Known (ns : List (List ℕ)) (js : List Token) (es : List (Taken Gives Token)) : Type 0 where
  pub fit : AllFit fits class es
  pub are : js ≡ sources es
  pub side_by_side : Apart colon (sources es)
  pub ended : T (closed (map class (sources es)))
  pub fine : Fine ns (sources es)

fine_of : (ns : List (List ℕ)) (es : List (Taken Gives Token)) → AllFit fits class es → T (every (right_token? ns) (sources es)) → Fine ns (sources es)
unfolding sources every
fine_of ns [] g r = tt
fine_of ns (x ∷ xs) g r =
    ((taken_fit x.gave (class x.from) g.0, and_left (right_token? ns x.from) (every (right_token? ns) (sources xs)) r), fine_of ns xs g.1 (and_right (right_token? ns x.from) (every (right_token? ns) (sources xs)) r))

-- every such run has all of this
pub known : (ns : List (List ℕ)) (js : List Token) (es : List (Taken Gives Token)) → read look_token start js ≡ left es [] → T (every (right_token? ns) (tokens_given es)) → Known ns js es
known ns js es e r =
    let g : AllFit fits class es = subst (RunFits fits class) e (run_fits start js) in
    let a : js ≡ sources es = subst (Told look_token start js) e (told look_token start js) in
    record {
      fit = g;
      are = a;
      side_by_side = run_apart js es [] e;
      ended = subst (λ (l : List Token). T (closed (map class l))) a (run_closed js es e);
      fine = fine_of ns es g (subst T (all_right ns es g) r);
    }

-- Lawful, right tokens begin with a statement's word or with a name that is assigned to.
pub begun : (ns : List (List ℕ)) (is : List Item) (ts : List Token) → Lawful is ts → T (every (right_token? ns) ts) → Start ts
unfolding on_run
begun ns is ts l r =
    let es : List (Taken Gives Token) = on_taken token_of l.taken in
    let js : List Token = map token_of is in
    let e : read look_token start js ≡ left es [] = sym (as_tokens is) ∙ ap (on_run token_of) l.reads in
    let g : tokens_given es ≡ ts = sym (tokens_same l.taken) ∙ l.gives in
    let k : Known ns js es = known ns js es e (subst (λ (z : List Token). T (every (right_token? ns) z)) (sym g) r) in
    subst Start g (starts ns es k.fit k.side_by_side k.fine)

-- ---- read again

all_read : (is : List Item) → read_tokens is ≡ map token_of is
unfolding read_tokens token_of
all_read [] = refl
all_read (i ∷ is) = ap (λ (l : List Token). i.token ∷ l) (all_read is)

-- the text of a lawful line's tokens, scanned: the tokens of its items
scanned : (ns : List (List ℕ)) → T (sound_names ns) → (js : List Token) (es : List (Taken Gives Token)) → Known ns js es → (p : ℕ) → map token_of (items p (body_text (tokens_given es))) ≡ js
unfolding items Rest opens
scanned ns s js es k p =
    sym (all_read (items p (body_text (tokens_given es))))
    ∙ ap (λ (l : List ℕ). read_tokens (scan 0 true p l)) (all_text es k.fit)
    ∙ rescan ns s (sources es) colon k.side_by_side k.fine k.ended tt tt p
    ∙ sym k.are

-- a run over items that is this run over tokens
pub same_run : (r : Run Gives Item) (es : List (Taken Gives Token)) → on_run token_of r ≡ left es [] → (xs : List (Taken Gives Item)) × ((r ≡ left xs []) × (on_taken token_of xs ≡ es))
unfolding on_run
same_run (left xs []) es e = (xs, (refl, cc))
same_run (left xs (f ∷ s)) es e = let z : ◌≡◌ {A = ℕ} 0 1 = cc in absurd (omega arith)
same_run (done xs r) es e = let z : ◌≡◌ {A = ℕ} 0 1 = cc in absurd (omega arith)
same_run (bad k xs r) es e = let z : ◌≡◌ {A = ℕ} 0 1 = cc in absurd (omega arith)

-- no constant out of range among right tokens
in_range_token : (ns : List (List ℕ)) (t : Token) → T (right_token? ns t) → out_of_range? t ≡ false
unfolding right_token? out_of_range?
in_range_token ns (statement k) r = refl
in_range_token ns (assigned n) r = refl
in_range_token ns (operator j) r = refl
in_range_token ns (variable n) r = refl
in_range_token ns (constant b) r = refl
in_range_token ns (string b) r = refl
in_range_token ns (raw b) r = refl
in_range_token ns out_of_range r = absurd r
in_range_token ns unreadable r = refl

none_out : (ns : List (List ℕ)) (xs : List (Taken Gives Item)) → Fine ns (sources (on_taken token_of xs)) → NoneOut xs
unfolding on_taken sources token_of out?
none_out ns [] f = tt
none_out ns (x ∷ xs) f = (in_range_token ns x.from.token f.0.1, none_out ns xs f.1)

-- The body of a line: the text of lawful, right tokens is translated into these tokens, wherever it stands.
pub translated_again : (ns : List (List ℕ)) → T (sound_names ns) → (is : List Item) (ts : List Token) → Lawful is ts → T (every (right_token? ns) ts) → (p : ℕ) → translate p (body_text ts) ≡ tokens ts
unfolding translate outcome on_run taken_by
translated_again ns s is ts l r p =
    let es : List (Taken Gives Token) = on_taken token_of l.taken in
    let js : List Token = map token_of is in
    let e : read look_token start js ≡ left es [] = sym (as_tokens is) ∙ ap (on_run token_of) l.reads in
    let g : tokens_given es ≡ ts = sym (tokens_same l.taken) ∙ l.gives in
    let k : Known ns js es = known ns js es e (subst (λ (z : List Token). T (every (right_token? ns) z)) (sym g) r) in
    let is' : List Item = items p (body_text ts) in
    let again : on_run token_of (read look_item start is') ≡ left es [] =
    as_tokens is' ∙ ap (read look_token start) (ap (λ (z : List Token). map token_of (items p (body_text z))) (sym g) ∙ scanned ns s js es k p) ∙ e in
    let x = same_run (read look_item start is') es again in
    let f : Fine ns (sources (on_taken token_of x.0)) = subst (λ (z : List (Taken Gives Token)). Fine ns (sources z)) (sym x.1.1) k.fine in
    let o : NoneOut (taken_by (read look_item start is')) = subst (λ (r : Run Gives Item). NoneOut (taken_by r)) (sym x.1.0) (none_out ns x.0 f) in
    ap outcome (same_in_range start is' o ∙ x.1.0)
    ∙ ap tokens (tokens_same x.0 ∙ ap tokens_given x.1.1 ∙ g)

-- no name is added
known_stays : (ns : List (List ℕ)) (n : List ℕ) → T (known? ns n) → add_name ns n ≡ ns
unfolding add_name
known_stays ns n k = rw (is_true (known? ns n) k)

-- right tokens add no name
pub no_new_names : (ns : List (List ℕ)) (ts : List Token) → T (every (right_token? ns) ts) → add_names ns ts ≡ ns
unfolding add_names every right_token?
no_new_names ns [] r = refl
no_new_names ns (statement k ∷ ts) r = no_new_names ns ts r
no_new_names ns (assigned n ∷ ts) r =
    let a = known_stays ns n (and_left (known? ns n) _ (and_left (right_token? ns (assigned n)) (every (right_token? ns) ts) r)) in
    ap (λ (z : List (List ℕ)). add_names z ts) a ∙ no_new_names ns ts (and_right (right_token? ns (assigned n)) (every (right_token? ns) ts) r)
no_new_names ns (operator j ∷ ts) r = no_new_names ns ts r
no_new_names ns (variable n ∷ ts) r =
    let a = known_stays ns n (and_left (known? ns n) (every (right_token? ns) ts) r) in
    ap (λ (z : List (List ℕ)). add_names z ts) a ∙ no_new_names ns ts (and_right (known? ns n) (every (right_token? ns) ts) r)
no_new_names ns (constant b ∷ ts) r = no_new_names ns ts (and_right (right_token? ns (constant b)) (every (right_token? ns) ts) r)
no_new_names ns (string b ∷ ts) r = no_new_names ns ts (and_right (right_token? ns (string b)) (every (right_token? ns) ts) r)
no_new_names ns (raw b ∷ ts) r = no_new_names ns ts (and_right (right_token? ns (raw b)) (every (right_token? ns) ts) r)
no_new_names ns (out_of_range ∷ ts) r = absurd r
no_new_names ns (unreadable ∷ ts) r = absurd r

-- ---- a well-formed line, whichever numbers are lawful

-- its own tokens are the ones that it was made of
pub decoded : {lawful? : ℕ → Bool} (ns : List (List ℕ)) (l : List ℕ) (w : Formed lawful? ns l) → line_tokens ns l ≡ w.tokens
unfolding on_run
decoded ns l w =
    let es : List (Taken Gives Token) = on_taken token_of w.lawful.taken in
    let js : List Token = map token_of w.items in
    let e : read look_token start js ≡ left es [] = sym (as_tokens w.items) ∙ ap (on_run token_of) w.lawful.reads in
    let g : tokens_given es ≡ w.tokens = sym (tokens_same w.lawful.taken) ∙ w.lawful.gives in
    let k : Known ns js es = known ns js es e (subst (λ (z : List Token). T (every (right_token? ns) z)) (sym g) w.right) in
    let sh : Shapes ns (tokens_given es) = shapes ns es k.fit colon k.side_by_side k.fine k.ended tt tt in
    ap (line_tokens ns) (sym w.bytes)
    ∙ line_decode ns w.number w.tokens (subst (Shapes ns) g sh) (ap (to_next ns) (sym g) ∙ starts_statement ns es k.fit k.side_by_side k.fine)

-- the number of a well-formed line
pub numbered_so : {lawful? : ℕ → Bool} (ns : List (List ℕ)) (l : List ℕ) (w : Formed lawful? ns l) → line_number l ≡ w.number
numbered_so ns l w = ap line_number (sym w.bytes) ∙ line_number_of ns w.number w.tokens

-- ---- the line's number in the text

last_digit : (xs : List ℕ) (d : ℕ) → value 0 (xs ++ (48 + d) ∷ []) ≡ value 0 xs * 10 + d
unfolding value
last_digit xs d = value_append xs ((48 + d) ∷ []) 0 ∙ omega arith

below_ten : (n : ℕ) → n < 10 → digit? (48 + n) ≡ true
unfolding digit?
below_ten n h = rw (le-leb 48 (48 + n) (omega arith), le-leb (48 + n) 57 (omega arith))

-- a number in decimal: digits, and worth the number
pub record Decimal (k n : ℕ) : Type 0 where
  pub digits : All digit? (decimal k n)
  pub worth : value 0 (decimal k n) ≡ n

decimal_one : (k n : ℕ) → n < 10 → Decimal (suc k) n
unfolding decimal value
decimal_one k n h = record { digits = rw (lt-ltb n 10 h) (below_ten n h, tt); worth = rw (lt-ltb n 10 h) (omega arith) }

decimal_more : (k n : ℕ) → 10 ≤ n → Decimal k (n / 10) → Decimal (suc k) n
unfolding decimal
decimal_more k n h d =
    record {
      digits = rw (le-ltb n 10 h) (all_append digit? (decimal k (n / 10)) ((48 + n % 10) ∷ []) d.digits (below_ten (n % 10) (omega arith), tt));
      worth = rw (le-ltb n 10 h) (last_digit (decimal k (n / 10)) (n % 10) ∙ ap (λ (z : ℕ). z * 10 + n % 10) d.worth ∙ omega arith);
    }

decimal_go : (k n : ℕ) (b : Bool) → ltb n 10 ≡ b → n < 10 ^ suc (suc k) → (n / 10 < 10 ^ suc k → Decimal (suc k) (n / 10)) → Decimal (suc (suc k)) n
decimal_go k n true e h ih = decimal_one (suc k) n (ltb-true n 10 e)
decimal_go k n false e h ih =
    decimal_more (suc k) n (ltb-false n 10 e) (ih ((div-lt_iff_lt-mul {k = 10} {x = n} {y = 10 ^ suc k} (omega arith)).1 (subst (λ (z : ℕ). n < z) (pow-suc 10 (suc k)) h)))

decimal_is : (k n : ℕ) → n < 10 ^ suc k → Decimal (suc k) n
decimal_is zero n h = decimal_one zero n (omega arith)
decimal_is (suc k) n h = decimal_go k n (ltb n 10) refl h (λ z. decimal_is k (n / 10) z)

-- a line's number as it is listed
pub number_text : (n : ℕ) → T (lawful_number? n) → Decimal 5 n
unfolding lawful_number?
number_text n h = let m = leb→le n 32767 h in decimal_is 4 n (omega arith)

-- a text that is digits, a blank and more: its number, and what stands after the blank
unfoldable text_number : List ℕ → ℕ
text_number s = value 0 (take (run digit? s) s)

unfoldable text_body : List ℕ → List ℕ
text_body s = drop (suc (run digit? s)) s

-- a blank is no digit
pub blank_no_digit : digit? blank ≡ false
unfolding digit?
blank_no_digit = refl

number_read : (n : ℕ) (ts : List Token) → T (lawful_number? n) → (text_number (listing_text n ts) ≡ n) × (text_body (listing_text n ts) ≡ body_text ts)
unfolding text_number text_body listing_text
number_read n ts h =
    let d = number_text n h in
    let r : run digit? (decimal 5 n ++ blank ∷ body_text ts) ≡ length (decimal 5 n) = run_all digit? (decimal 5 n) (blank ∷ body_text ts) d.digits blank_no_digit in
    (rw (r, take-append_seam (decimal 5 n) (blank ∷ body_text ts)) d.worth, rw (r) (past (decimal 5 n) blank (body_text ts)))

-- ---- no two well-formed lines over one sound table have the same listing

-- equal answers, equal tokens
pub tokens_apart : (xs ys : List Token) → tokens xs ≡ tokens ys → xs ≡ ys
tokens_apart xs ys e = cc

-- one listing, one line
pub one_listing : (ns : List (List ℕ)) → T (sound_names ns) → (l m : List ℕ) → WellFormed ns l → WellFormed ns m → listing ns l ≡ listing ns m → l ≡ m
unfolding listing
one_listing ns s l m v w e =
    let lt : listing_text v.number v.tokens ≡ listing_text w.number w.tokens =
    sym (ap₂ listing_text (numbered_so ns l v) (decoded ns l v)) ∙ e ∙ ap₂ listing_text (numbered_so ns m w) (decoded ns m w) in
    let a = number_read v.number v.tokens v.lawful_number in
    let b = number_read w.number w.tokens w.lawful_number in
    let n : v.number ≡ w.number = sym a.0 ∙ ap text_number lt ∙ b.0 in
    let t : body_text v.tokens ≡ body_text w.tokens = sym a.1 ∙ ap text_body lt ∙ b.1 in
    let ts : v.tokens ≡ w.tokens =
    tokens_apart v.tokens w.tokens (sym (translated_again ns s v.items v.tokens v.lawful v.right 0) ∙ ap (translate 0) t ∙ translated_again ns s w.items w.tokens w.lawful w.right 0) in
    sym v.bytes ∙ ap₂ (line_bytes ns) n ts ∙ w.bytes
