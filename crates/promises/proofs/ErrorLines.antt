-- Error lines (document 02, §9): what is made of a wrong text is one, no well-formed line is, and which lines can be listed.
use Rattle.std.specs.Prelude.{ℕ, suc, ◌+◌, ◌%◌, ◌≤◌, ◌<◌, ◌≡◌, refl, Bool, true, false, not, List, [], ◌∷◌, ◌++◌, T, eqb, leb, length, take, get_or}
use Rattle.std.proofs.Common.{arith, subst, sym, ap, ◌∙◌, inl, inr, T_not, eqb→eq, le→leb, length-append, take_at, eq-eqb, ne_eqb, leb-true, leb-false, le-leb}
use Rattle.std.proofs.Math.Dec.{not_T}
use Rattle.std.proofs.lemmas.Bool.{lt-leb}
use Rattle.paper.specs.Bytes.{pick, bytes, blank, run, every}
use Rattle.paper.specs.Classes.{unfit}
use Rattle.paper.specs.Tokens.{Token, statement, class}
use Rattle.paper.specs.Items.{raw_byte?}
use Rattle.paper.specs.Line.{own_bytes, begins?, token_bytes, line_bytes, line_number, lawful_number?}
use Rattle.paper.specs.WellFormed.{Formed, formed?}
use Rattle.paper.specs.Listing.{decimal, listing_text, listing, direct_listing}
use Rattle.paper.specs.Errors.{error_token, flipped, marked_at, error_line, keepable?, error_size, error_text, error_line?, listable?, line_text, line_listing}
use Rattle.paper.specs.Store.{whole_line?}
use Rattle.paper.specs.Open.{all_Bytes, all_Words}
use Rattle.laws.specs.Tests.{and_left, and_right, and_both, is_true, is_false, as_T, or_else}
use Rattle.laws.specs.Runs.{All, all_every, all_append, all_take, all_drop, run_all}
use Rattle.promises.specs.Terms.{Listable, AllListable, SomeUnlistable}
use Rattle.grounds.specs.Lists.{or_left, or_right, every_member, some_fails}
use Rattle.promises.proofs.Tested.{Says}
use Rattle.grounds.proofs.Shaped.{Start, no_start, with_word, with_name}
use Rattle.grounds.proofs.RoundTrip.{begun}
use Rattle.grounds.proofs.WellFormedTest.{test_says, says_test}
use Rattle.promises.proofs.Editing.{number_is}

-- ---- how one is made

-- a byte flipped twice is the byte
pub flipped_twice : (b : ℕ) → b < 256 → flipped (flipped b) ≡ b
unfolding flipped
flipped_twice b h = go (leb 128 b) refl
  where
    go : (x : Bool) → leb 128 b ≡ x → pick (leb 128 (pick x (b % 128) (b + 128))) (pick x (b % 128) (b + 128) % 128) (pick x (b % 128) (b + 128) + 128) ≡ b
    go true e = let k : 128 ≤ b = leb-true 128 b e in rw (lt-leb 128 (b % 128) (omega arith)) (omega arith)
    go false e = let k : b < 128 = leb-false 128 b e in rw (le-leb 128 (b + 128) (omega arith)) (omega arith)

-- 9B comes of 1B alone
no_mark : (b : ℕ) → (b ≡ 0x1b → ⊥) → raw_byte? (flipped b) ≡ true
unfolding flipped raw_byte?
no_mark b h = go (leb 128 b) refl
  where
    go : (x : Bool) → leb 128 b ≡ x → not (eqb (pick x (b % 128) (b + 128)) 0x9b) ≡ true
    go true e = ap not (ne_eqb (b % 128) 0x9b (λ k. omega arith))
    go false e = ap not (ne_eqb (b + 128) 0x9b (λ k. h (omega arith)))

-- so a text that can be kept has no 9B when it is marked
pub marked_raw : (place : ℕ) (text : List ℕ) → T (keepable? place text) → All raw_byte? (marked_at place text)
unfolding marked_at keepable?
marked_raw place text t =
    let a : All raw_byte? text = all_every raw_byte? text (and_left (every raw_byte? text) _ t) in
    let b : get_or text place blank ≡ 0x1b → ⊥ = (λ e. T_not (eqb (get_or text place blank) 0x1b) (and_right (every raw_byte? text) _ t) (as_T _ (eq-eqb _ _ e))) in
    all_append raw_byte? (take place text) _ (all_take raw_byte? place text a) (no_mark (get_or text place blank) b, all_drop raw_byte? (suc place) text a)

mark_ends : raw_byte? 0x9b ≡ false
unfolding raw_byte?
mark_ends = refl

-- what is made of a number and a text without 9B: an error line with that number and text, as long as it says
pub record Made (n : ℕ) (text : List ℕ) (l : List ℕ) : Type 0 where
  pub error : T (error_line? l)
  pub text_is : error_text l ≡ text
  pub number : line_number l ≡ n
  pub whole : T (lawful_number? n) → T (whole_line? l)

pub made_error : (n : ℕ) (text : List ℕ) → All raw_byte? text → Made n text (error_line n text)
unfolding error_line error_line? error_size error_text whole_line?
made_error n text a =
    let l : List ℕ = error_line n text in
    let size : 6 + length text ≡ length l = omega (arith, length-append text (0x9b ∷ [])) in
    let same : T (eqb (6 + length text) (length l)) = as_T _ (eq-eqb _ _ size) in
    let raw : run raw_byte? (text ++ 0x9b ∷ []) ≡ length text = run_all raw_byte? text (0x9b ∷ []) a mark_ends in
    let num : line_number l ≡ n = number_is n (6 + length text) ((6 + length text) ∷ error_token ∷ text ++ 0x9b ∷ []) in
    record {
      error =
          and_both (eqb (6 + run raw_byte? (text ++ 0x9b ∷ [])) (length l)) _ (as_T _ (eq-eqb _ _ (ap (λ (k : ℕ). 6 + k) raw ∙ size)))
          (and_both (eqb (6 + length text) (length l)) _ same (and_both (eqb (6 + length text) (length l)) _ same tt));
      text_is = take_at text (0x9b ∷ []) (run raw_byte? (text ++ 0x9b ∷ [])) (sym raw);
      number = num;
      whole = (λ h. and_both (leb 6 (length l)) _ (le→leb 6 (length l) (omega arith)) (and_both (eqb (6 + length text) (length l)) _ same (subst (λ (z : ℕ). T (lawful_number? z)) (sym num) h)));
    }

-- its listing
pub error_lists : (ns : List (List ℕ)) (n : ℕ) (text l : List ℕ) → Made n text l → line_listing ns l ≡ decimal 5 n ++ blank ∷ (bytes "ERROR- " ++ text)
unfolding line_listing line_text
error_lists ns n text l m = rw (m.number, is_true (error_line? l) m.error, m.text_is)

-- ---- no line is both

-- an error line has 37 there
token_is : (l : List ℕ) → T (error_line? l) → get_or l 4 0 ≡ error_token
unfolding error_line?
token_is l t =
    let a = and_right (eqb (6 + error_size l) (length l)) _ t in
    let b = and_right (eqb (get_or l 2 0) (length l)) _ a in
    eqb→eq (get_or l 4 0) error_token (and_right (eqb (get_or l 3 0) (length l)) _ b)

-- 37 is the word of no statement
no_such_word : T (not (eqb (class (statement error_token)) unfit)) → ⊥
unfolding class all_Bytes all_Words
no_such_word t = t

no_error_token : (ns : List (List ℕ)) (n : ℕ) (ts : List Token) → Start ts → get_or (line_bytes ns n ts) 4 0 ≡ error_token → ⊥
unfolding line_bytes token_bytes own_bytes begins?
no_error_token ns n ts no_start e = omega arith
no_error_token ns n ts (with_word k r h) e = no_such_word (subst (λ (z : ℕ). T (not (eqb (class (statement z)) unfit))) e h)
no_error_token ns n ts (with_name m r) e = omega arith

-- a well-formed line, whatever its number may be, is no error line
pub never_both : {lawful? : ℕ → Bool} (ns : List (List ℕ)) (l : List ℕ) → Formed lawful? ns l → error_line? l ≡ false
never_both ns l w =
    is_false (error_line? l)
    (not_T (error_line? l)
    (λ t. no_error_token ns w.number w.tokens (begun ns w.items w.tokens w.lawful w.right) (ap (λ (z : List ℕ). get_or z 4 0) w.bytes ∙ token_is l t)))

-- ---- lines that can be listed

-- the test says what the definition says
pub listable_says : {lawful? : ℕ → Bool} (ns : List (List ℕ)) (l : List ℕ) → T (listable? lawful? ns l) → Listable lawful? ns l
unfolding listable?
listable_says {lawful? = lawful?} ns l t =
    or_else (formed? lawful? ns l) _ t (λ w. inl (test_says ns l w)) (λ e. inr (and_left (lawful? (line_number l)) _ e, and_right (lawful? (line_number l)) _ e))

-- and the other way round
pub says_listable : {lawful? : ℕ → Bool} (ns : List (List ℕ)) (l : List ℕ) → Listable lawful? ns l → T (listable? lawful? ns l)
unfolding listable?
says_listable {lawful? = lawful?} ns l (inl w) = or_left (formed? lawful? ns l) _ (says_test ns l w)
says_listable {lawful? = lawful?} ns l (inr e) = or_right (formed? lawful? ns l) _ (and_both (lawful? (line_number l)) _ e.0 e.1)

-- one that is no error line is well-formed
pub formed_else : {lawful? : ℕ → Bool} (ns : List (List ℕ)) (l : List ℕ) → error_line? l ≡ false → Listable lawful? ns l → Formed lawful? ns l
formed_else ns l e (inl w) = w
formed_else ns l e (inr x) = absurd (subst T e x.1)

-- and lists as its statements,
pub text_else : (ns : List (List ℕ)) (l : List ℕ) → error_line? l ≡ false → line_text ns l ≡ direct_listing ns l
unfolding line_text
text_else ns l e = rw e

-- after its number
pub listing_else : (ns : List (List ℕ)) (l : List ℕ) → error_line? l ≡ false → line_listing ns l ≡ listing ns l
unfolding line_listing line_text listing listing_text direct_listing
listing_else ns l e = rw e

-- lines that all pass the test can all be listed
pub all_listable : (ns ls : List (List ℕ)) → T (every (listable? lawful_number? ns) ls) → AllListable ns ls
all_listable ns ls t l m = listable_says ns l (every_member (listable? lawful_number? ns) ls t l m)

-- and of others there is one that cannot
pub says_unlistable : (ns ls : List (List ℕ)) → Says (not (every (listable? lawful_number? ns) ls)) (SomeUnlistable ns ls)
says_unlistable ns ls = go (every (listable? lawful_number? ns) ls) refl
  where
    go : (b : Bool) → every (listable? lawful_number? ns) ls ≡ b → Says (not b) (SomeUnlistable ns ls)
    go true e = ((λ x. absurd (subst T (sym x) tt)), (λ x s. s.2 (all_listable ns ls (as_T _ e) s.0 s.1)))
    go false e = ((λ x. let r = some_fails (listable? lawful_number? ns) ls e in (r.0, r.1, (λ w. subst T r.2 (says_listable ns r.0 w)))), (λ x. absurd (subst T x tt)))
