-- The test of well-formed lines says what the definition says.
use Rattle.std.specs.Prelude.{ℕ, ◌≡◌, refl, Bool, List, [], ◌∷◌, map, T}
use Rattle.std.proofs.Common.{subst, sym, ap, ap₂, ◌∙◌}
use Rattle.paper.specs.Bytes.{same, every}
use Rattle.paper.specs.Tokens.{Token, as_read}
use Rattle.paper.specs.Items.{Item, item}
use Rattle.paper.specs.Machine.{Taken, Run, left, done, bad, read}
use Rattle.paper.specs.Grammar.{Gives, look_item, start}
use Rattle.paper.specs.Line.{line_bytes, line_number, line_tokens}
use Rattle.paper.specs.WellFormed.{tokens_of, right_token?, Formed, items_of, gives_back?, formed?}
use Rattle.laws.specs.Tests.{and_left, and_right, and_both, as_T, is_true}
use Rattle.laws.specs.Names.{same_self, same_eq}
use Rattle.grounds.specs.TokenRuns.{on_taken, on_run}
use Rattle.grounds.specs.Given.{look_token, tokens_given, all_back}
use Rattle.grounds.proofs.RoundTrip.{token_of, as_tokens, tokens_same, Known, known, same_run, decoded, numbered_so}

-- ---- what passes is well-formed

back_says : {lawful? : ℕ → Bool} (ns : List (List ℕ)) (l : List ℕ) (is : List Item) (r : Run Gives Item) → read look_item start is ≡ r → T (gives_back? ns l r) → T (lawful? (line_number l)) → Formed lawful? ns l
unfolding gives_back?
back_says ns l is (left ts []) e t h =
    record {
      number = line_number l;
      items = is;
      tokens = tokens_of ts;
      lawful = record { taken = ts; reads = e; gives = refl };
      bytes = same_eq (line_bytes ns (line_number l) (tokens_of ts)) l (is_true (same (line_bytes ns (line_number l) (tokens_of ts)) l) (and_left (same (line_bytes ns (line_number l) (tokens_of ts)) l) _ t));
      lawful_number = h;
      right = and_right (same (line_bytes ns (line_number l) (tokens_of ts)) l) _ t;
    }
back_says ns l is (left ts (f ∷ fs)) e t h = absurd t
back_says ns l is (done ts r) e t h = absurd t
back_says ns l is (bad m ts r) e t h = absurd t

-- a line that passes the test is well-formed, whichever numbers are lawful
pub test_says : {lawful? : ℕ → Bool} (ns : List (List ℕ)) (l : List ℕ) → T (formed? lawful? ns l) → Formed lawful? ns l
unfolding formed?
test_says {lawful? = lawful?} ns l t =
    back_says ns l (items_of (line_tokens ns l)) (read look_item start (items_of (line_tokens ns l))) refl (and_right (lawful? (line_number l)) _ t) (and_left (lawful? (line_number l)) _ t)

-- ---- and what is well-formed passes

items_read : (ts : List Token) → map token_of (items_of ts) ≡ map as_read ts
unfolding items_of item token_of
items_read [] = refl
items_read (t ∷ ts) = ap (λ (l : List Token). as_read t ∷ l) (items_read ts)

-- a well-formed line passes the test
pub says_test : {lawful? : ℕ → Bool} (ns : List (List ℕ)) (l : List ℕ) → Formed lawful? ns l → T (formed? lawful? ns l)
unfolding formed? gives_back? on_run
says_test {lawful? = lawful?} ns l w =
    let es : List (Taken Gives Token) = on_taken token_of w.lawful.taken in
    let js : List Token = map token_of w.items in
    let e : read look_token start js ≡ left es [] = sym (as_tokens w.items) ∙ ap (on_run token_of) w.lawful.reads in
    let g : tokens_given es ≡ w.tokens = sym (tokens_same w.lawful.taken) ∙ w.lawful.gives in
    let k : Known ns js es = known ns js es e (subst (λ (z : List Token). T (every (right_token? ns) z)) (sym g) w.right) in
    let is : List Item = items_of (line_tokens ns l) in
    let j : map token_of is ≡ js = items_read (line_tokens ns l) ∙ ap (map as_read) (decoded ns l w ∙ sym g) ∙ all_back es k.fit ∙ sym k.are in
    let x = same_run (read look_item start is) es (as_tokens is ∙ ap (read look_token start) j ∙ e) in
    let ts : tokens_of x.0 ≡ w.tokens = tokens_same x.0 ∙ ap tokens_given x.1.1 ∙ g in
    let b : line_bytes ns (line_number l) (tokens_of x.0) ≡ l = ap₂ (line_bytes ns) (numbered_so ns l w) ts ∙ w.bytes in
    and_both (lawful? (line_number l)) (gives_back? ns l (read look_item start is)) (subst (λ (z : ℕ). T (lawful? z)) (sym (numbered_so ns l w)) w.lawful_number)
    (subst (λ (r : Run Gives Item). T (gives_back? ns l r)) (sym x.1.0)
    (and_both (same (line_bytes ns (line_number l) (tokens_of x.0)) l) (every (right_token? ns) (tokens_of x.0))
    (subst (λ (z : List ℕ). T (same z l)) (sym b) (as_T (same l l) (same_self l))) (subst (λ (z : List Token). T (every (right_token? ns) z)) (sym ts) w.right)))
