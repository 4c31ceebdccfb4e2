-- Every line that is stored is well-formed over the new names.
use Rattle.std.specs.Prelude.{ℕ, ◌≡◌, refl, Bool, true, false, not, List, [], ◌∷◌, map, T, eqb}
use Rattle.std.proofs.Common.{arith, subst, sym, ap, ◌∙◌}
use Rattle.paper.specs.Bytes.{every, among}
use Rattle.paper.specs.Classes.{unfit, numeric_variable, string_variable, array, first_numeric, first_string, first_array}
use Rattle.paper.specs.Words.{statement_word?}
use Rattle.paper.specs.Tokens.{Token, statement, assigned, operator, variable, constant, string, raw, out_of_range, unreadable, out_of_range?, class}
use Rattle.paper.specs.Names.{less_open, known?, add_name, add_names}
use Rattle.paper.specs.Items.{Item, items}
use Rattle.paper.specs.Machine.{Taken, Run, left, done, bad, read}
use Rattle.paper.specs.Grammar.{Gives, given, look_item, look_in_range, start}
use Rattle.paper.specs.Line.{line_bytes}
use Rattle.paper.specs.WellFormed.{tokens_of, Lawful, right_token?, Formed}
use Rattle.paper.specs.Calls.{tokens, outcome, translate}
use Rattle.laws.specs.Tests.{and_left, and_right, and_both}
use Rattle.laws.specs.Names.{name_passes}
use Rattle.laws.specs.Given.{operator_given}
use Rattle.promises.proofs.NameTable.{add_knows, names_keep}
use Rattle.promises.proofs.Scanned.{new_name?, scanned_right?, scanned_items, AllRight, all_right}
use Rattle.grounds.specs.Place.{sources, told, Told}
use Rattle.grounds.specs.InRange.{out?, NoneOut, Agrees, agrees}
use Rattle.grounds.specs.TokenRuns.{on_taken, on_run, AllFit, RunFits}
use Rattle.grounds.specs.Given.{look_token, fits, run_fits, taken_fit, own_given, symbol_class?, no_symbol_statement, no_symbol_name, no_symbol_number, no_symbol_quoted, no_symbol_raw}
use Rattle.grounds.proofs.RoundTrip.{token_of, as_tokens}

-- ---- an accepted text

abbrev Named : List (List ℕ) → Token → Type 0
Named ns (statement t) = Unit {0}
Named ns (assigned n) = T (known? ns n)
Named ns (operator t) = Unit {0}
Named ns (variable n) = T (known? ns n)
Named ns (constant b) = Unit {0}
Named ns (string b) = Unit {0}
Named ns (raw b) = Unit {0}
Named ns out_of_range = Unit {0}
Named ns unreadable = Unit {0}

abbrev AllNamed : List (List ℕ) → List Token → Type 0
AllNamed ns [] = Unit {0}
AllNamed ns (t ∷ ts) = Named ns t × AllNamed ns ts

all_named : (ts : List Token) (ns : List (List ℕ)) → AllNamed (add_names ns ts) ts
unfolding add_names
all_named [] ns = tt
all_named (statement t ∷ ts) ns = (tt, all_named ts ns)
all_named (assigned n ∷ ts) ns = (names_keep ts (add_name ns n) n (add_knows ns n), all_named ts (add_name ns n))
all_named (operator t ∷ ts) ns = (tt, all_named ts ns)
all_named (variable n ∷ ts) ns = (names_keep ts (add_name ns n) n (add_knows ns n), all_named ts (add_name ns n))
all_named (constant b ∷ ts) ns = (tt, all_named ts ns)
all_named (string b ∷ ts) ns = (tt, all_named ts ns)
all_named (raw b ∷ ts) ns = (tt, all_named ts ns)
all_named (out_of_range ∷ ts) ns = (tt, all_named ts ns)
all_named (unreadable ∷ ts) ns = (tt, all_named ts ns)

-- what is seen to by scanner, range and names together
own_right : (ns : List (List ℕ)) (t : Token) → T (scanned_right? t) → out_of_range? t ≡ false → T (not (eqb (class t) unfit)) → Named ns t → T (right_token? ns t)
unfolding scanned_right? out_of_range? class right_token?
own_right ns (statement k) r o c n = tt
own_right ns (assigned w) r o c n = and_both (known? ns w) (not (statement_word? (less_open w))) n (and_right (new_name? w) _ r)
own_right ns (operator j) r o c n = tt
own_right ns (variable w) r o c n = n
own_right ns (constant b) r o c n = r
own_right ns (string b) r o c n = r
own_right ns (raw b) r o c n = r
own_right ns out_of_range r o c n = let z : ◌≡◌ {A = ℕ} 0 1 = cc in absurd (omega arith)
own_right ns unreadable r o c n = absurd c

own : (ns : List (List ℕ)) (e : Gives) (t : Token) → T (fits e (class t)) → T (scanned_right? t) → out_of_range? t ≡ false → Named ns (given e t) → T (not (symbol_class? (class t))) → T (right_token? ns (given e t))
own ns e t f r o n y =
    let g : given e t ≡ t = own_given e t f y in
    subst (λ (z : Token). T (right_token? ns z)) (sym g) (own_right ns t r o (taken_fit e (class t) f) (subst (Named ns) g n))

given_right : (ns : List (List ℕ)) (e : Gives) (t : Token) → T (fits e (class t)) → T (scanned_right? t) → out_of_range? t ≡ false → Named ns (given e t) → T (right_token? ns (given e t))
unfolding class right_token? symbol_class? among
given_right ns e (operator j) f r o n = subst (λ (z : Token). T (right_token? ns z)) (sym (operator_given e j)) tt
given_right ns e (statement k) f r o n = own ns e (statement k) f r o n (no_symbol_statement k)
given_right ns e (assigned w) f r o n = own ns e (assigned w) f r o n (no_symbol_name w first_numeric first_string first_array tt tt tt)
given_right ns e (variable w) f r o n = own ns e (variable w) f r o n (no_symbol_name w numeric_variable string_variable array tt tt tt)
given_right ns e (constant b) f r o n = own ns e (constant b) f r o n no_symbol_number
given_right ns e (string b) f r o n = own ns e (string b) f r o n no_symbol_quoted
given_right ns e (raw b) f r o n = own ns e (raw b) f r o n no_symbol_raw
given_right ns e out_of_range f r o n = own ns e out_of_range f r o n no_symbol_number
given_right ns e unreadable f r o n = absurd (taken_fit e unfit f)

given_new : (e : Gives) (t : Token) → T (fits e (class t)) → T (scanned_right? t) → T (name_passes new_name? (given e t))
unfolding class symbol_class? among scanned_right? name_passes
given_new e (operator j) f r = subst (λ (z : Token). T (name_passes new_name? z)) (sym (operator_given e j)) tt
given_new e (statement k) f r = subst (λ (z : Token). T (name_passes new_name? z)) (sym (own_given e (statement k) f (no_symbol_statement k))) tt
given_new e (assigned w) f r = subst (λ (z : Token). T (name_passes new_name? z)) (sym (own_given e (assigned w) f (no_symbol_name w first_numeric first_string first_array tt tt tt))) (and_left (new_name? w) _ r)
given_new e (variable w) f r = subst (λ (z : Token). T (name_passes new_name? z)) (sym (own_given e (variable w) f (no_symbol_name w numeric_variable string_variable array tt tt tt))) r
given_new e (constant b) f r = subst (λ (z : Token). T (name_passes new_name? z)) (sym (own_given e (constant b) f no_symbol_number)) tt
given_new e (string b) f r = subst (λ (z : Token). T (name_passes new_name? z)) (sym (own_given e (string b) f no_symbol_quoted)) tt
given_new e (raw b) f r = subst (λ (z : Token). T (name_passes new_name? z)) (sym (own_given e (raw b) f no_symbol_raw)) tt
given_new e out_of_range f r = subst (λ (z : Token). T (name_passes new_name? z)) (sym (own_given e out_of_range f no_symbol_number)) tt
given_new e unreadable f r = absurd (taken_fit e unfit f)

-- ---- the run

pub record Accepts (is : List Item) (ts : List Token) : Type 0 where
  pub taken : List (Taken Gives Item)
  pub reads : read look_item start is ≡ left taken []
  pub gives : tokens_of taken ≡ ts
  pub none_out : NoneOut taken

outcome_says : (is : List Item) (r : Run Gives Item) (ts : List Token) → Agrees start is r → outcome r ≡ tokens ts → Accepts is ts
unfolding outcome
outcome_says is (left xs []) ts a h = record { taken = xs; reads = a.0; gives = cc; none_out = a.1 }
outcome_says is (left xs (f ∷ fs)) ts a h = let z : ◌≡◌ {A = ℕ} 0 1 = cc in absurd (omega arith)
outcome_says is (done xs r) ts a h = let z : ◌≡◌ {A = ℕ} 0 1 = cc in absurd (omega arith)
outcome_says is (bad k xs r) ts a h = let z : ◌≡◌ {A = ℕ} 0 1 = cc in absurd (omega arith)

-- what is translated is accepted
pub translate_says : (p : ℕ) (s : List ℕ) (ts : List Token) → translate p s ≡ tokens ts → Accepts (items p s) ts
unfolding translate
translate_says p s ts e = outcome_says (items p s) (read look_in_range start (items p s)) ts (agrees start (items p s)) e

-- what is translated is a lawful sequence
pub translated_lawful : (p : ℕ) (s : List ℕ) (ts : List Token) → translate p s ≡ tokens ts → Lawful (items p s) ts
translated_lawful p s ts e = let a = translate_says p s ts e in record { taken = a.taken; reads = a.reads; gives = a.gives }

run_right : (ns : List (List ℕ)) (xs : List (Taken Gives Item)) → AllFit fits class (on_taken token_of xs) → AllRight (sources xs) → NoneOut xs → AllNamed ns (tokens_of xs) → T (every (right_token? ns) (tokens_of xs))
unfolding tokens_of on_taken sources token_of every out?
run_right ns [] f r o n = tt
run_right ns (x ∷ xs) f r o n =
    and_both (right_token? ns (given x.gave x.from.token)) (every (right_token? ns) (tokens_of xs)) (given_right ns x.gave x.from.token f.0 r.0 o.0 n.0) (run_right ns xs f.1 r.1 o.1 n.1)

run_new : (xs : List (Taken Gives Item)) → AllFit fits class (on_taken token_of xs) → AllRight (sources xs) → T (every (name_passes new_name?) (tokens_of xs))
unfolding tokens_of on_taken sources token_of every
run_new [] f r = tt
run_new (x ∷ xs) f r =
    and_both (name_passes new_name? (given x.gave x.from.token)) (every (name_passes new_name?) (tokens_of xs)) (given_new x.gave x.from.token f.0 r.0) (run_new xs f.1 r.1)

-- what is known of the run over a text that is translated
record Ran (p : ℕ) (s : List ℕ) (ts : List Token) : Type 0 where
  pub accepts : Accepts (items p s) ts
  pub fit : AllFit fits class (on_taken token_of accepts.taken)
  pub right : AllRight (sources accepts.taken)

ran : (p : ℕ) (s : List ℕ) (ts : List Token) → translate p s ≡ tokens ts → Ran p s ts
unfolding items on_run
ran p s ts e =
    let a : Accepts (items p s) ts = translate_says p s ts e in
    let js : List Token = map token_of (items p s) in
    let run : read look_token start js ≡ left (on_taken token_of a.taken) [] = sym (as_tokens (items p s)) ∙ ap (on_run token_of) a.reads in
    let is : items p s ≡ sources a.taken = subst (Told look_item start (items p s)) a.reads (told look_item start (items p s)) in
    record {
      accepts = a;
      fit = subst (RunFits fits class) run (run_fits start js);
      right = subst AllRight is (all_right (items p s) (scanned_items s 0 true p));
    }

-- the names of a text that is translated may be added to a table
pub names_new : (p : ℕ) (s : List ℕ) (ts : List Token) → translate p s ≡ tokens ts → T (every (name_passes new_name?) ts)
names_new p s ts e = let r = ran p s ts e in subst (λ (z : List Token). T (every (name_passes new_name?) z)) r.accepts.gives (run_new r.accepts.taken r.fit r.right)

-- A text that is translated into tokens gives, with any lawful number and over the names with the new ones added, a well-formed line.
pub stored_well_formed : {lawful? : ℕ → Bool} (ns : List (List ℕ)) (n p : ℕ) (s : List ℕ) (ts : List Token) → T (lawful? n) → translate p s ≡ tokens ts → Formed lawful? (add_names ns ts) (line_bytes (add_names ns ts) n ts)
stored_well_formed ns n p s ts h e =
    let r = ran p s ts e in
    let a = r.accepts in
    let w : T (every (right_token? (add_names ns ts)) (tokens_of a.taken)) =
    run_right (add_names ns ts) a.taken r.fit r.right a.none_out (subst (AllNamed (add_names ns ts)) (sym a.gives) (all_named ts ns)) in
    record {
      number = n;
      items = items p s;
      tokens = ts;
      lawful = translated_lawful p s ts e;
      bytes = refl;
      lawful_number = h;
      right = subst (λ (z : List Token). T (every (right_token? (add_names ns ts)) z)) a.gives w;
    }

-- with these tokens
pub stored_tokens : (lawful? : ℕ → Bool) (ns : List (List ℕ)) (n p : ℕ) (s : List ℕ) (ts : List Token) (h : T (lawful? n)) (e : translate p s ≡ tokens ts) → (stored_well_formed {lawful? = lawful?} ns n p s ts h e).tokens ≡ ts
unfolding stored_well_formed
stored_tokens lawful? ns n p s ts h e = refl
