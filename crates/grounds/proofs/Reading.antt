-- The tokens of a lawful line, listed, are read back as they are.
use Rattle.std.specs.Prelude.{ℕ, suc, ◌≤◌, ◌≡◌, refl, Bool, true, false, not, ◌&&◌, ◌||◌, List, [], ◌∷◌, ◌++◌, map, T, eqb, leb, ltb, length, get_or}
use Rattle.std.proofs.Common.{arith, subst, sym, ap, ap₂, ◌∙◌, append-nil, T_not, eqb→eq, leb→le, eqb-true, ne_eqb, eq-eqb}
use Rattle.std.proofs.Math.Dec.{leb-suc-suc}
use Rattle.paper.specs.Bytes.{pick, digit?, letter?, blank?, run, same, every, among}
use Rattle.paper.specs.Classes.{line_end, raw_end, unfit, number, quoted, numeric_variable, string_variable, array, first_numeric, first_string, first_array, open_sign, equals, comparison, raw_text, remark, function_of_string, function_of_number, string_function, colon}
use Rattle.paper.specs.Words.{Word, word_of, statements, operators, reserved?}
use Rattle.paper.specs.Tokens.{Token, statement, assigned, operator, variable, constant, string, raw, out_of_range, unreadable, class, operator_class, by_kind}
use Rattle.paper.specs.Constants.{constant_text}
use Rattle.paper.specs.Names.{name?, less_open, known?, number_of, sound_names, all_different, most_names}
use Rattle.paper.specs.Items.{item, item_at, string_byte?, raw_byte?, opens, scan, raw_from, variable_at}
use Rattle.paper.specs.Listing.{token_text, operator_text, body_text}
use Rattle.paper.specs.WellFormed.{right_token?}
use Rattle.paper.specs.Open.{all_Bytes, all_Words, all_Listing}
use Rattle.laws.specs.Tests.{and_left, and_right, is_true, is_false, or_else, as_T, and_both}
use Rattle.laws.specs.Classes.{at_kind}
use Rattle.laws.specs.Names.{same_eq}
use Rattle.laws.specs.Runs.{All, all_every}
use Rattle.grounds.specs.ConstantText.{ends_number, constant_reads, constant_starts}
use Rattle.grounds.specs.Lists.{or_right}
use Rattle.grounds.specs.Given.{at_word, at_class}
use Rattle.grounds.specs.Neighbours.{apart, first_class?, operator_class?, Apart}
use Rattle.grounds.proofs.Closed.{closed, end_class?}
use Rattle.grounds.specs.WordReading.{read_tokens, ends_name, after, Next, scan_item, at_each, OperatorReads, StatementNext, StatementReads, after_statement}
use Rattle.grounds.proofs.WordReads.{operators_read, statements_read}
use Rattle.grounds.proofs.NameReads.{name_next}
use Rattle.grounds.specs.Strings.{run_whole, take_whole, closed_string}

-- ---- what `apart` says

-- what it says that a class d may come after a class c
pub record Side (c d : ℕ) : Type 0 where
  pub no_number : T (not (eqb c colon) || not (eqb d number))
  pub position : T (pick (opens c) (first_class? d || eqb d number) (not (first_class? d)))
  pub operator_next : T (not (among c (number ∷ numeric_variable ∷ first_numeric ∷ array ∷ first_array ∷ function_of_string ∷ function_of_number ∷ string_function ∷ [])) || operator_class? d)
  pub no_open : T (not (among c (numeric_variable ∷ first_numeric ∷ [])) || not (eqb d open_sign))
  pub open_only : T (not (among c (array ∷ first_array ∷ function_of_string ∷ function_of_number ∷ string_function ∷ [])) || eqb d open_sign)
  pub no_run : T (not (eqb c comparison) || (not (eqb d equals) && not (eqb d comparison)))
  pub raw_here : T (pick (eqb c remark) (eqb d raw_text) (not (eqb d raw_text)))
  pub raw_ends : T (pick (eqb c raw_text) (eqb d raw_end) (not (eqb d raw_end)))
  pub not_last : T (not (eqb c line_end) && not (eqb c raw_end))

-- both of two tests
pub both : (a b : Bool) → T (a && b) → T a × T b
both a b t = (and_left a b t, and_right a b t)

-- from the test
pub side : (c d : ℕ) → T (apart c d) → Side c d
unfolding apart
side c d t =
    let z = both (not (eqb c colon) || not (eqb d number)) _ t in
    let a = both (pick (opens c) (first_class? d || eqb d number) (not (first_class? d))) _ z.1 in
    let b = both (not (among c (number ∷ numeric_variable ∷ first_numeric ∷ array ∷ first_array ∷ function_of_string ∷ function_of_number ∷ string_function ∷ [])) || operator_class? d) _ a.1 in
    let e = both (not (among c (numeric_variable ∷ first_numeric ∷ [])) || not (eqb d open_sign)) _ b.1 in
    let f = both (not (among c (array ∷ first_array ∷ function_of_string ∷ function_of_number ∷ string_function ∷ [])) || eqb d open_sign) _ e.1 in
    let g = both (not (eqb c comparison) || (not (eqb d equals) && not (eqb d comparison))) _ f.1 in
    let h = both (pick (eqb c remark) (eqb d raw_text) (not (eqb d raw_text))) _ g.1 in
    let i = both (pick (eqb c raw_text) (eqb d raw_end) (not (eqb d raw_end))) _ h.1 in
    record { no_number = z.0; position = a.0; operator_next = b.0; no_open = e.0; open_only = f.0; no_run = g.0; raw_here = h.0; raw_ends = i.0; not_last = i.1 }

-- ---- the byte that comes next

imp : (a b : Bool) → T (not a || b) → T a → T b
imp true b t h = t
imp false b t h = absurd h

-- a text of class d that starts with x: an operator's starts with no letter, digit, point or `$`; `(` with 40, and nothing else; only
-- `=` and comparisons with `=` or `>`
unfoldable pub starts_right : ℕ → ℕ → Bool
starts_right d x =
    (not (operator_class? d) || (ends_number x && (ends_name x && (eqb d open_sign || not (eqb x 40)))))
    && ((not (eqb d open_sign) || eqb x 40) && ((eqb d equals || eqb d comparison) || (not (eqb x 61) && not (eqb x 62))))

after_if : (c x : ℕ) → (T (eqb c number) → T (ends_number x)) → (T (among c (numeric_variable ∷ first_numeric ∷ [])) → T (ends_name x && not (eqb x 40)))
    → (T (among c (array ∷ first_array ∷ function_of_string ∷ function_of_number ∷ string_function ∷ [])) → T (eqb x 40)) → (T (eqb c comparison) → T (not (eqb x 61) && not (eqb x 62))) → T (after c x)
unfolding after
after_if c x n v o m = go (eqb c number) (among c (numeric_variable ∷ first_numeric ∷ [])) (among c (array ∷ first_array ∷ function_of_string ∷ function_of_number ∷ string_function ∷ [])) (eqb c comparison) n v o m
  where
    go : (b1 b2 b3 b4 : Bool) → (T b1 → T (ends_number x)) → (T b2 → T (ends_name x && not (eqb x 40))) → (T b3 → T (eqb x 40)) → (T b4 → T (not (eqb x 61) && not (eqb x 62)))
        → T (pick b1 (ends_number x) (pick b2 (ends_name x && not (eqb x 40)) (pick b3 (eqb x 40) (pick b4 (not (eqb x 61) && not (eqb x 62)) true))))
    go true b2 b3 b4 n v o m = n tt
    go false true b3 b4 n v o m = v tt
    go false false true b4 n v o m = o tt
    go false false false true n v o m = m tt
    go false false false false n v o m = tt

sensitive_number : (c : ℕ) → T (eqb c number) → T (among c (number ∷ numeric_variable ∷ first_numeric ∷ array ∷ first_array ∷ function_of_string ∷ function_of_number ∷ string_function ∷ []))
unfolding among
sensitive_number c t = go (eqb c number) t
  where
    go : (b : Bool) → T b → T (b || among c (numeric_variable ∷ first_numeric ∷ array ∷ first_array ∷ function_of_string ∷ function_of_number ∷ string_function ∷ []))
    go true t = tt
    go false t = absurd t

sensitive_name : (c : ℕ) → T (among c (numeric_variable ∷ first_numeric ∷ [])) → T (among c (number ∷ numeric_variable ∷ first_numeric ∷ array ∷ first_array ∷ function_of_string ∷ function_of_number ∷ string_function ∷ []))
unfolding among
sensitive_name c t = go (eqb c number) (eqb c numeric_variable) (eqb c first_numeric) t
  where
    go : (a b d : Bool) → T (b || (d || false)) → T (a || (b || (d || among c (array ∷ first_array ∷ function_of_string ∷ function_of_number ∷ string_function ∷ []))))
    go true b d t = tt
    go false true d t = tt
    go false false true t = tt
    go false false false t = absurd t

-- after c may come a text of class d, starting with x
next_byte : (c d x : ℕ) → Side c d → T (starts_right d x) → T (after c x)
unfolding starts_right
next_byte c d x s t =
    let p = both (not (operator_class? d) || (ends_number x && (ends_name x && (eqb d open_sign || not (eqb x 40))))) _ t in
    let q = both (not (eqb d open_sign) || eqb x 40) _ p.1 in
    after_if c x
    (λ n. and_left (ends_number x) _ (imp (operator_class? d) _ p.0 (imp (among c (number ∷ numeric_variable ∷ first_numeric ∷ array ∷ first_array ∷ function_of_string ∷ function_of_number ∷ string_function ∷ [])) _ s.operator_next (sensitive_number c n))))
    (λ n.
    let o = and_right (ends_number x) _ (imp (operator_class? d) _ p.0 (imp (among c (number ∷ numeric_variable ∷ first_numeric ∷ array ∷ first_array ∷ function_of_string ∷ function_of_number ∷ string_function ∷ [])) _ s.operator_next (sensitive_name c n))) in
    and_both (ends_name x) (not (eqb x 40)) (and_left (ends_name x) _ o)
    (or_else (eqb d open_sign) (not (eqb x 40)) (and_right (ends_name x) _ o) (λ h. absurd (T_not (eqb d open_sign) (imp (among c (numeric_variable ∷ first_numeric ∷ [])) _ s.no_open n) h)) (λ h. h)))
    (λ n. imp (eqb d open_sign) (eqb x 40) q.0 (imp (among c (array ∷ first_array ∷ function_of_string ∷ function_of_number ∷ string_function ∷ [])) _ s.open_only n))
    (λ n.
    let e = imp (eqb c comparison) _ s.no_run n in
    or_else (eqb d equals || eqb d comparison) _ q.1
    (λ h. absurd (or_else (eqb d equals) (eqb d comparison) h (λ k. T_not (eqb d equals) (and_left (not (eqb d equals)) _ e) k) (λ k. T_not (eqb d comparison) (and_right (not (eqb d equals)) _ e) k)))
    (λ h. h))

-- ---- names of a sound table

known_every : (q : List ℕ → Bool) (ns : List (List ℕ)) (n : List ℕ) → T (every q ns) → T (known? ns n) → T (q n)
unfolding known? number_of every
known_every q [] n e k = absurd k
known_every q (m ∷ ms) n e k = known_go q m ms n (same m n) refl (and_left (q m) (every q ms) e) (λ h. known_every q ms n (and_right (q m) (every q ms) e) h) k
  where
    known_go : (q : List ℕ → Bool) (m : List ℕ) (ms : List (List ℕ)) (n : List ℕ) (b : Bool) → same m n ≡ b → T (q m) → (T (ltb (number_of ms n) (length ms)) → T (q n)) → T (ltb (pick b 0 (suc (number_of ms n))) (suc (length ms))) → T (q n)
    known_go q m ms n true e h ih k = subst (λ (z : List ℕ). T (q z)) (same_eq m n e) h
    known_go q m ms n false e h ih k = ih (subst T (leb-suc-suc (suc (number_of ms n)) (length ms)) k)

record NameFine (n : List ℕ) : Type 0 where
  pub is_name : T (name? n)
  pub no_word : T (not (reserved? (less_open n)))

name_fine : (ns : List (List ℕ)) (n : List ℕ) → T (sound_names ns) → T (known? ns n) → NameFine n
unfolding sound_names
name_fine ns n s k =
    let a = and_right (leb (length ns) most_names) _ s in
    record {
      is_name = known_every name? ns n (and_left (every name? ns) _ a) k;
      no_word = known_every (λ m. not (reserved? (less_open m))) ns n (and_right (all_different ns) _ (and_right (every name? ns) _ a)) k;
    }

-- ---- how each token's text starts

head_append : (l : List ℕ) (x : ℕ) (rest : List ℕ) → get_or ((l ++ x ∷ []) ++ rest) 0 0 ≡ get_or (l ++ x ∷ []) 0 0
head_append [] x rest = refl
head_append (y ∷ l) x rest = refl

head_some : (l rest : List ℕ) → T (not (eqb (get_or l 0 0) 0)) → get_or (l ++ rest) 0 0 ≡ get_or l 0 0
head_some [] rest n = absurd n
head_some (x ∷ l) rest n = refl

unfoldable statement_starts? : Word → Bool
statement_starts? w = starts_right w.class (get_or (w.spelling ++ 32 ∷ []) 0 0)

statements_start : T (every statement_starts? statements)
unfolding statement_starts? starts_right operator_class? ends_number ends_name all_Bytes all_Words
statements_start = tt

statement_starts : (k : ℕ) (rest : List ℕ) → T (not (eqb (class (statement k)) unfit)) → T (starts_right (class (statement k)) (get_or (token_text (statement k) ++ rest) 0 0))
unfolding class token_text statement_starts?
statement_starts k rest n =
    subst (λ (z : ℕ). T (starts_right (word_of statements k).class z)) (sym (head_append (word_of statements k).spelling 32 rest)) (at_word statement_starts? statements k statements_start n).0

-- an operator of the table: its text starts right and is not empty; its class is none of a text, of statement position, of an end
unfoldable operator_starts? : Word → Bool
operator_starts? w =
    starts_right w.class (get_or (operator_text w.token) 0 0)
    && (not (eqb (get_or (operator_text w.token) 0 0) 0)
    && (not (first_class? w.class) && (not (eqb w.class number) && (not (eqb w.class remark) && (not (eqb w.class raw_text) && not (end_class? w.class))))))

operators_start : T (every (λ (w : Word). eqb w.class unfit || operator_starts? w) operators)
unfolding operator_starts? starts_right operator_class? ends_number ends_name first_class? end_class? all_Bytes all_Words all_Listing
operators_start = tt

letter_bytes : (x : ℕ) → letter? x ≡ true → T (not (eqb x 61) && not (eqb x 62))
unfolding letter?
letter_bytes x h = let l : 65 ≤ x = leb→le 65 x (and_left (leb 65 x) (leb x 90) (as_T _ h)) in subst T (sym (ap₂ (λ (a b : Bool). not a && not b) (ne_eqb x 61 (λ e. omega arith)) (ne_eqb x 62 (λ e. omega arith)))) tt

digit_bytes : (x : ℕ) → digit? x ≡ true → T (not (eqb x 61) && not (eqb x 62))
unfolding digit?
digit_bytes x h = let l : x ≤ 57 = leb→le x 57 (and_right (leb 48 x) (leb x 57) (as_T _ h)) in subst T (sym (ap₂ (λ (a b : Bool). not a && not b) (ne_eqb x 61 (λ e. omega arith)) (ne_eqb x 62 (λ e. omega arith)))) tt

no_letter_zero : letter? 0 ≡ true → ⊥
unfolding letter?
no_letter_zero e = let z : ◌≡◌ {A = ℕ} 0 1 = cc in omega arith

letter_not_open : (x : ℕ) → letter? x ≡ true → eqb x 40 ≡ false
unfolding letter?
letter_not_open x h = let l : 65 ≤ x = leb→le 65 x (and_left (leb 65 x) (leb x 90) (as_T _ h)) in ne_eqb x 40 (λ e. omega arith)

no_digit_zero : digit? 0 ≡ true → ⊥
unfolding digit?
no_digit_zero e = let z : ◌≡◌ {A = ℕ} 0 1 = cc in omega arith

name_head : (n rest : List ℕ) → letter? (get_or n 0 0) ≡ true → get_or (less_open n ++ rest) 0 0 ≡ get_or n 0 0
unfolding less_open
name_head [] rest h = absurd (no_letter_zero h)
name_head (x ∷ []) rest h = rw (letter_not_open x h)
name_head (x ∷ y ∷ r) rest h = refl

name_letter : (n : List ℕ) → T (name? n) → letter? (get_or n 0 0) ≡ true
unfolding name?
name_letter n t = is_true (letter? (get_or n 0 0)) (and_left (letter? (get_or n 0 0)) _ t)

name_starts : (n rest : List ℕ) (a b c : ℕ) → T (name? n) → ((x : ℕ) → T (not (eqb x 61) && not (eqb x 62)) → T (starts_right a x)) → ((x : ℕ) → T (not (eqb x 61) && not (eqb x 62)) → T (starts_right b x)) → ((x : ℕ) → T (not (eqb x 61) && not (eqb x 62)) → T (starts_right c x))
    → T (starts_right (by_kind n a b c) (get_or (less_open n ++ rest) 0 0))
name_starts n rest a b c t fa fb fc =
    let l = name_letter n t in
    let x : ℕ = get_or n 0 0 in
    subst (λ (z : ℕ). T (starts_right (by_kind n a b c) z)) (sym (name_head n rest l)) (at_kind (λ d. starts_right d x) n a b c (fa x (letter_bytes x l)) (fb x (letter_bytes x l)) (fc x (letter_bytes x l)))

-- ---- tokens by their class

-- what the table says of an operator that is not an end
op_facts : (j : ℕ) → eqb j 0x16 ≡ false → eqb j 0x9b ≡ false → T (not (eqb (operator_class j) unfit)) → T (operator_starts? (word_of operators j)) × ((word_of operators j).token ≡ j) × (operator_class j ≡ (word_of operators j).class)
unfolding operator_class
op_facts j a b n =
    let e : operator_class j ≡ (word_of operators j).class = rw (a, b) in
    let m : T (not (eqb (word_of operators j).class unfit)) = subst (λ (z : ℕ). T (not (eqb z unfit))) e n in
    let w = at_word (λ (w : Word). eqb w.class unfit || operator_starts? w) operators j operators_start m in
    (or_else (eqb (word_of operators j).class unfit) _ w.0 (λ h. absurd (T_not (eqb (word_of operators j).class unfit) m h)) (λ h. h), w.1, e)

-- what is known of an operator inside a line
pub record OpFacts (j : ℕ) : Type 0 where
  pub starts : (rest : List ℕ) → T (starts_right (operator_class j) (get_or (operator_text j ++ rest) 0 0))
  pub not_first : T (not (first_class? (operator_class j)))
  pub not_number : T (not (eqb (operator_class j) number))
  pub not_remark : T (not (eqb (operator_class j) remark))
  pub not_raw : T (not (eqb (operator_class j) raw_text))
  pub not_end : T (not (end_class? (operator_class j)))

-- every operator that fits somewhere and is no end is such a one
pub op_known : (j : ℕ) → eqb j 0x16 ≡ false → eqb j 0x9b ≡ false → T (not (eqb (operator_class j) unfit)) → OpFacts j
unfolding operator_starts?
op_known j a b n =
    let f = op_facts j a b n in
    let w : Word = word_of operators j in
    let p1 = both (starts_right w.class (get_or (operator_text w.token) 0 0)) _ f.0 in
    let p2 = both (not (eqb (get_or (operator_text w.token) 0 0) 0)) _ p1.1 in
    let p3 = both (not (first_class? w.class)) _ p2.1 in
    let p4 = both (not (eqb w.class number)) _ p3.1 in
    let p5 = both (not (eqb w.class remark)) _ p4.1 in
    let p6 = both (not (eqb w.class raw_text)) _ p5.1 in
    let e = sym f.2 in
    record {
      starts = (λ rest.
          subst (λ (z : ℕ). T (starts_right z (get_or (operator_text j ++ rest) 0 0))) e
          (subst (λ (z : ℕ). T (starts_right w.class (get_or (operator_text z ++ rest) 0 0))) f.1
          (subst (λ (z : ℕ). T (starts_right w.class z)) (sym (head_some (operator_text w.token) rest p2.0)) p1.0)));
      not_first = subst (λ (z : ℕ). T (not (first_class? z))) e p3.0;
      not_number = subst (λ (z : ℕ). T (not (eqb z number))) e p4.0;
      not_remark = subst (λ (z : ℕ). T (not (eqb z remark))) e p5.0;
      not_raw = subst (λ (z : ℕ). T (not (eqb z raw_text))) e p6.0;
      not_end = subst (λ (z : ℕ). T (not (end_class? z))) e p6.1;
    }

-- statement words: of statement position, and no raw text, no end
unfoldable statement_class? : ℕ → Bool
statement_class? c = eqb c unfit || (first_class? c && (not (eqb c raw_text) && (not (end_class? c) && not (eqb c raw_end))))

statement_classes : (k : ℕ) → T (statement_class? (class (statement k)))
unfolding class statement_class? first_class? end_class? all_Bytes all_Words
statement_classes k = at_class statement_class? statements k tt tt

-- 16 is the line's end
pub op_line : (j : ℕ) → eqb j 0x16 ≡ true → operator_class j ≡ line_end
unfolding operator_class
op_line j a = rw a

-- 9B is the end of raw text
pub op_raw_end : (j : ℕ) → eqb j 0x16 ≡ false → eqb j 0x9b ≡ true → operator_class j ≡ raw_end
unfolding operator_class
op_raw_end j a b = rw (a, b)

-- a class that is neither of an operator of the table, nor of a statement, nor of a name
op_not : (d j : ℕ) (x : Bool) → eqb j 0x16 ≡ x → (y : Bool) → eqb j 0x9b ≡ y → T (not (eqb (operator_class j) unfit)) → T (not (eqb line_end d)) → (T (eqb raw_end d) → T (eqb j 0x9b) → ⊥) → (OpFacts j → T (not (eqb (operator_class j) d))) → T (eqb (operator_class j) d) → ⊥
op_not d j true a y b n l r f h = T_not (eqb line_end d) l (subst (λ (z : ℕ). T (eqb z d)) (op_line j a) h)
op_not d j false a true b n l r f h = r (subst (λ (z : ℕ). T (eqb z d)) (op_raw_end j a b) h) (as_T _ b)
op_not d j false a false b n l r f h = T_not (eqb (operator_class j) d) (f (op_known j a b n)) h

statement_not : (k d : ℕ) → T (not (eqb (class (statement k)) unfit)) → (T (not (eqb (class (statement k)) raw_text) && (not (end_class? (class (statement k))) && not (eqb (class (statement k)) raw_end))) → T (not (eqb (class (statement k)) d))) → T (eqb (class (statement k)) d) → ⊥
unfolding statement_class?
statement_not k d n f h =
    or_else (eqb (class (statement k)) unfit) _ (statement_classes k) (λ u. T_not (eqb (class (statement k)) unfit) n u)
    (λ g. T_not (eqb (class (statement k)) d) (f (and_right (first_class? (class (statement k))) _ g)) h)

-- the token of class raw text, and of its end
raw_class : (t : Token) → T (eqb (class t) raw_text) → T (not (eqb (class t) unfit)) → (b : List ℕ) × (t ≡ raw b)
unfolding class
raw_class (statement k) h n = absurd (statement_not k raw_text n (λ g. and_left (not (eqb (class (statement k)) raw_text)) _ g) h)
raw_class (assigned m) h n = absurd (T_not (eqb (by_kind m first_numeric first_string first_array) raw_text) (at_kind (λ d. not (eqb d raw_text)) m first_numeric first_string first_array tt tt tt) h)
raw_class (operator j) h n = absurd (op_not raw_text j (eqb j 0x16) refl (eqb j 0x9b) refl n tt (λ e g. e) (λ f. f.not_raw) h)
raw_class (variable m) h n = absurd (T_not (eqb (by_kind m numeric_variable string_variable array) raw_text) (at_kind (λ d. not (eqb d raw_text)) m numeric_variable string_variable array tt tt tt) h)
raw_class (constant b) h n = absurd h
raw_class (string b) h n = absurd h
raw_class (raw b) h n = (b, refl)
raw_class out_of_range h n = absurd h
raw_class unreadable h n = absurd h

raw_end_op : (j : ℕ) (x : Bool) → eqb j 0x16 ≡ x → (y : Bool) → eqb j 0x9b ≡ y → T (not (eqb (operator_class j) unfit)) → T (eqb (operator_class j) raw_end) → operator j ≡ operator 0x9b
unfolding end_class?
raw_end_op j true a y b n h = absurd (subst (λ (z : ℕ). T (eqb z raw_end)) (op_line j a) h)
raw_end_op j false a true b n h = ap operator (eqb-true j 0x9b b)
raw_end_op j false a false b n h = absurd (T_not (eqb (operator_class j) line_end || eqb (operator_class j) raw_end) (op_known j a b n).not_end (or_right (eqb (operator_class j) line_end) (eqb (operator_class j) raw_end) h))

raw_end_class : (t : Token) → T (eqb (class t) raw_end) → T (not (eqb (class t) unfit)) → t ≡ operator 0x9b
unfolding class
raw_end_class (statement k) h n = absurd (statement_not k raw_end n (λ g. and_right (not (end_class? (class (statement k)))) _ (and_right (not (eqb (class (statement k)) raw_text)) _ g)) h)
raw_end_class (assigned m) h n = absurd (T_not (eqb (by_kind m first_numeric first_string first_array) raw_end) (at_kind (λ d. not (eqb d raw_end)) m first_numeric first_string first_array tt tt tt) h)
raw_end_class (operator j) h n = raw_end_op j (eqb j 0x16) refl (eqb j 0x9b) refl n h
raw_end_class (variable m) h n = absurd (T_not (eqb (by_kind m numeric_variable string_variable array) raw_end) (at_kind (λ d. not (eqb d raw_end)) m numeric_variable string_variable array tt tt tt) h)
raw_end_class (constant b) h n = absurd h
raw_end_class (string b) h n = absurd h
raw_end_class (raw b) h n = absurd h
raw_end_class out_of_range h n = absurd h
raw_end_class unreadable h n = absurd h

-- ---- the whole

-- each token fits somewhere, and is right
abbrev pub Fine : List (List ℕ) → List Token → Type 0
Fine ns [] = Unit {0}
Fine ns (t ∷ ts) = (T (not (eqb (class t) unfit)) × T (right_token? ns t)) × Fine ns ts

-- nothing stands after an end
pub nothing_after : (c : ℕ) (ts : List Token) → Apart c ts → T (end_class? c) → ts ≡ []
unfolding end_class?
nothing_after c [] a e = refl
nothing_after c (t ∷ ts) a e =
    let s = (side c (class t) a.0).not_last in
    absurd (or_else (eqb c line_end) (eqb c raw_end) e (λ h. T_not (eqb c line_end) (and_left (not (eqb c line_end)) _ s) h) (λ h. T_not (eqb c raw_end) (and_right (not (eqb c line_end)) _ s) h))

calm_starts : (d x : ℕ) → T (not (operator_class? d)) → T (not (eqb d open_sign)) → T (not (eqb x 61) && not (eqb x 62)) → T (starts_right d x)
unfolding starts_right
calm_starts d x o p h = go (operator_class? d) (eqb d open_sign) (eqb d equals || eqb d comparison) o p
  where
    go : (a b e : Bool) → T (not a) → T (not b) → T ((not a || (ends_number x && (ends_name x && (b || not (eqb x 40))))) && ((not b || eqb x 40) && (e || (not (eqb x 61) && not (eqb x 62)))))
    go true b e o p = absurd o
    go false true e o p = absurd p
    go false false true o p = tt
    go false false false o p = h

name_class : T (not (operator_class? first_numeric)) × T (not (operator_class? first_string)) × T (not (operator_class? first_array)) × T (not (operator_class? numeric_variable)) × T (not (operator_class? string_variable)) × T (not (operator_class? array)) × T (not (operator_class? number))
unfolding operator_class? among
name_class = (tt, tt, tt, tt, tt, tt, tt)

digit_append : (l rest : List ℕ) → digit? (get_or l 0 0) ≡ true → digit? (get_or (l ++ rest) 0 0) ≡ true
digit_append [] rest h = absurd (no_digit_zero h)
digit_append (x ∷ l) rest h = h

after_end : (c x : ℕ) → T (end_class? c) → T (after c x)
unfolding end_class? after among
after_end c x e = or_else (eqb c line_end) (eqb c raw_end) e (λ h. subst (λ (z : ℕ). T (after z x)) (sym (eqb→eq c line_end h)) tt) (λ h. subst (λ (z : ℕ). T (after z x)) (sym (eqb→eq c raw_end h)) tt)

after_raw : (c x : ℕ) → T (eqb c raw_text) → T (after c x)
unfolding after among
after_raw c x h = subst (λ (z : ℕ). T (after z x)) (sym (eqb→eq c raw_text h)) tt

end_text : operator_text 0x16 ≡ []
unfolding all_Listing all_Words all_Bytes
end_text = refl

end_starts : T (starts_right line_end 0)
unfolding starts_right operator_class? ends_number ends_name all_Bytes
end_starts = tt

string_starts : T (starts_right quoted 34)
unfolding starts_right operator_class? ends_number ends_name all_Bytes
string_starts = tt

pick_true : (b : Bool) (x : Bool) → T (pick b x false) → T b
pick_true true x t = tt
pick_true false x t = t

end_after : (j : ℕ) (ts : List Token) → eqb j 0x16 ≡ true → Apart (operator_class j) ts → body_text (operator j ∷ ts) ≡ []
unfolding body_text token_text end_class?
end_after j ts a p =
    let e : ts ≡ [] = nothing_after (operator_class j) ts p (subst (λ (z : ℕ). T (end_class? z)) (sym (op_line j a)) tt) in
    ap₂ (λ (x : ℕ) (l : List Token). operator_text x ++ body_text l) (eqb-true j 0x16 a) e ∙ ap (λ (l : List ℕ). l ++ []) end_text

follows_op : (c j : ℕ) (ts : List Token) (x : Bool) → eqb j 0x16 ≡ x → (y : Bool) → eqb j 0x9b ≡ y → T (not (eqb (operator_class j) unfit)) → Side c (operator_class j) → Apart (operator_class j) ts → T (after c (get_or (body_text (operator j ∷ ts)) 0 0))
unfolding body_text token_text
follows_op c j ts true a y b n s p =
    subst (λ (l : List ℕ). T (after c (get_or l 0 0))) (sym (end_after j ts a p)) (next_byte c line_end 0 (subst (Side c) (op_line j a) s) end_starts)
follows_op c j ts false a true b n s p =
    after_raw c _ (pick_true (eqb c raw_text) true (raw_side c (eqb c raw_text) (subst (Side c) (op_raw_end j a b) s).raw_ends))
  where
    raw_side : (c : ℕ) (x : Bool) → T (pick x (eqb raw_end raw_end) (not (eqb raw_end raw_end))) → T (pick x true false)
    raw_side c true t = tt
    raw_side c false t = t
follows_op c j ts false a false b n s p = next_byte c (operator_class j) _ s ((op_known j a b n).starts (body_text ts))

-- how the text after a token of class c starts
follows : (ns : List (List ℕ)) → T (sound_names ns) → (c : ℕ) (ts : List Token) → Apart c ts → Fine ns ts → T (closed (c ∷ map class ts)) → T (not (eqb c remark)) → T (after c (get_or (body_text ts) 0 0))
unfolding closed body_text class token_text right_token?
follows ns s c [] a f e r = after_end c 0 e
follows ns s c (statement k ∷ ts) a f e r = next_byte c (class (statement k)) _ (side c _ a.0) (statement_starts k (body_text ts) f.0.0)
follows ns s c (assigned n ∷ ts) a f e r =
    next_byte c _ _ (side c _ a.0) (name_starts n (body_text ts) first_numeric first_string first_array (name_fine ns n s (and_left (known? ns n) _ f.0.1)).is_name
    (λ x h. calm_starts first_numeric x name_class.0 tt h) (λ x h. calm_starts first_string x name_class.1 tt h) (λ x h. calm_starts first_array x name_class.2 tt h))
follows ns s c (operator j ∷ ts) a f e r = follows_op c j ts (eqb j 0x16) refl (eqb j 0x9b) refl f.0.0 (side c _ a.0) a.1
follows ns s c (variable n ∷ ts) a f e r =
    next_byte c _ _ (side c _ a.0) (name_starts n (body_text ts) numeric_variable string_variable array (name_fine ns n s f.0.1).is_name
    (λ x h. calm_starts numeric_variable x name_class.3 tt h) (λ x h. calm_starts string_variable x name_class.4 tt h) (λ x h. calm_starts array x name_class.5 tt h))
follows ns s c (constant b ∷ ts) a f e r =
    next_byte c number _ (side c _ a.0) (calm_starts number _ name_class.6 tt (digit_bytes _ (digit_append (constant_text b) (body_text ts) (constant_starts b f.0.1))))
follows ns s c (string b ∷ ts) a f e r = next_byte c quoted 34 (side c _ a.0) string_starts
follows ns s c (raw b ∷ ts) a f e r = absurd (T_not (eqb c remark) r (raw_only (eqb c remark) (side c _ a.0).raw_here))
  where
    raw_only : (x : Bool) → T (pick x (eqb raw_text raw_text) (not (eqb raw_text raw_text))) → T x
    raw_only true t = tt
    raw_only false t = t
follows ns s c (out_of_range ∷ ts) a f e r = absurd f.0.1
follows ns s c (unreadable ∷ ts) a f e r = absurd f.0.1

-- ---- each token is read back

-- statement position, from what stands before
not_opened : (x a b : Bool) → T (pick x (a || b) (not a)) → T (not a) → T (not b) → x ≡ false
not_opened true a b t na nb = absurd (or_else a b t (λ h. T_not a na h) (λ h. T_not b nb h))
not_opened false a b t na nb = refl

opened_first : (x a b : Bool) → T (pick x (a || b) (not a)) → T a → x ≡ true
opened_first true a b t h = refl
opened_first false a b t h = absurd (T_not a t h)

-- what stands after something that is no end still ends with an end
pub closed_rest : (c : ℕ) (cs : List ℕ) → T (closed (c ∷ cs)) → T (not (end_class? c)) → T (closed cs)
unfolding closed
closed_rest c [] t n = absurd (T_not (end_class? c) n t)
closed_rest c (d ∷ cs) t n = t

-- a class that is no end, and after which no raw text comes
unfoldable pub quiet : ℕ → Bool
quiet d = not (end_class? d) && (not (eqb d remark) && not (eqb d raw_text))

-- names are neither an end, nor REM or DATA, nor raw text
pub quiet_name : (n : List ℕ) → T (quiet (by_kind n numeric_variable string_variable array))
unfolding quiet end_class?
quiet_name n = at_kind quiet n numeric_variable string_variable array tt tt tt

-- nor are names that come first
pub quiet_first : (n : List ℕ) → T (quiet (by_kind n first_numeric first_string first_array))
unfolding quiet end_class?
quiet_first n = at_kind quiet n first_numeric first_string first_array tt tt tt

-- nor are numbers and strings
pub quiet_value : T (quiet number) × T (quiet quoted)
unfolding quiet end_class?
quiet_value = (tt, tt)

-- what is asked of the tokens after one of class d
unfoldable pub Rest : List Token → ℕ → Type 0
Rest ts d = (p : ℕ) → read_tokens (scan 0 (opens d) p (body_text ts)) ≡ ts

one_more : (t : Token) (ts : List Token) (c : ℕ) (p : ℕ) (x y : Bool) → opens c ≡ x → opens (class t) ≡ y → Next x p (token_text t) t y (body_text ts) → Rest ts (class t) → read_tokens (scan 0 (opens c) p (body_text (t ∷ ts))) ≡ t ∷ ts
unfolding body_text Rest
one_more t ts c p x y ex ey n r =
    ap (λ (b : Bool). read_tokens (scan 0 b p (token_text t ++ body_text ts))) ex ∙ n.is
    ∙ ap (λ (b : Bool). t ∷ read_tokens (scan 0 b n.at (body_text ts))) (sym ey) ∙ ap (λ (l : List Token). t ∷ l) (r n.at)

-- strings
string_next : (first : Bool) (b ys : List ℕ) (p : ℕ) → T (every string_byte? b) → Next first p (token_text (string b)) (string b) false ys
unfolding token_text class opens blank?
string_next first b ys p t = scan_item 34 (b ++ 34 ∷ []) ys first p (string b) refl (closed_string first p b ys (all_every string_byte? b t)) refl

-- constants
digit_blank : (x : ℕ) → digit? x ≡ true → blank? x ≡ false
unfolding digit? blank?
digit_blank x h = let l : 48 ≤ x = leb→le 48 x (and_left (leb 48 x) (leb x 57) (as_T _ h)) in ne_eqb x 32 (λ e. omega arith)

constant_next_go : (first : Bool) (l b ys : List ℕ) (p : ℕ) → digit? (get_or l 0 0) ≡ true → item_at first p (l ++ ys) ≡ item p (length l) (constant b) → Next first p l (constant b) false ys
unfolding class opens
constant_next_go first [] b ys p d e = absurd (no_digit_zero d)
constant_next_go first (x ∷ l) b ys p d e = scan_item x l ys first p (constant b) (digit_blank x d) e refl

after_number : (x : ℕ) → T (after number x) → T (ends_number x)
unfolding after
after_number x t = t

-- raw text
raw_read : (p : ℕ) (b : List ℕ) → All raw_byte? b → read_tokens (raw_from p b) ≡ raw b ∷ operator 0x9b ∷ []
unfolding raw_from read_tokens item
raw_read p b a =
    let n : run raw_byte? b ≡ length b = run_whole raw_byte? b a in
    rw (n, eq-eqb (length b) (length b) refl, take_whole b)

raw_end_text : operator_text 0x9b ≡ []
unfolding all_Listing all_Words all_Bytes
raw_end_text = refl

-- ---- statement words

statement_next : (k : ℕ) (ys : List ℕ) (p : ℕ) → T (not (eqb (class (statement k)) unfit)) → StatementNext p k (eqb (class (statement k)) remark) ys
unfolding class StatementReads
statement_next k ys p n =
    let w = at_each StatementReads statements k statements_read n in
    subst (λ (z : ℕ). StatementNext p z (eqb (word_of statements k).class remark) ys) w.1 (w.0 n ys p)

unfoldable no_opening : ℕ → Bool
no_opening c = not (opens c)

statement_opens : (k : ℕ) → opens (class (statement k)) ≡ false
unfolding class no_opening opens all_Bytes all_Words
statement_opens k = is_false (opens (class (statement k))) (at_class no_opening statements k tt tt)

-- a statement word has a class of statement position
pub statement_first : (k : ℕ) → T (not (eqb (class (statement k)) unfit)) → T (first_class? (class (statement k))) × T (not (eqb (class (statement k)) raw_text)) × T (not (end_class? (class (statement k))))
unfolding statement_class?
statement_first k n =
    or_else (eqb (class (statement k)) unfit) _ (statement_classes k) (λ u. absurd (T_not (eqb (class (statement k)) unfit) n u))
    (λ g.
    let r = and_right (first_class? (class (statement k))) _ g in
    let q = and_right (not (eqb (class (statement k)) raw_text)) _ r in
    (and_left (first_class? (class (statement k))) _ g, and_left (not (eqb (class (statement k)) raw_text)) _ r, and_left (not (end_class? (class (statement k)))) _ q))

-- a statement that is neither REM nor DATA
plain_statement : (k c p : ℕ) (ts : List Token) → opens c ≡ true → eqb (class (statement k)) remark ≡ false → T (not (eqb (class (statement k)) unfit)) → Rest ts (class (statement k)) → read_tokens (scan 0 (opens c) p (body_text (statement k ∷ ts))) ≡ statement k ∷ ts
unfolding body_text Rest after_statement
plain_statement k c p ts o m n r =
    let s = subst (λ (z : Bool). StatementNext p k z (body_text ts)) m (statement_next k (body_text ts) p n) in
    ap (λ (b : Bool). read_tokens (scan 0 b p (token_text (statement k) ++ body_text ts))) o ∙ s.is
    ∙ ap (λ (b : Bool). statement k ∷ read_tokens (scan 0 b s.at (body_text ts))) (sym (statement_opens k)) ∙ ap (λ (l : List Token). statement k ∷ l) (r s.at)

-- REM or DATA, its text and its end
raw_statement : (k c p : ℕ) (b : List ℕ) → opens c ≡ true → eqb (class (statement k)) remark ≡ true → T (not (eqb (class (statement k)) unfit)) → All raw_byte? b → read_tokens (scan 0 (opens c) p (body_text (statement k ∷ raw b ∷ operator 0x9b ∷ []))) ≡ statement k ∷ raw b ∷ operator 0x9b ∷ []
unfolding body_text token_text after_statement
raw_statement k c p b o m n a =
    let s = subst (λ (z : Bool). StatementNext p k z (b ++ (operator_text 0x9b ++ []))) m (statement_next k (b ++ (operator_text 0x9b ++ [])) p n) in
    let e : b ++ (operator_text 0x9b ++ []) ≡ b = ap (λ (l : List ℕ). b ++ (l ++ [])) raw_end_text ∙ append-nil b in
    ap (λ (x : Bool). read_tokens (scan 0 x p (token_text (statement k) ++ (b ++ (operator_text 0x9b ++ []))))) o ∙ s.is
    ∙ ap (λ (l : List ℕ). statement k ∷ read_tokens (raw_from s.at l)) e ∙ ap (λ (l : List Token). statement k ∷ l) (raw_read s.at b a)

-- ---- all of them

op_next : (j : ℕ) (ys : List ℕ) (p : ℕ) → eqb j 0x16 ≡ false → eqb j 0x9b ≡ false → T (not (eqb (operator_class j) unfit)) → T (after (operator_class j) (get_or ys 0 0)) → Next false p (operator_text j) (operator j) (opens (operator_class j)) ys
unfolding OperatorReads
op_next j ys p a b n h =
    let e : operator_class j ≡ (word_of operators j).class = (op_facts j a b n).2 in
    let m : T (not (eqb (word_of operators j).class unfit)) = subst (λ (z : ℕ). T (not (eqb z unfit))) e n in
    let w = at_each OperatorReads operators j operators_read m in
    subst (λ (z : ℕ). Next false p (operator_text j) (operator j) (opens z) ys) (sym e)
    (subst (λ (z : ℕ). Next false p (operator_text z) (operator z) (opens (word_of operators j).class) ys) w.1 (w.0 m ys (subst (λ (z : ℕ). T (after z (get_or ys 0 0))) e h) p))

-- the rest after a token, asked of the induction
abbrev Again : List (List ℕ) → List Token → Type 0
Again ns ts = (c : ℕ) → Apart c ts → Fine ns ts → T (closed (map class ts)) → T (not (eqb c remark)) → T (not (eqb c raw_text)) → Rest ts c

again : (ns : List (List ℕ)) (ts : List Token) (d : ℕ) → Again ns ts → Apart d ts → Fine ns ts → T (closed (d ∷ map class ts)) → T (quiet d) → Rest ts d
unfolding quiet
again ns ts d ih a f e q =
    let r = and_right (not (end_class? d)) _ q in
    ih d a f (closed_rest d (map class ts) e (and_left (not (end_class? d)) _ q)) (and_left (not (eqb d remark)) _ r) (and_right (not (eqb d remark)) _ r)

quiet_remark : (d : ℕ) → T (quiet d) → T (not (eqb d remark))
unfolding quiet
quiet_remark d q = and_left (not (eqb d remark)) _ (and_right (not (end_class? d)) _ q)

end_reads : (x : Bool) (p : ℕ) → read_tokens (scan 0 x p []) ≡ operator 0x16 ∷ []
unfolding scan read_tokens item
end_reads x p = refl

-- the line's end is an end
pub end_is : (c : ℕ) → c ≡ line_end → T (end_class? c)
unfolding end_class?
end_is c e = subst (λ (z : ℕ). T (end_class? z)) (sym e) tt

pub raw_first : (x : Bool) → T (pick x (eqb raw_end raw_end) (not (eqb raw_end raw_end))) → T x
raw_first true t = tt
raw_first false t = t

op_rescan : (ns : List (List ℕ)) → T (sound_names ns) → (j : ℕ) (ts : List Token) (c : ℕ) (x : Bool) → eqb j 0x16 ≡ x → (y : Bool) → eqb j 0x9b ≡ y → Again ns ts → Apart c (operator j ∷ ts) → Fine ns (operator j ∷ ts) → T (closed (map class (operator j ∷ ts))) → T (not (eqb c raw_text)) → Rest (operator j ∷ ts) c
unfolding Rest class read_tokens quiet token_text operator_text
op_rescan ns s j ts c true a y b ih p f e r =
    let n : ts ≡ [] = nothing_after (operator_class j) ts p.1 (end_is (operator_class j) (op_line j a)) in
    λ z. ap (λ (l : List ℕ). read_tokens (scan 0 (opens c) z l)) (end_after j ts a p.1) ∙ end_reads (opens c) z ∙ ap₂ (λ (x : ℕ) (l : List Token). operator x ∷ l) (sym (eqb-true j 0x16 a)) (sym n)
op_rescan ns s j ts c false a true b ih p f e r =
    absurd (T_not (eqb c raw_text) r (raw_first (eqb c raw_text) (subst (Side c) (op_raw_end j a b) (side c (operator_class j) p.0)).raw_ends))
op_rescan ns s j ts c false a false b ih p f e r =
    let o : OpFacts j = op_known j a b f.0.0 in
    let d : Side c (operator_class j) = side c (operator_class j) p.0 in
    let q : T (quiet (operator_class j)) = and_both (not (end_class? (operator_class j))) _ o.not_end (and_both (not (eqb (operator_class j) remark)) _ o.not_remark o.not_raw) in
    λ z. one_more (operator j) ts c z false (opens (operator_class j)) (not_opened (opens c) (first_class? (operator_class j)) (eqb (operator_class j) number) d.position o.not_first o.not_number) refl
    (op_next j (body_text ts) z a b f.0.0 (follows ns s (operator_class j) ts p.1 f.1 e o.not_remark))
    (again ns ts (operator_class j) ih p.1 f.1 e q)

-- after REM or DATA: the text, and its end
raw_tail : (b : List ℕ) (us : List Token) → Apart raw_text us → ((u : Token) (vs : List Token) → us ≡ u ∷ vs → T (not (eqb (class u) unfit))) → T (closed (raw_text ∷ map class us)) → us ≡ operator 0x9b ∷ []
unfolding closed end_class?
raw_tail b [] a n e = absurd e
raw_tail b (u ∷ vs) a n e =
    let r : T (eqb (class u) raw_end) = (side raw_text (class u) a.0).raw_ends in
    let k : u ≡ operator 0x9b = raw_end_class u r (n u vs refl) in
    let v : vs ≡ [] = nothing_after (class u) vs a.1 (end_raw (class u) r) in
    ap₂ (λ (x : Token) (l : List Token). x ∷ l) k v
  where
    end_raw : (d : ℕ) → T (eqb d raw_end) → T (end_class? d)
    end_raw d h = subst (λ (z : ℕ). T (end_class? z)) (sym (eqb→eq d raw_end h)) tt

fine_first : (ns : List (List ℕ)) (us : List Token) → Fine ns us → (u : Token) (vs : List Token) → us ≡ u ∷ vs → T (not (eqb (class u) unfit))
fine_first ns us f u vs e = (subst (Fine ns) e f).0.0

raw_right : (ns : List (List ℕ)) (b : List ℕ) → T (right_token? ns (raw b)) → T (every raw_byte? b)
unfolding right_token?
raw_right ns b t = t

-- after REM or DATA come raw text and its end, and nothing more
pub raw_shape : (ns : List (List ℕ)) (ts : List Token) → Apart remark ts → Fine ns ts → T (closed (remark ∷ map class ts)) → (b : List ℕ) × ((ts ≡ raw b ∷ operator 0x9b ∷ []) × All raw_byte? b)
unfolding closed end_class?
raw_shape ns [] a f e = absurd e
raw_shape ns (t ∷ us) a f e =
    let h : T (eqb (class t) raw_text) = (side remark (class t) a.0).raw_here in
    let r = raw_class t h f.0.0 in
    let c : class t ≡ raw_text = eqb→eq (class t) raw_text h in
    let u : us ≡ operator 0x9b ∷ [] = raw_tail r.0 us (subst (λ (z : ℕ). Apart z us) c a.1) (fine_first ns us f.1) (subst (λ (z : ℕ). T (closed (z ∷ map class us))) c e) in
    (r.0, (ap₂ (λ (x : Token) (l : List Token). x ∷ l) r.1 u, all_every raw_byte? r.0 (raw_right ns r.0 (subst (λ (z : Token). T (right_token? ns z)) r.1 f.0.1))))

statement_rescan : (ns : List (List ℕ)) → (k : ℕ) (ts : List Token) (c : ℕ) (x : Bool) → eqb (class (statement k)) remark ≡ x → Again ns ts → Apart c (statement k ∷ ts) → Fine ns (statement k ∷ ts) → T (closed (map class (statement k ∷ ts))) → Rest (statement k ∷ ts) c
unfolding Rest quiet
statement_rescan ns k ts c true m ih p f e =
    let g = statement_first k f.0.0 in
    let d = side c (class (statement k)) p.0 in
    let o : opens c ≡ true = opened_first (opens c) (first_class? (class (statement k))) (eqb (class (statement k)) number) d.position g.0 in
    let w : class (statement k) ≡ remark = eqb-true (class (statement k)) remark m in
    let r = raw_shape ns ts (subst (λ (z : ℕ). Apart z ts) w p.1) f.1 (subst (λ (z : ℕ). T (closed (z ∷ map class ts))) w e) in
    λ z. subst (λ (l : List Token). read_tokens (scan 0 (opens c) z (body_text (statement k ∷ l))) ≡ statement k ∷ l) (sym r.1.0) (raw_statement k c z r.0 o m f.0.0 r.1.1)
statement_rescan ns k ts c false m ih p f e =
    let g = statement_first k f.0.0 in
    let d = side c (class (statement k)) p.0 in
    let o : opens c ≡ true = opened_first (opens c) (first_class? (class (statement k))) (eqb (class (statement k)) number) d.position g.0 in
    let q : T (quiet (class (statement k))) = and_both (not (end_class? (class (statement k)))) _ g.2 (and_both (not (eqb (class (statement k)) remark)) _ (subst (λ (z : Bool). T (not z)) (sym m) tt) g.1) in
    λ z. plain_statement k c z ts o m f.0.0 (again ns ts (class (statement k)) ih p.1 f.1 e q)

-- names, in statement position and elsewhere
unfoldable is_first : ℕ → Bool
is_first d = first_class? d && not (eqb d number)

unfoldable is_later : ℕ → Bool
is_later d = not (first_class? d) && not (eqb d number)

first_name : (n : List ℕ) → T (is_first (by_kind n first_numeric first_string first_array))
unfolding is_first first_class? among
first_name n = at_kind is_first n first_numeric first_string first_array tt tt tt

later_name : (n : List ℕ) → T (is_later (by_kind n numeric_variable string_variable array))
unfolding is_later first_class? among
later_name n = at_kind is_later n numeric_variable string_variable array tt tt tt

no_open_name : (n : List ℕ) (a b c : ℕ) → T (not (opens a)) → T (not (opens b)) → T (not (opens c)) → opens (by_kind n a b c) ≡ false
no_open_name n a b c x y z = is_false (opens (by_kind n a b c)) (at_kind (λ d. not (opens d)) n a b c x y z)

open_first : (n : List ℕ) → opens (by_kind n first_numeric first_string first_array) ≡ false
unfolding opens
open_first n = no_open_name n first_numeric first_string first_array tt tt tt

open_later : (n : List ℕ) → opens (by_kind n numeric_variable string_variable array) ≡ false
unfolding opens
open_later n = no_open_name n numeric_variable string_variable array tt tt tt

assigned_rescan : (ns : List (List ℕ)) → T (sound_names ns) → (n : List ℕ) (ts : List Token) (c : ℕ) → Again ns ts → Apart c (assigned n ∷ ts) → Fine ns (assigned n ∷ ts) → T (closed (map class (assigned n ∷ ts))) → Rest (assigned n ∷ ts) c
unfolding Rest class token_text right_token? variable_at is_first
assigned_rescan ns s n ts c ih p f e =
    let d : ℕ = by_kind n first_numeric first_string first_array in
    let i = first_name n in
    let o : opens c ≡ true = opened_first (opens c) (first_class? d) (eqb d number) (side c d p.0).position (and_left (first_class? d) _ i) in
    let fine = name_fine ns n s (and_left (known? ns n) _ f.0.1) in
    let q = quiet_first n in
    λ z. one_more (assigned n) ts c z true false o (open_first n)
    (name_next true n fine.is_name fine.no_word (λ h. and_right (known? ns n) _ f.0.1) (body_text ts) (follows ns s d ts p.1 f.1 e (quiet_remark d q)) z)
    (again ns ts d ih p.1 f.1 e q)

variable_rescan : (ns : List (List ℕ)) → T (sound_names ns) → (n : List ℕ) (ts : List Token) (c : ℕ) → Again ns ts → Apart c (variable n ∷ ts) → Fine ns (variable n ∷ ts) → T (closed (map class (variable n ∷ ts))) → Rest (variable n ∷ ts) c
unfolding Rest class token_text right_token? variable_at is_later
variable_rescan ns s n ts c ih p f e =
    let d : ℕ = by_kind n numeric_variable string_variable array in
    let i = later_name n in
    let o : opens c ≡ false = not_opened (opens c) (first_class? d) (eqb d number) (side c d p.0).position (and_left (not (first_class? d)) _ i) (and_right (not (first_class? d)) _ i) in
    let fine = name_fine ns n s f.0.1 in
    let q = quiet_name n in
    λ z. one_more (variable n) ts c z false false o (open_later n)
    (name_next false n fine.is_name fine.no_word (λ h. absurd h) (body_text ts) (follows ns s d ts p.1 f.1 e (quiet_remark d q)) z)
    (again ns ts d ih p.1 f.1 e q)

constant_rescan : (ns : List (List ℕ)) → T (sound_names ns) → (b : List ℕ) (ts : List Token) (c : ℕ) → Again ns ts → Apart c (constant b ∷ ts) → Fine ns (constant b ∷ ts) → T (closed (map class (constant b ∷ ts))) → Rest (constant b ∷ ts) c
unfolding Rest class token_text right_token? opens
constant_rescan ns s b ts c ih p f e =
    let q = quiet_value.0 in
    λ z. one_more (constant b) ts c z (opens c) false refl refl
    (constant_next_go (opens c) (constant_text b) b (body_text ts) z (constant_starts b f.0.1)
    (constant_reads b f.0.1 (opens c) z (body_text ts) (after_number _ (follows ns s number ts p.1 f.1 e (quiet_remark number q)))))
    (again ns ts number ih p.1 f.1 e q)

string_rescan : (ns : List (List ℕ)) → (b : List ℕ) (ts : List Token) (c : ℕ) → Again ns ts → Apart c (string b ∷ ts) → Fine ns (string b ∷ ts) → T (closed (map class (string b ∷ ts))) → Rest (string b ∷ ts) c
unfolding Rest class right_token? opens
string_rescan ns b ts c ih p f e =
    λ z. one_more (string b) ts c z (opens c) false refl refl (string_next (opens c) b (body_text ts) z f.0.1) (again ns ts quoted ih p.1 f.1 e quiet_value.1)

-- The tokens of a lawful line, in which each may stand after the one before, each is right, and the last is an end: listed, they are
-- scanned as they are. c is the class before the first, and says whether that is in statement position.
pub rescan : (ns : List (List ℕ)) → T (sound_names ns) → (ts : List Token) (c : ℕ) → Apart c ts → Fine ns ts → T (closed (map class ts)) → T (not (eqb c remark)) → T (not (eqb c raw_text)) → Rest ts c
unfolding closed right_token? class
rescan ns s [] c a f e m r = absurd e
rescan ns s (statement k ∷ ts) c a f e m r = statement_rescan ns k ts c (eqb (class (statement k)) remark) refl (λ d x y z u v. rescan ns s ts d x y z u v) a f e
rescan ns s (assigned n ∷ ts) c a f e m r = assigned_rescan ns s n ts c (λ d x y z u v. rescan ns s ts d x y z u v) a f e
rescan ns s (operator j ∷ ts) c a f e m r = op_rescan ns s j ts c (eqb j 0x16) refl (eqb j 0x9b) refl (λ d x y z u v. rescan ns s ts d x y z u v) a f e r
rescan ns s (variable n ∷ ts) c a f e m r = variable_rescan ns s n ts c (λ d x y z u v. rescan ns s ts d x y z u v) a f e
rescan ns s (constant b ∷ ts) c a f e m r = constant_rescan ns s b ts c (λ d x y z u v. rescan ns s ts d x y z u v) a f e
rescan ns s (string b ∷ ts) c a f e m r = string_rescan ns b ts c (λ d x y z u v. rescan ns s ts d x y z u v) a f e
rescan ns s (raw b ∷ ts) c a f e m r = absurd (T_not (eqb c remark) m (raw_there (eqb c remark) (side c _ a.0).raw_here))
  where
    raw_there : (x : Bool) → T (pick x (eqb raw_text raw_text) (not (eqb raw_text raw_text))) → T x
    raw_there true t = tt
    raw_there false t = t
rescan ns s (out_of_range ∷ ts) c a f e m r = absurd f.0.1
rescan ns s (unreadable ∷ ts) c a f e m r = absurd f.0.1
