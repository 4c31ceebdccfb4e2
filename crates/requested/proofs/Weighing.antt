-- What tokens save (document 02, §13): the byte columns of a line add up to its bytes, and those of a program to the store bytes used; and exactly when each number is
-- given.
use Prim.Native.Nat.{ℕ, ◌+◌}
use Rattle.std.proofs.Common.{arith, subst, ap₂, ◌∙◌, inl, inr, eqb→eq, length-append, length-drop, length-take-le}
use Rattle.std.specs.Prelude.{◌≡◌, Bool, true, false, not, T, eqb, ltb, drop}
use Rattle.std.proofs.Math.Path.{refl, sym, ap}
use mathlib.Core.List.Memᴰ
use mathlib.Core.List.{List, [], ◌∷◌}
use Rattle.std.proofs.Math.ListN.{length}
use Rattle.paper.specs.Bytes.{pick, every, joined}
use Rattle.paper.specs.Tokens.{Token}
use Rattle.paper.specs.Names.{names_in}
use Rattle.paper.specs.Line.{lawful_number?, line_bytes, line_tokens}
use Rattle.paper.specs.WellFormed.{Formed}
use Rattle.paper.specs.Errors.{error_size, error_line?, error_text, listable?}
use Rattle.paper.specs.Calls.{State, names_of}
use Rattle.paper.specs.Files.{Parts, parts_of, no_head?, right_words?, sound_parts?, unless_faulty, loaded_state, Loaded, not_loaded, load}
use Rattle.paper.specs.Weigh.{in_else, sum, line_variables, line_numbers, line_strings, line_raw, line_else, columns_of, no_columns, Weighed, unweighed, weigh}
use Rattle.laws.specs.Tests.{and_left, as_T}
use Rattle.laws.specs.Shares.{in_variables, in_numbers, in_strings, in_raw}
use Rattle.laws.proofs.Shares.{all_tokens_in}
use Rattle.promises.specs.Terms.{Listable, AllListable, none_holds, Exactly}
use Rattle.requested.specs.RequestTerms.{weigh_refusals, AddsUp, ColumnsOf}
use Rattle.grounds.proofs.RoundTrip.{decoded}
use Rattle.promises.proofs.ErrorLines.{all_listable, says_unlistable}
use Rattle.promises.proofs.Tested.{exactly, says_less, tested}
use Rattle.requested.proofs.Loading.{LoadAnswer, refused, held, load_answer, faulty_first}

-- ---- a line

-- the text of an error line, and its other six bytes
error_adds_up : (l : List ℕ) → T (error_line? l) → 0 + 0 + 0 + length (error_text l) + 6 ≡ length l
unfolding error_line? error_text
error_adds_up l t =
    let h : 6 + error_size l ≡ length l = eqb→eq (6 + error_size l) (length l) (and_left (eqb (6 + error_size l) (length l)) _ t) in
    omega (arith, length-take-le (error_size l) (drop 5 l) (omega (arith, length-drop 5 l)))

-- the bytes of the tokens, and the three before them
tokens_add_up : {lawful? : ℕ → Bool} (ns : List (List ℕ)) (l : List ℕ) → Formed lawful? ns l
    → in_variables ns (line_tokens ns l) + in_numbers ns (line_tokens ns l) + in_strings ns (line_tokens ns l) + in_raw ns (line_tokens ns l) + (3 + sum in_else (line_tokens ns l)) ≡ length l
unfolding line_bytes
tokens_add_up ns l w =
    let ts : List Token = line_tokens ns l in
    let e : length (line_bytes ns w.number ts) ≡ length l = ap (λ (z : List Token). length (line_bytes ns w.number z)) (decoded ns l w) ∙ ap length w.bytes in
    omega (arith, all_tokens_in ns ts 3)

module _ {lawful? : ℕ → Bool} (ns : List (List ℕ)) (l : List ℕ) where
  line_go : Listable lawful? ns l → (b : Bool) → error_line? l ≡ b
      → pick b 0 (in_variables ns (line_tokens ns l)) + pick b 0 (in_numbers ns (line_tokens ns l)) + pick b 0 (in_strings ns (line_tokens ns l)) + pick b (length (error_text l)) (in_raw ns (line_tokens ns l)) + pick b 6 (3 + sum in_else (line_tokens ns l)) ≡ length l
  line_go w true e = error_adds_up l (as_T (error_line? l) e)
  line_go (inl w) false e = tokens_add_up ns l w
  line_go (inr t) false e = absurd (subst T e t.1)

  -- the five byte columns of a line add up to its bytes
  pub line_adds_up : Listable lawful? ns l → line_variables ns l + line_numbers ns l + line_strings ns l + line_raw ns l + line_else ns l ≡ length l
  unfolding line_variables line_numbers line_strings line_raw line_else
  line_adds_up w = line_go w (error_line? l) refl

-- ---- lines

-- the byte columns of lines that can be listed add up to their bytes
pub columns_add_up : (ns ls : List (List ℕ)) → AllListable ns ls → AddsUp (columns_of ns ls)
unfolding columns_of sum joined
columns_add_up ns [] h = refl
columns_add_up ns (l ∷ ls) h = omega (arith, line_adds_up ns l (h l (Memᴰ.head refl)), columns_add_up ns ls (λ k m. h k (Memᴰ.tail m)), length-append l (joined ls))

-- ---- a file

-- what `weigh` answers: a refusal, or the columns of a program whose lines can be listed
pub data WeighAnswer (file : List ℕ) : Weighed → Type 0 where
  not_weighed : (k : ℕ) → (k ≡ 0 → ⊥) → WeighAnswer file (unweighed k)
  weighed : (p : Parts) → parts_of file ≡ p → AllListable (names_in p.names) p.lines → WeighAnswer file (record { number = 0; columns = columns_of (names_in p.names) p.lines })

module _ (file : List ℕ) where
  abbrev listable_lines? : Parts → Bool
  listable_lines? p = every (listable? lawful_number? (names_in p.names)) p.lines

  answer_go : (p : Parts) → parts_of file ≡ p → (long no_head right sound : Bool) (b : Bool) → listable_lines? p ≡ b
      → WeighAnswer file (pick long (unweighed 14) (pick no_head (unweighed 12) (pick (not right) (unweighed 13) (pick (not sound) (unweighed 1) (pick (not b) (unweighed 10) (record { number = 0; columns = columns_of (names_in p.names) p.lines }))))))
  answer_go p e true n r s b t = not_weighed 14 (λ z. omega arith)
  answer_go p e false true r s b t = not_weighed 12 (λ z. omega arith)
  answer_go p e false false false s b t = not_weighed 13 (λ z. omega arith)
  answer_go p e false false true false b t = not_weighed 1 (λ z. omega arith)
  answer_go p e false false true true false t = not_weighed 10 (λ z. omega arith)
  answer_go p e false false true true true t = weighed p e (all_listable (names_in p.names) p.lines (as_T (listable_lines? p) t))

  -- every answer is one of these
  pub weigh_answer : WeighAnswer file (weigh file)
  unfolding weigh unless_faulty
  weigh_answer = answer_go (parts_of file) refl (ltb 65535 (length file)) (no_head? file) (right_words? file) (sound_parts? (parts_of file)) (listable_lines? (parts_of file)) refl

  adds_up_go : (w : Weighed) → WeighAnswer file w → AddsUp w.columns
  unfolding unweighed no_columns
  adds_up_go w (not_weighed k n) = refl
  adds_up_go w (weighed p e h) = columns_add_up (names_in p.names) p.lines h

  -- the byte columns of a file add up to its bytes used; of one that is refused all are 0
  pub file_adds_up : AddsUp (weigh file).columns
  file_adds_up = adds_up_go (weigh file) weigh_answer

  none_go : (w : Weighed) → WeighAnswer file w → (w.number ≡ 0 → ⊥) → w.columns ≡ no_columns
  unfolding unweighed
  none_go w (not_weighed k n) h = refl
  none_go w (weighed p e g) h = absurd (h refl)

  -- a file that is refused has none
  pub refused_none : ((weigh file).number ≡ 0 → ⊥) → (weigh file).columns ≡ no_columns
  refused_none h = none_go (weigh file) weigh_answer h

  loaded_go : (s : State) (w : Weighed) (l : Loaded) → WeighAnswer file w → LoadAnswer file s l → w.number ≡ 0 → l.number ≡ 0 → ColumnsOf l.after w.columns
  unfolding names_of columns_of loaded_state unweighed not_loaded
  loaded_go s w l (not_weighed k n) a z y = absurd (n z)
  loaded_go s w l (weighed p e h) (refused k n) z y = absurd (n y)
  loaded_go s w l (weighed p e g) (held o h) z y =
      (ap (λ (q : Parts). columns_of (names_in q.names) q.lines) (sym e) ∙ sym (ap₂ columns_of (ap names_in h.names.front) h.lines), ap (λ (q : Parts). length (joined q.lines)) (sym e))

  -- the columns are those of the program that the file loads as
  pub columns_loaded : (s : State) → (weigh file).number ≡ 0 → (load file s).number ≡ 0 → ColumnsOf (load file s).after (weigh file).columns
  columns_loaded s z y = loaded_go s (weigh file) (load file s) weigh_answer (load_answer file s) z y

  -- 14, 12, 13, 1, 10
  pub weighed_exactly : Exactly (weigh_refusals file) (weigh file).number
  unfolding weigh unweighed
  weighed_exactly =
      let p : Parts = parts_of file in
      let ns : List (List ℕ) = names_in p.names in
      let done : Weighed = record { number = 0; columns = columns_of ns p.lines } in
      exactly _ _ tt
      (tested weighed_number _ _ _ (says_less 65535 (length file))
      (λ e. faulty_first weighed_number unweighed file (pick (not (listable_lines? p)) (unweighed 10) done) _
      (tested weighed_number (not (listable_lines? p)) (unweighed 10) done (says_unlistable ns p.lines) (λ f. none_holds))))
    where
      weighed_number : Weighed → ℕ
      weighed_number e = e.number
