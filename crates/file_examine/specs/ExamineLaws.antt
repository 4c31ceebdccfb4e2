-- The names counted by their last bytes; the parts of a file that is refused with 1; and the whole answer.
use Prim.Native.Nat.{ℕ, suc, ◌+◌, ◌-◌, ◌*◌, ◌≤◌, ◌<◌}
use native.Mathlib.Omega.{arith}
use Rattle.std.proofs.Common.{add-one, ◌∙◌, length-drop, drop-cons}
use Rattle.std.specs.Prelude.{◌≡◌, refl, Bool, true, false, not, ◌||◌, leb, ltb, drop, get_or, cond, count_by, Result, Ok, Err, MatchResult, IsErrAnd}
use Rattle.std.proofs.Math.Path.{sym, ap, ap₂}
use Rattle.std.proofs.Math.Bool.{and-false}
use Rattle.std.proofs.lemmas.List.Recursion.{is_count_by}
use Rattle.std.proofs.lemmas.Result.{err_from_is_err_and}
use mathlib.Core.List.{List, [], ◌∷◌}
use Rattle.std.proofs.Math.ListN.{length, take}
use Rattle.std.proofs.Math.Seq.{take-length}
use borrow.Author.Tests.{le-leb, lt-leb, ltb-false, eq-eqb, ne_eqb}
use Rattle.paper.specs.Bytes.{pick, joined}
use Rattle.paper.specs.Names.{in_front, names_in, sound_table}
use Rattle.paper.specs.Files.{word_at, Parts, parts_of, no_head?, right_words?, sound_parts?}
use Rattle.paper.specs.Examine.{unsound_names, unsound_values, unsound_store, examine}
use Rattle.paper.specs.Examine.{Verdict as Answer}
use Rattle.laws.specs.Names.{closed?, names_some, same_bytes, sound_facts}
use Rattle.editor_edit.specs.declared.Editor.{Editor}
use Rattle.refusals.specs.Numbers.{number_of}
use Rattle.refusals.specs.declared.Refusal.{Refusal}
use Rattle.refusals.specs.declared.Refusal.TheVariants.{Unsound, NoProgram, Damaged}
use Rattle.file_load.specs.Answers.{record_of_parts, parted, opened}
use Rattle.file_load.specs.WordLaws.{Right, right}
use Rattle.file_load.specs.TableLaws.{within, parts_are, found_names, found_values}
use Rattle.file_load.specs.Lies.{Lies, lies}
use Rattle.editor_examine.specs.declared.Flaw.{Flaw}
use Rattle.editor_examine.specs.Verdicts.{verdict}
use Rattle.file_examine.specs.declared.Fault.{Fault}
use Rattle.file_examine.specs.declared.Fault.TheVariants.{Flawed}
use Rattle.file_examine.specs.Answers.{not_read, program, unsound_part, examined_parts, examine_file, examined, name_ends}

-- ---- names counted by their last bytes

-- the bytes that end a name, counted
pub ends_counted : (s : List ℕ) → name_ends s ≡ count_by (λ (b : ℕ). leb 128 b) s
unfolding name_ends
ends_counted = is_count_by name_ends (λ (b : ℕ). leb 128 b) refl (λ b bs. go (leb 128 b) (name_ends bs))
  where
    go : (t : Bool) (n : ℕ) → pick t (suc n) n ≡ cond t (1 + n) n
    go true n = omega arith
    go false n = refl

-- a byte more, which ends a name
pub end_more : (s : List ℕ) (i n m r : ℕ) → i < length s → 128 ≤ get_or s i 0 → m ≡ n + 1 → n + name_ends (drop i s) ≡ r → m + name_ends (drop (i + 1) s) ≡ r
unfolding name_ends
end_more s i n m r h t k e =
    let next : name_ends (drop i s) ≡ suc (name_ends (drop (i + 1) s)) = rw (drop-cons s i 0 h, le-leb 128 (get_or s i 0) t, add-one i) in
    omega (arith, next)

-- or does not
pub end_none : (s : List ℕ) (i n m r : ℕ) → i < length s → get_or s i 0 < 128 → m ≡ n → n + name_ends (drop i s) ≡ r → m + name_ends (drop (i + 1) s) ≡ r
unfolding name_ends
end_none s i n m r h t k e =
    let next : name_ends (drop i s) ≡ name_ends (drop (i + 1) s) = rw (drop-cons s i 0 h, lt-leb 128 (get_or s i 0) t, add-one i) in
    omega (arith, next)

-- and at the end there is none
ends_none : (s : List ℕ) → length s ≤ 0 → name_ends s ≡ 0
unfolding name_ends
ends_none [] h = refl
ends_none (b ∷ s) h = absurd (omega arith)

pub none_after : (s : List ℕ) (i n r : ℕ) → length s ≤ i → n + name_ends (drop i s) ≡ r → n ≡ r
none_after s i n r h e = omega (arith, ends_none (drop i s) (omega (arith, length-drop i s)))

front_length : (x : ℕ) (r : List (List ℕ)) → 0 < length r → length (in_front x r) ≡ length r
unfolding in_front
front_length x [] h = absurd (omega arith)
front_length x (n ∷ ns) h = refl

-- a table that ends with a name's end has as many names
names_ended : (bs : List ℕ) → closed? bs ≡ true → name_ends bs ≡ length (names_in bs)
unfolding closed? name_ends names_in
names_ended [] h = refl
names_ended (x ∷ []) h = rw h
names_ended (x ∷ y ∷ ys) h = go (leb 128 x) (names_ended (y ∷ ys) h)
  where
    go : (t : Bool) → name_ends (y ∷ ys) ≡ length (names_in (y ∷ ys)) → pick t (suc (name_ends (y ∷ ys))) (name_ends (y ∷ ys)) ≡ length (pick t (((x - 128) ∷ []) ∷ names_in (y ∷ ys)) (in_front x (names_in (y ∷ ys))))
    go true e = ap suc e
    go false e = e ∙ sym (front_length x (names_in (y ∷ ys)) (names_some y ys))

not_closed : (names : List ℕ) (n : ℕ) → closed? names ≡ false → sound_table names (length names) n ≡ false
unfolding sound_table
not_closed names n e = rw (take-length names, same_bytes names, e) (and-false (leb (length names) (length names)))

-- so it is sound with that count, or with none
pub counted : (names : List ℕ) → sound_table names (length names) (name_ends names) ≡ sound_table names (length names) (length (names_in names))
counted names = go (closed? names) refl
  where
    go : (t : Bool) → closed? names ≡ t → sound_table names (length names) (name_ends names) ≡ sound_table names (length names) (length (names_in names))
    go true e = ap (sound_table names (length names)) (names_ended names e)
    go false e = not_closed names (name_ends names) e ∙ sym (not_closed names (length (names_in names)) e)

-- ---- the first unsound part

module _ (p : Parts) (n : ℕ) (en : n ≡ name_ends p.names) (b : Bool) (tested : b ≡ sound_table p.names (length p.names) n) where
  table_is : sound_table p.names (length p.names) (length (names_in p.names)) ≡ b
  table_is = sym (counted p.names) ∙ ap (sound_table p.names (length p.names)) (sym en) ∙ sym tested

  -- the names
  pub names_first : b ≡ false → unsound_names ≡ unsound_part p
  unfolding unsound_part
  names_first e = sym (rw (table_is, e))

  count_is : b ≡ true → length (names_in p.names) ≡ n
  count_is e = ap (λ (z : List ℕ). length (names_in z)) (sym (take-length p.names)) ∙ (sound_facts p.names (length p.names) n (sym tested ∙ e)).counted

  -- the values
  pub values_first : b ≡ true → (vb : ℕ) → vb ≡ length p.values → (vb ≡ 8 * n → ⊥) → unsound_values ≡ unsound_part p
  unfolding unsound_part
  values_first e vb ev h = sym (rw (table_is, e, ne_eqb (length p.values) (8 * length (names_in p.names)) (λ z. h (ev ∙ z ∙ ap (λ (k : ℕ). 8 * k) (count_is e)))))

  -- the lines
  pub lines_first : b ≡ true → (vb : ℕ) → vb ≡ length p.values → vb ≡ 8 * n → unsound_store ≡ unsound_part p
  unfolding unsound_part
  lines_first e vb ev h = sym (rw (table_is, e, eq-eqb (length p.values) (8 * length (names_in p.names)) (sym ev ∙ h ∙ ap (λ (k : ℕ). 8 * k) (sym (count_is e)))))

-- ---- a file that is refused with 1

not_either : (a b : Bool) → a || b ≡ false → a ≡ false
not_either true b e = e
not_either false b e = refl

module _ (file : List ℕ) (e : opened file ≡ Err Unsound) where
  faulty_go : (a b c : Bool) (r : Editor) → ◌≡◌ {A = Result Editor Refusal} (pick a (Err NoProgram) (pick (not b) (Err Damaged) (pick (not c) (Err Unsound) (Ok r)))) (Err Unsound) → (a ≡ false) × (b ≡ true) × (c ≡ false)
  faulty_go true b c r e = let z : ◌≡◌ {A = ℕ} 12 1 = cc in absurd (omega arith)
  faulty_go false false c r e = let z : ◌≡◌ {A = ℕ} 13 1 = cc in absurd (omega arith)
  faulty_go false true false r e = (refl, refl, refl)
  faulty_go false true true r e = let z : ◌≡◌ {A = ℕ} 0 1 = cc in absurd (omega arith)

  faulty : (no_head? file ≡ false) × (right_words? file ≡ true) × (sound_parts? (parts_of file) ≡ false)
  unfolding opened parted
  faulty = faulty_go (no_head? file) (right_words? file) (sound_parts? (parts_of file)) (record_of_parts (parts_of file)) e

  has_words : 14 ≤ length file
  unfolding no_head?
  has_words = ltb-false (length file) 14 (not_either (ltb (length file) 14) _ faulty.0)

  pub words : Right file
  words = right file faulty.1

  pub inside : 14 + (word_at file 2 - word_at file 1) + 1 + (word_at file 4 - word_at file 3) ≤ length file
  inside = within file words has_words

  -- its names and values, as the code has them
  names_are : (nb : ℕ) → nb ≡ word_at file 2 - word_at file 1 → take (14 + nb - 14) (drop 14 file) ≡ (parts_of file).names
  names_are nb en =
      let k : 14 + nb - 14 ≡ word_at file 2 - word_at file 1 = omega arith in
      ap (λ (j : ℕ). take j (drop 14 file)) k ∙ ap (λ (q : Parts). q.names) (sym (parts_are file words))

  name_size : (nb : ℕ) → nb ≡ word_at file 2 - word_at file 1 → nb ≡ length (parts_of file).names
  name_size nb en = en ∙ sym (found_names file words) ∙ ap (λ (q : Parts). length q.names) (sym (parts_are file words))

  value_size : (vb : ℕ) → vb ≡ word_at file 4 - word_at file 3 → vb ≡ length (parts_of file).values
  value_size vb ev = ev ∙ sym (found_values file words) ∙ ap (λ (q : Parts). length q.values) (sym (parts_are file words))

  -- and the tests of them
  module _ (nb vb n : ℕ) (en : nb ≡ word_at file 2 - word_at file 1) (ev : vb ≡ word_at file 4 - word_at file 3) (ends : n ≡ name_ends (take (14 + nb - 14) (drop 14 file)))
      (b : Bool) (tested : b ≡ sound_table (take (14 + nb - 14) (drop 14 file)) nb n) where
    ends_of_names : n ≡ name_ends (parts_of file).names
    ends_of_names = ends ∙ ap name_ends (names_are nb en)

    test_of_names : b ≡ sound_table (parts_of file).names (length (parts_of file).names) n
    test_of_names = tested ∙ ap (λ (x : List ℕ). sound_table x nb n) (names_are nb en) ∙ ap (λ (k : ℕ). sound_table (parts_of file).names k n) (name_size nb en)

    pub tells_names : b ≡ false → unsound_names ≡ unsound_part (parts_of file)
    tells_names f = names_first (parts_of file) n ends_of_names b test_of_names f

    pub tells_values : b ≡ true → (vb ≡ 8 * n → ⊥) → unsound_values ≡ unsound_part (parts_of file)
    tells_values t h = values_first (parts_of file) n ends_of_names b test_of_names t vb (value_size vb ev) h

    pub tells_lines : b ≡ true → vb ≡ 8 * n → unsound_store ≡ unsound_part (parts_of file)
    tells_lines t h = lines_first (parts_of file) n ends_of_names b test_of_names t vb (value_size vb ev) h

  -- the whole answer
  pub tells_part : (v : Answer) → v ≡ unsound_part (parts_of file) → program v ≡ examine_file file
  unfolding examine_file
  tells_part v h = ap program h ∙ sym (rw (faulty.0, faulty.1, faulty.2))

-- a file that is refused with another number
other_go : (a b c : Bool) (r : Editor) (k : Refusal) (x y : Answer) → (k ≡ Unsound → ⊥) → ◌≡◌ {A = Result Editor Refusal} (pick a (Err NoProgram) (pick (not b) (Err Damaged) (pick (not c) (Err Unsound) (Ok r)))) (Err k)
    → not_read (number_of k) ≡ pick a (not_read 12) (pick (not b) (not_read 13) (pick (not c) (program x) (program y)))
other_go true b c r k x y n e = let same : NoProgram ≡ k = cc in ap (λ (q : Refusal). not_read (number_of q)) (sym same)
other_go false false c r k x y n e = let same : Damaged ≡ k = cc in ap (λ (q : Refusal). not_read (number_of q)) (sym same)
other_go false true false r k x y n e = let same : Unsound ≡ k = cc in absurd (n (sym same))
other_go false true true r k x y n e = let z : ◌≡◌ {A = ℕ} 0 1 = cc in absurd (omega arith)

pub tells_number : (file : List ℕ) (k : Refusal) → opened file ≡ Err k → (k ≡ Unsound → ⊥) → not_read (number_of k) ≡ examine_file file
unfolding opened parted examine_file
tells_number file k e n = other_go (no_head? file) (right_words? file) (sound_parts? (parts_of file)) (record_of_parts (parts_of file)) k _ _ n e

-- ---- a file that holds a program

module _ (file : List ℕ) (held : Editor) (e : opened file ≡ Ok held) where
  pub lies_so : Lies file held
  lies_so = lies file held e

  -- its program, as the code has it
  pub program_is : (v : Answer)
      → v
      ≡ examine (take (14 + held.name_bytes - 14) (drop 14 file)) held.name_bytes held.name_count
      (take (14 + held.name_bytes + 1 + 8 * held.name_count - (14 + held.name_bytes + 1)) (drop (14 + held.name_bytes + 1) file))
      (take (14 + held.name_bytes + 1 + 8 * held.name_count + held.used - (14 + held.name_bytes + 1 + 8 * held.name_count)) (drop (14 + held.name_bytes + 1 + 8 * held.name_count) file))
      held.used
      → v ≡ examined_parts (parts_of file)
  unfolding examined_parts record_of_parts
  program_is v h =
      let p : Parts = parts_of file in
      let l = lies_so in
      let nb = held.name_bytes in
      let nc = held.name_count in
      let a : 14 + nb - 14 ≡ nb = omega arith in
      let b : 14 + nb + 1 + 8 * nc - (14 + nb + 1) ≡ 8 * nc = omega arith in
      let c : 14 + nb + 1 + 8 * nc + held.used - (14 + nb + 1 + 8 * nc) ≡ held.used = omega arith in
      let count : nc ≡ length (names_in p.names) = ap (λ (r : Editor). r.name_count) l.is in
      let lines : List ℕ = take (14 + nb + 1 + 8 * nc + held.used - (14 + nb + 1 + 8 * nc)) (drop (14 + nb + 1 + 8 * nc) file) in
      h
      ∙ ap₂ (λ (x y : List ℕ). examine x nb nc y lines held.used) (ap (λ (k : ℕ). take k (drop 14 file)) a ∙ l.names) (ap (λ (k : ℕ). take k (drop (14 + nb + 1) file)) b ∙ l.values)
      ∙ ap (λ (x : List ℕ). examine p.names nb nc p.values x held.used) (ap (λ (k : ℕ). take k (drop (14 + nb + 1 + 8 * nc) file)) c ∙ l.lines)
      ∙ ap₂ (λ (x y : ℕ). examine p.names x y p.values (joined p.lines) held.used) (sym l.name_size) count
      ∙ ap (λ (x : ℕ). examine p.names (length p.names) (length (names_in p.names)) p.values (joined p.lines) x) (sym l.line_size)

  -- the whole answer
  holds_go : (a b c : Bool) (r : Editor) (x y : Answer) → ◌≡◌ {A = Result Editor Refusal} (pick a (Err NoProgram) (pick (not b) (Err Damaged) (pick (not c) (Err Unsound) (Ok r)))) (Ok held)
      → program y ≡ pick a (not_read 12) (pick (not b) (not_read 13) (pick (not c) (program x) (program y)))
  holds_go true b c r x y e = let z : ◌≡◌ {A = ℕ} 0 1 = cc in absurd (omega arith)
  holds_go false false c r x y e = let z : ◌≡◌ {A = ℕ} 0 1 = cc in absurd (omega arith)
  holds_go false true false r x y e = let z : ◌≡◌ {A = ℕ} 0 1 = cc in absurd (omega arith)
  holds_go false true true r x y e = refl

  pub tells_program : (v : Answer) → v ≡ examined_parts (parts_of file) → program v ≡ examine_file file
  unfolding examine_file opened parted
  tells_program v h = ap program h ∙ holds_go (no_head? file) (right_words? file) (sound_parts? (parts_of file)) (record_of_parts (parts_of file)) _ _ e

-- what is found of a program is found of its file
pub examined_program : (r : Result (Unit {0}) Flaw) (m : Result (Unit {0}) Fault) → MatchResult r (λ u. m ≡ Ok u) (λ f. IsErrAnd m (λ x. x ≡ Flawed f)) → examined m ≡ program (verdict r)
unfolding examined verdict
examined_program (Ok u) m h = rw h
examined_program (Err f) m h = let p = err_from_is_err_and m h in rw (p.1, p.2)
