-- The program that a file holds, as it lies in it.
use Prim.Native.Nat.{ℕ, ◌+◌, ◌-◌, ◌*◌, ◌≤◌, ◌<◌}
use Rattle.std.proofs.Common.{arith, subst, ◌∙◌, leb→le, length-append, take-add, get_or-take}
use Rattle.std.proofs.Math.Path.{◌≡◌, sym, ap, ap₂}
use Rattle.std.specs.Prelude.{refl, Bool, not, ◌||◌, leb, ltb, eqb, get_or, Result, Ok, Err}
use Rattle.std.proofs.Math.Bool.{true, false}
use mathlib.Core.List.{List, [], ◌∷◌, ◌++◌}
use Rattle.std.proofs.Math.Dec.{T, eqb→eq}
use Rattle.std.proofs.Math.ListN.{length, take, drop, length-take, length-drop}
use borrow.Author.Tests.{ltb-false}
use Rattle.paper.specs.Bytes.{pick, every, joined}
use Rattle.paper.specs.Names.{names_in, sound_table}
use Rattle.paper.specs.Line.{line_number, lawful_number?}
use Rattle.paper.specs.Store.{lines_from, lines_in, whole_line?, sound_lines}
use Rattle.paper.specs.Files.{word_at, Parts, direct_whole?, without_direct, parts_of, no_head?, right_words?, sound_parts?, unless_faulty}
use Rattle.laws.specs.Tests.{and_left, and_right, as_T}
use Rattle.laws.specs.Lines.{lines_next}
use Rattle.editor_edit.specs.declared.Editor.{Editor}
use Rattle.refusals.specs.declared.Refusal.{Refusal}
use Rattle.refusals.specs.declared.Refusal.TheVariants.{Unsound, NoProgram, Damaged}
use Rattle.refusals.specs.Numbers.{number_of}
use Rattle.file_load.specs.Answers.{record_of_parts, parted, opened}
use Rattle.file_load.specs.WordLaws.{Right, right}
use Rattle.file_load.specs.TableLaws.{within, parts_are, found_names, found_values}

-- ---- the bytes of lines

-- what a whole line at the front of some bytes is
record Front (l s : List ℕ) : Type 0 where
  size : length l ≡ get_or s 2 0
  long : 6 ≤ get_or s 2 0

front_line : (l s : List ℕ) → l ≡ take (get_or s 2 0) s → T (whole_line? l) → Front l s
unfolding whole_line?
front_line l s e t =
    let m : ℕ = get_or s 2 0 in
    let a : 6 ≤ length l = leb→le 6 (length l) (and_left (leb 6 (length l)) _ t) in
    let b : length l ≤ m = omega (arith, ap length e, length-take m s) in
    let two : 2 < m = omega arith in
    let c : get_or l 2 0 ≡ m = ap (λ (z : List ℕ). get_or z 2 0) e ∙ get_or-take m s 2 0 two in
    let d : get_or l 2 0 ≡ length l = eqb→eq (get_or l 2 0) (length l) (and_left (eqb (get_or l 2 0) (length l)) (lawful_number? (line_number l)) (and_right (leb 6 (length l)) _ t)) in
    record { size = sym d ∙ c; long = omega arith }

first_of : (s l : List ℕ) (ls : List (List ℕ)) → lines_in s ≡ l ∷ ls → l ≡ take (get_or s 2 0) s
unfolding lines_in lines_from
first_of [] l ls e = let z : ◌≡◌ {A = ℕ} 0 1 = cc in absurd (omega arith)
first_of (b ∷ s) l ls e = cc

-- the first lines of some bytes, if they are whole, are as many bytes as they have
lines_front : (ls back : List (List ℕ)) (s : List ℕ) → T (every whole_line? ls) → lines_in s ≡ ls ++ back → take (length (joined ls)) s ≡ joined ls
unfolding every joined
lines_front [] back s t e = refl
lines_front (l ∷ ls) back s t e =
    let m : ℕ = get_or s 2 0 in
    let is : l ≡ take m s = first_of s l (ls ++ back) e in
    let f = front_line l s is (and_left (whole_line? l) _ t) in
    let next : lines_in s ≡ take m s ∷ lines_in (drop m s) = lines_next s (omega (arith, f.long)) in
    let rest : lines_in (drop m s) ≡ ls ++ back = cc in
    ap (λ (k : ℕ). take k s) (length-append l (joined ls) ∙ ap (λ (k : ℕ). k + length (joined ls)) f.size)
    ∙ take-add m (length (joined ls)) s
    ∙ ap₂ (λ (x y : List ℕ). x ++ y) (sym is) (lines_front ls back (drop m s) (and_right (whole_line? l) _ t) rest)

-- lines are those without a last one of number 32768, and then that one or none
direct_left : (ls : List (List ℕ)) → (back : List (List ℕ)) × (ls ≡ without_direct ls ++ back)
unfolding without_direct
direct_left [] = ([], refl)
direct_left (l ∷ []) = go (direct_whole? l)
  where
    go : (b : Bool) → (back : List (List ℕ)) × (l ∷ [] ≡ pick b [] (l ∷ []) ++ back)
    go true = (l ∷ [], refl)
    go false = ([], refl)
direct_left (l ∷ m ∷ ms) = let r = direct_left (m ∷ ms) in (r.0, ap (λ (z : List (List ℕ)). l ∷ z) r.1)

program_front : (s : List ℕ) → T (sound_lines (without_direct (lines_in s))) → take (length (joined (without_direct (lines_in s)))) s ≡ joined (without_direct (lines_in s))
unfolding sound_lines
program_front s t =
    let r = direct_left (lines_in s) in
    lines_front (without_direct (lines_in s)) r.0 s (and_left (every whole_line? (without_direct (lines_in s))) _ t) r.1

-- ---- a file that holds a program

holds_go : (a b c : Bool) (r held : Editor) → ◌≡◌ {A = Result Editor Refusal} (pick a (Err NoProgram) (pick (not b) (Err Damaged) (pick (not c) (Err Unsound) (Ok r)))) (Ok held) → (a ≡ false) × (b ≡ true) × (c ≡ true) × (held ≡ r)
holds_go true b c r held e = let z : ◌≡◌ {A = ℕ} 0 1 = cc in absurd (omega arith)
holds_go false false c r held e = let z : ◌≡◌ {A = ℕ} 0 1 = cc in absurd (omega arith)
holds_go false true false r held e = let z : ◌≡◌ {A = ℕ} 0 1 = cc in absurd (omega arith)
holds_go false true true r held e = (refl, refl, refl, (cc))

not_either : (a b : Bool) → a || b ≡ false → a ≡ false
not_either true b e = e
not_either false b e = refl

-- where its parts lie, and how long they are
pub record Lies (file : List ℕ) (held : Editor) : Type 0 where
  pub names : take held.name_bytes (drop 14 file) ≡ (parts_of file).names
  pub values : take (8 * held.name_count) (drop (14 + held.name_bytes + 1) file) ≡ (parts_of file).values
  pub lines : take held.used (drop (14 + held.name_bytes + 1 + 8 * held.name_count) file) ≡ joined (parts_of file).lines
  pub inside : 14 + held.name_bytes + 1 + 8 * held.name_count + held.used ≤ length file
  pub is : held ≡ record_of_parts (parts_of file)
  pub names_sound : T (sound_table (parts_of file).names (length (parts_of file).names) (length (names_in (parts_of file).names)))
  pub lines_sound : T (sound_lines (parts_of file).lines)
  pub name_size : length (parts_of file).names ≡ held.name_bytes
  pub value_size : length (parts_of file).values ≡ 8 * held.name_count
  pub line_size : length (joined (parts_of file).lines) ≡ held.used

module _ (file : List ℕ) (held : Editor) (e : opened file ≡ Ok held) where
  nothing_wrong : (no_head? file ≡ false) × (right_words? file ≡ true) × (sound_parts? (parts_of file) ≡ true) × (held ≡ record_of_parts (parts_of file))
  unfolding opened parted
  nothing_wrong = holds_go (no_head? file) (right_words? file) (sound_parts? (parts_of file)) (record_of_parts (parts_of file)) held e

  has_words : 14 ≤ length file
  unfolding no_head?
  has_words = ltb-false (length file) 14 (not_either (ltb (length file) 14) _ nothing_wrong.0)

  words : Right file
  words = right file nothing_wrong.1

  tables_sound : T (sound_table (parts_of file).names (length (parts_of file).names) (length (names_in (parts_of file).names)))
      × (length (parts_of file).values ≡ 8 * length (names_in (parts_of file).names)) × T (sound_lines (parts_of file).lines)
  unfolding sound_parts?
  tables_sound =
      let p : Parts = parts_of file in
      let c : ℕ = length (names_in p.names) in
      let t = and_right (sound_table p.names (length p.names) c) _ (as_T _ nothing_wrong.2) in
      (and_left (sound_table p.names (length p.names) c) _ (as_T _ nothing_wrong.2), eqb→eq (length p.values) (8 * c) (and_left (eqb (length p.values) (8 * c)) _ t), and_right (eqb (length p.values) (8 * c)) _ t)

  -- so it lies
  pub lies : Lies file held
  unfolding record_of_parts
  lies =
      let p : Parts = parts_of file in
      let same = parts_are file words in
      let is = nothing_wrong.3 in
      let nb : length p.names ≡ held.name_bytes = sym (ap (λ (r : Editor). r.name_bytes) is) in
      let vb : length p.values ≡ 8 * held.name_count = tables_sound.1 ∙ ap (λ (r : Editor). 8 * r.name_count) (sym is) in
      let used : length (joined p.lines) ≡ held.used = sym (ap (λ (r : Editor). r.used) is) in
      let n : word_at file 2 - word_at file 1 ≡ held.name_bytes = sym (found_names file words) ∙ ap (λ (q : Parts). length q.names) (sym same) ∙ nb in
      let v : word_at file 4 - word_at file 3 ≡ 8 * held.name_count = sym (found_values file words) ∙ ap (λ (q : Parts). length q.values) (sym same) ∙ vb in
      let from : List ℕ = drop (14 + held.name_bytes + 1 + 8 * held.name_count) file in
      let lines_are : p.lines ≡ without_direct (lines_in from) = ap (λ (q : Parts). q.lines) same ∙ ap₂ (λ (x y : ℕ). without_direct (lines_in (drop (14 + x + 1 + y) file))) n v in
      let front : take held.used from ≡ joined p.lines =
      ap (λ (k : ℕ). take k from) (sym used)
      ∙ ap (λ (ls : List (List ℕ)). take (length (joined ls)) from) lines_are
      ∙ program_front from (subst (λ (ls : List (List ℕ)). T (sound_lines ls)) lines_are tables_sound.2)
      ∙ ap joined (sym lines_are) in
      record {
        names = ap (λ (k : ℕ). take k (drop 14 file)) (sym n) ∙ ap (λ (q : Parts). q.names) (sym same);
        values = ap₂ (λ (x y : ℕ). take y (drop (14 + x + 1) file)) (sym n) (sym v) ∙ ap (λ (q : Parts). q.values) (sym same);
        lines = front;
        inside = omega (arith, within file words has_words, ap length front, length-take held.used from, length-drop (14 + held.name_bytes + 1 + 8 * held.name_count) file);
        is = is;
        names_sound = tables_sound.0;
        lines_sound = tables_sound.2;
        name_size = nb;
        value_size = vb;
        line_size = used;
      }

-- ---- what comes of a file, by what is found in it

module _ {A : Type 0} (refuse : ℕ → A) (file : List ℕ) (accepted : A) where
  -- it holds a program
  pub faultless : (held : Editor) → opened file ≡ Ok held → unless_faulty refuse file accepted ≡ accepted
  unfolding unless_faulty
  faultless held e = let w = nothing_wrong file held e in rw (w.0, w.1, w.2)

  -- it is refused
  pub faulty : (r : Refusal) → opened file ≡ Err r → unless_faulty refuse file accepted ≡ refuse (number_of r)
  unfolding opened parted unless_faulty
  faulty r e = go (no_head? file) (right_words? file) (sound_parts? (parts_of file)) e
    where
      go : (a b c : Bool) → ◌≡◌ {A = Result Editor Refusal} (pick a (Err NoProgram) (pick (not b) (Err Damaged) (pick (not c) (Err Unsound) (Ok (record_of_parts (parts_of file)))))) (Err r)
          → pick a (refuse 12) (pick (not b) (refuse 13) (pick (not c) (refuse 1) accepted)) ≡ refuse (number_of r)
      go true b c e = let same : NoProgram ≡ r = cc in ap (λ (q : Refusal). refuse (number_of q)) same
      go false false c e = let same : Damaged ≡ r = cc in ap (λ (q : Refusal). refuse (number_of q)) same
      go false true false e = let same : Unsound ≡ r = cc in ap (λ (q : Refusal). refuse (number_of q)) same
      go false true true e = let z : ◌≡◌ {A = ℕ} 0 1 = cc in absurd (omega arith)
