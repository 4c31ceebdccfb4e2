-- The tables of a file whose words are right: where they lie, and what the tests of them say.
use Prim.Native.Nat.{ℕ, ◌+◌, ◌-◌, ◌*◌, ◌/◌, ◌≤◌}
use Rattle.std.proofs.Common.{arith, subst, ◌∙◌, eqb→eq, length-drop, take_all, length-take-le, drop-drop, le-leb, eq-eqb, ne_eqb}
use Rattle.std.proofs.Math.Path.{◌≡◌, refl, sym, ap, ap₂}
use Rattle.std.specs.Prelude.{Bool, ◌&&◌, List, T, leb, eqb, take, drop, Option, Some, None, Result, Ok, Err}
use Rattle.std.proofs.Math.Bool.{true, false, and-false}
use Rattle.std.proofs.Math.ListN.{length}
use Rattle.std.proofs.Math.Seq.{take-length}
use Rattle.paper.specs.Bytes.{pick}
use Rattle.paper.specs.Names.{names_in, sound_table}
use Rattle.paper.specs.Store.{lines_in, sound_lines}
use Rattle.paper.specs.Files.{word_at, head_size, Parts, without_direct, parts_of, sound_parts?}
use Rattle.laws.specs.Tests.{as_T}
use Rattle.laws.specs.Names.{sound_facts}
use Rattle.store.specs.declared.Counts.{Counts}
use Rattle.store.specs.Answers.{counts_of, program_answer}
use Rattle.editor_edit.specs.declared.Editor.{Editor}
use Rattle.refusals.specs.declared.Refusal.{Refusal}
use Rattle.refusals.specs.declared.Refusal.TheVariants.{Unsound}
use Rattle.file_load.specs.Answers.{record_of_parts, parted}
use Rattle.file_load.specs.WordLaws.{Right}

-- ---- a count of names by the bytes of their values

true_right : (y : Bool) → (y && true) ≡ y
true_right true = refl
true_right false = refl

-- the tests of names and values, where the values are eight bytes for each of n names
counted_go : (c n bytes : ℕ) (b : ℕ → Bool) → bytes ≡ 8 * n → (b n ≡ true → c ≡ n) → (b c && eqb bytes (8 * c)) ≡ b n
counted_go c n bytes b e f = go (eqb bytes (8 * c)) refl (b n) refl
  where
    go : (x : Bool) → eqb bytes (8 * c) ≡ x → (y : Bool) → b n ≡ y → (b c && x) ≡ y
    go true g y h = let same : c ≡ n = omega (arith, eqb→eq bytes (8 * c) (as_T _ g)) in ap (λ (z : ℕ). b z && true) same ∙ rw h (true_right y)
    go false g true h = let z : ◌≡◌ {A = Bool} true false = sym (eq-eqb bytes (8 * c) (e ∙ ap (λ (k : ℕ). 8 * k) (sym (f h)))) ∙ g in absurd (subst T z tt)
    go false g false h = and-false (b c)

-- names that are sound as n names are n
counted_by : (names : List ℕ) (n : ℕ) → sound_table names (length names) n ≡ true → length (names_in names) ≡ n
counted_by names n t = ap (λ (z : List ℕ). length (names_in z)) (sym (take-length names)) ∙ (sound_facts names (length names) n t).counted

module _ (names values bytes : List ℕ) where
  abbrev p : Parts
  p = record { names = names; values = values; lines = without_direct (lines_in bytes) }

  abbrev count : ℕ
  count = length (names_in names)

  -- value bytes that are eight for each of no number of names
  uneven : (length values ≡ 8 * (length values / 8) → ⊥) → sound_parts? p ≡ false
  unfolding sound_parts?
  uneven h = rw (ne_eqb (length values) (8 * count) (λ z. h (omega arith)), and-false (sound_table names (length names) count))

  -- else the names decide, and then the lines
  even : (n : ℕ) → length values ≡ 8 * n → sound_parts? p ≡ (sound_table names (length names) n && sound_lines (without_direct (lines_in bytes)))
  unfolding sound_parts?
  even n e =
      regroup (sound_table names (length names) count) (eqb (length values) (8 * count)) (sound_lines (without_direct (lines_in bytes)))
      ∙ ap (λ (x : Bool). x && sound_lines (without_direct (lines_in bytes))) (counted_go count n (length values) (sound_table names (length names)) e (counted_by names n))
    where
      regroup : (a b c : Bool) → (a && (b && c)) ≡ ((a && b) && c)
      regroup true b c = refl
      regroup false b c = refl

-- ---- where the tables lie

module _ (file : List ℕ) (right : Right file) where
  abbrev block : List ℕ
  block = drop head_size file

  abbrev name_size : ℕ
  name_size = word_at file 2 - word_at file 1

  abbrev value_size : ℕ
  value_size = word_at file 4 - word_at file 3

  -- the parts begin and end within the file
  pub within : (14 ≤ length file) → 14 + name_size + 1 + value_size ≤ length file
  within h = let r = right.rise in omega (arith, right.size, right.past, length-drop 14 file, r.names, r.names_end, r.values, r.statements, r.current)

  names_are : length (take name_size block) ≡ name_size
  names_are = let r = right.rise in length-take-le name_size block (omega (arith, right.size, r.names, r.names_end, r.values, r.statements, r.current))

  values_are : length (take value_size (drop (word_at file 3 - word_at file 1) block)) ≡ value_size
  values_are =
      let r = right.rise in
      length-take-le value_size (drop (word_at file 3 - word_at file 1) block)
      (omega (arith, right.size, length-drop (word_at file 3 - word_at file 1) block, r.names, r.names_end, r.values, r.statements, r.current))

  lines_at : drop (word_at file 4 - word_at file 1) block ≡ drop (14 + name_size + 1 + value_size) file
  lines_at =
      let r = right.rise in
      let k : 14 + (word_at file 4 - word_at file 1) ≡ 14 + name_size + 1 + value_size = omega (arith, right.past, r.names, r.names_end, r.values) in
      drop-drop (word_at file 4 - word_at file 1) 14 file ∙ ap (λ (i : ℕ). drop i file) k

  values_at : drop (word_at file 3 - word_at file 1) block ≡ drop (14 + name_size + 1) file
  values_at =
      let r = right.rise in
      let k : 14 + (word_at file 3 - word_at file 1) ≡ 14 + name_size + 1 = omega (arith, right.past, r.names) in
      drop-drop (word_at file 3 - word_at file 1) 14 file ∙ ap (λ (i : ℕ). drop i file) k

  -- the parts, as the reader finds them
  abbrev found : Parts
  found = record { names = take name_size block; values = take value_size (drop (14 + name_size + 1) file); lines = without_direct (lines_in (drop (14 + name_size + 1 + value_size) file)) }

  pub parts_are : parts_of file ≡ found
  unfolding parts_of
  parts_are = rw (lines_at, values_at)

  pub found_names : length found.names ≡ name_size
  found_names = names_are

  pub found_values : length found.values ≡ value_size
  found_values = ap (λ (z : List ℕ). length (take value_size z)) (sym values_at) ∙ values_are

  -- ---- the answers

  refused : sound_parts? found ≡ false → Err Unsound ≡ parted file
  unfolding parted
  refused e = sym (rw (parts_are, e))

  -- as the code has them: nb bytes of names, vb of values
  module _ (nb vb : ℕ) (en : nb ≡ name_size) (ev : vb ≡ value_size) where
    abbrev lines_from_here : List ℕ
    lines_from_here = drop (14 + name_size + 1 + value_size) file

    -- values of no number of names
    pub refused_uneven : (vb ≡ 8 * (vb / 8) → ⊥) → Err Unsound ≡ parted file
    refused_uneven h = refused (uneven found.names found.values lines_from_here (λ z. h (omega (arith, found_values))))

    module _ (even_so : vb ≡ 8 * (vb / 8)) (b : Bool) (tested : b ≡ sound_table (take (14 + nb - 14) (drop 14 file)) nb (vb / 8) && leb (8 * (vb / 8)) vb) where
      table_so : b ≡ sound_table found.names (length found.names) (vb / 8)
      table_so =
          let k : 14 + nb - 14 ≡ name_size = omega arith in
          let m : nb ≡ length found.names = en ∙ sym found_names in
          tested ∙ rw (k, m, le-leb (8 * (vb / 8)) vb (omega arith)) (true_right (sound_table found.names (length found.names) (vb / 8)))

      all_is : sound_parts? found ≡ (b && sound_lines found.lines)
      all_is = even found.names found.values lines_from_here (vb / 8) (found_values ∙ sym ev ∙ even_so) ∙ ap (λ (x : Bool). x && sound_lines found.lines) (sym table_so)

      -- unsound names
      pub refused_names : b ≡ false → Err Unsound ≡ parted file
      refused_names e = refused (all_is ∙ rw e)

      -- the lines, as a slice has them
      module _ (a : Option Counts) (is : a ≡ program_answer (take (length file - (14 + nb + 1 + vb)) (drop (14 + nb + 1 + vb) file))) where
        answer_is : a ≡ program_answer lines_from_here
        answer_is =
            is
            ∙ ap program_answer (take_all (length file - (14 + nb + 1 + vb)) (drop (14 + nb + 1 + vb) file) (omega (arith, length-drop (14 + nb + 1 + vb) file)) ∙ ap₂ (λ (x y : ℕ). drop (14 + x + 1 + y) file) en ev)

        -- unsound lines
        pub refused_lines : a ≡ None → Err Unsound ≡ parted file
        unfolding program_answer
        refused_lines e = refused (all_is ∙ go (sound_lines found.lines) (sym e ∙ answer_is))
          where
            go : (x : Bool) → None ≡ pick x (Some (counts_of found.lines)) None → (b && x) ≡ false
            go true e = let z : ◌≡◌ {A = ℕ} 0 1 = cc in absurd (omega arith)
            go false e = and-false b

        -- a sound program
        pub held : b ≡ true → (c : Counts) → a ≡ Some c → Ok (record { used = c.used; lines = c.lines; greatest = c.greatest; name_count = vb / 8; name_bytes = nb }) ≡ parted file
        unfolding program_answer counts_of parted record_of_parts
        held t c e =
            let s = go (sound_lines found.lines) refl (sym e ∙ answer_is) in
            let names : length (names_in found.names) ≡ vb / 8 = counted_by found.names (vb / 8) (sym table_so ∙ t) in
            let good : (b && sound_lines found.lines) ≡ true = rw (t, s.0) in
            let all : sound_parts? found ≡ true = all_is ∙ good in
            let make : Counts → ℕ → ℕ → Result Editor Refusal = λ k x y. Ok (record { used = k.used; lines = k.lines; greatest = k.greatest; name_count = x; name_bytes = y }) in
            ap (λ (k : Counts). make k (vb / 8) nb) s.1 ∙ ap₂ (make (counts_of found.lines)) (sym names) (en ∙ sym found_names) ∙ sym (rw (parts_are, all))
          where
            go : (x : Bool) → sound_lines found.lines ≡ x → Some c ≡ pick x (Some (counts_of found.lines)) None → (sound_lines found.lines ≡ true) × (c ≡ counts_of found.lines)
            go true h e = (h, (cc))
            go false h e = let z : ◌≡◌ {A = ℕ} 0 1 = cc in absurd (omega arith)
