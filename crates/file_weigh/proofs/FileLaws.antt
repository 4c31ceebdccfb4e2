-- What a file weighs, by what is found in it.
use Prim.Native.Nat.{ℕ, ◌+◌, ◌-◌, ◌*◌, ◌≤◌, ◌<◌}
use native.Mathlib.Omega.{arith}
use mathlib.Core.Path.{◌≡◌, refl, subst, sym, ap, ap₂, ◌∙◌}
use mathlib.Core.Bool.{Bool, true, false, not}
use mathlib.Core.List.{List}
use lib.Dec.{T}
use lib.ListN.{length, take, drop}
use lib.Seq.{take-length}
use borrow.Author.Tests.{lt-ltb, le-ltb}
use Rattle.std.specs.Prelude.{Option, Some, None, Result, Ok, Err}
use Rattle.paper.specs.Bytes.{pick, every, joined}
use Rattle.paper.specs.Line.{lawful_number?}
use Rattle.paper.specs.Names.{names_in, sound_table}
use Rattle.paper.specs.Errors.{listable?}
use Rattle.paper.specs.Store.{lines_in, whole_line?, sound_lines}
use Rattle.paper.specs.Files.{parts_of}
use Rattle.paper.specs.Weigh.{no_columns, columns_of, unweighed, weigh}
use Rattle.paper.specs.Weigh.{Columns as Sums, Weighed as Outcome}
use Rattle.laws.specs.Tests.{and_left}
use Rattle.laws.specs.Lines.{lines_back}
use Rattle.list_pieces.specs.Rest.{Sound}
use Rattle.editor_edit.specs.declared.Editor.{Editor}
use Rattle.refusals.specs.Numbers.{number_of}
use Rattle.refusals.specs.declared.Refusal.{Refusal}
use Rattle.refusals.specs.declared.Refusal.TheVariants.{NotWellFormed, NoFile}
use Rattle.file_load.specs.Answers.{record_of_parts, opened}
use Rattle.file_load.specs.Lies.{Lies, lies, faultless, faulty}
use Rattle.list_weigh.specs.declared.Weight.{Weight}
use Rattle.list_weigh.specs.Weights.{nothing, plus, Small}
use Rattle.list_weigh.proofs.Bounds.{small_more}
use Rattle.file_weigh.specs.declared.Columns.{Columns}
use Rattle.file_weigh.specs.Answers.{columns_in, weighed, lines_weight, lines_weighing, Sized}
use Rattle.file_weigh.specs.Sizes.{none_sized}
use Rattle.file_weigh.proofs.LinesLaws.{program_columns, lines_few}

-- a refusal, as the code has it
refused : (k : Refusal) → weighed (Err k) ≡ unweighed (number_of k)
unfolding unweighed no_columns
refused k = refl

-- its columns are those of nothing
abbrev Answers : List ℕ → Result Columns Refusal → Type 0
Answers file r = (weighed r ≡ weigh file) × Sized 65535 (columns_in r)

-- a part of a file, as a slice has it
pub part : (file : List ℕ) (from size : ℕ) → take (from + size - from) (drop from file) ≡ take size (drop from file)
part file from size = let e : from + size - from ≡ size = omega arith in ap (λ (k : ℕ). take k (drop from file)) e

module _ (file : List ℕ) where
  -- 14
  pub too_long : 65535 < length file → Answers file (Err NoFile)
  unfolding weigh
  too_long h = (refused NoFile ∙ sym (rw (lt-ltb 65535 (length file) h)), none_sized 65535)

  module _ (few : length file ≤ 65535) where
    -- 12, 13, 1
    pub not_opened : (k : Refusal) → opened file ≡ Err k → Answers file (Err k)
    unfolding weigh
    not_opened k o = (refused k ∙ sym (rw (le-ltb 65535 (length file) few) (faulty unweighed file _ k o)), none_sized 65535)

    -- a program
    module _ (held : Editor) (o : opened file ≡ Ok held) where
      abbrev ls : List (List ℕ)
      ls = (parts_of file).lines

      abbrev ns : List (List ℕ)
      ns = names_in (parts_of file).names

      outcome : weigh file ≡ pick (not (every (listable? lawful_number? ns) ls)) (unweighed 10) (record { number = 0; columns = columns_of ns ls })
      unfolding weigh
      outcome = rw (le-ltb 65535 (length file) few) (faultless unweighed file _ held o)

      -- where it lies
      abbrev place : Lies file held
      place = lies file held o

      -- the slices of its names and of its lines, and what the code has found of these
      module _ (names lines : List ℕ) (en : names ≡ take held.name_bytes (drop 14 file)) (el : lines ≡ take held.used (drop (14 + held.name_bytes + 1 + 8 * held.name_count) file)) where
        names_are : names ≡ (parts_of file).names
        names_are = en ∙ place.names

        all_names : take held.name_bytes names ≡ (parts_of file).names
        all_names = ap (λ (k : ℕ). take k names) (sym place.name_size ∙ ap length (sym names_are)) ∙ take-length names ∙ names_are

        lines_whole : T (every whole_line? ls)
        unfolding sound_lines
        lines_whole = and_left (every whole_line? ls) _ place.lines_sound

        lines_are : lines_in lines ≡ ls
        lines_are = ap lines_in (el ∙ place.lines) ∙ lines_back ls lines_whole

        pub lines_long : length lines ≡ held.used
        lines_long = ap length (el ∙ place.lines) ∙ place.line_size

        -- what is asked of these
        pub slices_right : Sound names held.name_bytes × (held.name_bytes ≤ 65535) × (length lines ≤ 65535) × T (every whole_line? (lines_in lines))
        slices_right = (
          subst (λ (z : List ℕ). Sound z held.name_bytes) (sym names_are) own,
          omega (arith, place.inside),
          omega (arith, lines_long, place.inside),
          subst (λ (z : List (List ℕ)). T (every whole_line? z)) (sym lines_are) lines_whole,
        )
          where
            own : Sound (parts_of file).names held.name_bytes
            own =
                let n : List ℕ = (parts_of file).names in
                subst (Sound n) place.name_size (subst (λ (z : List ℕ). T (sound_table n (length n) (length (names_in z)))) (sym (take-length n)) place.names_sound)

        module _ (a : Option Weight) (is : a ≡ lines_weighing nothing (names_in (take held.name_bytes names)) (lines_in lines)) where
          found : a ≡ lines_weighing nothing ns ls
          found = is ∙ ap₂ (λ (n : List ℕ) (z : List (List ℕ)). lines_weighing nothing (names_in n) z) all_names lines_are

          -- 10
          pub not_listable : a ≡ None → Answers file (Err NotWellFormed)
          unfolding lines_weighing
          not_listable e = (refused NotWellFormed ∙ sym (outcome ∙ go (every (listable? lawful_number? ns) ls) (sym found ∙ e)), none_sized 65535)
            where
              go : (b : Bool) → pick b (Some (plus nothing (lines_weight ns ls))) None ≡ None → pick (not b) (unweighed 10) (record { number = 0; columns = columns_of ns ls }) ≡ unweighed 10
              go true e = let z : ◌≡◌ {A = ℕ} 0 1 = cc in absurd (omega arith)
              go false e = refl

          -- the columns
          pub counted : (w : Weight) → a ≡ Some w → Small (length lines) w → Answers file (Ok (record { lines = held.lines; names = held.name_count; used = held.used; weight = w }))
          unfolding lines_weighing record_of_parts
          counted w e small =
              let k = go (every (listable? lawful_number? ns) ls) (sym found ∙ e) in
              let is = place.is in
              let all : length ls ≤ length (joined ls) = lines_few ls lines_whole in
              let same = program_columns ns ls held.lines held.name_count held.used w (ap (λ (h : Editor). h.lines) is) (ap (λ (h : Editor). h.name_count) is) (ap (λ (h : Editor). h.used) is) k.1 in
              let made : Sums → Outcome = λ c. record { number = 0; columns = c } in (
                ap made same ∙ sym (outcome ∙ rw k.0),
                record {
                  lines = omega (arith, all, ap (λ (h : Editor). h.lines) is, place.line_size, place.inside);
                  names = omega (arith, place.inside);
                  used = omega (arith, place.inside);
                  weight = small_more (length lines) 65535 w (omega (arith, lines_long, place.inside)) small;
                },
              )
            where
              go : (b : Bool) → pick b (Some (plus nothing (lines_weight ns ls))) None ≡ Some w → (b ≡ true) × (w ≡ plus nothing (lines_weight ns ls))
              go true e = (refl, (cc))
              go false e = let z : ◌≡◌ {A = ℕ} 0 1 = cc in absurd (omega arith)
