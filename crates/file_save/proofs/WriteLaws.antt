-- The bytes of a file, written part by part; how many they are; and what the call answers.
use Prim.Native.Nat.{ℕ, ◌+◌, ◌*◌, ◌/◌, ◌%◌, ◌≤◌, ◌<◌}
use native.Mathlib.Numerals.{add-one}
use native.Mathlib.Omega.{arith}
use mathlib.Core.Path.{◌≡◌, refl, sym, ap, ap₂, ◌∙◌}
use mathlib.Core.Bool.{true, false}
use mathlib.Core.List.{List, [], ◌∷◌, ◌++◌}
use Rattle.std.specs.Prelude.{Ok, Err}
use lib.Dec.{T, ltb}
use Rattle.std.specs.Int.{w16, to_le_bytes}
use lib.ListN.{length, take, get_or, set, length-append}
use lib.Seq.{sets, length-take-le}
use borrow.Author.Tests.{lt-ltb, le-ltb}
use Rattle.paper.specs.Names.{most_names}
use Rattle.paper.specs.Line.{own_bytes, begins?, to_next, token_bytes, line_bytes}
use Rattle.paper.specs.Store.{overwritten}
use Rattle.paper.specs.Calls.{State, sound_state}
use Rattle.paper.specs.Files.{word_bytes, words_bytes, end_line, saved_words, saved_block, saved_file, not_saved, too_long?, save}
use Rattle.laws.specs.Tests.{is_true}
use Rattle.laws.specs.Lines.{used_of}
use Rattle.buffers.specs.Sets.{sets_append, overwrites}
use Rattle.editor_edit.specs.declared.Editor.{Editor}
use Rattle.editor_edit.specs.States.{state}
use Rattle.editor_edit.specs.Sound.{table_sound, values_fit, store_sound}
use Rattle.refusals.specs.declared.Refusal.TheVariants.{Unsound, NoRoom}
use Rattle.file_save.specs.Answers.{saved, Fitting}

-- ---- words

-- one
pub word_is : (n : ℕ) → n ≤ 65535 → to_le_bytes w16 n ≡ word_bytes n
unfolding word_bytes
word_is n h = let high : n / 256 % 256 ≡ n / 256 = omega arith in rw high

-- the writer's
saved_words_are : (e : Editor) → saved_words (state [] [] [] e)
    ≡ 0 ∷ 256 ∷ (256 + e.name_bytes) ∷ (256 + e.name_bytes + 1) ∷ (256 + e.name_bytes + 1 + 8 * e.name_count) ∷ (256 + e.name_bytes + 1 + 8 * e.name_count + e.used) ∷ (256 + e.name_bytes + 1 + 8 * e.name_count + e.used + 6) ∷ []
unfolding saved_words end_line line_bytes token_bytes own_bytes begins? to_next
saved_words_are e = refl

-- all seven
pub words_written : (r : Editor) (o a b c d e f g : List ℕ) → a ≡ sets o 0 (word_bytes 0) → b ≡ sets a 2 (word_bytes 256) → c ≡ sets b 4 (word_bytes (256 + r.name_bytes))
    → d ≡ sets c 6 (word_bytes (256 + r.name_bytes + 1)) → e ≡ sets d 8 (word_bytes (256 + r.name_bytes + 1 + 8 * r.name_count))
    → f ≡ sets e 10 (word_bytes (256 + r.name_bytes + 1 + 8 * r.name_count + r.used)) → g ≡ sets f 12 (word_bytes (256 + r.name_bytes + 1 + 8 * r.name_count + r.used + 6))
    → g ≡ sets o 0 (words_bytes (saved_words (state [] [] [] r)))
unfolding words_bytes word_bytes
words_written r o a b c d e f g ea eb ec ed ee ef eg = rw (saved_words_are r, eg, ef, ee, ed, ec, eb, ea)

-- ---- the block

-- a part, and then the others
then : (o o' : List ℕ) (i n : ℕ) (part others : List ℕ) → length part ≡ n → o' ≡ sets o i part → sets o i (part ++ others) ≡ sets o' (i + n) others
then o o' i n part others l e = sets_append o i part others ∙ ap₂ (λ (z : List ℕ) (k : ℕ). sets z (i + k) others) (sym e) l

end_line_is : end_line ≡ 0 ∷ 128 ∷ 6 ∷ 6 ∷ 21 ∷ 22 ∷ []
unfolding end_line line_bytes token_bytes own_bytes begins? to_next
end_line_is = refl

module _ (names values store : List ℕ) (e : Editor) (fits : Fitting names values store e) where
  abbrev s : State
  s = state names values store e

  names_size : length (take e.name_bytes names) ≡ e.name_bytes
  names_size = length-take-le e.name_bytes names fits.within_names

  values_size : length (take (8 * e.name_count) values) ≡ 8 * e.name_count
  values_size = length-take-le (8 * e.name_count) values fits.within_values

  lines_size : length (take e.used store) ≡ e.used
  lines_size = length-take-le e.used store fits.within_store

  -- all five parts
  pub block_written : (o a b c d f : List ℕ) → a ≡ sets o 14 (take e.name_bytes names) → b ≡ set a (14 + e.name_bytes) 0 → c ≡ sets b (14 + e.name_bytes + 1) (take (8 * e.name_count) values)
      → d ≡ sets c (14 + e.name_bytes + 1 + 8 * e.name_count) (take e.used store) → f ≡ sets d (14 + e.name_bytes + 1 + 8 * e.name_count + e.used) (0 ∷ 128 ∷ 6 ∷ 6 ∷ 21 ∷ 22 ∷ [])
      → f ≡ sets o 14 (saved_block s)
  unfolding saved_block
  block_written o a b c d f ea eb ec ed ef =
      let rest : List ℕ = take e.used store ++ end_line in
      let i : ℕ = 14 + e.name_bytes in
      ef
      ∙ ap (sets d (i + 1 + 8 * e.name_count + e.used)) (sym end_line_is)
      ∙ sym (then c d (i + 1 + 8 * e.name_count) e.used (take e.used store) end_line lines_size ed)
      ∙ sym (then b c (i + 1) (8 * e.name_count) (take (8 * e.name_count) values) rest values_size ec)
      ∙ ap₂ (λ (l : List ℕ) (k : ℕ). sets l k (take (8 * e.name_count) values ++ rest)) eb (add-one i)
      ∙ sym (then o a 14 e.name_bytes (take e.name_bytes names) (0 ∷ (take (8 * e.name_count) values ++ rest)) names_size ea)

  -- ---- sizes

  -- the last word
  last_word : get_or (saved_words s) 6 0 ≡ e.name_bytes + 8 * e.name_count + e.used + 263
  unfolding saved_words
  last_word = omega (arith, ap length end_line_is)

  -- the whole file
  file_size : length (saved_file s) ≡ e.name_bytes + 8 * e.name_count + e.used + 21
  unfolding saved_file saved_block words_bytes saved_words word_bytes
  file_size = omega (
    arith,
    length-append (take e.name_bytes names) (0 ∷ (take (8 * e.name_count) values ++ (take e.used store ++ end_line))),
    length-append (take (8 * e.name_count) values) (take e.used store ++ end_line),
    length-append (take e.used store) end_line,
    ap length end_line_is,
    names_size,
    values_size,
    lines_size,
  )

-- ---- the answer

module _ (names values store : List ℕ) (e : Editor) (out : List ℕ) where
  abbrev lent : State
  lent = state names values store e

  -- 1
  pub saved_1 : false ≡ sound_state lent → saved (Err Unsound) out ≡ save lent out
  unfolding save not_saved
  saved_1 t = sym (rw (sym t))

  module _ (sound : T (sound_state lent)) where
    -- what a sound program's counts are
    pub counts_within : (e.name_bytes ≤ length names) × (8 * e.name_count ≤ length values) × (e.used ≤ length store) × (e.used ≤ 65535) × (e.name_count ≤ most_names)
    counts_within =
        let table = table_sound lent sound in
        let used = used_of store e.used (store_sound lent sound) in
        (table.within, values_fit lent sound, used.lent, used.most, table.few)

    -- they fit the words
    pub fitting : e.name_bytes + 8 * e.name_count + e.used ≤ 65272 → Fitting names values store e
    fitting h = record { within_names = counts_within.0; within_values = counts_within.1; within_store = counts_within.2; in_words = h }

    saved_8 : too_long? lent out ≡ true → saved (Err NoRoom) out ≡ save lent out
    unfolding save not_saved
    saved_8 t = sym (rw (is_true (sound_state lent) sound, t))

    -- 8: the words are too great
    pub saved_8_words : 65272 < e.name_bytes + 8 * e.name_count + e.used → saved (Err NoRoom) out ≡ save lent out
    unfolding too_long? saved_words
    saved_8_words h = saved_8 (rw (lt-ltb 65535 (get_or (saved_words lent) 6 0) (omega (arith, ap length end_line_is))))

    module _ (fits : Fitting names values store e) where
      small : ltb 65535 (get_or (saved_words lent) 6 0) ≡ false
      small = le-ltb 65535 (get_or (saved_words lent) 6 0) (omega (arith, last_word names values store e fits, fits.in_words))

      -- 8: the buffer is too short
      pub saved_8_buffer : length out < e.name_bytes + 8 * e.name_count + e.used + 21 → saved (Err NoRoom) out ≡ save lent out
      unfolding too_long?
      saved_8_buffer h = saved_8 (rw (small, lt-ltb (length out) (length (saved_file lent)) (omega (arith, file_size names values store e fits))))

      -- the words, and then the block, are the file
      whole : (o o' : List ℕ) → o ≡ sets out 0 (words_bytes (saved_words lent)) → o' ≡ sets o 14 (saved_block lent) → length (saved_file lent) ≤ length out → o' ≡ overwritten (saved_file lent) out
      unfolding saved_file words_bytes word_bytes saved_words
      whole o o' eo eb f =
          eb
          ∙ sym (then out o 0 14 (words_bytes (saved_words lent)) (saved_block lent) refl eo)
          ∙ overwrites out (saved_file lent) f

      -- 0: the words are written, and then the block
      pub saved_0 : e.name_bytes + 8 * e.name_count + e.used + 21 ≤ length out → (o o' : List ℕ) → o ≡ sets out 0 (words_bytes (saved_words (state [] [] [] e))) → o' ≡ sets o 14 (saved_block lent)
          → saved (Ok (e.name_bytes + 8 * e.name_count + e.used + 21)) o' ≡ save lent out
      unfolding save too_long? saved_words
      saved_0 h o o' eo eb =
          let size = file_size names values store e fits in
          let there : o' ≡ overwritten (saved_file lent) out = whole o o' eo eb (omega (arith, size)) in
          sym (rw (is_true (sound_state lent) sound, small, le-ltb (length out) (length (saved_file lent)) (omega (arith, size)), size, ← there))
