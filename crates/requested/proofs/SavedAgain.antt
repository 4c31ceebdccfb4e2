-- A saved program file, read again (document 02, §7): the reader finds the writer's words and parts.
use Prim.Native.Nat.{ℕ, suc, ◌+◌, ◌-◌, ◌*◌, ◌/◌, ◌%◌, ◌≤◌, ◌<◌}
use native.Mathlib.Omega.{arith}
use Rattle.std.specs.Prelude.{◌≡◌, true, false, T, eqb, leb, get_or}
use Rattle.std.proofs.Math.Path.{refl, ap}
use Rattle.std.proofs.Common.{subst, sym, ◌∙◌, leb→le, eqb→eq, length-take-le}
use mathlib.Core.List.{List, [], ◌∷◌, ◌++◌, append_assoc}
use Rattle.std.proofs.Math.ListN.{length, take, drop, length-append, get_or-append}
use Rattle.std.proofs.Math.Seq.{take_at, drop_at, drop-append-add, get_or_at, take-append_seam, drop-append_seam}
use borrow.Author.Tests.{le-ltb, le-leb, eq-eqb}
use Rattle.paper.specs.Bytes.{every, joined}
use Rattle.paper.specs.Line.{own_bytes, begins?, to_next, token_bytes, line_bytes, line_number, direct_number?}
use Rattle.paper.specs.Store.{lines_from, lines_in, whole_line?, rising, sound_lines, overwritten}
use Rattle.paper.specs.Calls.{State, names_of, lines_of, sound_state}
use Rattle.paper.specs.Files.{word_bytes, word_at, words_bytes, head_size, end_line, saved_words, saved_block, saved_file, Saved, not_saved, save, never_fall, Parts, direct_whole?, without_direct, parts_of, no_head?, right_words?, loaded_state, load}
use Rattle.laws.specs.Tests.{and_left, and_right}
use Rattle.laws.specs.Lines.{lines_next, bytes_back, room_lent}
use Rattle.requested.specs.RequestTerms.{Holding, RoomFor, ReadBack, SoundParts}
use Rattle.promises.proofs.Stored.{over_take}
use Rattle.promises.proofs.States.{state_says}
use Rattle.promises.proofs.Editing.{used_bytes}
use Rattle.promises.proofs.ReEntry.{lines_size}
use Rattle.requested.proofs.Saving.{SaveAnswer, refused, written, save_answer}
use Rattle.requested.proofs.Loading.{last_out, Fits, holding, load_accepts}

-- ---- words

-- the two bytes of a number give it back
two_bytes : (n : ℕ) → n % 256 + 256 * (n / 256) ≡ n
two_bytes n = omega arith

-- A file with the writer's words before a block: names that end a bytes past 256, b bytes of values, then c and the end d.
pub record Words (file block : List ℕ) (a b c d : ℕ) : Type 0 where
  pub zeroth : word_at file 0 ≡ 0
  pub first : word_at file 1 ≡ 256
  pub second : word_at file 2 ≡ 256 + a
  pub third : word_at file 3 ≡ 256 + a + 1
  pub fourth : word_at file 4 ≡ 256 + a + 1 + b
  pub fifth : word_at file 5 ≡ c
  pub sixth : word_at file 6 ≡ d
  pub block_is : drop head_size file ≡ block
  pub size : 14 ≤ length file

-- the words are read as they were written
pub words_read : (block : List ℕ) (a b c d : ℕ) → Words (words_bytes (0 ∷ 256 ∷ (256 + a) ∷ (256 + a + 1) ∷ (256 + a + 1 + b) ∷ c ∷ d ∷ []) ++ block) block a b c d
unfolding word_at words_bytes word_bytes
words_read block a b c d =
    record {
      zeroth = refl;
      first = refl;
      second = two_bytes (256 + a);
      third = two_bytes (256 + a + 1);
      fourth = two_bytes (256 + a + 1 + b);
      fifth = two_bytes c;
      sixth = two_bytes d;
      block_is = refl;
      size = omega arith;
    }

-- ---- parts

module _ (file names values rest : List ℕ) (c d : ℕ) (w : Words file (names ++ 0 ∷ (values ++ rest)) (length names) (length values) c d) where
  -- the first word and the size are right
  pub has_head : no_head? file ≡ false
  unfolding no_head?
  has_head = rw (le-ltb (length file) head_size w.size, w.zeroth)

  -- the parts of the block are what was written
  pub parts_are : parts_of file ≡ record { names = names; values = values; lines = without_direct (lines_in rest) }
  unfolding parts_of
  parts_are =
      let a : ℕ = length names in
      let x : 256 + a - 256 ≡ a = omega arith in
      let y : 256 + a + 1 - 256 ≡ a + 1 = omega arith in
      let z : 256 + a + 1 + length values - (256 + a + 1) ≡ length values = omega arith in
      let v : 256 + a + 1 + length values - 256 ≡ a + suc (length values) = omega arith in
      let vs : drop (a + 1) (names ++ 0 ∷ (values ++ rest)) ≡ values ++ rest = drop-append-add names (0 ∷ (values ++ rest)) 1 in
      let ls : drop (a + suc (length values)) (names ++ 0 ∷ (values ++ rest)) ≡ rest = drop-append-add names (0 ∷ (values ++ rest)) (suc (length values)) ∙ drop_at values rest (length values) refl in
      rw (w.block_is, w.first, w.second, w.third, w.fourth, x, y, z, v, vs, ls, take_at names (0 ∷ (values ++ rest)) a refl, take_at values rest (length values) refl)

  -- and the words are right, if the last is the end of the block
  pub words_right : 256 + length names + 1 + length values ≤ c → c ≤ d → d ≡ 256 + length names + 1 + length values + length rest → right_words? file ≡ true
  unfolding right_words? never_fall
  words_right h k e =
      let a : ℕ = length names in
      let x : 256 + a - 256 ≡ a = omega arith in
      let n : length (names ++ 0 ∷ (values ++ rest)) ≡ d - 256 = omega (arith, length-append names (0 ∷ (values ++ rest)), length-append values rest) in
      let y : 256 + a + 1 ≡ suc (256 + a) = omega arith in
      rw (
        w.block_is,
        w.zeroth,
        w.first,
        w.second,
        w.third,
        w.fourth,
        w.fifth,
        w.sixth,
        x,
        get_or_at names 0 (values ++ rest) 1 a refl,
        eq-eqb _ _ n,
        eq-eqb _ _ y,
        le-leb 256 (256 + a) (omega arith),
        le-leb (256 + a) (256 + a + 1) (omega arith),
        le-leb (256 + a + 1) (256 + a + 1 + length values) (omega arith),
        le-leb _ _ h,
        le-leb _ _ k,
      )

-- ---- lines

-- a whole line in front of other bytes
line_front : (l rest : List ℕ) → T (whole_line? l) → lines_in (l ++ rest) ≡ l ∷ lines_in rest
unfolding whole_line?
line_front l rest t =
    let long : 6 ≤ length l = leb→le 6 (length l) (and_left (leb 6 (length l)) _ t) in
    let two : 2 < length l = omega arith in
    let size : get_or (l ++ rest) 2 0 ≡ length l = get_or-append l rest 0 2 two ∙ eqb→eq (get_or l 2 0) (length l) (and_left (eqb (get_or l 2 0) (length l)) _ (and_right (leb 6 (length l)) _ t)) in
    lines_next (l ++ rest) (omega arith) ∙ rw (size, take-append_seam l rest, drop-append_seam l rest)

-- whole lines in front of other bytes
lines_front : (ls : List (List ℕ)) (rest : List ℕ) → T (every whole_line? ls) → lines_in (joined ls ++ rest) ≡ ls ++ lines_in rest
unfolding joined every
lines_front [] rest t = refl
lines_front (l ∷ ls) rest t =
    ap lines_in (append_assoc l (joined ls) rest)
    ∙ line_front l (joined ls ++ rest) (and_left (whole_line? l) (every whole_line? ls) t)
    ∙ ap (λ (z : List (List ℕ)). l ∷ z) (lines_front ls rest (and_right (whole_line? l) (every whole_line? ls) t))

end_lines : lines_in end_line ≡ end_line ∷ []
unfolding lines_in lines_from end_line line_bytes token_bytes own_bytes begins? to_next
end_lines = refl

end_direct : direct_whole? end_line ≡ true
unfolding direct_whole? end_line line_bytes token_bytes own_bytes begins? to_next direct_number? line_number
end_direct = refl

-- the lines of sound bytes before the writer's END
lines_saved : (s : List ℕ) → T (every whole_line? (lines_in s)) → without_direct (lines_in (s ++ end_line)) ≡ lines_in s
lines_saved s t =
    ap (λ (z : List ℕ). without_direct (lines_in (z ++ end_line))) (sym (bytes_back s t))
    ∙ ap without_direct (lines_front (lines_in s) end_line t ∙ ap (λ (z : List (List ℕ)). lines_in s ++ z) end_lines)
    ∙ last_out (lines_in s) end_line end_direct

-- ---- a saved program

-- the parts of a program
unfoldable saved_parts : State → Parts
saved_parts s = record { names = take s.name_size s.names; values = take (8 * s.name_count) s.values; lines = lines_of s }

module _ (s : State) (sound : T (sound_state s)) where
  name_length : length (take s.name_size s.names) ≡ s.name_size
  name_length = length-take-le s.name_size s.names (state_says s sound).table.fits

  value_length : length (take (8 * s.name_count) s.values) ≡ 8 * s.name_count
  value_length = length-take-le (8 * s.name_count) s.values (state_says s sound).values_fit

  whole : T (every whole_line? (lines_of s))
  unfolding sound_lines
  whole = and_left (every whole_line? (lines_of s)) (rising (lines_of s)) (state_says s sound).lines

  used_length : length (take s.used s.store) ≡ s.used
  used_length = let o = state_says s sound in length-take-le s.used s.store (omega (arith, o.used_fits, room_lent s.store))

  -- the parts of a sound program are sound
  sound_saved : SoundParts (saved_parts s)
  unfolding saved_parts names_of
  sound_saved =
      let o = state_says s sound in
      record { bytes = o.table.bytes; names = o.table.names; values = value_length ∙ ap (λ (n : ℕ). 8 * n) (sym o.table.counted); lines = o.lines }

  -- the file has the writer's words
  saved_says : Words (saved_file s) (take s.name_size s.names ++ 0 ∷ (take (8 * s.name_count) s.values ++ (take s.used s.store ++ end_line))) (length (take s.name_size s.names)) (length (take (8 * s.name_count) s.values)) (256 + s.name_size + 1 + 8 * s.name_count + s.used) (256 + s.name_size + 1 + 8 * s.name_count + s.used + length end_line)
  unfolding saved_file saved_block saved_words
  saved_says = rw (name_length, value_length) (words_read _ s.name_size (8 * s.name_count) _ _)

  -- Loading the file of a sound program gives its parts.
  loads_parts : (t : State) → Fits (saved_parts s) t → load (saved_file s) t ≡ record { number = 0; after = loaded_state (saved_parts s) t }
  unfolding saved_parts lines_of
  loads_parts t f =
      let ns : List ℕ = take s.name_size s.names in
      let vs : List ℕ = take (8 * s.name_count) s.values in
      let rest : List ℕ = take s.used s.store ++ end_line in
      let w = saved_says in
      load_accepts (saved_file s) t (saved_parts s) (has_head (saved_file s) ns vs rest _ _ w)
      (words_right (saved_file s) ns vs rest _ _ w (omega (arith, name_length, value_length)) (omega arith) (omega (arith, name_length, value_length, used_length, length-append (take s.used s.store) end_line)))
      (parts_are (saved_file s) ns vs rest _ _ w ∙ ap (λ (ls : List (List ℕ)). record { names = ns; values = vs; lines = ls }) (lines_saved (take s.used s.store) whole))
      sound_saved f

-- what comes back
parts_back : (s t : State) → T (sound_state s) → Fits (saved_parts s) t → ReadBack s (record { number = 0; after = loaded_state (saved_parts s) t })
unfolding saved_parts loaded_state names_of
parts_back s t sound f =
    let o = state_says s sound in
    let h : Holding (saved_parts s) t (loaded_state (saved_parts s) t) = holding (saved_parts s) t (sound_saved s sound) f in
    let n : length (take s.name_size s.names) ≡ s.name_size = name_length s sound in
    let u : length (joined (lines_of s)) ≡ s.used = lines_size s sound in
    record {
      number = refl;
      names = subst (λ (z : ℕ). take z (overwritten (take s.name_size s.names) t.names) ≡ take s.name_size s.names) n h.names.front;
      values = subst (λ (z : ℕ). take z (overwritten (take (8 * s.name_count) s.values) t.values) ≡ take (8 * s.name_count) s.values) (value_length s sound) h.values.front;
      lines = subst (λ (z : ℕ). take z (overwritten (joined (lines_of s)) t.store) ≡ joined (lines_of s)) u h.store.front ∙ used_bytes s sound;
      name_size = n;
      name_count = o.table.counted;
      used = u;
      line_count = sym o.agrees.counted;
      greatest = sym o.agrees.greatest;
    }

-- buffers with room for the program have room for its parts
parts_fit : (s t : State) → T (sound_state s) → RoomFor s t → Fits (saved_parts s) t
unfolding saved_parts
parts_fit s t sound r =
    record { names = omega (arith, r.names, name_length s sound); values = omega (arith, r.values, value_length s sound); lines = omega (arith, r.store, lines_size s sound) }

back_go : (s t : State) (output : List ℕ) (e : Saved) → SaveAnswer s output e → e.number ≡ 0 → RoomFor s t → ReadBack s (load (take e.written e.output) t)
unfolding not_saved
back_go s t output e (refused k n) z r = absurd (n z)
back_go s t output e (written sound w) z r =
    let f : Fits (saved_parts s) t = parts_fit s t sound r in
    subst (ReadBack s) (sym (ap (λ (x : List ℕ). load x t) (over_take (saved_file s) output) ∙ loads_parts s sound t f)) (parts_back s t sound f)

-- reading what was written gives back names, values and stored lines, and the whole record
pub reads_back : (s t : State) (output : List ℕ) → (save s output).number ≡ 0 → RoomFor s t → ReadBack s (load (take (save s output).written (save s output).output) t)
reads_back s t output z r = back_go s t output (save s output) (save_answer s output) z r
