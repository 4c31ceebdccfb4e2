-- The words of a file: what the tests of them say.
use Rattle.std.specs.Prelude.{ℕ, zero, suc, ◌+◌, ◌-◌, ◌≤◌, ◌<◌, ◌≡◌, refl, Bool, true, false, ◌&&◌, List, [], ◌∷◌, leb, length, take, drop, get_or, Result, Err}
use Rattle.std.proofs.Math.Numerals.{add-one}
use Rattle.std.proofs.Common.{arith, ◌∙◌, leb→le, length-drop, take_all}
use Rattle.std.proofs.Math.Path.{sym, ap}
use Rattle.std.proofs.Math.Bool.{and-false}
use Rattle.std.proofs.Math.Dec.{eqb, eqb→eq}
use borrow.Author.Tests.{lt-leb, le-leb, le-ltb, lt-ltb, eq-eqb, ne_eqb}
use Rattle.paper.specs.Files.{word_at, head_size, never_fall, no_head?, right_words?}
use Rattle.laws.specs.Tests.{and_left, and_right, as_T, is_true}
use Rattle.editor_edit.specs.declared.Editor.{Editor}
use Rattle.refusals.specs.declared.Refusal.{Refusal}
use Rattle.refusals.specs.declared.Refusal.TheVariants.{NoProgram, Damaged}
use Rattle.file_load.specs.Answers.{parted, opened}

-- ---- words that never fall

-- n words more from word i on: the next one, and those after it
next_word : (file : List ℕ) (i n m : ℕ) → n ≡ suc m → never_fall file i n ≡ (leb (word_at file i) (word_at file (suc i)) && never_fall file (suc i) m)
unfolding never_fall
next_word file i n m e = rw e

-- one that falls
pub falls : (file : List ℕ) (i : ℕ) → i < 6 → (low high : ℕ) → high ≡ word_at file (i + 1) → low ≡ word_at file i → high < low → false ≡ never_fall file i (6 - i)
falls file i h low high e f less =
    let fall : leb (word_at file i) (word_at file (suc i)) ≡ false = lt-leb (word_at file i) (word_at file (suc i)) (omega (arith, ap (word_at file) (add-one i))) in
    sym (next_word file i (6 - i) (5 - i) (omega arith) ∙ rw fall)

-- one that does not
pub goes_on : (file : List ℕ) (i : ℕ) → i < 6 → (low high : ℕ) → high ≡ word_at file (i + 1) → low ≡ word_at file i → low ≤ high → never_fall file (i + 1) (6 - (i + 1)) ≡ never_fall file i (6 - i)
goes_on file i h low high e f more =
    let rise : leb (word_at file i) (word_at file (suc i)) ≡ true = le-leb (word_at file i) (word_at file (suc i)) (omega (arith, ap (word_at file) (add-one i))) in
    let left : 6 - (i + 1) ≡ 5 - i = omega arith in
    sym (next_word file i (6 - i) (5 - i) (omega arith) ∙ rw (rise, left, add-one i))

-- no more words
pub all_passed : (file : List ℕ) (i : ℕ) → i ≡ 6 → true ≡ never_fall file i (6 - i)
unfolding never_fall
all_passed file i e = rw e

-- words that never fall, each by each
pub record Rising (file : List ℕ) : Type 0 where
  pub names : word_at file 1 ≤ word_at file 2
  pub names_end : word_at file 2 ≤ word_at file 3
  pub values : word_at file 3 ≤ word_at file 4
  pub statements : word_at file 4 ≤ word_at file 5
  pub current : word_at file 5 ≤ word_at file 6

pub rising : (file : List ℕ) → never_fall file 0 6 ≡ true → Rising file
unfolding never_fall
rising file e =
    let w : ℕ → Bool = λ i. leb (word_at file i) (word_at file (suc i)) in
    let a = and_right (w 0) _ (as_T _ e) in
    let b = and_right (w 1) _ a in
    let c = and_right (w 2) _ b in
    let d = and_right (w 3) _ c in
    let f = and_right (w 4) _ d in
    record {
      names = leb→le _ _ (and_left (w 1) _ a);
      names_end = leb→le _ _ (and_left (w 2) _ b);
      values = leb→le _ _ (and_left (w 3) _ c);
      statements = leb→le _ _ (and_left (w 4) _ d);
      current = leb→le _ _ (and_left (w 5) _ f);
    }

-- ---- the block

-- the bytes after the words, as a slice has them
pub block_is : (file : List ℕ) → take (length file - 14) (drop 14 file) ≡ drop head_size file
block_is file = take_all (length file - 14) (drop 14 file) (omega (arith, length-drop 14 file))

-- a byte of a list, whatever stands for one past its end
byte_there : (l : List ℕ) (i : ℕ) → i < length l → get_or l i 0 ≡ get_or l i 1
byte_there [] i h = absurd (omega arith)
byte_there (x ∷ l) zero h = refl
byte_there (x ∷ l) (suc i) h = byte_there l i (omega arith)

module _ (file : List ℕ) where
  abbrev block : List ℕ
  block = drop head_size file

  abbrev long : Bool
  long = eqb (length block) (word_at file 6 - word_at file 1)

  abbrev right_place : Bool
  right_place = eqb (word_at file 3) (suc (word_at file 2))

  -- words that fall
  pub not_rising : never_fall file 0 6 ≡ false → false ≡ right_words? file
  unfolding right_words?
  not_rising e = sym (rw e)

  -- a block of another length
  pub not_long : (length block ≡ word_at file 6 - word_at file 1 → ⊥) → false ≡ right_words? file
  unfolding right_words?
  not_long h = sym (rw (ne_eqb (length block) (word_at file 6 - word_at file 1) h, and-false (never_fall file 0 6)))

  -- values that do not lie just past the end of the names
  pub not_past : (word_at file 3 ≡ word_at file 2 + 1 → ⊥) → false ≡ right_words? file
  unfolding right_words?
  not_past h = sym (rw (ne_eqb (word_at file 3) (suc (word_at file 2)) (λ z. h (z ∙ sym (add-one (word_at file 2)))), and-false long, and-false (never_fall file 0 6)))

  -- else the zero byte decides
  pub zero_decides : never_fall file 0 6 ≡ true → length block ≡ word_at file 6 - word_at file 1 → word_at file 3 ≡ word_at file 2 + 1
      → eqb (get_or block (word_at file 2 - word_at file 1) 0) 0 ≡ right_words? file
  unfolding right_words?
  zero_decides e f g =
      let r = rising file e in
      ap (λ (b : ℕ). eqb b 0) (byte_there block (word_at file 2 - word_at file 1) (omega (arith, r.names, r.names_end, r.values, r.statements, r.current)))
      ∙ sym (rw (e, eq-eqb (length block) (word_at file 6 - word_at file 1) f, eq-eqb (word_at file 3) (suc (word_at file 2)) (g ∙ add-one (word_at file 2))))

  -- what right words say
  pub record Right : Type 0 where
    pub rise : Rising file
    pub size : length (drop head_size file) ≡ word_at file 6 - word_at file 1
    pub past : word_at file 3 ≡ suc (word_at file 2)

  pub right : right_words? file ≡ true → Right
  unfolding right_words?
  right e =
      let t = as_T _ e in
      let a = and_right (never_fall file 0 6) _ t in
      let b = and_right long _ a in
      record {
        rise = rising file (is_true _ (and_left (never_fall file 0 6) _ t));
        size = eqb→eq (length block) _ (and_left long _ a);
        past = eqb→eq (word_at file 3) _ (and_left right_place _ b);
      }

  -- ---- the answers to a whole file

  -- 12
  pub opened_short : length file < 14 → Err NoProgram ≡ opened file
  unfolding opened no_head?
  opened_short h = sym (rw (lt-ltb (length file) 14 h))

  -- 12, of the first word
  pub opened_first : (word_at file 0 ≡ 0 → ⊥) → 14 ≤ length file → Err NoProgram ≡ opened file
  unfolding opened no_head?
  opened_first n h = sym (rw (le-ltb (length file) 14 h, ne_eqb (word_at file 0) 0 n))

  head_there : word_at file 0 ≡ 0 → 14 ≤ length file → no_head? file ≡ false
  unfolding no_head?
  head_there e h = rw (le-ltb (length file) 14 h, eq-eqb (word_at file 0) 0 e)

  -- 13
  pub opened_wrong : word_at file 0 ≡ 0 → 14 ≤ length file → right_words? file ≡ false → Err Damaged ≡ opened file
  unfolding opened
  opened_wrong e h w = sym (rw (head_there e h, w))

  -- the tables decide
  pub opened_right : word_at file 0 ≡ 0 → 14 ≤ length file → right_words? file ≡ true → (r : Result Editor Refusal) → r ≡ parted file → r ≡ opened file
  unfolding opened
  opened_right e h w r q = q ∙ sym (rw (head_there e h, w))
