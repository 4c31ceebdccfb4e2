-- The lines of a saved program: sound lines, and after them none, or one of number 32768 (document 02, §7).
use Prim.Native.Nat.{ℕ, zero, suc, pred, ◌-◌, ◌≤◌, ◌<◌}
use native.Mathlib.Omega.{arith}
use mathlib.Core.Path.{◌≡◌, refl, sym, ap, ◌∙◌, subst}
use mathlib.Core.Bool.{Bool, true, false, ◌&&◌, and-false}
use mathlib.Core.List.{List, [], ◌∷◌}
use lib.Dec.{T, leb, ltb, eqb, eqb→eq}
use lib.ListN.{length, take, drop, get_or, length-drop}
use lib.Seq.{take_all}
use borrow.Author.Tests.{lt-leb, le-leb, lt-ltb, eq-eqb, ne_eqb}
use Rattle.paper.specs.Bytes.{pick, every, joined}
use Rattle.paper.specs.Line.{line_number, lawful_number?, direct_number?}
use Rattle.paper.specs.Store.{lines_from, lines_in, whole_line?, rising_above, rising, sound_lines, greatest_number}
use Rattle.paper.specs.Files.{direct_whole?, without_direct}
use Rattle.laws.specs.Tests.{and_right, as_T}
use Rattle.laws.specs.Lines.{lines_past}
use Rattle.store.specs.declared.Walked.{Walked}
use Rattle.std.specs.Prelude.{Option, Some, None}
use Rattle.store.specs.declared.Counts.{Counts}
use Rattle.store.specs.Walks.{passes?, passed, least_after, start, walked_on, counts_past}
use Rattle.store.specs.Answers.{counts_of, program_answer}
use Rattle.store.specs.Places.{sound_rising}
use Rattle.store.specs.Walks.{rising_from, sound_lines_from}
use Rattle.store.specs.Rising.{past, lawful, from_zero, from_above}
use Rattle.store.proofs.Walk.{left, walked, lines_left, from_start, last_greatest}

-- ---- one line of number 32768

module _ (s : List ℕ) where
  -- too few bytes
  pub direct_short : length s < 6 → false ≡ direct_whole? s
  unfolding direct_whole?
  direct_short h = sym (rw (lt-leb 6 (length s) h))

  -- another length byte
  pub direct_cut : (n : ℕ) → n ≡ get_or s 2 0 → (n ≡ length s → ⊥) → false ≡ direct_whole? s
  unfolding direct_whole?
  direct_cut n e h = sym (rw (ne_eqb (get_or s 2 0) (length s) (λ z. h (e ∙ z)), and-false (leb 6 (length s))))

  -- the number decides
  pub direct_by_number : 6 ≤ length s → (n : ℕ) → n ≡ get_or s 2 0 → n ≡ length s → (k : ℕ) → k ≡ line_number s → eqb k 32768 ≡ direct_whole? s
  unfolding direct_whole? direct_number?
  direct_by_number h n e f k g = ap (λ (z : ℕ). eqb z 32768) g ∙ sym (rw (le-leb 6 (length s) h, eq-eqb (get_or s 2 0) (length s) (sym e ∙ f)))

-- all three
pub ruleset directs = (direct_short, direct_cut, direct_by_number)

-- ---- what may follow sound lines

-- no line, or one of number 32768
unfoldable pub ends_well : List (List ℕ) → Bool
ends_well [] = true
ends_well (l ∷ []) = direct_whole? l
ends_well (l ∷ m ∷ ms) = false

-- a line of number 32768 is none of a store
direct_unsound : (l : List ℕ) → direct_whole? l ≡ true → whole_line? l ≡ false
unfolding direct_whole? direct_number? whole_line? lawful_number?
direct_unsound l e =
    let t = and_right (eqb (get_or l 2 0) (length l)) _ (and_right (leb 6 (length l)) _ (as_T (direct_whole? l) e)) in
    let n : leb (line_number l) 32767 ≡ false = lt-leb (line_number l) 32767 (omega (arith, eqb→eq (line_number l) 32768 t)) in
    rw (n, and-false (eqb (get_or l 2 0) (length l)), and-false (leb 6 (length l)))

-- so it is not passed
direct_not_passed : (k : ℕ) (l : List ℕ) → direct_whole? l ≡ true → passes? k 32768 l ≡ false
unfolding passes?
direct_not_passed k l e = rw (direct_unsound l e)

-- a line in front of others: it is passed, and they are sound after it
sound_step : (k : ℕ) (l : List ℕ) (ls : List (List ℕ)) → sound_lines_from k (l ∷ ls) ≡ (passes? k 32768 l && sound_lines_from (suc (line_number l)) ls)
unfolding sound_lines_from rising_from every passes?
sound_step k l ls = go (whole_line? l) (leb k (line_number l)) refl
  where
    go : (w a : Bool) → whole_line? l ≡ w
        → (w && every whole_line? ls) && (a && rising_above (line_number l) ls) ≡ (w && (a && ltb (line_number l) 32768)) && (every whole_line? ls && rising_from (suc (line_number l)) ls)
    go false a e = refl
    go true false e = and-false (every whole_line? ls)
    go true true e = rw (lt-ltb (line_number l) 32768 (omega (arith, lawful l e)), from_above (line_number l) ls)

-- the lines before a last one of number 32768 are sound exactly if no others are left of all
program_sound : (k : ℕ) (ls : List (List ℕ)) → sound_lines_from k (without_direct ls) ≡ ends_well (left k 32768 ls)
unfolding without_direct left ends_well sound_lines_from rising_from every
program_sound k [] = refl
program_sound k (l ∷ []) = go (direct_whole? l) (passes? k 32768 l) refl refl
  where
    go : (d p : Bool) → direct_whole? l ≡ d → passes? k 32768 l ≡ p → sound_lines_from k (pick d [] (l ∷ [])) ≡ ends_well (pick p [] (l ∷ []))
    go true true e f = let z : ◌≡◌ {A = Bool} true false = sym f ∙ direct_not_passed k l e in absurd (subst T (z) tt)
    go true false e f = sym e
    go false true e f = sound_step k l [] ∙ rw (f)
    go false false e f = sound_step k l [] ∙ rw (f, e)
program_sound k (l ∷ m ∷ ms) = sound_step k l (without_direct (m ∷ ms)) ∙ go (passes? k 32768 l) (program_sound (suc (line_number l)) (m ∷ ms))
  where
    go : (p : Bool) → sound_lines_from (suc (line_number l)) (without_direct (m ∷ ms)) ≡ ends_well (left (suc (line_number l)) 32768 (m ∷ ms))
        → (p && sound_lines_from (suc (line_number l)) (without_direct (m ∷ ms))) ≡ ends_well (pick p (left (suc (line_number l)) 32768 (m ∷ ms)) (l ∷ m ∷ ms))
    go true e = e
    go false e = refl

-- and then they are those that are passed
program_lines : (k : ℕ) (ls : List (List ℕ)) → T (ends_well (left k 32768 ls)) → without_direct ls ≡ passed k 32768 ls
unfolding without_direct left ends_well passed
program_lines k [] t = refl
program_lines k (l ∷ []) t = go (direct_whole? l) (passes? k 32768 l) refl refl t
  where
    go : (d p : Bool) → direct_whole? l ≡ d → passes? k 32768 l ≡ p → T (ends_well (pick p [] (l ∷ []))) → pick d [] (l ∷ []) ≡ pick p (l ∷ []) []
    go true true e f t = let z : ◌≡◌ {A = Bool} true false = sym f ∙ direct_not_passed k l e in absurd (subst T (z) tt)
    go true false e f t = refl
    go false true e f t = refl
    go false false e f t = absurd (subst T e t)
program_lines k (l ∷ m ∷ ms) t = go (passes? k 32768 l) t (program_lines (suc (line_number l)) (m ∷ ms))
  where
    go : (p : Bool) → T (ends_well (pick p (left (suc (line_number l)) 32768 (m ∷ ms)) (l ∷ m ∷ ms)))
        → (T (ends_well (left (suc (line_number l)) 32768 (m ∷ ms))) → without_direct (m ∷ ms) ≡ passed (suc (line_number l)) 32768 (m ∷ ms))
        → l ∷ without_direct (m ∷ ms) ≡ pick p (l ∷ passed (suc (line_number l)) 32768 (m ∷ ms)) []
    go true t f = ap (λ (z : List (List ℕ)). l ∷ z) (f t)
    go false t f = absurd t

-- ---- the bytes that follow

-- none
nothing_follows : (s : List ℕ) → length s ≡ 0 → ends_well (lines_in s) ≡ true
unfolding ends_well lines_in lines_from
nothing_follows [] e = refl
nothing_follows (b ∷ s) e = absurd (omega arith)

-- some are one line of number 32768, or are not
something_follows : (s : List ℕ) → (length s ≡ 0 → ⊥) → ends_well (lines_in s) ≡ direct_whole? s
unfolding lines_in lines_from ends_well
something_follows [] h = absurd (h refl)
something_follows (b ∷ s) h = ap (λ (z : List (List ℕ)). ends_well (take m (b ∷ s) ∷ z)) (lines_past (pred m) s) ∙ go (drop (pred m) s) refl
  where
    m : ℕ
    m = get_or s 1 0

    alone : (n : ℕ) → m ≡ n → length s ≤ pred n → direct_whole? (take n (b ∷ s)) ≡ direct_whole? (b ∷ s)
    alone zero e k = sym (direct_short [] (omega arith)) ∙ direct_cut (b ∷ s) m refl (λ z. omega arith)
    alone (suc n) e k = ap direct_whole? (take_all (suc n) (b ∷ s) (omega arith))

    go : (r : List ℕ) → drop (pred m) s ≡ r → ends_well (take m (b ∷ s) ∷ lines_in r) ≡ direct_whole? (b ∷ s)
    go [] e = alone m refl (omega (arith, ap length e, length-drop (pred m) s))
    go (x ∷ xs) e = direct_cut (b ∷ s) m refl (λ z. omega (arith, ap length e, length-drop (pred m) s))

-- as the slice from an offset on has them
module _ (s : List ℕ) (at : ℕ) where
  abbrev slice : List ℕ
  slice = take (length s - at) (drop at s)

  pub none_follow : (value empty : Bool) → value ≡ empty → empty ≡ true → empty ≡ eqb (length slice) 0 → value ≡ ends_well (lines_in (drop at s))
  none_follow value empty v e h = v ∙ e ∙ sym (ap (λ (x : List ℕ). ends_well (lines_in x)) (sym (past s at at refl)) ∙ nothing_follows slice (eqb→eq (length slice) 0 (as_T _ (sym h ∙ e))))

  pub some_follow : (value direct : Bool) → value ≡ direct → direct ≡ direct_whole? slice → eqb (length slice) 0 ≡ false → value ≡ ends_well (lines_in (drop at s))
  some_follow value direct v e h =
      v
      ∙ e
      ∙ sym (something_follows slice (λ z. let one : ◌≡◌ {A = Bool} true false = sym (eq-eqb (length slice) 0 z) ∙ h in subst T (one) tt))
      ∙ ap (λ (x : List ℕ). ends_well (lines_in x)) (past s at at refl)

-- ---- the answer

module _ (s : List ℕ) (w : Walked) (is : w ≡ walked_on start 32768 s) where
  abbrev ls : List (List ℕ)
  ls = lines_in s

  counts_are : w ≡ record { at = walked 0 32768 s; lines = length (passed 0 32768 ls); least = least_after 0 (passed 0 32768 ls) }
  unfolding walked_on
  counts_are = is ∙ from_start (passed 0 32768 ls)

  decides : sound_lines (without_direct ls) ≡ ends_well (lines_in (drop w.at s))
  decides =
      sym (from_zero (without_direct ls))
      ∙ program_sound 0 ls
      ∙ ap ends_well (sym (lines_left 0 32768 s))
      ∙ ap (λ (x : Walked). ends_well (lines_in (drop x.at s))) (sym counts_are)

  -- sound lines, and their counts
  pub program_so : ends_well (lines_in (drop w.at s)) ≡ true → (c : Counts) → c ≡ counts_past w → Some c ≡ program_answer s
  unfolding program_answer counts_of
  program_so h c e =
      let t : T (ends_well (left 0 32768 ls)) = as_T _ (sym (program_sound 0 ls) ∙ from_zero (without_direct ls) ∙ decides ∙ h) in
      let p : without_direct ls ≡ passed 0 32768 ls = program_lines 0 ls t in
      let rises : T (rising (passed 0 32768 ls)) = subst (λ (z : List (List ℕ)). T (rising z)) p (sound_rising (without_direct ls) (as_T _ (decides ∙ h))) in
      let make : Walked → Option Counts = λ x. Some (record { used = x.at; lines = x.lines; greatest = pred x.least }) in
      let counted : List (List ℕ) → ℕ → Option Counts = λ z g. Some (record { used = length (joined z); lines = length z; greatest = g }) in
      ap Some e
      ∙ ap make counts_are
      ∙ ap (counted (passed 0 32768 ls)) (last_greatest (passed 0 32768 ls) rises)
      ∙ ap (λ (z : List (List ℕ)). counted z (greatest_number z)) (sym p)
      ∙ sym (rw (decides ∙ h))

  -- others
  pub program_not_so : ends_well (lines_in (drop w.at s)) ≡ false → None ≡ program_answer s
  unfolding program_answer
  program_not_so h = sym (rw (decides ∙ h))
