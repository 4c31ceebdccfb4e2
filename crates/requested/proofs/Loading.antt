-- Reading the saved program file (document 02, §7): every answer, what an accepted file leaves, and exactly when each number is given.
use Rattle.std.specs.Prelude.{ℕ, zero, suc, ◌+◌, ◌-◌, ◌*◌, ◌≤◌, ◌<◌, ◌≡◌, Bool, true, false, not, ◌&&◌, List, [], ◌∷◌, ◌++◌, T, eqb, leb, ltb, length, take, drop, get_or}
use Rattle.std.proofs.Common.{arith, subst, sym, ap, leb→le, le→leb, eqb→eq, ltb-false, le-ltb, eqb-true, eq-eqb}
use Rattle.std.proofs.Math.Path.{refl}
use Rattle.std.proofs.Math.Dec.{eqb_refl}
use Rattle.std.proofs.Math.Seq.{take-length}
use Rattle.std.proofs.lemmas.Bool.{eqb-false}
use Rattle.paper.specs.Bytes.{pick, every, joined}
use Rattle.paper.specs.Names.{names_in, name_bytes, sound_names, sound_table}
use Rattle.paper.specs.Line.{line_number, lawful_number?, direct_number?}
use Rattle.paper.specs.Store.{whole_line?, greatest_number, room, overwritten}
use Rattle.paper.specs.Calls.{State, lines_of, sound_tables, agrees, sound_state}
use Rattle.paper.specs.Files.{word_at, head_size, never_fall, Parts, direct_whole?, without_direct, parts_of, no_head?, right_words?, sound_parts?, unless_faulty, too_small?, loaded_state, Loaded, not_loaded, load}
use Rattle.laws.specs.Tests.{and_left, and_right, and_both, is_true, as_T}
use Rattle.laws.specs.Lines.{room_lent}
use Rattle.promises.specs.Terms.{FirstHolding, none_holds, Exactly}
use Rattle.requested.specs.RequestTerms.{NoHead, RightWords, SoundParts, load_refusals, Holding}
use Rattle.grounds.specs.Lists.{or_false_left, or_false_right}
use Rattle.promises.proofs.States.{table_says, says_table}
use Rattle.promises.proofs.Stored.{over_length, over_take, at_front, Holds, holds}
use Rattle.promises.proofs.Tested.{exactly, Says, says_less, says_not, says_either, tested}

-- ---- a last line of number 32768

-- it is left out
pub last_out : (ls : List (List ℕ)) (l : List ℕ) → direct_whole? l ≡ true → without_direct (ls ++ l ∷ []) ≡ ls
unfolding without_direct
last_out [] l e = rw e
last_out (m ∷ []) l e = rw e
last_out (m ∷ k ∷ ks) l e = ap (λ (z : List (List ℕ)). m ∷ z) (last_out (k ∷ ks) l e)

-- no line of a store is one
not_direct : (l : List ℕ) → T (whole_line? l) → direct_whole? l ≡ false
unfolding whole_line? direct_whole? lawful_number? direct_number?
not_direct l t = go (direct_whole? l) refl
  where
    go : (b : Bool) → direct_whole? l ≡ b → b ≡ false
    go false e = refl
    go true e =
        let low = leb→le (line_number l) 32767 (and_right (eqb (get_or l 2 0) (length l)) _ (and_right (leb 6 (length l)) _ t)) in
        let high = eqb→eq (line_number l) 32768 (and_right (eqb (get_or l 2 0) (length l)) _ (and_right (leb 6 (length l)) _ (as_T _ e))) in
        absurd (omega arith)

-- where there is none, all lines are kept
pub all_kept : (ls : List (List ℕ)) → T (every whole_line? ls) → without_direct ls ≡ ls
unfolding without_direct every
all_kept [] t = refl
all_kept (l ∷ []) t = rw (not_direct l (and_left (whole_line? l) _ t))
all_kept (l ∷ m ∷ ms) t = ap (λ (z : List (List ℕ)). l ∷ z) (all_kept (m ∷ ms) (and_right (whole_line? l) _ t))

-- ---- the state that a file's parts make

-- what the test of the parts says
pub parts_say : (p : Parts) → T (sound_parts? p) → SoundParts p
unfolding sound_parts?
parts_say p t =
    let c : ℕ = length (names_in p.names) in
    let table = table_says p.names (length p.names) c (and_left (sound_table p.names (length p.names) c) _ t) in
    let whole : take (length p.names) p.names ≡ p.names = take-length p.names in
    let r = and_right (sound_table p.names (length p.names) c) _ t in
    record {
      bytes = subst (λ (bs : List ℕ). name_bytes (names_in bs) ≡ bs) whole table.bytes;
      names = subst (λ (bs : List ℕ). T (sound_names (names_in bs))) whole table.names;
      values = eqb→eq (length p.values) (8 * c) (and_left (eqb (length p.values) (8 * c)) _ r);
      lines = and_right (eqb (length p.values) (8 * c)) _ r;
    }

-- the names of the parts are a sound table, also at the front of a buffer
table_at : (names table : List ℕ) → name_bytes (names_in names) ≡ names → T (sound_names (names_in names)) → length names ≤ length table → take (length names) table ≡ names
    → T (sound_table table (length names) (length (names_in names)))
table_at names table b n h e =
    says_table table (length names) (length (names_in names))
    (record { fits = h; bytes = rw e (b); counted = ap (λ (z : List ℕ). length (names_in z)) e; names = subst (λ (z : List ℕ). T (sound_names (names_in z))) (sym e) n })

-- and the other way round
pub parts_pass : (p : Parts) → SoundParts p → T (sound_parts? p)
unfolding sound_parts?
parts_pass p o =
    and_both (sound_table p.names (length p.names) (length (names_in p.names))) _ (table_at p.names p.names o.bytes o.names (omega arith) (take-length p.names))
    (and_both (eqb (length p.values) (8 * length (names_in p.names))) _ (as_T _ (eq-eqb _ _ o.values)) o.lines)

-- room for parts in the lent buffers
pub record Fits (p : Parts) (s : State) : Type 0 where
  pub names : length p.names ≤ length s.names
  pub values : length p.values ≤ length s.values
  pub lines : length (joined p.lines) ≤ room s.store

fits_say : (p : Parts) (s : State) → too_small? p s ≡ false → Fits p s
unfolding too_small?
fits_say p s e =
    let r = or_false_right (ltb (length s.names) (length p.names)) _ e in
    record {
      names = ltb-false _ _ (or_false_left (ltb (length s.names) (length p.names)) _ e);
      values = ltb-false _ _ (or_false_left (ltb (length s.values) (length p.values)) _ r);
      lines = ltb-false _ _ (or_false_right (ltb (length s.values) (length p.values)) _ r);
    }

-- sound parts that fit, loaded
pub holding : (p : Parts) (s : State) → SoundParts p → Fits p s → Holding p s (loaded_state p s)
unfolding loaded_state lines_of sound_state sound_tables agrees
holding p s o f =
    let h : Holds p.lines s.store = holds p.lines s.store o.lines f.lines in
    let c : ℕ = length (names_in p.names) in
    let ns : List ℕ = overwritten p.names s.names in
    let vs : List ℕ = overwritten p.values s.values in
    let fits_names : length p.names ≤ length ns = omega (arith, f.names, over_length p.names s.names f.names) in
    let fits_values : 8 * c ≤ length vs = omega (arith, o.values, f.values, over_length p.values s.values f.values) in
    record {
      sound =
          and_both (sound_tables (loaded_state p s)) (agrees (loaded_state p s))
          (and_both (sound_table ns (length p.names) c) _ (table_at p.names ns o.bytes o.names fits_names (over_take p.names s.names))
          (and_both (leb (8 * c) (length vs)) _ (le→leb (8 * c) (length vs) fits_values) h.sound))
          (subst (λ (z : List (List ℕ)). T (eqb (length p.lines) (length z) && eqb (greatest_number p.lines) (greatest_number z))) (sym h.lines)
          (and_both (eqb (length p.lines) (length p.lines)) _ (eqb_refl (length p.lines)) (eqb_refl (greatest_number p.lines))));
      name_size = refl;
      value_size = sym o.values;
      used = refl;
      lines = h.lines;
      names = at_front p.names s.names f.names;
      values = at_front p.values s.values f.values;
      store = at_front (joined p.lines) s.store (omega (arith, f.lines, room_lent s.store));
    }

-- ---- every answer

-- what `load` answers: a refusal that leaves the state, or the state that holds the parts of the file
pub data LoadAnswer (file : List ℕ) (s : State) : Loaded → Type 0 where
  refused : (k : ℕ) → (k ≡ 0 → ⊥) → LoadAnswer file s (not_loaded s k)
  held : SoundParts (parts_of file) → Holding (parts_of file) s (loaded_state (parts_of file) s) → LoadAnswer file s (record { number = 0; after = loaded_state (parts_of file) s })

module _ (file : List ℕ) (s : State) where
  abbrev done : Loaded
  done = record { number = 0; after = loaded_state (parts_of file) s }

  answer_go : (a b c : Bool) → sound_parts? (parts_of file) ≡ c → (d : Bool) → too_small? (parts_of file) s ≡ d
      → LoadAnswer file s (pick a (not_loaded s 12) (pick (not b) (not_loaded s 13) (pick (not c) (not_loaded s 1) (pick d (not_loaded s 8) done))))
  answer_go true b c e d f = refused 12 (λ z. omega arith)
  answer_go false false c e d f = refused 13 (λ z. omega arith)
  answer_go false true false e d f = refused 1 (λ z. omega arith)
  answer_go false true true e true f = refused 8 (λ z. omega arith)
  answer_go false true true e false f = let o = parts_say (parts_of file) (as_T _ e) in held o (holding (parts_of file) s o (fits_say (parts_of file) s f))

  -- every answer is one of these
  pub load_answer : LoadAnswer file s (load file s)
  unfolding load unless_faulty
  load_answer = answer_go (no_head? file) (right_words? file) (sound_parts? (parts_of file)) refl (too_small? (parts_of file) s) refl

  refused_go : (e : Loaded) → LoadAnswer file s e → (e.number ≡ 0 → ⊥) → e.after ≡ s
  unfolding not_loaded
  refused_go e (refused k n) m = refl
  refused_go e (held o h) m = absurd (m refl)

  held_go : (e : Loaded) → LoadAnswer file s e → e.number ≡ 0 → Holding (parts_of file) s e.after
  unfolding not_loaded
  held_go e (refused k n) z = absurd (n z)
  held_go e (held o h) z = h

  -- an accepted file leaves a state that holds its names, values and lines
  pub file_held : (load file s).number ≡ 0 → Holding (parts_of file) s (load file s).after
  file_held z = held_go (load file s) load_answer z

  -- a refused one leaves all
  pub file_refused : ((load file s).number ≡ 0 → ⊥) → (load file s).after ≡ s
  file_refused n = refused_go (load file s) load_answer n

-- a file with the right head and words, whose parts are sound and fit, is loaded
pub load_accepts : (file : List ℕ) (s : State) (p : Parts) → no_head? file ≡ false → right_words? file ≡ true → parts_of file ≡ p → SoundParts p → Fits p s
    → load file s ≡ record { number = 0; after = loaded_state p s }
unfolding load unless_faulty too_small?
load_accepts file s p h w e o f = rw (e, h, w, is_true (sound_parts? p) (parts_pass p o), le-ltb _ _ f.names, le-ltb _ _ f.values, le-ltb _ _ f.lines)

-- ---- exactly when

-- 12
says_head : (file : List ℕ) → Says (no_head? file) (NoHead file)
unfolding no_head?
says_head file =
    says_either (ltb (length file) 14) (not (eqb (word_at file 0) 0)) (says_less (length file) 14)
    (says_not (eqb (word_at file 0) 0) (λ t. eqb→eq _ _ t) (λ e. as_T _ (eq-eqb _ _ e)))

-- words that never fall, one by one
rise_so : (file : List ℕ) (n i : ℕ) → T (never_fall file i n) → (j : ℕ) → i ≤ j → j < i + n → word_at file j ≤ word_at file (suc j)
unfolding never_fall
rise_so file zero i t j a b = absurd (omega arith)
rise_so file (suc n) i t j a b = go (eqb i j) refl (λ c. rise_so file n (suc i) (and_right (leb (word_at file i) (word_at file (suc i))) _ t) j c (omega arith))
  where
    above : (i ≡ j → ⊥) → suc i ≤ j
    above ne = omega arith

    go : (x : Bool) → eqb i j ≡ x → (suc i ≤ j → word_at file j ≤ word_at file (suc j)) → word_at file j ≤ word_at file (suc j)
    go true e f = subst (λ (z : ℕ). word_at file z ≤ word_at file (suc z)) (eqb-true i j e) (leb→le _ _ (and_left (leb (word_at file i) (word_at file (suc i))) _ t))
    go false e f = f (above (eqb-false i j e))

so_rise : (file : List ℕ) (n i : ℕ) → ((j : ℕ) → i ≤ j → j < i + n → word_at file j ≤ word_at file (suc j)) → T (never_fall file i n)
unfolding never_fall
so_rise file zero i h = tt
so_rise file (suc n) i h =
    and_both (leb (word_at file i) (word_at file (suc i))) _ (le→leb _ _ (h i (omega arith) (omega arith))) (so_rise file n (suc i) (λ j a b. h j (omega arith) (omega arith)))

-- 13
words_say : (file : List ℕ) → T (right_words? file) → RightWords file
unfolding right_words?
words_say file t =
    let block : List ℕ = drop head_size file in
    let a = and_right (never_fall file 0 6) _ t in
    let b = and_right (eqb (length block) (word_at file 6 - word_at file 1)) _ a in
    record {
      rise = (λ i h. rise_so file 6 0 (and_left (never_fall file 0 6) _ t) i (omega arith) (omega arith));
      block = eqb→eq _ _ (and_left (eqb (length block) (word_at file 6 - word_at file 1)) _ a);
      values = eqb→eq _ _ (and_left (eqb (word_at file 3) (suc (word_at file 2))) _ b);
      zero_byte = eqb→eq _ _ (and_right (eqb (word_at file 3) (suc (word_at file 2))) _ b);
    }

words_pass : (file : List ℕ) → RightWords file → T (right_words? file)
unfolding right_words?
words_pass file r = as_T (right_words? file) (rw (is_true (never_fall file 0 6) (so_rise file 6 0 (λ j a b. r.rise j (omega arith))), eq-eqb _ _ r.block, eq-eqb _ _ r.values, eq-eqb _ _ r.zero_byte))

-- 12, 13 and 1, before whatever is asked then
pub faulty_first : {A : Type 0} (number : A → ℕ) (refuse : ℕ → A) (file : List ℕ) (accepted : A) (cs : List (ℕ × Type 0)) → FirstHolding cs (number accepted)
    → FirstHolding ((number (refuse 12), NoHead file) ∷ (number (refuse 13), (RightWords file → ⊥)) ∷ (number (refuse 1), (SoundParts (parts_of file) → ⊥)) ∷ cs) (number (unless_faulty refuse file accepted))
unfolding unless_faulty
faulty_first number refuse file accepted cs f =
    tested number _ _ _ (says_head file)
    (λ e. tested number _ _ _ (says_not (right_words? file) (words_say file) (words_pass file))
    (λ g. tested number _ _ _ (says_not (sound_parts? (parts_of file)) (parts_say (parts_of file)) (parts_pass (parts_of file))) (λ h. f)))

-- 12, 13, 1, 8
pub loaded_exactly : (file : List ℕ) (s : State) → Exactly (load_refusals file s) (load file s).number
unfolding load not_loaded too_small?
loaded_exactly file s =
    exactly _ _ tt
    (faulty_first loaded_number (not_loaded s) file _ _
    (tested loaded_number _ _ _
    (says_either _ _ (says_less _ _) (says_either _ _ (says_less _ _) (says_less (room s.store) (length (joined (parts_of file).lines)))))
    (λ e. none_holds)))
  where
    loaded_number : Loaded → ℕ
    loaded_number e = e.number
