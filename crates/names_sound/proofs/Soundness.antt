-- Sound tables: name by name, and whole.
use Prim.Native.Nat.{ℕ, zero, suc, ◌+◌, ◌-◌, ◌≤◌, ◌<◌}
use native.Mathlib.Omega.{arith}
use mathlib.Core.Path.{◌≡◌, refl, subst, sym, ap, ◌∙◌}
use mathlib.Core.Bool.{Bool, true, false, not, ◌&&◌, ◌||◌, and-false}
use mathlib.Core.List.{List, [], ◌∷◌, ◌++◌, append_assoc}
use lib.Dec.{leb, ltb, eqb, eqb-zero-suc, eqb-suc-zero, eqb-suc-suc}
use lib.ListN.{length, take, get_or, set, length-append}
use lib.Seq.{take_all}
use Rattle.std.proofs.lemmas.List.{take-append-le}
use borrow.Author.Tests.{lt-ltb, le-leb, lt-leb, eqb-true}
use Rattle.paper.specs.Bytes.{same, every}
use Rattle.paper.specs.Words.{reserved?}
use Rattle.paper.specs.Names.{names_in, name_bytes, less_open, name?, known?, all_different, sound_names, sound_table}
use Rattle.laws.specs.Names.{closed?, same_bytes}
use Rattle.laws.specs.Tables.{same_sym, known_none, known_cons, known_snoc}
use Rattle.names_sound.specs.Lawful.{lawful, sound_after}
use Rattle.names_sound.specs.Marks.{places, mix_of, place_in, one_more, Marks}
use Rattle.names_sound.proofs.Marking.{marks_more}

-- ---- the last byte

pub closed_none : (bs : List ℕ) → length bs ≡ 0 → true ≡ closed? bs
unfolding closed?
closed_none [] h = refl
closed_none (b ∷ bs) h = absurd (omega arith)

pub closed_last : (bs : List ℕ) → 0 < length bs → leb 128 (get_or bs (length bs - 1) 0) ≡ closed? bs
unfolding closed?
closed_last [] h = absurd (omega arith)
closed_last (b ∷ []) h = refl
closed_last (b ∷ c ∷ cs) h =
    let z : suc (suc (length cs)) - 1 ≡ suc (suc (length cs) - 1) = omega arith in
    ap (λ (k : ℕ). leb 128 (get_or (b ∷ c ∷ cs) k 0)) z ∙ closed_last (c ∷ cs) (omega arith)

-- ---- one name

pub not_yes : {a : Bool} (b : Bool) → a ≡ not b → a ≡ true → b ≡ false
not_yes {a} true e h = let z : ◌≡◌ {A = ℕ} 0 1 = cc in absurd (omega arith)
not_yes {a} false e h = refl

pub not_no : {a : Bool} (b : Bool) → a ≡ not b → a ≡ false → b ≡ true
not_no {a} true e h = refl
not_no {a} false e h = let z : ◌≡◌ {A = ℕ} 0 1 = cc in absurd (omega arith)

module _ (n : List ℕ) (ns : List (List ℕ)) where
  pub no_name : {r : Bool} → r ≡ name? n → r ≡ false → false ≡ lawful n ns
  unfolding lawful
  no_name {r} e h = let z : name? n ≡ false = sym e ∙ h in sym (rw (z))

  pub a_word : {r s : Bool} → r ≡ name? n → r ≡ true → s ≡ reserved? (less_open n) → s ≡ true → false ≡ lawful n ns
  unfolding lawful
  a_word {r} {s} e h f k =
      let z : name? n ≡ true = sym e ∙ h in
      let y : reserved? (less_open n) ≡ true = sym f ∙ k in
      sym (rw (z, y))

  pub once : {r s q : Bool} → r ≡ name? n → r ≡ true → s ≡ reserved? (less_open n) → s ≡ false → q ≡ known? ns n → not q ≡ lawful n ns
  unfolding lawful
  once {r} {s} {q} e h f k g =
      let z : name? n ≡ true = sym e ∙ h in
      let y : reserved? (less_open n) ≡ false = sym f ∙ k in
      ap not g ∙ sym (rw (z, y))

-- ---- name by name

-- In the table t, `number` names are passed, all of them lawful and marked, these are left, and `left` of `count` names are to come.
pub record Passed (t : List ℕ) (count : ℕ) (marks : List ℕ) (number left : ℕ) (coming : List (List ℕ)) : Type 0 where
  pub all : names_in t ≡ take number (names_in t) ++ coming
  pub size : length (take number (names_in t)) ≡ number
  pub marked : Marks marks (take number (names_in t))
  pub rest : sound_after [] (names_in t) count ≡ sound_after (take number (names_in t)) coming left

pub none_passed : (t : List ℕ) (count : ℕ) (marks : List ℕ) {number : ℕ} {coming : List (List ℕ)} → length marks ≡ places → number ≡ 0 → coming ≡ names_in t → Passed t count marks number count coming
unfolding every
none_passed t count marks k z e = rw (z, e) (record { all = refl; size = refl; marked = record { whole = k; set = refl }; rest = refl })

module _ {t : List ℕ} {count : ℕ} {marks : List ℕ} {number left : ℕ} {coming : List (List ℕ)} (p : Passed t count marks number left coming) where
  pub all_wanted : coming ≡ [] → eqb left 0 ≡ sound_after [] (names_in t) count
  unfolding sound_after
  all_wanted e = sym (p.rest ∙ ap (λ (ns : List (List ℕ)). sound_after (take number (names_in t)) ns left) e)

  module _ (n : List ℕ) (ns : List (List ℕ)) (here : coming ≡ n ∷ ns) where
    pub none_wanted : left ≡ 0 → false ≡ sound_after [] (names_in t) count
    unfolding sound_after
    none_wanted z = sym (p.rest ∙ ap (λ (ms : List (List ℕ)). sound_after (take number (names_in t)) ms left) here ∙ rw (z))

    pub one_unlawful : {r : Bool} {at : ℕ} → at ≡ number → r ≡ lawful n (take at (names_in t)) → r ≡ false → false ≡ sound_after [] (names_in t) count
    unfolding sound_after
    one_unlawful {r} {at} h l f =
        let bad : lawful n (take number (names_in t)) ≡ false = ap (λ (k : ℕ). lawful n (take k (names_in t))) (sym h) ∙ sym l ∙ f in
        sym (p.rest ∙ ap (λ (ms : List (List ℕ)). sound_after (take number (names_in t)) ms left) here ∙ rw (bad) (and-false (ltb 0 left)))

    pub one_passed : {r : Bool} {at next place mark : ℕ} → (left ≡ 0 → ⊥) → at ≡ number → next ≡ number + 1 → place ≡ place_in (mix_of n) → mark ≡ one_more (get_or marks place 0) (mix_of n)
        → r ≡ lawful n (take at (names_in t)) → r ≡ true → Passed t count (set marks place mark) next (left - 1) ns
    unfolding sound_after
    one_passed {r} {at} {next} {place} {mark} z h w e f l g =
        let before = take number (names_in t) in
        let good : lawful n before ≡ true = ap (λ (k : ℕ). lawful n (take k (names_in t))) (sym h) ∙ sym l ∙ g in
        let some : ltb 0 left ≡ true = lt-ltb 0 left (positive left z) in
        let whole : names_in t ≡ (before ++ n ∷ []) ++ ns = p.all ∙ ap (λ (ms : List (List ℕ)). before ++ ms) here ∙ sym (append_assoc before (n ∷ []) ns) in
        let size : length (before ++ n ∷ []) ≡ next = length-append before (n ∷ []) ∙ omega (arith, p.size) in
        let more : take next (names_in t) ≡ before ++ n ∷ [] =
        ap (take next) whole ∙ take-append-le next (before ++ n ∷ []) ns (omega arith) ∙ take_all next (before ++ n ∷ []) (omega arith) in
        record {
          all = whole ∙ ap (λ (l : List (List ℕ)). l ++ ns) (sym more);
          size = ap length more ∙ size;
          marked =
              subst (Marks (set marks place mark)) (sym more)
              (rw e (marks_more n p.marked refl (f ∙ ap (λ (k : ℕ). one_more (get_or marks k 0) (mix_of n)) e)));
          rest =
              p.rest ∙ ap (λ (ms : List (List ℕ)). sound_after before ms left) here ∙ rw (good, some) (ap (λ (l : List (List ℕ)). sound_after l ns (left - 1)) (sym more));
        }
      where
        positive : (k : ℕ) → (k ≡ 0 → ⊥) → 0 < k
        positive zero z = absurd (z refl)
        positive (suc k) z = omega arith

-- no bytes have no names
pub none_lawful : (t : List ℕ) (count : ℕ) → length t ≡ 0 → eqb count 0 ≡ sound_after [] (names_in t) count
unfolding sound_after names_in
none_lawful [] count h = refl
none_lawful (b ∷ bs) count h = absurd (omega arith)

-- ---- a whole table

-- what is asked of each name
no_word? : List ℕ → Bool
no_word? n = not (reserved? (less_open n))

-- no name of the second list is in the first
apart : List (List ℕ) → List (List ℕ) → Bool
apart ms ns = every (λ n. not (known? ms n)) ns

apart_none : (ns : List (List ℕ)) → apart [] ns ≡ true
unfolding apart every
apart_none [] = refl
apart_none (n ∷ ns) = rw (known_none n) (apart_none ns)

apart_snoc : (ms : List (List ℕ)) (m : List ℕ) (ns : List (List ℕ)) → apart (ms ++ m ∷ []) ns ≡ apart ms ns && not (known? ns m)
unfolding apart every
apart_snoc ms m [] = sym (rw (known_none m))
apart_snoc ms m (n ∷ ns) =
    rw (known_snoc ms m n, known_cons n ns m, same_sym n m, apart_snoc ms m ns) (swapped (known? ms n) (same m n) (apart ms ns) (known? ns m))
  where
    swapped : (a b c d : Bool) → not (a || b) && (c && not d) ≡ (not a && c) && not (b || d)
    swapped true b c d = refl
    swapped false true c d = sym (and-false c)
    swapped false false c d = refl

shuffled : (n r k e a p q d s : Bool) → (n && (r && k)) && (e && (a && (((p && q) && d) && s))) ≡ e && ((n && a) && (((k && p) && (q && d)) && (r && s)))
shuffled false r k e a p q d s = sym (and-false e)
shuffled true false k e a p q d s = sym (rw (and-false ((k && p) && (q && d)), and-false a, and-false e))
shuffled true true false e a p q d s = sym (rw (and-false a, and-false e))
shuffled true true true e a true q d s = refl
shuffled true true true e a false q d s = refl

after_whole : (ms ns : List (List ℕ)) (count : ℕ) → sound_after ms ns count ≡ eqb (length ns) count && (every name? ns && ((apart ms ns && all_different ns) && every no_word? ns))
unfolding sound_after lawful every all_different no_word? apart
after_whole ms [] zero = refl
after_whole ms [] (suc count) = rw (eqb-suc-zero count, eqb-zero-suc count)
after_whole ms (n ∷ ns) zero = rw (eqb-suc-zero (length ns))
after_whole ms (n ∷ ns) (suc count) =
    let some : ltb 0 (suc count) ≡ true = lt-ltb 0 (suc count) (omega arith) in
    let less : suc count - 1 ≡ count = omega arith in
    rw (some, less, after_whole (ms ++ n ∷ []) ns count, eqb-suc-suc (length ns) count, apart_snoc ms n ns)
    (shuffled (name? n) (not (reserved? (less_open n))) (not (known? ms n)) (eqb (length ns) count) (every name? ns) (apart ms ns) (not (known? ns n)) (all_different ns) (every no_word? ns))

-- a count within the limit is the test of the limit
within : (n count : ℕ) (x : Bool) → count ≤ 256 → eqb n count && (leb n 256 && x) ≡ eqb n count && x
within n count x h = go (eqb n count) refl
  where
    go : (t : Bool) → eqb n count ≡ t → t && (leb n 256 && x) ≡ t && x
    go true e = let z : leb n 256 ≡ true = le-leb n 256 (omega (arith, eqb-true n count e)) in rw (z)
    go false e = refl

-- and one past it fails
beyond : (n count : ℕ) (x : Bool) → 256 < count → eqb n count && (leb n 256 && x) ≡ false
beyond n count x h = go (eqb n count) refl
  where
    go : (t : Bool) → eqb n count ≡ t → t && (leb n 256 && x) ≡ false
    go true e = let z : leb n 256 ≡ false = lt-leb n 256 (omega (arith, eqb-true n count e)) in rw (z)
    go false e = refl

module _ (table : List ℕ) (size count : ℕ) where
  pub too_short : length table < size → false ≡ sound_table table size count
  unfolding sound_table
  too_short h = sym (rw (lt-leb size (length table) h))

  pub too_many : 256 < count → false ≡ sound_table table size count
  unfolding sound_table sound_names no_word?
  too_many h =
      let ns = names_in (take size table) in
      let none : eqb (length ns) count && (leb (length ns) 256 && (every name? ns && (all_different ns && every no_word? ns))) ≡ false =
      beyond (length ns) count (every name? ns && (all_different ns && every no_word? ns)) h in
      sym (rw (none, and-false (same (name_bytes ns) (take size table)), and-false (leb size (length table))))

  whole : size ≤ length table → count ≤ 256 → sound_table table size count ≡ closed? (take size table) && sound_after [] (names_in (take size table)) count
  unfolding sound_table sound_names no_word?
  whole h k =
      let ns = names_in (take size table) in
      rw (le-leb size (length table) h, same_bytes (take size table), within (length ns) count (every name? ns && (all_different ns && every no_word? ns)) k, after_whole [] ns count, apart_none ns)

  pub no_end : {r : Bool} → size ≤ length table → count ≤ 256 → r ≡ closed? (take size table) → r ≡ false → false ≡ sound_table table size count
  no_end h k e f = let z : closed? (take size table) ≡ false = sym e ∙ f in sym (rw (whole h k, z))

  pub all_sound : {r s : Bool} → size ≤ length table → count ≤ 256 → r ≡ closed? (take size table) → r ≡ true → s ≡ sound_after [] (names_in (take size table)) count
      → s ≡ sound_table table size count
  all_sound {r} {s} h k e f g =
      let z : closed? (take size table) ≡ true = sym e ∙ f in
      g ∙ sym (rw (whole h k, z))
