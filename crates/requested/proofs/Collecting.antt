-- Unused names taken back (document 02, §12): what a collection leaves, and exactly when each number is given.
use Prim.Native.Nat.{ℕ, suc, ◌+◌, ◌*◌, ◌≤◌, ◌<◌}
use native.Mathlib.Omega.{arith}
use Rattle.std.specs.Prelude.{◌≡◌, not, ◌&&◌, ◌||◌, ◌⊎◌, eqb, leb, ltb}
use Rattle.std.proofs.Math.Path.{refl, subst, sym, ap, ap₂}
use Rattle.std.proofs.Common.{◌∙◌, inl, inr, length-append, take-append-drop}
use Rattle.std.proofs.Math.Bool.{Bool, true, false}
use mathlib.Core.List.Memᴰ
use mathlib.Core.List.{List, [], ◌∷◌, ◌++◌, map, Memᴰ}
use Rattle.std.proofs.Math.Dec.{T}
use Rattle.std.proofs.Math.ListN.{length, take, drop, length-drop}
use Rattle.std.proofs.Math.Seq.{take-append-le, length-take-le}
use Rattle.std.proofs.lemmas.List.{drop-append-le}
use Rattle.paper.specs.Bytes.{pick, every, joined}
use Rattle.paper.specs.Names.{names_in, name_bytes, number_of, known?, sound_names}
use Rattle.paper.specs.Line.{line_number, lawful_number?}
use Rattle.paper.specs.WellFormed.{WellFormed}
use Rattle.paper.specs.Errors.{listable?, line_listing}
use Rattle.paper.specs.Store.{whole_line?, rising_above, rising, sound_lines, greatest_number, lines_not_below, first_is?, stored?, first_line, line_at, overwritten}
use Rattle.paper.specs.Calls.{State, names_of, lines_of, sound_state, not_listed, listed_if, list_sound, list}
use Rattle.paper.specs.Files.{Parts, loaded_state}
use Rattle.paper.specs.Collect.{some, line_uses?, used?, names_left, values_left, renumbered, collected, Collected, collect}
use Rattle.laws.specs.Tests.{and_left, and_right, and_both, is_true, as_T}
use Rattle.laws.specs.Names.{known_less}
use Rattle.laws.specs.NamesLeft.{left_pass, all_left, left_fewer, left_smaller, left_known, left_sound, left_number, values_size, values_again, renumber, values_at}
use Rattle.promises.specs.Terms.{Agrees, none_holds, Exactly, HoldsWellFormed, HoldsListable, SoundState}
use Rattle.requested.specs.RequestTerms.{collect_refusals, SoundParts, Holding, Rewritten, error_stays, same_tokens, AllRewritten, no_lines_more, line_and_more, CollectedState, value_of, with_number}
use Rattle.grounds.specs.Lists.{or_left, or_right}
use Rattle.promises.proofs.NameTable.{names_back}
use Rattle.promises.proofs.Stored.{over_past}
use Rattle.promises.proofs.States.{state_says, says_state, names_good}
use Rattle.promises.proofs.ReEntry.{lines_size}
use Rattle.promises.proofs.ErrorLines.{never_both, all_listable, says_unlistable}
use Rattle.requested.proofs.Loading.{Fits, holding}
use Rattle.promises.proofs.Tested.{exactly, says_not, tested}
use Rattle.requested.proofs.Renumbering.{Again, line_again}
use Rattle.requested.proofs.UsedNames.{those_used}

-- ---- tests of every line

-- tests that agree
every_same : (p q : List ℕ → Bool) → ((l : List ℕ) → p l ≡ q l) → (ls : List (List ℕ)) → T (every p ls) → T (every q ls)
unfolding every
every_same p q f [] t = tt
every_same p q f (l ∷ ls) t = and_both (q l) (every q ls) (subst T (f l) (and_left (p l) (every p ls) t)) (every_same p q f ls (and_right (p l) (every p ls) t))

-- ---- the lines

-- each line, renumbered, is what is known of a line that is written again
abbrev AllAgain : List (List ℕ) → List (List ℕ) → List (List ℕ) → Type 0
AllAgain ns new [] = Unit {0}
AllAgain ns new (l ∷ ls) = Again ns new l (renumbered ns new l) × AllAgain ns new ls

module _ (p : List ℕ → Bool) (ns new : List (List ℕ)) (carries : (n : List ℕ) → T (p n) → T (known? ns n) → T (known? new n)) (lower : (n : List ℕ) → T (p n) → number_of new n ≤ number_of ns n) where
  -- lines that can be listed, if every name that one of them uses passes
  all_again : (ls : List (List ℕ)) → T (every whole_line? ls) → T (every (listable? lawful_number? ns) ls) → ((n : List ℕ) → T (some (line_uses? ns n) ls) → T (p n)) → AllAgain ns new ls
  unfolding every some
  all_again [] w t h = tt
  all_again (l ∷ ls) w t h =
      let q : List ℕ → Bool = listable? lawful_number? ns in (
        line_again p ns new carries lower l (and_left (whole_line? l) (every whole_line? ls) w) (and_left (q l) (every q ls) t) (λ n u. h n (or_left (line_uses? ns n l) (some (line_uses? ns n) ls) u)),
        all_again ls (and_right (whole_line? l) (every whole_line? ls) w) (and_right (q l) (every q ls) t) (λ n u. h n (or_right (line_uses? ns n l) (some (line_uses? ns n) ls) u)),
      )

-- what is known of all of them together
record LinesAgain (ns new ls again : List (List ℕ)) : Type 0 where
  pub rewritten : AllRewritten ns new ls again
  pub listable : T (every (listable? lawful_number? new) again)
  pub whole : T (every whole_line? again)
  pub above : (k : ℕ) → rising_above k again ≡ rising_above k ls
  pub rises : rising again ≡ rising ls
  pub greatest : greatest_number again ≡ greatest_number ls
  pub count : length again ≡ length ls
  pub shorter : length (joined again) ≤ length (joined ls)
  pub uses : (n : List ℕ) → some (line_uses? new n) again ≡ some (line_uses? ns n) ls
  pub stays : map (renumbered new new) again ≡ again

-- and it is so
lines_again : (ns new ls : List (List ℕ)) → AllAgain ns new ls → LinesAgain ns new ls (map (renumbered ns new) ls)
unfolding every rising_above rising greatest_number joined some
lines_again ns new [] a =
    record { rewritten = no_lines_more; listable = tt; whole = tt; above = (λ k. refl); rises = refl; greatest = refl; count = refl; shorter = omega arith; uses = (λ n. refl); stays = refl }
lines_again ns new (l ∷ ls) a =
    let x : Again ns new l (renumbered ns new l) = a.0 in
    let m : List ℕ = renumbered ns new l in
    let ms : List (List ℕ) = map (renumbered ns new) ls in
    let r : LinesAgain ns new ls ms = lines_again ns new ls a.1 in
    let next : rising_above (line_number m) ms ≡ rising_above (line_number l) ls = ap (λ (z : ℕ). rising_above z ms) x.number ∙ r.above (line_number l) in
    record {
      rewritten = line_and_more x.rewritten r.rewritten;
      listable = and_both (listable? lawful_number? new m) (every (listable? lawful_number? new) ms) x.listable r.listable;
      whole = and_both (whole_line? m) (every whole_line? ms) x.whole r.whole;
      above = (λ k. ap₂ (λ (y : ℕ) (z : Bool). ltb k y && z) x.number next);
      rises = next;
      greatest = ap₂ (λ (y z : ℕ). pick (leb z y) y z) x.number r.greatest;
      count = ap suc r.count;
      shorter = omega (arith, length-append m (joined ms), length-append l (joined ls), x.shorter, r.shorter);
      uses = (λ n. ap₂ (λ (y z : Bool). y || z) (x.uses n) (r.uses n));
      stays = ap₂ (λ (y : List ℕ) (z : List (List ℕ)). y ∷ z) x.stays r.stays;
    }

-- the line with a number, before and after
record AtNumber (ns new : List (List ℕ)) (n : ℕ) (ls again : List (List ℕ)) : Type 0 where
  pub there : first_is? n again ≡ first_is? n ls
  pub line : T (first_is? n ls) → Again ns new (first_line ls) (first_line again)

at_number : (ns new ls : List (List ℕ)) → AllAgain ns new ls → (n : ℕ) → AtNumber ns new n (lines_not_below n ls) (lines_not_below n (map (renumbered ns new) ls))
unfolding lines_not_below first_is? first_line
at_number ns new [] a n = record { there = refl; line = (λ t. absurd t) }
at_number ns new (l ∷ ls) a n = rw a.0.number (go (ltb (line_number l) n) (at_number ns new ls a.1 n))
  where
    go : (b : Bool) → AtNumber ns new n (lines_not_below n ls) (lines_not_below n (map (renumbered ns new) ls))
        → AtNumber ns new n (pick b (lines_not_below n ls) (l ∷ ls)) (pick b (lines_not_below n (map (renumbered ns new) ls)) (renumbered ns new l ∷ map (renumbered ns new) ls))
    go true r = r
    go false r = record { there = ap (λ (k : ℕ). eqb k n) a.0.number; line = (λ t. a.0) }

-- ---- what is kept

-- a collection's test, names, values and lines
abbrev test_of : State → List ℕ → Bool
test_of s = used? (names_of s) (lines_of s)

abbrev new_names : State → List (List ℕ)
new_names s = names_left (test_of s) (names_of s)

abbrev old_values : State → List ℕ
old_values s = take (8 * s.name_count) s.values

abbrev new_values : State → List ℕ
new_values s = values_left (test_of s) 0 (names_of s) (old_values s)

abbrev new_lines : State → List (List ℕ)
new_lines s = map (renumbered (names_of s) (new_names s)) (lines_of s)

-- the parts that it puts at the fronts of the buffers, as a file is loaded
abbrev new_parts : State → Parts
new_parts s = record { names = name_bytes (new_names s); values = new_values s; lines = new_lines s }

over_again : (new old : List ℕ) → overwritten new (overwritten new old) ≡ overwritten new old
unfolding overwritten
over_again new old = ap (λ (z : List ℕ). new ++ z) (over_past new old)

-- parts loaded over themselves
loaded_again : (p : Parts) (s : State) → loaded_state p (loaded_state p s) ≡ loaded_state p s
unfolding loaded_state
loaded_again p s = rw (over_again p.names s.names, over_again p.values s.values, over_again (joined p.lines) s.store)

-- a collection that is not refused
collect_accepts : (s : State) → T (sound_state s) → T (every (listable? lawful_number? (names_of s)) (lines_of s)) → collect s ≡ record { number = 0; after = collected s }
unfolding collect
collect_accepts s o t = rw (is_true (sound_state s) o, is_true (every (listable? lawful_number? (names_of s)) (lines_of s)) t)

-- ---- an accepted collection

module _ (s : State) (sound : T (sound_state s)) (listable : T (every (listable? lawful_number? (names_of s)) (lines_of s))) where
  -- every line is written again over the names that are kept
  each_again : AllAgain (names_of s) (new_names s) (lines_of s)
  unfolding used? sound_lines
  each_again =
      let p = test_of s in
      let ns : List (List ℕ) = names_of s in
      let carries : (n : List ℕ) → T (p n) → T (known? ns n) → T (known? (new_names s) n) = λ n t k. subst T (sym (left_known p ns n)) (and_both (p n) (known? ns n) t k) in
      all_again p ns (new_names s) carries (λ n t. left_number p ns n (is_true (p n) t)) (lines_of s) (and_left (every whole_line? (lines_of s)) _ (state_says s sound).lines) listable (λ n t. t)

  all_lines : LinesAgain (names_of s) (new_names s) (lines_of s) (new_lines s)
  all_lines = lines_again (names_of s) (new_names s) (lines_of s) each_again

  -- the names are sound, and are read back
  sound_left : T (sound_names (new_names s))
  sound_left = left_sound (test_of s) (names_of s) (state_says s sound).table.names

  names_again : names_in (name_bytes (new_names s)) ≡ new_names s
  names_again = names_back (new_names s) (names_good (new_names s) sound_left).names

  -- eight values for each old name
  eight_each : 8 * length (names_of s) ≤ length (old_values s)
  eight_each = let o = state_says s sound in omega (arith, length-take-le (8 * s.name_count) s.values o.values_fit, o.table.counted)

  -- the parts are sound
  sound_kept : SoundParts (new_parts s)
  unfolding sound_lines
  sound_kept =
      let r = all_lines in
      record {
        bytes = ap name_bytes names_again;
        names = subst (λ (z : List (List ℕ)). T (sound_names z)) (sym names_again) sound_left;
        values = values_size (test_of s) 0 (names_of s) (old_values s) eight_each ∙ ap (λ (z : List (List ℕ)). 8 * length z) (sym names_again);
        lines = and_both (every whole_line? (new_lines s)) (rising (new_lines s)) r.whole (subst T (sym r.rises) (and_right (every whole_line? (lines_of s)) _ (state_says s sound).lines));
      }

  -- no part grows
  record Less : Type 0 where
    pub names : length (name_bytes (new_names s)) ≤ s.name_size
    pub values : length (new_names s) ≤ s.name_count
    pub lines : length (joined (new_lines s)) ≤ s.used

  less : Less
  less =
      let o : SoundState s = state_says s sound in
      record {
        names = omega (arith, left_smaller (test_of s) (names_of s), ap length o.table.bytes, length-take-le s.name_size s.names o.table.fits);
        values = omega (arith, left_fewer (test_of s) (names_of s), o.table.counted);
        lines = omega (arith, all_lines.shorter, lines_size s sound);
      }

  -- so there is room for them
  fits : Fits (new_parts s) s
  fits =
      let o : SoundState s = state_says s sound in
      record {
        names = omega (arith, less.names, o.table.fits);
        values = omega (arith, less.values, values_size (test_of s) 0 (names_of s) (old_values s) eight_each, o.values_fit);
        lines = omega (arith, less.lines, o.used_fits);
      }

  -- the state that is left holds these parts
  collected_is : collected s ≡ loaded_state (new_parts s) s
  unfolding collected loaded_state
  collected_is =
      let o : SoundState s = state_says s sound in
      let r = all_lines in
      rw (names_again, r.count, r.greatest, ← o.agrees.counted, ← o.agrees.greatest)

  left : Holding (new_parts s) s (collected s)
  left = subst (Holding (new_parts s) s) (sym collected_is) (holding (new_parts s) s sound_kept fits)

  names_after : names_of (collected s) ≡ new_names s
  unfolding names_of
  names_after =
      ap (λ (k : ℕ). names_in (take k (collected s).names)) left.name_size ∙ ap names_in left.names.front ∙ names_again

  entries_after : take (8 * (collected s).name_count) (collected s).values ≡ new_values s
  entries_after = subst (λ (k : ℕ). take k (collected s).values ≡ new_values s) (sym left.value_size) left.values.front

  -- all of it together
  state_left : CollectedState s (collected s)
  unfolding collected
  state_left =
      let a : State = collected s in
      let h : Holding (new_parts s) s a = left in
      let listed : HoldsListable s = all_listable (names_of s) (lines_of s) listable in
      record {
        sound = h.sound;
        line_count = refl;
        greatest = refl;
        names = rw names_after (those_used s listed);
        lines = rw (names_after, h.lines) all_lines.rewritten;
        name_bytes_less = less.names;
        names_less = less.values;
        used_less = less.lines;
        past_names = h.names.past;
        past_values = subst (λ (k : ℕ). drop k a.values ≡ drop k s.values) (sym h.value_size) h.values.past;
        past_lines = h.store.past;
        names_size = h.names.same_size;
        values_size = h.values.same_size;
        store_size = h.store.same_size;
      }

  -- each line is listed as it was
  lists_same : (n : ℕ) (output : List ℕ) → list n (collected s) output ≡ list n s output
  unfolding list list_sound stored? line_at
  lists_same n output =
      let r = at_number (names_of s) (new_names s) (lines_of s) each_again n in
      rw (is_true (sound_state s) sound, is_true (sound_state (collected s)) left.sound, names_after, left.lines, r.there) (go (first_is? n (lines_not_below n (lines_of s))) r.line)
    where
      old : List ℕ
      old = first_line (lines_not_below n (lines_of s))

      new : List ℕ
      new = first_line (lines_not_below n (new_lines s))

      go : (b : Bool) → (T b → Again (names_of s) (new_names s) old new)
          → pick (not b) (not_listed 9 output) (listed_if (listable? lawful_number? (new_names s) new) (line_listing (new_names s) new) output)
          ≡ pick (not b) (not_listed 9 output) (listed_if (listable? lawful_number? (names_of s) old) (line_listing (names_of s) old) output)
      go true h = let x = h tt in rw (is_true (listable? lawful_number? (names_of s) old) x.was_listable, is_true (listable? lawful_number? (new_names s) new) x.listable, x.listed)
      go false h = refl

  -- the eight values of a name that is kept are as they were, but for the number
  value_left : (n : List ℕ) → T (known? (names_of (collected s)) n) → value_of (collected s) n ≡ with_number (number_of (names_of (collected s)) n) (value_of s n)
  unfolding renumber
  value_left n h =
      let a : State = collected s in
      let o = state_says s sound in
      let p = test_of s in
      let ns : List (List ℕ) = names_of s in
      let i : ℕ = number_of (names_of a) n in
      let kept : T (p n && known? ns n) = subst T (ap (λ (z : List (List ℕ)). known? z n) names_after ∙ left_known p ns n) h in
      let there : number_of ns n < length ns = known_less ns n (is_true (known? ns n) (and_right (p n) (known? ns n) kept)) in
      let stands : i < length (names_of a) = known_less (names_of a) n (is_true (known? (names_of a) n) h) in
      let v = state_says a left.sound in
      let same_number : i ≡ number_of (new_names s) n = ap (λ (z : List (List ℕ)). number_of z n) names_after in
      let none : 0 + number_of (new_names s) n ≡ i = omega arith in
      part_of_first (8 * i) 8 (8 * a.name_count) a.values (omega (arith, v.table.counted)) v.values_fit
      ∙ ap₂ (λ (k : ℕ) (z : List ℕ). take 8 (drop (8 * k) z)) same_number entries_after
      ∙ values_at p 0 ns (old_values s) n eight_each (is_true (p n) (and_left (p n) (known? ns n) kept)) there
      ∙ ap₂ with_number none (sym (part_of_first (8 * number_of ns n) 8 (8 * s.name_count) s.values (omega (arith, o.table.counted)) o.values_fit))
    where
      -- a part of the first entries of a list
      part_of_first : (i n k : ℕ) (l : List ℕ) → i + n ≤ k → k ≤ length l → take n (drop i l) ≡ take n (drop i (take k l))
      part_of_first i n k l h g =
          let x : List ℕ = take k l in
          let size : length x ≡ k = length-take-le k l g in
          ap (λ (z : List ℕ). take n (drop i z)) (sym (take-append-drop k l))
          ∙ ap (take n) (drop-append-le i x (drop k l) (omega arith))
          ∙ take-append-le n (drop i x) (drop k l) (omega (arith, length-drop i x))

  -- ---- once more

  -- every name that is left is used
  all_used : T (every (used? (new_names s) (new_lines s)) (new_names s))
  unfolding used?
  all_used = every_same (test_of s) (used? (new_names s) (new_lines s)) (λ n. sym (all_lines.uses n)) (new_names s) (left_pass (test_of s) (names_of s))

  lines_listable : T (every (listable? lawful_number? (names_of (collected s))) (lines_of (collected s)))
  lines_listable = rw (names_after, left.lines) all_lines.listable

  -- the parts are the same
  parts_same : new_parts (collected s) ≡ new_parts s
  parts_same =
      let a : State = collected s in
      let new : List (List ℕ) = new_names s in
      let ls : List (List ℕ) = new_lines s in
      let names : new_names a ≡ new = ap₂ (λ (x y : List (List ℕ)). names_left (used? x y) x) names_after left.lines ∙ all_left (used? new ls) new all_used in
      let values : new_values a ≡ new_values s =
      ap₂ (λ (x y : List (List ℕ)). values_left (used? x y) 0 x (old_values a)) names_after left.lines
      ∙ ap (values_left (used? new ls) 0 new) entries_after
      ∙ values_again (test_of s) (used? new ls) 0 (names_of s) (old_values s) eight_each all_used in
      let lines : new_lines a ≡ ls =
      ap₂ (λ (x y : List (List ℕ)). map (renumbered x (new_names a)) y) names_after left.lines
      ∙ ap (λ (z : List (List ℕ)). map (renumbered new z) ls) names
      ∙ all_lines.stays in
      rw (lines, values, names)

-- collected once more, the same parts are put where they stand
collected_again : (s : State) → T (sound_state s) → T (every (listable? lawful_number? (names_of s)) (lines_of s)) → collected (collected s) ≡ collected s
collected_again s sound listable =
    let a : State = collected s in
    collected_is a (left s sound listable).sound (lines_listable s sound listable)
    ∙ ap (λ (q : Parts). loaded_state q a) (parts_same s sound listable)
    ∙ ap (loaded_state (new_parts s)) (collected_is s sound listable)
    ∙ loaded_again (new_parts s) s
    ∙ sym (collected_is s sound listable)

-- well-formed lines are written again as such
all_formed : (ns new ls ms : List (List ℕ)) → AllRewritten ns new ls ms → ((l : List ℕ) → Memᴰ l ls → WellFormed ns l) → (m : List ℕ) → Memᴰ m ms → WellFormed new m
all_formed ns new ls ms no_lines_more h m i = absurd (Memᴰ.not-nil i)
all_formed ns new ls ms (line_and_more {l = l} {after = k} {ls = ls'} {more = ms'} r more) h m i = go (Memᴰ.cases_cons i) (λ j. all_formed ns new ls' ms' more (λ x y. h x (Memᴰ.tail y)) m j)
  where
    formed : Rewritten ns new l k → WellFormed new k
    formed (error_stays e q) = absurd (subst T (never_both ns l (h l (Memᴰ.head refl))) e)
    formed (same_tokens w v q n z) = v

    go : (m ≡ k) ⊎ Memᴰ m ms' → (Memᴰ m ms' → WellFormed new m) → WellFormed new m
    go (inl e) f = subst (WellFormed new) (sym e) (formed r)
    go (inr j) f = f j

-- ---- every answer

-- what a collection answers: a refusal that leaves the state, or what is left of a sound state all of whose lines can be listed
data CollectAnswer (s : State) : Collected → Type 0 where
  refused : (k : ℕ) → (k ≡ 0 → ⊥) → CollectAnswer s (record { number = k; after = s })
  done : T (sound_state s) → T (every (listable? lawful_number? (names_of s)) (lines_of s)) → CollectAnswer s (record { number = 0; after = collected s })

module _ (s : State) where
  abbrev test : List ℕ → Bool
  test = listable? lawful_number? (names_of s)

  collect_answer : CollectAnswer s (collect s)
  unfolding collect
  collect_answer = go (sound_state s) refl (every test (lines_of s)) refl
    where
      go : (a : Bool) → sound_state s ≡ a → (b : Bool) → every test (lines_of s) ≡ b
          → CollectAnswer s (pick (not a) (record { number = 1; after = s }) (pick (not b) (record { number = 10; after = s }) (record { number = 0; after = collected s })))
      go false e b f = refused 1 (λ z. omega arith)
      go true e false f = refused 10 (λ z. omega arith)
      go true e true f = done (as_T _ e) (as_T _ f)

  -- what is so of a refusal, and of what is left, is so of the answer
  of_answer : (P : Collected → Type 0) → ((k : ℕ) → (k ≡ 0 → ⊥) → collect s ≡ record { number = k; after = s } → P (record { number = k; after = s }))
      → ((sound : T (sound_state s)) (all : T (every (listable? lawful_number? (names_of s)) (lines_of s))) → P (record { number = 0; after = collected s })) → P (collect s)
  of_answer P f g = go (collect s) refl collect_answer
    where
      go : (c : Collected) → collect s ≡ c → CollectAnswer s c → P c
      go c e (refused k n) = f k n e
      go c e (done o t) = g o t

  -- a refused collection leaves all as it was
  pub collected_refused : ((collect s).number ≡ 0 → ⊥) → (collect s).after ≡ s
  collected_refused = of_answer (λ c. (c.number ≡ 0 → ⊥) → c.after ≡ s) (λ k n e h. refl) (λ o t h. absurd (h refl))

  -- what an accepted one leaves
  pub collected_state : (collect s).number ≡ 0 → CollectedState s (collect s).after
  collected_state = of_answer (λ c. c.number ≡ 0 → CollectedState s c.after) (λ k n e z. absurd (n z)) (λ o t z. state_left s o t)

  -- every line lists as it did
  pub collected_lists : (n : ℕ) (output : List ℕ) → list n (collect s).after output ≡ list n s output
  collected_lists n output = of_answer (λ c. list n c.after output ≡ list n s output) (λ k m e. refl) (λ o t. lists_same s o t n output)

  -- every value is as it was, but for the number
  pub collected_values : (n : List ℕ) → (collect s).number ≡ 0 → T (known? (names_of (collect s).after) n)
      → value_of (collect s).after n ≡ with_number (number_of (names_of (collect s).after) n) (value_of s n)
  collected_values n =
      of_answer (λ c. c.number ≡ 0 → T (known? (names_of c.after) n) → value_of c.after n ≡ with_number (number_of (names_of c.after) n) (value_of s n))
      (λ k m e z h. absurd (m z)) (λ o t z h. value_left s o t n h)

  -- a second collection answers what the first did
  pub collected_twice : collect (collect s).after ≡ collect s
  collected_twice = of_answer (λ c. collect c.after ≡ c) (λ k n e. e) (λ o t. collect_accepts (collected s) (left s o t).sound (lines_listable s o t) ∙ ap done_with (collected_again s o t))
    where
      done_with : State → Collected
      done_with a = record { number = 0; after = a }

  -- sound exactly when it was
  pub collected_soundness : sound_state (collect s).after ≡ sound_state s
  collected_soundness =
      of_answer (λ c. sound_state c.after ≡ sound_state s) (λ k n e. refl) (λ o t. is_true (sound_state (collected s)) (left s o t).sound ∙ sym (is_true (sound_state s) o))

  -- a record that agrees stays so
  pub collected_agrees : Agrees s → Agrees (collect s).after
  collected_agrees a = of_answer (λ c. Agrees c.after) (λ k n e. a) (λ o t. (state_says (collected s) (left s o t).sound).agrees)

  -- a store whose lines are well-formed or error lines stays one
  pub collected_listable : HoldsListable s → HoldsListable (collect s).after
  collected_listable h = of_answer (λ c. HoldsListable c.after) (λ k n e. h) (λ o t. all_listable (names_of (collected s)) (lines_of (collected s)) (lines_listable s o t))

  -- and one whose lines are well-formed
  pub collected_well_formed : HoldsWellFormed s → HoldsWellFormed (collect s).after
  collected_well_formed h = of_answer (λ c. HoldsWellFormed c.after) (λ k n e. h) (λ o t. all_formed (names_of s) (names_of (collected s)) (lines_of s) (lines_of (collected s)) (state_left s o t).lines h)

-- ---- exactly when

-- 1, 10
pub collect_exactly : (s : State) → Exactly (collect_refusals s) (collect s).number
unfolding collect
collect_exactly s =
    exactly _ _ tt
    (tested collected_number _ _ _ (says_not (sound_state s) (state_says s) (says_state s)) (λ e. tested collected_number _ _ _ (says_unlistable (names_of s) (lines_of s)) (λ f. none_holds)))
  where
    collected_number : Collected → ℕ
    collected_number c = c.number
