-- Programs from other tokenizers (document 02, §10): what the answer says of the tables and the lines.
use Rattle.std.specs.Prelude.{ℕ, ◌*◌, ◌≤◌, ◌≡◌, true, false, not, ◌↔◌, ◌⊎◌, T, length}
use Rattle.std.proofs.Common.{arith, subst, sym, ◌∙◌, inl, inr, le→leb}
use Rattle.std.proofs.Math.Path.{refl}
use Rattle.std.proofs.Math.Bool.{Bool}
use mathlib.Core.List.Memᴰ
use mathlib.Core.List.{List, [], ◌∷◌, ◌++◌, Memᴰ}
use Rattle.std.proofs.Math.Dec.{leb, leb→le}
use Rattle.paper.specs.Bytes.{pick}
use Rattle.paper.specs.Names.{sound_table}
use Rattle.paper.specs.Line.{line_number}
use Rattle.paper.specs.WellFormed.{WellFormed, well_formed?}
use Rattle.paper.specs.Store.{room, sound_lines, sound_store}
use Rattle.paper.specs.Calls.{State, names_of, lines_of, sound_tables}
use Rattle.paper.specs.Examine.{Verdict, yes, unsound_names, unsound_values, unsound_store, bad_line, first_bad, examine, verdict_number}
use Rattle.laws.specs.Tests.{and_left, and_right, and_both, as_T, is_true}
use Rattle.promises.specs.Terms.{SoundTable, FirstHolding, none_holds, this_holds, later_holds, Exactly, HoldsWellFormed}
use Rattle.requested.specs.RequestTerms.{examined, faults, FirstBad}
use Rattle.grounds.proofs.WellFormedTest.{test_says, says_test}
use Rattle.promises.proofs.States.{table_says, says_table}
use Rattle.promises.proofs.Tested.{exactly, says_not, tested}

-- ---- the lines

-- all lines of a list are well-formed
abbrev AllFormed : List (List ℕ) → List (List ℕ) → Type 0
AllFormed ns ls = (l : List ℕ) → Memᴰ l ls → WellFormed ns l

-- what is found of lines: every one well-formed, or the first that is not
data Found (ns : List (List ℕ)) : List (List ℕ) → Verdict → Type 0 where
  all_formed : (ls : List (List ℕ)) → AllFormed ns ls → Found ns ls yes
  first_unformed : (before : List (List ℕ)) (line : List ℕ) (after : List (List ℕ)) → AllFormed ns before → (WellFormed ns line → ⊥) → Found ns (before ++ line ∷ after) (bad_line (line_number line))

none_formed : (ns : List (List ℕ)) → AllFormed ns []
none_formed ns l m = absurd (Memᴰ.not-nil m)

one_more : (ns : List (List ℕ)) (l : List ℕ) (ls : List (List ℕ)) → WellFormed ns l → AllFormed ns ls → AllFormed ns (l ∷ ls)
one_more ns l ls w h k m = go (Memᴰ.cases_cons m)
  where
    go : (k ≡ l) ⊎ Memᴰ k ls → WellFormed ns k
    go (inl e) = subst (WellFormed ns) (sym e) w
    go (inr r) = h k r

found_on : (ns : List (List ℕ)) (l : List ℕ) (ls : List (List ℕ)) (v : Verdict) → WellFormed ns l → Found ns ls v → Found ns (l ∷ ls) v
found_on ns l ls v w (all_formed ls' h) = all_formed (l ∷ ls) (one_more ns l ls w h)
found_on ns l ls v w (first_unformed before line after h n) = first_unformed (l ∷ before) line after (one_more ns l before w h) n

found_go : (ns : List (List ℕ)) (l : List ℕ) (ls : List (List ℕ)) (v : Verdict) → Found ns ls v → (b : Bool) → well_formed? ns l ≡ b → Found ns (l ∷ ls) (pick b v (bad_line (line_number l)))
found_go ns l ls v h true e = found_on ns l ls v (test_says ns l (as_T (well_formed? ns l) e)) h
found_go ns l ls v h false e = first_unformed [] l ls (none_formed ns) (λ w. subst T e (says_test ns l w))

found : (ns ls : List (List ℕ)) → Found ns ls (first_bad ns ls)
unfolding first_bad
found ns [] = all_formed [] (none_formed ns)
found ns (l ∷ ls) = found_go ns l ls (first_bad ns ls) (found ns ls) (well_formed? ns l) refl

-- ---- exactly when

module _ (s : State) where
  -- 4, or none
  lines_first : (ls : List (List ℕ)) (v : Verdict) → lines_of s ≡ ls → Found (names_of s) ls v → FirstHolding ((4, HoldsWellFormed s → ⊥) ∷ []) (verdict_number v)
  unfolding verdict_number
  lines_first ls v e (all_formed ls' h) = later_holds (λ (n : HoldsWellFormed s → ⊥). n (λ l m. h l (subst (Memᴰ l) e m))) none_holds
  lines_first ls v e (first_unformed before line after h n) =
      let bad : HoldsWellFormed s → ⊥ = λ all. n (all line (subst (Memᴰ line) (sym e) (Memᴰ.append_right before (Memᴰ.head refl)))) in this_holds bad

  store_says : T (sound_store s.store s.used) → (s.used ≤ room s.store) × T (sound_lines (lines_of s))
  unfolding sound_store lines_of
  store_says t = (leb→le s.used (room s.store) (and_left (leb s.used (room s.store)) _ t), and_right (leb s.used (room s.store)) _ t)

  says_store : (s.used ≤ room s.store) × T (sound_lines (lines_of s)) → T (sound_store s.store s.used)
  unfolding sound_store lines_of
  says_store h = and_both (leb s.used (room s.store)) _ (le→leb _ _ h.0) h.1

  -- what sound tables have
  pub tables_say : T (sound_tables s) → SoundTable (names_of s) s.names s.name_size s.name_count × (8 * s.name_count ≤ length s.values) × ((s.used ≤ room s.store) × T (sound_lines (lines_of s)))
  unfolding sound_tables names_of
  tables_say t =
      let a = and_right (sound_table s.names s.name_size s.name_count) _ t in (
        table_says s.names s.name_size s.name_count (and_left (sound_table s.names s.name_size s.name_count) _ t),
        leb→le _ _ (and_left (leb (8 * s.name_count) (length s.values)) _ a),
        store_says (and_right (leb (8 * s.name_count) (length s.values)) _ a),
      )

  -- each number is answered exactly when its condition is the first that holds
  pub examine_exactly : Exactly (faults s) (verdict_number (examined s))
  unfolding examine names_of lines_of verdict_number
  examine_exactly =
      let names : Bool = sound_table s.names s.name_size s.name_count in
      let values : Bool = leb (8 * s.name_count) (length s.values) in
      let store : Bool = sound_store s.store s.used in
      exactly _ _ tt
      (tested verdict_number (not names) _ _ (says_not names (table_says s.names s.name_size s.name_count) (says_table s.names s.name_size s.name_count))
      (λ a. tested verdict_number (not values) _ _ (says_not values (leb→le _ _) (le→leb _ _))
      (λ b. tested verdict_number (not store) _ _ (says_not store store_says says_store)
      (λ c. lines_first (lines_of s) (first_bad (names_of s) (lines_of s)) refl (found (names_of s) (lines_of s))))))

  -- ---- yes, and the number of a line

  -- the answer after sound tables
  over_sound : T (sound_tables s) → examined s ≡ first_bad (names_of s) (lines_of s)
  unfolding examine sound_tables names_of lines_of
  over_sound t =
      let names : Bool = sound_table s.names s.name_size s.name_count in
      let values : Bool = leb (8 * s.name_count) (length s.values) in
      let a = and_right names _ t in
      rw (is_true names (and_left names _ t), is_true values (and_left values _ a), is_true (sound_store s.store s.used) (and_right values _ a))

  -- what is neither of the three unsound ones was answered over sound tables
  past_tables : (names values store : Bool) → (v : Verdict) → (v ≡ unsound_names → ⊥) → (v ≡ unsound_values → ⊥) → (v ≡ unsound_store → ⊥) → (lines : Verdict)
      → pick (not names) unsound_names (pick (not values) unsound_values (pick (not store) unsound_store lines)) ≡ v → (names ≡ true) × (values ≡ true) × (store ≡ true)
  past_tables false values store v a b c lines e = absurd (a (sym e))
  past_tables true false store v a b c lines e = absurd (b (sym e))
  past_tables true true false v a b c lines e = absurd (c (sym e))
  past_tables true true true v a b c lines e = (refl, refl, refl)

  sound_of : (v : Verdict) → examined s ≡ v → (v ≡ unsound_names → ⊥) → (v ≡ unsound_values → ⊥) → (v ≡ unsound_store → ⊥) → T (sound_tables s)
  unfolding examine sound_tables names_of lines_of
  sound_of v e a b c =
      let p = past_tables (sound_table s.names s.name_size s.name_count) (leb (8 * s.name_count) (length s.values)) (sound_store s.store s.used) v a b c _ e in
      and_both (sound_table s.names s.name_size s.name_count) _ (as_T _ p.0) (and_both (leb (8 * s.name_count) (length s.values)) _ (as_T _ p.1) (as_T _ p.2))

  all_of : (ls : List (List ℕ)) (v : Verdict) → Found (names_of s) ls v → v ≡ yes → AllFormed (names_of s) ls
  all_of ls v (all_formed ls' h) e = h
  all_of ls v (first_unformed before line after h n) e = let z : ◌≡◌ {A = ℕ} 0 1 = cc in absurd (omega arith)

  none_of : (ls : List (List ℕ)) (v : Verdict) → AllFormed (names_of s) ls → Found (names_of s) ls v → v ≡ yes
  none_of ls v all (all_formed ls' h) = refl
  none_of ls v all (first_unformed before line after h n) = absurd (n (all line (Memᴰ.append_right before (Memᴰ.head refl))))

  -- yes exactly when the tables are sound and each line is well-formed over them
  pub examine_yes : (examined s ≡ yes) ↔ (T (sound_tables s) × HoldsWellFormed s)
  examine_yes = (to, from)
    where
      to : examined s ≡ yes → T (sound_tables s) × HoldsWellFormed s
      to e =
          let t = sound_of yes e (λ z. let w : ◌≡◌ {A = ℕ} 0 1 = cc in omega arith) (λ z. let w : ◌≡◌ {A = ℕ} 0 1 = cc in omega arith) (λ z. let w : ◌≡◌ {A = ℕ} 0 1 = cc in omega arith) in
          (t, all_of (lines_of s) (first_bad (names_of s) (lines_of s)) (found (names_of s) (lines_of s)) (sym (over_sound t) ∙ e))

      from : T (sound_tables s) × HoldsWellFormed s → examined s ≡ yes
      from h = over_sound h.0 ∙ none_of (lines_of s) (first_bad (names_of s) (lines_of s)) h.1 (found (names_of s) (lines_of s))

  bad_of : (n : ℕ) (ls : List (List ℕ)) (v : Verdict) → lines_of s ≡ ls → Found (names_of s) ls v → v ≡ bad_line n → FirstBad s n
  bad_of n ls v i (all_formed ls' h) e = let z : ◌≡◌ {A = ℕ} 0 1 = cc in absurd (omega arith)
  bad_of n ls v i (first_unformed before line after h w) e =
      record { before = before; line = line; after = after; lines = i; number = (let z : line_number line ≡ n = cc in z); good_before = h; bad = w }

  -- and the number of a line is that of the first bad one, over sound tables
  pub examine_line : (n : ℕ) → examined s ≡ bad_line n → T (sound_tables s) × FirstBad s n
  examine_line n e =
      let t = sound_of (bad_line n) e (λ z. let w : ◌≡◌ {A = ℕ} 0 1 = cc in omega arith) (λ z. let w : ◌≡◌ {A = ℕ} 0 1 = cc in omega arith) (λ z. let w : ◌≡◌ {A = ℕ} 0 1 = cc in omega arith) in
      (t, bad_of n (lines_of s) (first_bad (names_of s) (lines_of s)) refl (found (names_of s) (lines_of s)) (sym (over_sound t) ∙ e))
