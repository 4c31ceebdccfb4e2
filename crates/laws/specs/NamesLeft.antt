-- The names that pass a test, and their values (document 02, §12): what stays of a name table and of the values' table.
use Prim.Native.Nat.{ℕ, suc, ◌+◌, ◌*◌, ◌≤◌, ◌<◌}
use native.Mathlib.Omega.{arith}
use Rattle.std.specs.Prelude.{◌≡◌, Bool, ◌&&◌, ◌||◌, leb, take, drop}
use Rattle.std.proofs.Math.Path.{refl, ap}
use Rattle.std.proofs.Common.{subst, sym, ap₂, ◌∙◌, le→leb, drop-drop}
use Rattle.std.proofs.Math.Bool.{true, false, not}
use mathlib.Core.List.{List, [], ◌∷◌, ◌++◌}
use Rattle.std.proofs.Math.Dec.{T, leb→le}
use Rattle.std.proofs.Math.ListN.{length, length-append}
use Rattle.paper.specs.Bytes.{pick, same, every}
use Rattle.paper.specs.Words.{reserved?}
use Rattle.paper.specs.Names.{marked, name_bytes, name?, less_open, number_of, known?, all_different, most_names, sound_names}
use Rattle.paper.specs.Collect.{names_left, values_left}
use Rattle.laws.specs.Tests.{and_left, and_right, and_both, as_T, is_true}
use Rattle.laws.specs.Names.{same_eq}
use Rattle.laws.specs.Tables.{known_none, known_cons}

-- ---- the names

module _ (p : List ℕ → Bool) where
  -- what all names pass, those that are kept pass
  pub left_every : (q : List ℕ → Bool) (ns : List (List ℕ)) → T (every q ns) → T (every q (names_left p ns))
  unfolding names_left every
  left_every q [] t = tt
  left_every q (n ∷ ns) t = go (p n) (left_every q ns (and_right (q n) (every q ns) t))
    where
      go : (b : Bool) → T (every q (names_left p ns)) → T (every q (pick b (n ∷ names_left p ns) (names_left p ns)))
      go true r = and_both (q n) (every q (names_left p ns)) (and_left (q n) (every q ns) t) r
      go false r = r

  -- and they pass the test itself
  pub left_pass : (ns : List (List ℕ)) → T (every p (names_left p ns))
  unfolding names_left every
  left_pass [] = tt
  left_pass (n ∷ ns) = go (p n) refl (left_pass ns)
    where
      go : (b : Bool) → p n ≡ b → T (every p (names_left p ns)) → T (every p (pick b (n ∷ names_left p ns) (names_left p ns)))
      go true e r = and_both (p n) (every p (names_left p ns)) (as_T (p n) e) r
      go false e r = r

  -- names that all pass are all kept
  pub all_left : (ns : List (List ℕ)) → T (every p ns) → names_left p ns ≡ ns
  unfolding names_left every
  all_left [] t = refl
  all_left (n ∷ ns) t = rw (is_true (p n) (and_left (p n) (every p ns) t)) (ap (λ (z : List (List ℕ)). n ∷ z) (all_left ns (and_right (p n) (every p ns) t)))

  -- they are no more than before
  pub left_fewer : (ns : List (List ℕ)) → length (names_left p ns) ≤ length ns
  unfolding names_left
  left_fewer [] = omega arith
  left_fewer (n ∷ ns) = go (p n) (left_fewer ns)
    where
      go : (b : Bool) → length (names_left p ns) ≤ length ns → length (pick b (n ∷ names_left p ns) (names_left p ns)) ≤ suc (length ns)
      go true r = omega arith
      go false r = omega arith

  -- nor are their bytes
  pub left_smaller : (ns : List (List ℕ)) → length (name_bytes (names_left p ns)) ≤ length (name_bytes ns)
  unfolding names_left name_bytes
  left_smaller [] = omega arith
  left_smaller (n ∷ ns) = go (p n) (left_smaller ns)
    where
      go : (b : Bool) → length (name_bytes (names_left p ns)) ≤ length (name_bytes ns) → length (name_bytes (pick b (n ∷ names_left p ns) (names_left p ns))) ≤ length (marked n ++ name_bytes ns)
      go true r = omega (arith, length-append (marked n) (name_bytes (names_left p ns)), length-append (marked n) (name_bytes ns))
      go false r = omega (arith, length-append (marked n) (name_bytes ns))

  -- a name is known among them if it passes and was known
  pub left_known : (ns : List (List ℕ)) (n : List ℕ) → known? (names_left p ns) n ≡ p n && known? ns n
  unfolding names_left
  left_known [] n = known_none n ∙ none (p n) ∙ ap (λ (z : Bool). p n && z) (sym (known_none n))
    where
      none : (b : Bool) → false ≡ b && false
      none true = refl
      none false = refl
  left_known (m ∷ ms) n =
      first_left (p m)
      ∙ ap (λ (z : Bool). pick (p m) (same m n || z) z) (left_known ms n)
      ∙ tests (p m) (same m n) (p n) (known? ms n) (λ e. ap p (same_eq m n e))
      ∙ ap (λ (z : Bool). p n && z) (sym (known_cons m ms n))
    where
      first_left : (b : Bool) → known? (pick b (m ∷ names_left p ms) (names_left p ms)) n ≡ pick b (same m n || known? (names_left p ms) n) (known? (names_left p ms) n)
      first_left true = known_cons m (names_left p ms) n
      first_left false = refl

      tests : (b c d k : Bool) → (c ≡ true → b ≡ d) → pick b (c || (d && k)) (d && k) ≡ d && (c || k)
      tests true true true k f = refl
      tests true true false k f = f refl
      tests true false d k f = refl
      tests false true true k f = absurd (as_T false (f refl))
      tests false true false k f = refl
      tests false false d k f = refl

  -- no name twice, as before
  pub left_different : (ns : List (List ℕ)) → T (all_different ns) → T (all_different (names_left p ns))
  unfolding names_left all_different
  left_different [] t = tt
  left_different (n ∷ ns) t = go (p n) (left_different ns (and_right (not (known? ns n)) (all_different ns) t))
    where
      no_other : (b c : Bool) → T (not c) → T (not (b && c))
      no_other true c h = h
      no_other false c h = tt

      go : (b : Bool) → T (all_different (names_left p ns)) → T (all_different (pick b (n ∷ names_left p ns) (names_left p ns)))
      go true r =
          and_both (not (known? (names_left p ns) n)) (all_different (names_left p ns))
          (subst (λ (z : Bool). T (not z)) (sym (left_known ns n)) (no_other (p n) (known? ns n) (and_left (not (known? ns n)) (all_different ns) t))) r
      go false r = r

  -- names of a sound table are still such names
  pub left_sound : (ns : List (List ℕ)) → T (sound_names ns) → T (sound_names (names_left p ns))
  unfolding sound_names
  left_sound ns t =
      let a = and_right (leb (length ns) most_names) _ t in
      let b = and_right (every name? ns) _ a in
      let few : length ns ≤ 256 = leb→le (length ns) 256 (and_left (leb (length ns) most_names) _ t) in
      and_both (leb (length (names_left p ns)) most_names) _ (le→leb (length (names_left p ns)) 256 (omega (arith, left_fewer ns)))
      (and_both (every name? (names_left p ns)) _ (left_every name? ns (and_left (every name? ns) _ a))
      (and_both (all_different (names_left p ns)) _ (left_different ns (and_left (all_different ns) _ b))
      (left_every (λ n. not (reserved? (less_open n))) ns (and_right (all_different ns) _ b))))

  -- the number of a name that passes is no greater
  pub left_number : (ns : List (List ℕ)) (n : List ℕ) → p n ≡ true → number_of (names_left p ns) n ≤ number_of ns n
  unfolding names_left number_of
  left_number [] n h = omega arith
  left_number (m ∷ ms) n h = go (p m) (same m n) refl (λ e. ap p (same_eq m n e) ∙ h) (left_number ms n h)
    where
      go : (b c : Bool) → same m n ≡ c → (c ≡ true → b ≡ true) → number_of (names_left p ms) n ≤ number_of ms n → number_of (pick b (m ∷ names_left p ms) (names_left p ms)) n ≤ pick c 0 (suc (number_of ms n))
      go true true e f r = rw e (omega arith)
      go true false e f r = rw e (omega arith)
      go false true e f r = absurd (as_T false (f refl))
      go false false e f r = omega arith

-- ---- the values

-- at least eight values
data Eight : List ℕ → Type 0 where
  eight : (a b c d e f g h : ℕ) (more : List ℕ) → Eight (a ∷ b ∷ c ∷ d ∷ e ∷ f ∷ g ∷ h ∷ more)

eight_of : (vs : List ℕ) → 8 ≤ length vs → Eight vs
eight_of [] h = absurd (omega arith)
eight_of (a ∷ []) h = absurd (omega arith)
eight_of (a ∷ b ∷ []) h = absurd (omega arith)
eight_of (a ∷ b ∷ c ∷ []) h = absurd (omega arith)
eight_of (a ∷ b ∷ c ∷ d ∷ []) h = absurd (omega arith)
eight_of (a ∷ b ∷ c ∷ d ∷ e ∷ []) h = absurd (omega arith)
eight_of (a ∷ b ∷ c ∷ d ∷ e ∷ f ∷ []) h = absurd (omega arith)
eight_of (a ∷ b ∷ c ∷ d ∷ e ∷ f ∷ g ∷ []) h = absurd (omega arith)
eight_of (a ∷ b ∷ c ∷ d ∷ e ∷ f ∷ g ∷ x ∷ more) h = eight a b c d e f g x more

-- eight values for each name that is kept
pub values_size : (p : List ℕ → Bool) (i : ℕ) (ns : List (List ℕ)) (vs : List ℕ) → 8 * length ns ≤ length vs → length (values_left p i ns vs) ≡ 8 * length (names_left p ns)
unfolding values_left names_left
values_size p i [] vs h = refl
values_size p i (n ∷ ns) vs h = go vs (eight_of vs (omega arith)) h (p n) (λ j w k. values_size p j ns w k)
  where
    go : (ws : List ℕ) → Eight ws → 8 * suc (length ns) ≤ length ws → (b : Bool) → ((j : ℕ) (w : List ℕ) → 8 * length ns ≤ length w → length (values_left p j ns w) ≡ 8 * length (names_left p ns))
        → length (pick b (take 1 ws ++ i ∷ (take 6 (drop 2 ws) ++ values_left p (suc i) ns (drop 8 ws))) (values_left p i ns (drop 8 ws))) ≡ 8 * length (pick b (n ∷ names_left p ns) (names_left p ns))
    go ws (eight a b c d e f g x more) h true ih = omega (arith, ih (suc i) more (omega arith))
    go ws (eight a b c d e f g x more) h false ih = ih i more (omega arith)

-- kept once more, they are the same, if every name that was kept passes
pub values_again : (p q : List ℕ → Bool) (i : ℕ) (ns : List (List ℕ)) (vs : List ℕ) → 8 * length ns ≤ length vs → T (every q (names_left p ns)) → values_left q i (names_left p ns) (values_left p i ns vs) ≡ values_left p i ns vs
unfolding values_left names_left every
values_again p q i [] vs h t = refl
values_again p q i (n ∷ ns) vs h t = go vs (eight_of vs (omega arith)) h (p n) t (λ j w k u. values_again p q j ns w k u)
  where
    go : (ws : List ℕ) → Eight ws → 8 * suc (length ns) ≤ length ws → (b : Bool) → T (every q (pick b (n ∷ names_left p ns) (names_left p ns)))
        → ((j : ℕ) (w : List ℕ) → 8 * length ns ≤ length w → T (every q (names_left p ns)) → values_left q j (names_left p ns) (values_left p j ns w) ≡ values_left p j ns w)
        → values_left q i (pick b (n ∷ names_left p ns) (names_left p ns)) (pick b (take 1 ws ++ i ∷ (take 6 (drop 2 ws) ++ values_left p (suc i) ns (drop 8 ws))) (values_left p i ns (drop 8 ws)))
        ≡ pick b (take 1 ws ++ i ∷ (take 6 (drop 2 ws) ++ values_left p (suc i) ns (drop 8 ws))) (values_left p i ns (drop 8 ws))
    go ws (eight a b c d e f g x more) h true t ih =
        rw (is_true (q n) (and_left (q n) (every q (names_left p ns)) t))
        (ap (λ (z : List ℕ). a ∷ i ∷ c ∷ d ∷ e ∷ f ∷ g ∷ x ∷ z) (ih (suc i) more (omega arith) (and_right (q n) (every q (names_left p ns)) t)))
    go ws (eight a b c d e f g x more) h false t ih = ih i more (omega arith) t

-- eight values, with another number
unfoldable pub renumber : ℕ → List ℕ → List ℕ
renumber j vs = take 1 vs ++ j ∷ drop 2 vs

past_eight : (k : ℕ) (l : List ℕ) → drop (8 * suc k) l ≡ drop (8 * k) (drop 8 l)
past_eight k l = let e : 8 * suc k ≡ 8 + 8 * k = omega arith in ap (λ (z : ℕ). drop z l) e ∙ sym (drop-drop (8 * k) 8 l)

-- The eight values of a name that passes are as they were, but for the number.
pub values_at : (p : List ℕ → Bool) (i : ℕ) (ns : List (List ℕ)) (vs : List ℕ) (n : List ℕ) → 8 * length ns ≤ length vs → p n ≡ true → number_of ns n < length ns
    → take 8 (drop (8 * number_of (names_left p ns) n) (values_left p i ns vs)) ≡ renumber (i + number_of (names_left p ns) n) (take 8 (drop (8 * number_of ns n) vs))
unfolding values_left names_left number_of renumber
values_at p i [] vs n h q k = absurd (omega arith)
values_at p i (m ∷ ns) vs n h q k =
    go vs (eight_of vs (omega arith)) h (p m) (same m n) refl (λ e. ap p (same_eq m n e) ∙ q) k (λ j w x y. values_at p j ns w n x q y)
  where
    go : (ws : List ℕ) → Eight ws → 8 * suc (length ns) ≤ length ws → (b c : Bool) → same m n ≡ c → (c ≡ true → b ≡ true) → pick c 0 (suc (number_of ns n)) < suc (length ns)
        → ((j : ℕ) (w : List ℕ) → 8 * length ns ≤ length w → number_of ns n < length ns → take 8 (drop (8 * number_of (names_left p ns) n) (values_left p j ns w)) ≡ renumber (j + number_of (names_left p ns) n) (take 8 (drop (8 * number_of ns n) w)))
        → take 8 (drop (8 * number_of (pick b (m ∷ names_left p ns) (names_left p ns)) n) (pick b (take 1 ws ++ i ∷ (take 6 (drop 2 ws) ++ values_left p (suc i) ns (drop 8 ws))) (values_left p i ns (drop 8 ws))))
        ≡ renumber (i + number_of (pick b (m ∷ names_left p ns) (names_left p ns)) n) (take 8 (drop (8 * pick c 0 (suc (number_of ns n))) ws))
    go ws (eight a b c d e f g x more) h true true s l k ih = rw s (ap (λ (z : ℕ). a ∷ z ∷ c ∷ d ∷ e ∷ f ∷ g ∷ x ∷ []) (omega arith))
    go ws (eight a b c d e f g x more) h true false s l k ih =
        let j : ℕ = number_of (names_left p ns) n in
        let next : suc i + j ≡ i + suc j = omega arith in
        rw s
        (ap (take 8) (past_eight j (a ∷ i ∷ c ∷ d ∷ e ∷ f ∷ g ∷ x ∷ values_left p (suc i) ns more))
        ∙ ih (suc i) more (omega arith) (omega arith)
        ∙ ap₂ (λ (o : ℕ) (z : List ℕ). renumber o (take 8 z)) next (sym (past_eight (number_of ns n) (a ∷ b ∷ c ∷ d ∷ e ∷ f ∷ g ∷ x ∷ more))))
    go ws (eight a b c d e f g x more) h false true s l k ih = absurd (as_T false (l refl))
    go ws (eight a b c d e f g x more) h false false s l k ih =
        ih i more (omega arith) (omega arith)
        ∙ ap (λ (z : List ℕ). renumber (i + number_of (names_left p ns) n) (take 8 z)) (sym (past_eight (number_of ns n) (a ∷ b ∷ c ∷ d ∷ e ∷ f ∷ g ∷ x ∷ more)))
