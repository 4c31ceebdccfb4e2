-- Marks that agree with a test of names: what stays by the marks is what passes the test, and the new numbers are those among the names left.
use Prim.Native.Nat.{ℕ, zero, suc, ◌+◌, ◌-◌, ◌*◌, ◌≤◌, ◌<◌}
use native.Mathlib.Omega.{arith}
use Rattle.std.proofs.Math.Path.{◌≡◌, refl, ap}
use Rattle.std.proofs.Common.{sym, ◌∙◌}
use Rattle.std.specs.Prelude.{Bool}
use Rattle.std.proofs.Math.Bool.{true, false}
use mathlib.Core.List.{List, [], ◌∷◌, ◌++◌, append_assoc}
use Rattle.std.proofs.Math.ListN.{length, take, drop, get_or, get_or-append}
use Rattle.std.proofs.Math.Seq.{take-take}
use Rattle.paper.specs.Bytes.{pick, same}
use Rattle.paper.specs.Names.{number_of, known?}
use Rattle.paper.specs.Store.{overwritten}
use Rattle.paper.specs.Collect.{names_left, values_left}
use Rattle.laws.specs.Names.{same_eq, known_less}
use Rattle.laws.specs.Parts.{drop_take}
use Rattle.names_left.specs.Marks.{stays?, left_by, numbered, values_by, numbers_by}

-- a mark for each name, which says that the name stays exactly when it passes the test
pub record Agree (p : List ℕ → Bool) (ms : List ℕ) (ns : List (List ℕ)) : Type 0 where
  pub enough : length ns ≤ length ms
  pub each : (i : ℕ) → i < length ns → stays? (get_or ms i 0) ≡ p (get_or ns i [])

module _ (p : List ℕ → Bool) where
  agree_first : (m : ℕ) (ms n : List ℕ) (ns : List (List ℕ)) → Agree p (m ∷ ms) (n ∷ ns) → stays? m ≡ p n
  agree_first m ms n ns a = a.each 0 (omega arith)

  agree_rest : (m : ℕ) (ms n : List ℕ) (ns : List (List ℕ)) → Agree p (m ∷ ms) (n ∷ ns) → Agree p ms ns
  agree_rest m ms n ns a = record { enough = omega (arith, a.enough); each = λ i h. a.each (suc i) (omega arith) }

  -- the names that stay are those that pass
  pub left_agrees : (ms : List ℕ) (ns : List (List ℕ)) → Agree p ms ns → left_by ms ns ≡ names_left p ns
  unfolding left_by names_left
  left_agrees [] [] a = refl
  left_agrees [] (n ∷ ns) a = absurd (omega (arith, a.enough))
  left_agrees (m ∷ ms) [] a = refl
  left_agrees (m ∷ ms) (n ∷ ns) a = rw (agree_first m ms n ns a, left_agrees ms ns (agree_rest m ms n ns a))

  -- and so are their values
  pub values_agree : (i : ℕ) (ms : List ℕ) (ns : List (List ℕ)) (vs : List ℕ) → Agree p ms ns → values_by i ms ns vs ≡ values_left p i ns (take (8 * length ns) vs)
  unfolding values_by values_left numbered
  values_agree i [] [] vs a = refl
  values_agree i [] (n ∷ ns) vs a = absurd (omega (arith, a.enough))
  values_agree i (m ∷ ms) [] vs a = refl
  values_agree i (m ∷ ms) (n ∷ ns) vs a =
      let all = take (8 * suc (length ns)) vs in
      let kind : take 1 all ≡ take 1 vs = take-take 1 (8 * suc (length ns)) vs (omega arith) in
      let six : take 6 (drop 2 all) ≡ take 6 (drop 2 vs) = ap (take 6) (drop_take 2 (8 * suc (length ns)) vs) ∙ take-take 6 (8 * suc (length ns) - 2) (drop 2 vs) (omega arith) in
      let size : 8 * suc (length ns) - 8 ≡ 8 * length ns = omega arith in
      let rest : drop 8 all ≡ take (8 * length ns) (drop 8 vs) = drop_take 8 (8 * suc (length ns)) vs ∙ ap (λ (k : ℕ). take k (drop 8 vs)) size in
      let more : (j : ℕ) → values_by j ms ns (drop 8 vs) ≡ values_left p j ns (drop 8 all) = λ j. values_agree j ms ns (drop 8 vs) (agree_rest m ms n ns a) ∙ ap (values_left p j ns) (sym rest) in
      go (stays? m) (p n) (agree_first m ms n ns a) kind six (more (suc i)) (more i)
    where
      go : (b c : Bool) → b ≡ c → {k₁ k₂ s₁ s₂ x₁ x₂ y₁ y₂ : List ℕ} → k₂ ≡ k₁ → s₂ ≡ s₁ → x₁ ≡ x₂ → y₁ ≡ y₂ → pick b ((k₁ ++ i ∷ s₁) ++ x₁) y₁ ≡ pick c (k₂ ++ i ∷ (s₂ ++ x₂)) y₂
      go true true e {k₁} {k₂} {s₁} {s₂} {x₁} {x₂} k s x y = append_assoc k₁ (i ∷ s₁) x₁ ∙ ap (λ (l : List ℕ). l ++ i ∷ (s₁ ++ x₁)) (sym k) ∙ ap (λ (l : List ℕ). k₂ ++ i ∷ (l ++ x₁)) (sym s) ∙ ap (λ (l : List ℕ). k₂ ++ i ∷ (s₂ ++ l)) x
      go true false e k s x y = let z : ◌≡◌ {A = ℕ} 0 1 = cc in absurd (omega arith)
      go false true e k s x y = let z : ◌≡◌ {A = ℕ} 0 1 = cc in absurd (omega arith)
      go false false e k s x y = y

  -- counted from i on, the number of a name that stays is its number among the names left
  counted_on : (i : ℕ) (ms : List ℕ) (ns : List (List ℕ)) (n : List ℕ) → Agree p ms ns → number_of ns n < length ns → p n ≡ true
      → get_or (numbers_by i ms ns) (number_of ns n) 0 ≡ i + number_of (names_left p ns) n
  unfolding numbers_by number_of names_left
  counted_on i [] [] n a k h = absurd (omega arith)
  counted_on i [] (x ∷ ns) n a k h = absurd (omega (arith, a.enough))
  counted_on i (m ∷ ms) [] n a k h = absurd (omega arith)
  counted_on i (m ∷ ms) (x ∷ ns) n a k h = rw (agree_first m ms x ns a) (go (p x) (same x n) refl (λ e. ap p (same_eq x n e) ∙ h) k (λ j l. counted_on j ms ns n (agree_rest m ms x ns a) l h))
    where
      go : (b c : Bool) → same x n ≡ c → (c ≡ true → b ≡ true) → pick c 0 (suc (number_of ns n)) < suc (length ns)
          → ((j : ℕ) → number_of ns n < length ns → get_or (numbers_by j ms ns) (number_of ns n) 0 ≡ j + number_of (names_left p ns) n)
          → get_or (pick b (i ∷ numbers_by (suc i) ms ns) (0 ∷ numbers_by i ms ns)) (pick c 0 (suc (number_of ns n))) 0 ≡ i + number_of (pick b (x ∷ names_left p ns) (names_left p ns)) n
      go true true e f l more = rw (e) (omega arith)
      go true false e f l more = rw (e) (omega (arith, more (suc i) (omega arith)))
      go false true e f l more = let q = f refl in let z : ◌≡◌ {A = ℕ} 0 1 = cc in absurd (omega arith)
      go false false e f l more = more i (omega arith)

length_numbers : (i : ℕ) (ms : List ℕ) (ns : List (List ℕ)) → length ns ≤ length ms → length (numbers_by i ms ns) ≡ length ns
unfolding numbers_by
length_numbers i [] [] h = refl
length_numbers i [] (n ∷ ns) h = absurd (omega arith)
length_numbers i (m ∷ ms) [] h = refl
length_numbers i (m ∷ ms) (n ∷ ns) h = go (stays? m) (λ j. length_numbers j ms ns (omega arith))
  where
    go : (b : Bool) → ((j : ℕ) → length (numbers_by j ms ns) ≡ length ns) → length (pick b (i ∷ numbers_by (suc i) ms ns) (0 ∷ numbers_by i ms ns)) ≡ suc (length ns)
    go true f = ap suc (f (suc i))
    go false f = ap suc (f i)

numbers_low : (i k : ℕ) (ms : List ℕ) (ns : List (List ℕ)) → get_or (numbers_by i ms ns) k 0 ≤ i + k
unfolding numbers_by
numbers_low i k [] ns = omega arith
numbers_low i k (m ∷ ms) [] = omega arith
numbers_low i zero (m ∷ ms) (n ∷ ns) = go (stays? m)
  where
    go : (b : Bool) → get_or (pick b (i ∷ numbers_by (suc i) ms ns) (0 ∷ numbers_by i ms ns)) 0 0 ≤ i + 0
    go true = omega arith
    go false = omega arith
numbers_low i (suc k) (m ∷ ms) (n ∷ ns) = go (stays? m) (λ j. numbers_low j k ms ns)
  where
    go : (b : Bool) → ((j : ℕ) → get_or (numbers_by j ms ns) k 0 ≤ j + k) → get_or (pick b (i ∷ numbers_by (suc i) ms ns) (0 ∷ numbers_by i ms ns)) (suc k) 0 ≤ i + suc k
    go true f = omega (arith, f (suc i))
    go false f = omega (arith, f i)

-- the marks afterwards begin with the new numbers
read_front : (ms : List ℕ) (ns : List (List ℕ)) (k : ℕ) → length ns ≤ length ms → k < length ns → get_or (overwritten (numbers_by 0 ms ns) ms) k 0 ≡ get_or (numbers_by 0 ms ns) k 0
unfolding overwritten
read_front ms ns k h l = get_or-append (numbers_by 0 ms ns) (drop (length (numbers_by 0 ms ns)) ms) 0 k (omega (arith, length_numbers 0 ms ns h))

module _ (p : List ℕ → Bool) (ms : List ℕ) (ns : List (List ℕ)) where
  -- the new number of a name that passes is its number among the names left
  pub number_agrees : (n : List ℕ) → Agree p ms ns → known? ns n ≡ true → p n ≡ true → get_or (overwritten (numbers_by 0 ms ns) ms) (number_of ns n) 0 ≡ number_of (names_left p ns) n
  number_agrees n a k h =
      let l = known_less ns n k in
      let z : 0 + number_of (names_left p ns) n ≡ number_of (names_left p ns) n = omega arith in
      read_front ms ns (number_of ns n) a.enough l ∙ counted_on p 0 ms ns n a l h ∙ z

  -- no number rises
  pub number_lower : (i : ℕ) → Agree p ms ns → i < length ns → get_or (overwritten (numbers_by 0 ms ns) ms) i 0 ≤ i
  number_lower i a l = omega (arith, read_front ms ns i a.enough l, numbers_low 0 i ms ns)
