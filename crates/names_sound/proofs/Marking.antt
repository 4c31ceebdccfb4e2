-- Marks: a name's mix byte by byte, a name that is not marked, and one more name marked.
use Prim.Native.Nat.{ℕ, zero, suc, ◌+◌, ◌≤◌, ◌<◌}
use native.Mathlib.Numerals.{add-one}
use native.Mathlib.Omega.{arith}
use mathlib.Core.Path.{◌≡◌, refl, sym, ap, ◌∙◌}
use mathlib.Core.Bool.{Bool, true, false, ◌||◌}
use mathlib.Core.List.{List, [], ◌∷◌, ◌++◌}
use lib.Dec.{eqb}
use lib.ListN.{length, drop, get_or, set, length-set, drop_of_length-le}
use lib.Seq.{drop-cons, get_or-set_same, get_or-set_other}
use borrow.Author.Tests.{eqb-true, eqb-false, ne_eqb, eq-eqb}
use Rattle.std.specs.Bool.{MatchBool}
use Rattle.std.specs.List.{AllWithin, HoldsAt}
use Rattle.paper.specs.Bytes.{pick, same, every}
use Rattle.paper.specs.Names.{number_of, known?}
use Rattle.laws.specs.Names.{same_ne, less_known, most_unknown, every_append, every_first, every_rest}
use Rattle.names_sound.specs.Marks.{mixes, mixed, mixed_on, mix_of, place_in, sign_in, many, marked?, one_more, Marks}

-- ---- a mix

mixed_small : (mix : ℕ) (n : List ℕ) → mix < mixes → mixed_on mix n < mixes
unfolding mixed_on
mixed_small mix [] h = h
mixed_small mix (b ∷ bs) h = mixed_small (mixed mix b) bs (omega arith)

pub mix_small : (n : List ℕ) {mix : ℕ} → mix ≡ mix_of n → mix < mixes
unfolding mix_of
mix_small n e = omega (arith, e, mixed_small 0 n (omega arith))

module _ (front : List ℕ) (last i mix : ℕ) (all : mix_of (front ++ last ∷ []) ≡ mixed_on mix (drop i front ++ last ∷ [])) where
  pub mix_more : {next : ℕ} → i < length front → next ≡ mixed mix (get_or front i 0) → mix_of (front ++ last ∷ []) ≡ mixed_on next (drop (i + 1) front ++ last ∷ [])
  unfolding mixed_on
  mix_more {next} h e = all ∙ rw (drop-cons front i 0 h, e, add-one)

  pub mix_last : {r : ℕ} → length front ≤ i → r ≡ mixed mix last → r ≡ mix_of (front ++ last ∷ [])
  unfolding mixed_on
  mix_last {r} h e = e ∙ sym (all ∙ rw (drop_of_length-le front h))

-- ---- the test of names one by one

found_at : (n : List ℕ) (ns : List (List ℕ)) (k : ℕ) → k < length ns → HoldsAt (λ m. same m n ≡ true) ns k → number_of ns n < length ns
unfolding number_of
found_at n [] k l h = absurd (omega arith)
found_at n (m ∷ ms) zero l h = let here : same m n ≡ true = h [] in rw (here) (omega arith)
found_at n (m ∷ ms) (suc k) l h = go (same m n) (found_at n ms k (omega arith) h)
  where
    go : (t : Bool) → number_of ms n < length ms → pick t 0 (suc (number_of ms n)) < suc (length ms)
    go true e = omega arith
    go false e = omega arith

none_at : (n : List ℕ) (ns : List (List ℕ)) → AllWithin (λ m. same m n ≡ false) ns 0 (length ns) → length ns ≤ number_of ns n
unfolding number_of
none_at n [] h = omega arith
none_at n (m ∷ ms) h =
    let here : same m n ≡ false = h 0 [] (omega arith) (omega arith) in
    rw (here) (omega (arith, none_at n ms (λ k d l i. h (suc k) d (omega arith) (omega arith))))

pub any_known : (n : List ℕ) (ns : List (List ℕ)) (r : Bool) → MatchBool r ((k : ℕ) × (k < length ns) × HoldsAt (λ m. same m n ≡ true) ns k) (AllWithin (λ m. same m n ≡ false) ns 0 (length ns)) → r ≡ known? ns n
any_known n ns true (k, l, h) = sym (less_known ns n (found_at n ns k l h))
any_known n ns false h = sym (most_unknown ns n (none_at n ns h))

-- ---- marks

-- the second of two tests passes
second : (a b : Bool) → a || b ≡ true → a ≡ false → b ≡ true
second a b e f = rw f at e

or_second : (a b : Bool) → b ≡ true → a || b ≡ true
or_second true b e = refl
or_second false b e = e

pub unmarked_unknown : (n : List ℕ) {place mark : ℕ} {marks : List ℕ} {ns : List (List ℕ)} → Marks marks ns → place ≡ place_in (mix_of n) → mark ≡ get_or marks place 0 → (mark ≡ many → ⊥) → (mark ≡ sign_in (mix_of n) → ⊥) → false ≡ known? ns n
unfolding number_of marked?
unmarked_unknown n {place} {mark} {marks} {ns} m p g h k = sym (most_unknown ns n (go ns m.set))
  where
    other : (l : List ℕ) → marked? marks l ≡ true → same l n ≡ false
    other l t = same_ne l n (λ e.
        let here : mix_of l ≡ mix_of n = ap mix_of e in
        let at : get_or marks (place_in (mix_of l)) 0 ≡ mark = ap (λ (i : ℕ). get_or marks (place_in i) 0) here ∙ ap (λ (i : ℕ). get_or marks i 0) (sym p) ∙ sym g in
        let no : eqb (get_or marks (place_in (mix_of l)) 0) (sign_in (mix_of l)) ≡ false = ne_eqb _ _ (λ z. k (sym at ∙ z ∙ ap sign_in here)) in
        h (sym at ∙ eqb-true (get_or marks (place_in (mix_of l)) 0) many (second _ _ t no)))

    go : (ms : List (List ℕ)) → every (marked? marks) ms ≡ true → length ms ≤ number_of ms n
    go [] t = omega arith
    go (l ∷ ls) t = rw (other l (every_first (marked? marks) l ls t)) (omega (arith, go ls (every_rest (marked? marks) l ls t)))

-- the mark of a marked name's place becomes that of many
crowded : (mark mix sign : ℕ) → eqb mark (sign_in sign) || eqb mark many ≡ true → one_more mark mix ≡ many
unfolding one_more
crowded mark mix sign t = go (eqb mark 0) refl
  where
    go : (b : Bool) → eqb mark 0 ≡ b → pick b (sign_in mix) many ≡ many
    go false e = refl
    go true e =
        let z : mark ≡ 0 = eqb-true mark 0 e in
        let a : eqb mark (sign_in sign) ≡ false = ne_eqb mark (sign_in sign) (λ y. omega arith) in
        let b : mark ≡ many = eqb-true mark many (second _ _ t a) in
        absurd (omega arith)

module _ (marks : List ℕ) (mix : ℕ) (inside : place_in mix < length marks) where
  -- the marks with one name more
  abbrev more : List ℕ
  more = set marks (place_in mix) (one_more (get_or marks (place_in mix) 0) mix)

  marked_set : (n : List ℕ) → marked? marks n ≡ true → marked? more n ≡ true
  unfolding marked?
  marked_set n k = go (eqb (place_in (mix_of n)) (place_in mix)) refl
    where
      go : (t : Bool) → eqb (place_in (mix_of n)) (place_in mix) ≡ t → eqb (get_or more (place_in (mix_of n)) 0) (sign_in (mix_of n)) || eqb (get_or more (place_in (mix_of n)) 0) many ≡ true
      go true e =
          let z : place_in (mix_of n) ≡ place_in mix = eqb-true _ _ e in
          let m : one_more (get_or marks (place_in mix) 0) mix ≡ many = crowded (get_or marks (place_in mix) 0) mix (mix_of n) (ap (λ (i : ℕ). eqb (get_or marks i 0) (sign_in (mix_of n)) || eqb (get_or marks i 0) many) (sym z) ∙ k) in
          let g : get_or more (place_in (mix_of n)) 0 ≡ many = ap (λ (i : ℕ). get_or more i 0) z ∙ get_or-set_same marks (place_in mix) _ 0 inside ∙ m in
          or_second (eqb (get_or more (place_in (mix_of n)) 0) (sign_in (mix_of n))) (eqb (get_or more (place_in (mix_of n)) 0) many) (ap (λ (i : ℕ). eqb i many) g)
      go false e = rw (get_or-set_other marks (place_in mix) (place_in (mix_of n)) (one_more (get_or marks (place_in mix) 0) mix) 0 (eqb-false _ _ e)) k

  every_set : (ns : List (List ℕ)) → every (marked? marks) ns ≡ true → every (marked? more) ns ≡ true
  unfolding every
  every_set [] k = refl
  every_set (n ∷ ns) k = rw (marked_set n (every_first (marked? marks) n ns k)) (every_set ns (every_rest (marked? marks) n ns k))

  own : (mark : ℕ) → eqb (one_more mark mix) (sign_in mix) || eqb (one_more mark mix) many ≡ true
  unfolding one_more
  own mark = go (eqb mark 0)
    where
      go : (b : Bool) → eqb (pick b (sign_in mix) many) (sign_in mix) || eqb (pick b (sign_in mix) many) many ≡ true
      go true = rw (eq-eqb (sign_in mix) (sign_in mix) refl)
      go false = or_second (eqb many (sign_in mix)) (eqb many many) refl

pub marks_more : {marks : List ℕ} {ns : List (List ℕ)} {mix mark : ℕ} (n : List ℕ) → Marks marks ns → mix ≡ mix_of n → mark ≡ one_more (get_or marks (place_in mix) 0) mix → Marks (set marks (place_in mix) mark) (ns ++ n ∷ [])
unfolding marked? every
marks_more {marks} {ns} {mix} {mark} n m e f =
    let inside : place_in mix < length marks = omega (arith, m.whole) in
    let new : List ℕ = more marks mix inside in
    let here : get_or new (place_in mix) 0 ≡ one_more (get_or marks (place_in mix) 0) mix = get_or-set_same marks (place_in mix) _ 0 inside in
    let one : marked? new n ≡ true = rw (← e, here) (own marks mix inside (get_or marks (place_in mix) 0)) in
    rw f
    (record {
      whole = length-set marks (place_in mix) _ ∙ m.whole;
      set = every_append (marked? new) ns (n ∷ []) (every_set marks mix inside ns m.set) (rw (one));
    })
