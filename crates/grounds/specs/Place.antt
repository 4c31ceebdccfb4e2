-- The place of a refusal is the first item such that no lawful sequence begins with the items up to it. Over any `look` on classes, any
-- class of an item, and any item of each class.
use Rattle.std.specs.Prelude.{ℕ, ◌≡◌}
use Rattle.std.proofs.Math.Path.{refl, sym, ap}
use Rattle.std.proofs.Common.{subst, ◌∙◌}
use mathlib.Core.List.{List, [], ◌∷◌, ◌++◌, map}
use Rattle.paper.specs.Machine.{Act, Step, took, over, refused, step_act, Taken, Run, left, done, bad, and_taken, step, go_on, read}
use Rattle.paper.specs.MachineLaws.{all_taken, then, read_then}

-- how a run ends
pub data End : Type 0 where
  open_at : List ℕ → End
  emptied : End
  stuck : End

module _ {E I : Type 0} where
  -- a run's end
  unfoldable pub end_of : Run E I → End
  end_of (left ts s) = open_at s
  end_of (done ts r) = emptied
  end_of (bad m ts r) = stuck

  end_emit : (t : Taken E I) (r : Run E I) → end_of (and_taken t r) ≡ end_of r
  unfolding end_of and_taken
  end_emit t (left ts s) = refl
  end_emit t (done ts r) = refl
  end_emit t (bad m ts r) = refl

  end_emits : (ts : List (Taken E I)) (r : Run E I) → end_of (all_taken ts r) ≡ end_of r
  unfolding all_taken
  end_emits [] r = refl
  end_emits (t ∷ ts) r = end_emit t (all_taken ts r) ∙ end_emits ts r

  -- the items of emissions
  unfoldable pub sources : List (Taken E I) → List I
  sources [] = []
  sources (t ∷ ts) = t.from ∷ sources ts

module _ {E I : Type 0} (look : ℕ → I → Act E) where
  -- a sequence of items is lawful from a stack if the run takes them all and leaves nothing open
  unfoldable pub Lawful : List ℕ → List I → Type 0
  Lawful s is = end_of (read look s is) ≡ open_at []

  -- ---- what a run's result says of the items

  -- after the items of ts, from s, the stack is s', and that does x with i
  pub record Stop (s : List ℕ) (ts : List (Taken E I)) (i : I) (x : Step E) : Type 0 where
    pub now : List ℕ
    pub ran : read look s (sources ts) ≡ left ts now
    pub does : step look now i ≡ x

  -- what is told of the items by a run: it took the first ones, and stopped at the next, if it did
  abbrev pub Told : List ℕ → List I → Run E I → Type 0
  Told s is (left ts s') = is ≡ sources ts
  Told s is (done ts []) = ⊥
  Told s is (done ts (i ∷ r)) = (is ≡ sources ts ++ i ∷ r) × Stop s ts i over
  Told s is (bad m ts []) = ⊥
  Told s is (bad m ts (i ∷ r)) = (is ≡ sources ts ++ i ∷ r) × Stop s ts i (refused m)

  -- one more item taken before
  pub more : (s s' : List ℕ) (e : E) (j i : I) (ts : List (Taken E I)) (x : Step E) → step look s j ≡ took e s' → Stop s' ts i x → Stop s (record { gave = e; from = j } ∷ ts) i x
  unfolding read sources go_on and_taken
  more s s' e j i ts x h t = record {
    now = t.now;
    ran = rw (h, t.ran);
    does = t.does;
  }

  told_emit : (s s' : List ℕ) (e : E) (i : I) (is : List I) → step look s i ≡ took e s' → (r : Run E I) → Told s' is r → Told s (i ∷ is) (and_taken (record { gave = e; from = i }) r)
  unfolding sources and_taken
  told_emit s s' e i is h (left ts z) t = ap (λ (l : List I). i ∷ l) t
  told_emit s s' e i is h (done ts []) t = t
  told_emit s s' e i is h (done ts (j ∷ r)) t = (ap (λ (l : List I). i ∷ l) t.0, more s s' e i j ts over h t.1)
  told_emit s s' e i is h (bad m ts []) t = t
  told_emit s s' e i is h (bad m ts (j ∷ r)) t = (ap (λ (l : List I). i ∷ l) t.0, more s s' e i j ts (refused m) h t.1)

  told_step : (s : List ℕ) (i : I) (is : List I) → ((s' : List ℕ) → Told s' is (read look s' is)) → (x : Step E) → step look s i ≡ x → Told s (i ∷ is) (go_on look x i is (λ z. read look z is))
  unfolding go_on sources read
  told_step s i is ih (took e s') h = told_emit s s' e i is h (read look s' is) (ih s')
  told_step s i is ih over h = (refl, record { now = s; ran = refl; does = h })
  told_step s i is ih (refused m) h = (refl, record { now = s; ran = refl; does = h })

  -- every run tells this
  pub told : (s : List ℕ) (is : List I) → Told s is (read look s is)
  unfolding read sources
  told s [] = refl
  told s (i ∷ is) = told_step s i is (λ s'. told s' is) (step look s i) refl

  -- ---- nothing lawful begins with the items up to the refused one

  after : (s : List ℕ) (ts : List (Taken E I)) (i : I) (x : Step E) → Stop s ts i x → (js : List I)
      → end_of (read look s (sources ts ++ i ∷ js)) ≡ end_of (go_on look x i js (λ z. read look z js))
  unfolding then read
  after s ts i x t js =
      ap end_of (read_then look s (sources ts) (i ∷ js) ∙ ap (λ (r : Run E I). then look r (i ∷ js)) t.ran)
      ∙ end_emits ts (read look t.now (i ∷ js))
      ∙ ap (λ (y : Step E). end_of (go_on look y i js (λ z. read look z js))) t.does

  -- so no lawful sequence begins with the items up to a refused one
  pub no_lawful : (m : ℕ) (s : List ℕ) (ts : List (Taken E I)) (i : I) → Stop s ts i (refused m) → (js : List I) → Lawful s (sources ts ++ i ∷ js) → ⊥
  unfolding Lawful go_on end_of
  no_lawful m s ts i t js h = apart (sym (after s ts i (refused m) t js) ∙ h)
    where
      code : End → Type 0
      code (open_at z) = ⊥
      code emptied = Unit {0}
      code stuck = Unit {0}

      apart : stuck ≡ open_at [] → ⊥
      apart e = subst code e tt

-- ---- the same run over classes

module _ {E I : Type 0} (look : ℕ → ℕ → Act E) (class_by : I → ℕ) where
  -- a grammar on classes, reading items
  unfoldable pub by_class : ℕ → I → Act E
  by_class f i = look f (class_by i)

  -- a step on an item is the step on its class
  pub step_class : (s : List ℕ) (i : I) → step by_class s i ≡ step look s (class_by i)
  unfolding by_class step
  step_class [] i = refl
  step_class (f ∷ fs) i = ap (step_act (look f (class_by i)) fs) (step_class fs i)

  class_go : (i : I) (is : List I) → ((s : List ℕ) → end_of (read by_class s is) ≡ end_of (read look s (map class_by is))) → (x : Step E)
      → end_of (go_on by_class x i is (λ z. read by_class z is)) ≡ end_of (go_on look x (class_by i) (map class_by is) (λ z. read look z (map class_by is)))
  unfolding go_on end_of
  class_go i is ih (took e s) = end_emit _ (read by_class s is) ∙ ih s ∙ sym (end_emit _ (read look s (map class_by is)))
  class_go i is ih over = refl
  class_go i is ih (refused m) = refl

  -- how a run of items ends is how the run of their classes ends
  pub end_class : (s : List ℕ) (is : List I) → end_of (read by_class s is) ≡ end_of (read look s (map class_by is))
  unfolding read end_of
  end_class s [] = refl
  end_class s (i ∷ is) =
      ap (λ (x : Step E). end_of (go_on by_class x i is (λ z. read by_class z is))) (step_class s i)
      ∙ class_go i is (λ z. end_class z is) (step look s (class_by i))
