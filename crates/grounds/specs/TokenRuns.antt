-- Runs over items, over their tokens, and over their classes are the same run; and a test of what each row gives holds of all that a run takes.
use Rattle.std.specs.Prelude.{ℕ, ◌≡◌, Bool, T}
use Rattle.std.proofs.Math.Path.{refl, ap}
use Rattle.std.proofs.Common.{subst, sym, ◌∙◌}
use mathlib.Core.List.{List, [], ◌∷◌, map}
use Rattle.paper.specs.Bytes.{every}
use Rattle.paper.specs.Machine.{Act, take, leave, refuse, Row, find_row, Step, took, over, refused, step_act, Taken, Run, left, done, bad, and_taken, step, go_on, read}
use Rattle.laws.specs.RowTests.{at_rows}
use Rattle.grounds.specs.Place.{by_class, step_class}

-- ---- the same run over what h makes of the items

module _ {E I J : Type 0} (h : I → J) where
  -- what was taken, with h done to the items
  unfoldable pub on_taken : List (Taken E I) → List (Taken E J)
  on_taken [] = []
  on_taken (t ∷ ts) = record { gave = t.gave; from = h t.from } ∷ on_taken ts

  -- a run, with h done to the items
  unfoldable pub on_run : Run E I → Run E J
  on_run (left ts s) = left (on_taken ts) s
  on_run (done ts r) = done (on_taken ts) (map h r)
  on_run (bad m ts r) = bad m (on_taken ts) (map h r)

  on_and : (t : Taken E I) (r : Run E I) → on_run (and_taken t r) ≡ and_taken (record { gave = t.gave; from = h t.from }) (on_run r)
  unfolding on_run on_taken and_taken
  on_and t (left ts s) = refl
  on_and t (done ts r) = refl
  on_and t (bad m ts r) = refl

module _ {E I J : Type 0} (look : ℕ → J → Act E) (h : I → J) where
  -- a grammar on J, reading items of I by h
  unfoldable pub through : ℕ → I → Act E
  through f i = look f (h i)

  step_through : (s : List ℕ) (i : I) → step through s i ≡ step look s (h i)
  unfolding through step
  step_through [] i = refl
  step_through (f ∷ fs) i = ap (step_act (look f (h i)) fs) (step_through fs i)

  through_go : (i : I) (is : List I) → ((s : List ℕ) → on_run h (read through s is) ≡ read look s (map h is)) → (x : Step E)
      → on_run h (go_on through x i is (λ z. read through z is)) ≡ go_on look x (h i) (map h is) (λ z. read look z (map h is))
  unfolding go_on on_run on_taken
  through_go i is ih (took e s) = on_and h _ (read through s is) ∙ ap (and_taken _) (ih s)
  through_go i is ih over = refl
  through_go i is ih (refused m) = refl

  -- such a run is the run over what h makes of the items
  pub read_through : (s : List ℕ) (is : List I) → on_run h (read through s is) ≡ read look s (map h is)
  unfolding read on_run on_taken
  read_through s [] = refl
  read_through s (i ∷ is) =
      ap (λ (x : Step E). on_run h (go_on through x i is (λ z. read through z is))) (step_through s i)
      ∙ through_go i is (λ z. read_through z is) (step look s (h i))

-- ---- a test of class and gift that passes at every row passes at all that a run takes

module _ {E : Type 0} (q : E → ℕ → Bool) where
  -- the test at a row
  unfoldable pub row_fits : Row E → Bool
  row_fits r = q r.gives r.class

  -- the test at what a frame does
  abbrev pub Fits : ℕ → Act E → Type 0
  Fits c (take e p) = T (q e c)
  Fits c leave = Unit {0}
  Fits c (refuse m) = Unit {0}

  -- the test of the rows, at whatever a frame does
  pub find_fits : (rows : List (Row E)) (empty : List ℕ) (f c : ℕ) → T (every row_fits rows) → Fits c (find_row rows empty f c)
  unfolding row_fits
  find_fits rows empty f c t = at_rows (λ f c a. Fits c a) row_fits empty (λ r k. k) (λ f c h. tt) (λ f c. tt) rows f c t

  module _ {I : Type 0} (look : ℕ → ℕ → Act E) (class_by : I → ℕ) (ok : (f c : ℕ) → Fits c (look f c)) where
    abbrev StepFits : ℕ → Step E → Type 0
    StepFits c (took e s) = T (q e c)
    StepFits c over = Unit {0}
    StepFits c (refused m) = Unit {0}

    act_fits : (c : ℕ) (fs : List ℕ) (a : Act E) (r : Step E) → Fits c a → StepFits c r → StepFits c (step_act a fs r)
    unfolding step_act
    act_fits c fs (take e p) r k o = k
    act_fits c fs leave r k o = o
    act_fits c fs (refuse m) r k o = tt

    step_fits : (s : List ℕ) (c : ℕ) → StepFits c (step look s c)
    unfolding step
    step_fits [] c = tt
    step_fits (f ∷ fs) c = act_fits c fs (look f c) (step look fs c) (ok f c) (step_fits fs c)

  -- the test passes at each taken item
  abbrev pub AllFit : {I : Type 0} → (I → ℕ) → List (Taken E I) → Type 0
  AllFit class_by [] = Unit {0}
  AllFit class_by (t ∷ ts) = T (q t.gave (class_by t.from)) × AllFit class_by ts

  -- the test passes at all that a run took
  abbrev pub RunFits : {I : Type 0} → (I → ℕ) → Run E I → Type 0
  RunFits class_by (left ts s) = AllFit class_by ts
  RunFits class_by (done ts r) = AllFit class_by ts
  RunFits class_by (bad m ts r) = AllFit class_by ts

  module _ {I : Type 0} (look : ℕ → ℕ → Act E) (class_by : I → ℕ) (ok : (f c : ℕ) → Fits c (look f c)) where
    and_fits : (e : E) (i : I) (r : Run E I) → T (q e (class_by i)) → RunFits class_by r → RunFits class_by (and_taken (record { gave = e; from = i }) r)
    unfolding and_taken
    and_fits e i (left ts s) t k = (t, k)
    and_fits e i (done ts r) t k = (t, k)
    and_fits e i (bad m ts r) t k = (t, k)

    go_fits : (i : I) (is : List I) → ((s : List ℕ) → RunFits class_by (read (by_class look class_by) s is)) → (x : Step E) → StepFits look class_by ok (class_by i) x
        → RunFits class_by (go_on (by_class look class_by) x i is (λ z. read (by_class look class_by) z is))
    unfolding go_on
    go_fits i is ih (took e s) k = and_fits e i (read (by_class look class_by) s is) k (ih s)
    go_fits i is ih over k = tt
    go_fits i is ih (refused m) k = tt

    -- it passes at all that any run takes
    pub read_fits : (s : List ℕ) (is : List I) → RunFits class_by (read (by_class look class_by) s is)
    unfolding read
    read_fits s [] = tt
    read_fits s (i ∷ is) =
        go_fits i is (λ z. read_fits z is) (step (by_class look class_by) s i) (subst (StepFits look class_by ok (class_by i)) (sym (step_class look class_by s i)) (step_fits look class_by ok s (class_by i)))
