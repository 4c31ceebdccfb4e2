-- Which classes can stand side by side in what a run takes: a relation `adj` that is tested on the table holds of every two neighbours.
-- For each frame: the classes that it takes (`firsts`), and those that may come once it is gone (`follow`). Assumes nothing.
use Rattle.std.specs.Prelude.{ℕ, ◌≡◌, ◌&&◌, eqb}
use Rattle.std.proofs.Math.Path.{refl, ap}
use Rattle.std.proofs.Common.{subst}
use Rattle.std.proofs.Math.Bool.{Bool, true, false}
use mathlib.Core.List.{List, [], ◌∷◌, ◌++◌}
use Rattle.std.proofs.Math.Dec.{T}
use Rattle.paper.specs.Machine.{Act, take, leave, refuse, Step, took, over, refused, step_act, Taken, Run, left, done, bad, and_taken, step, go_on, read}
use Rattle.paper.specs.Machine.{Row, find_row}
use Rattle.paper.specs.Bytes.{every, among}
use Rattle.laws.specs.Tests.{and_left, and_right, or_else}
use Rattle.laws.specs.RowTests.{at_rows}
use Rattle.grounds.specs.Viable.{every_member}
use Rattle.grounds.specs.Lists.{or_left, or_right}

abbrev AllAmong : List ℕ → List ℕ → Type 0
AllAmong a b = (c : ℕ) → T (among c a) → T (among c b)

-- all numbers of the one list stand in the other
unfoldable pub all_among? : List ℕ → List ℕ → Bool
all_among? a b = every (λ c. among c b) a

all_among : (a b : List ℕ) → T (all_among? a b) → AllAmong a b
unfolding all_among?
all_among a b t c m = every_member (λ (z : ℕ). among z b) a c t m

among_left : (c : ℕ) (a b : List ℕ) → T (among c a) → T (among c (a ++ b))
unfolding among
among_left c [] b m = absurd m
among_left c (x ∷ xs) b m =
    or_else (eqb c x) (among c xs) m (λ e. or_left (eqb c x) (among c (xs ++ b)) e) (λ n. or_right (eqb c x) (among c (xs ++ b)) (among_left c xs b n))

among_right : (c : ℕ) (a b : List ℕ) → T (among c b) → T (among c (a ++ b))
unfolding among
among_right c [] b m = m
among_right c (x ∷ xs) b m = or_right (eqb c x) (among c (xs ++ b)) (among_right c xs b m)

among_cases {ℓ} : {X : Type ℓ} (c : ℕ) (a b : List ℕ) → T (among c (a ++ b)) → (T (among c a) → X) → (T (among c b) → X) → X
unfolding among
among_cases c [] b m f g = g m
among_cases c (x ∷ xs) b m f g =
    or_else (eqb c x) (among c (xs ++ b)) m (λ e. f (or_left (eqb c x) (among c xs) e)) (λ n. among_cases c xs b n (λ k. f (or_right (eqb c x) (among c xs) k)) g)

-- what comes under a frame, if it may be left
abbrev only_if : Bool → List ℕ → List ℕ
only_if true l = l
only_if false l = []

only_mono : (b : Bool) (l m : List ℕ) → AllAmong l m → AllAmong (only_if b l) (only_if b m)
unfolding among
only_mono true l m h c k = h c k
only_mono false l m h c k = absurd k

module _ (firsts follow : ℕ → List ℕ) (empty : List ℕ) (beside? : ℕ → ℕ → Bool) where
  -- the classes that a stack may take next, with h under the whole
  unfoldable pub nexts : List ℕ → List ℕ → List ℕ
  nexts [] h = h
  nexts (f ∷ fs) h = firsts f ++ only_if (among f empty) (nexts fs h)

  -- whatever may come once a frame is gone is among what its entry in `follow` says
  unfoldable pub follows? : List ℕ → List ℕ → Bool
  follows? [] h = true
  follows? (f ∷ fs) h = all_among? (nexts fs h) (follow f) && follows? fs h

  abbrev Follows : List ℕ → List ℕ → Type 0
  Follows [] h = Unit {0}
  Follows (f ∷ fs) h = AllAmong (nexts fs h) (follow f) × Follows fs h

  follows : (fs h : List ℕ) → T (follows? fs h) → Follows fs h
  unfolding follows?
  follows [] h t = tt
  follows (f ∷ fs) h t = (all_among (nexts fs h) (follow f) (and_left (all_among? (nexts fs h) (follow f)) (follows? fs h) t), follows fs h (and_right (all_among? (nexts fs h) (follow f)) (follows? fs h) t))

  nexts_mono : (fs h k : List ℕ) → AllAmong h k → AllAmong (nexts fs h) (nexts fs k)
  unfolding nexts
  nexts_mono [] h k s c m = s c m
  nexts_mono (f ∷ fs) h k s c m =
      among_cases c (firsts f) (only_if (among f empty) (nexts fs h)) m (λ n. among_left c (firsts f) (only_if (among f empty) (nexts fs k)) n)
      (λ n. among_right c (firsts f) (only_if (among f empty) (nexts fs k)) (only_mono (among f empty) (nexts fs h) (nexts fs k) (nexts_mono fs h k s) c n))

  nexts_append : (fs gs h : List ℕ) → nexts (fs ++ gs) h ≡ nexts fs (nexts gs h)
  unfolding nexts
  nexts_append [] gs h = refl
  nexts_append (f ∷ fs) gs h = ap (λ (l : List ℕ). firsts f ++ only_if (among f empty) l) (nexts_append fs gs h)

  -- what was tested over the whole of what may follow holds over what does
  follows_append : (fs gs h k : List ℕ) → AllAmong (nexts gs h) k → Follows fs k → Follows gs h → Follows (fs ++ gs) h
  follows_append [] gs h k s a b = b
  follows_append (f ∷ fs) gs h k s a b =
      (λ c m. a.0 c (nexts_mono fs (nexts gs h) k s c (subst (λ (l : List ℕ). T (among c l)) (nexts_append fs gs h) m)), follows_append fs gs h k s a.1 b)

  -- ---- the test of a row: the frame takes its class, what it pushes is good, and whatever can come next may stand beside the class
  unfoldable pub row_beside : {E : Type 0} → Row E → Bool
  row_beside r = among r.class (firsts r.frame) && (follows? r.wants (follow r.frame) && every (λ c. beside? r.class c) (nexts r.wants (follow r.frame)))

  -- at the class c, frame f
  abbrev pub ActBeside : {E : Type 0} → ℕ → ℕ → Act E → Type 0
  ActBeside f c (take e p) = T (among c (firsts f)) × Follows p (follow f) × ((d : ℕ) → T (among d (nexts p (follow f))) → T (beside? c d))
  ActBeside f c leave = T (among f empty)
  ActBeside f c (refuse m) = Unit {0}

  row_says : {E : Type 0} (r : Row E) → T (row_beside r) → ActBeside r.frame r.class (take r.gives r.wants)
  unfolding row_beside
  row_says r t =
      let a : Bool = among r.class (firsts r.frame) in
      let b : Bool = follows? r.wants (follow r.frame) in
      let d : Bool = every (λ c. beside? r.class c) (nexts r.wants (follow r.frame)) in (
        and_left a (b && d) t,
        follows r.wants (follow r.frame) (and_left b d (and_right a (b && d) t)),
        (λ z m. every_member (λ (c : ℕ). beside? r.class c) (nexts r.wants (follow r.frame)) z (and_right b d (and_right a (b && d) t)) m),
      )

  -- the test of the rows, at whatever a frame does
  pub find_beside : {E : Type 0} (rows : List (Row E)) (f c : ℕ) → T (every (row_beside {E = E}) rows) → ActBeside f c (find_row rows empty f c)
  find_beside {E} rows f c t = at_rows (ActBeside {E = E}) row_beside empty (λ r k. row_says r k) (λ f c h. h) (λ f c. tt) rows f c t

  module _ {E : Type 0} (look : ℕ → ℕ → Act E) (ok : (f c : ℕ) → ActBeside f c (look f c)) where
    -- a stack that takes c: c was among what may come, the new stack is good, and what may come next may stand beside c
    abbrev StepBeside : List ℕ → ℕ → List ℕ → Step E → Type 0
    StepBeside s c h (took e s') = T (among c (nexts s h)) × Follows s' h × ((d : ℕ) → T (among d (nexts s' h)) → T (beside? c d))
    StepBeside s c h over = Unit {0}
    StepBeside s c h (refused m) = Unit {0}

    act_beside : (f c : ℕ) (fs h : List ℕ) (a : Act E) (r : Step E) → ActBeside f c a → Follows (f ∷ fs) h → StepBeside fs c h r → StepBeside (f ∷ fs) c h (step_act a fs r)
    unfolding step_act nexts
    act_beside f c fs h (take e p) r k g o = (
      among_left c (firsts f) (only_if (among f empty) (nexts fs h)) k.0,
      follows_append p fs h (follow f) g.0 k.1 g.1,
      (λ d m. k.2 d (nexts_mono p (nexts fs h) (follow f) g.0 d (subst (λ (l : List ℕ). T (among d l)) (nexts_append p fs h) m))),
    )
    act_beside f c fs h leave (took e s') k g o = (among_right c (firsts f) (only_if (among f empty) (nexts fs h)) (only (among f empty) k o.0), o.1, o.2)
      where
        only : (b : Bool) → T b → T (among c (nexts fs h)) → T (among c (only_if b (nexts fs h)))
        only true t m = m
        only false t m = absurd t
    act_beside f c fs h leave over k g o = tt
    act_beside f c fs h leave (refused m) k g o = tt
    act_beside f c fs h (refuse m) r k g o = tt

    step_beside : (s : List ℕ) (c : ℕ) (h : List ℕ) → Follows s h → StepBeside s c h (step look s c)
    unfolding step
    step_beside [] c h g = tt
    step_beside (f ∷ fs) c h g = act_beside f c fs h (look f c) (step look fs c) (ok f c) g (step_beside fs c h g.1)

    -- each two neighbours in what a run takes may stand side by side; b is the class before
    abbrev pub Beside : ℕ → List (Taken E ℕ) → Type 0
    Beside b [] = Unit {0}
    Beside b (t ∷ ts) = T (beside? b t.from) × Beside t.from ts

    -- the same of whatever a run took
    abbrev pub RunBeside : ℕ → Run E ℕ → Type 0
    RunBeside b (left ts s) = Beside b ts
    RunBeside b (done ts r) = Beside b ts
    RunBeside b (bad m ts r) = Beside b ts

    emit_beside : (b c : ℕ) (e : E) (r : Run E ℕ) → T (beside? b c) → RunBeside c r → RunBeside b (and_taken (record { gave = e; from = c }) r)
    unfolding and_taken
    emit_beside b c e (left ts s) a k = (a, k)
    emit_beside b c e (done ts r) a k = (a, k)
    emit_beside b c e (bad m ts r) a k = (a, k)

    Next : ℕ → List ℕ → List ℕ → Type 0
    Next b s h = (d : ℕ) → T (among d (nexts s h)) → T (beside? b d)

    beside_step : (b : ℕ) (s h : List ℕ) (c : ℕ) (cs : List ℕ) → Next b s h → (x : Step E) → StepBeside s c h x → ((s' : List ℕ) → Follows s' h → Next c s' h → RunBeside c (read look s' cs))
        → RunBeside b (go_on look x c cs (λ z. read look z cs))
    unfolding Next go_on
    beside_step b s h c cs n (took e s') o k = emit_beside b c e (read look s' cs) (n c o.0) (k s' o.1 o.2)
    beside_step b s h c cs n over o k = tt
    beside_step b s h c cs n (refused m) o k = tt

    -- each two neighbours that a run takes may stand side by side
    pub beside : (b : ℕ) (s h cs : List ℕ) → Follows s h → ((d : ℕ) → T (among d (nexts s h)) → T (beside? b d)) → RunBeside b (read look s cs)
    unfolding read Next
    beside b s h [] g n = tt
    beside b s h (c ∷ cs) g n = beside_step b s h c cs n (step look s c) (step_beside s c h g) (λ s' g' n'. beside c s' h cs g' n')
