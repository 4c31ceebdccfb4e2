-- Every stack that a run can come to can be completed to a lawful end, by a test that is computed over the table.
-- For each frame: a short word that completes it ([] for one that may be left) and the classes that may come next under it.
-- Assumes nothing.
use Prim.Native.Nat.{ℕ, zero, suc, ◌+◌}
use Rattle.std.proofs.Common.{add-zero, zero-add, add-suc, suc-add, sym, ◌∙◌, eqb→eq}
use Rattle.std.specs.Prelude.{◌≡◌, Bool, ◌&&◌, eqb, get_or}
use Rattle.std.proofs.Math.Path.{refl, ap, subst}
use Rattle.std.proofs.Math.Bool.{true, false, not}
use mathlib.Core.List.{List, [], ◌∷◌, ◌++◌, append_assoc}
use Rattle.std.proofs.Math.Dec.{T}
use Rattle.paper.specs.Machine.{Act, take, leave, refuse, Step, took, over, refused, step_act, Taken, Run, left, done, bad, and_taken, step, go_on, read}
use Rattle.paper.specs.MachineLaws.{all_taken, seq, then, read_append, read_then}
use Rattle.paper.specs.Machine.{Row, find_row}
use Rattle.paper.specs.Bytes.{every, among}
use Rattle.laws.specs.Tests.{everyAt, and_left, and_right, or_else}
use Rattle.laws.specs.RowTests.{at_rows}

-- a word that completes a frame, and the classes that may then come first
pub record Info : Type 0 where
  pub word : List ℕ
  pub heads : List ℕ

-- no class: what comes under the last frame
abbrev pub none : ℕ
none = 1000

-- past the end of the table
abbrev pub no_info : Info
no_info = record { word = []; heads = [] }

-- ---- tools

-- a test of every entry passes at a member
pub every_member : (p : ℕ → Bool) (l : List ℕ) (x : ℕ) → T (every p l) → T (among x l) → T (p x)
unfolding every among
every_member p [] x t m = absurd m
every_member p (y ∷ ys) x t m =
    or_else (eqb x y) (among x ys) m
    (λ e. subst (λ (z : ℕ). T (p z)) (sym (eqb→eq x y e)) (and_left (p y) (every p ys) t))
    (λ n. every_member p ys x (and_right (p y) (every p ys) t) n)

-- a test that passes at each entry and its place, and past the end, passes at every place
everyAt_from : {A : Type 0} (p : ℕ → A → Bool) (d : A) → ((j : ℕ) → T (p j d)) → (l : List A) (k : ℕ) → T (everyAt p k l) → (f : ℕ) → T (p (k + f) (get_or l f d))
unfolding everyAt
everyAt_from p d h [] k t f = h (k + f)
everyAt_from p d h (x ∷ xs) k t zero = subst (λ (m : ℕ). T (p m x)) (sym (add-zero k)) (and_left (p k x) (everyAt p (suc k) xs) t)
everyAt_from p d h (x ∷ xs) k t (suc f) =
    subst (λ (m : ℕ). T (p m (get_or xs f d))) (suc-add k f ∙ sym (add-suc k f)) (everyAt_from p d h xs (suc k) (and_right (p k x) (everyAt p (suc k) xs) t) f)

everyAt_at : {A : Type 0} (p : ℕ → A → Bool) (d : A) → ((j : ℕ) → T (p j d)) → (l : List A) → T (everyAt p 0 l) → (f : ℕ) → T (p f (get_or l f d))
everyAt_at p d h l t f = subst (λ (m : ℕ). T (p m (get_or l f d))) (zero-add f) (everyAt_from p d h l 0 t f)

-- ---- the tests

-- the first of a word, or what comes after it
abbrev pub top_or : List ℕ → ℕ → ℕ
top_or [] h = h
top_or (c ∷ cs) h = c

-- an empty list
abbrev pub nil? : List ℕ → Bool
nil? [] = true
nil? (c ∷ cs) = false

abbrev leave? : {E : Type 0} → Act E → Bool
leave? (take e p) = false
leave? leave = true
leave? (refuse m) = false

module _ (infos : List Info) where
  -- a frame's word
  abbrev pub word : ℕ → List ℕ
  word f = (get_or infos f no_info).word

  -- the classes that may come under a frame
  abbrev pub heads : ℕ → List ℕ
  heads f = (get_or infos f no_info).heads

  -- the class that comes first once what stands above is gone, with h under the whole
  unfoldable pub under : List ℕ → ℕ → ℕ
  under [] h = h
  under (f ∷ fs) h = top_or (word f) (under fs h)

  unfoldable good? : List ℕ → ℕ → Bool
  unfolding under among
  good? [] h = true
  good? (f ∷ fs) h = among (under fs h) (heads f) && good? fs h

  -- each frame of a stack stands over what its entry says, with h under the whole
  abbrev pub Good : List ℕ → ℕ → Type 0
  Good [] h = Unit {0}
  Good (f ∷ fs) h = T (among (under fs h) (heads f)) × Good fs h

  good : (fs : List ℕ) (h : ℕ) → T (good? fs h) → Good fs h
  unfolding good?
  good [] h t = tt
  good (f ∷ fs) h t = (and_left (among (under fs h) (heads f)) (good? fs h) t, good fs h (and_right (among (under fs h) (heads f)) (good? fs h) t))

  -- the words of a stack, one after the other
  unfoldable pub completion : List ℕ → List ℕ
  completion [] = []
  completion (f ∷ fs) = word f ++ completion fs

  -- what a row wants is good over whatever may come under its frame
  unfoldable pub row_good : {E : Type 0} → Row E → Bool
  unfolding every good?
  row_good r = every (λ h. good? r.wants h) (heads r.frame)

  abbrev rests : {E I : Type 0} → Run E I → Bool
  unfolding every
  rests (left ts ns) = every (λ n. nil? (word n)) ns
  rests (done ts r) = false
  rests (bad m ts r) = false

  unfoldable frame_test : {E : Type 0} → (ℕ → ℕ → Act E) → List ℕ → ℕ → List ℕ → Bool
  unfolding every read step step_act go_on and_taken
  frame_test look [] f hs = every (λ h. not (eqb h none) && leave? (look f h)) hs
  frame_test look (c ∷ cs) f hs = rests (read look (f ∷ []) (c ∷ cs))

  -- a frame's word completes it; one with no word is left by whatever may come under it
  unfoldable pub frame_good : {E : Type 0} → (ℕ → ℕ → Act E) → ℕ → Info → Bool
  unfolding frame_test
  frame_good look f i = frame_test look i.word f i.heads

  under_append : (fs gs : List ℕ) (h : ℕ) → under (fs ++ gs) h ≡ under fs (under gs h)
  unfolding under
  under_append [] gs h = refl
  under_append (f ∷ fs) gs h = ap (top_or (word f)) (under_append fs gs h)

  good_append : (fs gs : List ℕ) (h : ℕ) → Good fs (under gs h) → Good gs h → Good (fs ++ gs) h
  good_append [] gs h g k = k
  good_append (f ∷ fs) gs h g k = (subst (λ (c : ℕ). T (among c (heads f))) (sym (under_append fs gs h)) g.0, good_append fs gs h g.1 k)

  -- ---- a good stack stays good

  -- the same of what a frame does
  abbrev pub ActGood : {E : Type 0} → ℕ → Act E → Type 0
  ActGood f (take e p) = (h : ℕ) → T (among h (heads f)) → Good p h
  ActGood f leave = Unit {0}
  ActGood f (refuse m) = Unit {0}

  -- a step leaves a good stack
  abbrev pub StepGood : {E : Type 0} → ℕ → Step E → Type 0
  StepGood h (took e s) = Good s h
  StepGood h over = Unit {0}
  StepGood h (refused m) = Unit {0}

  abbrev RunGood : {E I : Type 0} → ℕ → Run E I → Type 0
  RunGood h (left ts s) = Good s h
  RunGood h (done ts r) = Unit {0}
  RunGood h (bad m ts r) = Unit {0}

  -- the test of the rows, at whatever a frame does
  pub find_good : {E : Type 0} (rows : List (Row E)) (empty : List ℕ) (f c : ℕ) → T (every (row_good {E = E}) rows) → ActGood f (find_row rows empty f c)
  unfolding row_good
  find_good {E} rows empty f c t =
      at_rows (λ f c a. ActGood {E = E} f a) row_good empty
      (λ r k h m. good r.wants h (every_member (λ (z : ℕ). good? r.wants z) (heads r.frame) h k m)) (λ f c h. tt) (λ f c. tt) rows f c t

  module _ {E : Type 0} (look : ℕ → ℕ → Act E) (rows_good : (f c : ℕ) → ActGood f (look f c)) where
    act_good : (h f : ℕ) (fs : List ℕ) (a : Act E) (r : Step E) → ActGood f a → Good (f ∷ fs) h → StepGood h r → StepGood h (step_act a fs r)
    unfolding step_act
    act_good h f fs (take e p) r k g o = good_append p fs h (k (under fs h) g.0) g.1
    act_good h f fs leave r k g o = o
    act_good h f fs (refuse m) r k g o = tt

    -- a step from a good stack leaves a good one
    pub step_good : (h : ℕ) (s : List ℕ) (c : ℕ) → Good s h → StepGood h (step look s c)
    unfolding step
    step_good h [] c g = tt
    step_good h (f ∷ fs) c g = act_good h f fs (look f c) (step look fs c) (rows_good f c) g (step_good h fs c g.1)

    emit_good : (h : ℕ) (t : Taken E ℕ) (r : Run E ℕ) → RunGood h r → RunGood h (and_taken t r)
    unfolding and_taken
    emit_good h t (left ts s) o = o
    emit_good h t (done ts r) o = o
    emit_good h t (bad m ts r) o = o

    read_step : (h : ℕ) (x : Step E) (c : ℕ) (cs : List ℕ) → StepGood h x → ((s : List ℕ) → Good s h → RunGood h (read look s cs)) → RunGood h (go_on look x c cs (λ s'. read look s' cs))
    unfolding go_on
    read_step h (took e s) c cs o k = emit_good h _ (read look s cs) (k s o)
    read_step h over c cs o k = tt
    read_step h (refused m) c cs o k = tt

    -- and so does a run
    pub read_good : (h : ℕ) (s cs : List ℕ) → Good s h → RunGood h (read look s cs)
    unfolding read
    read_good h s [] g = g
    read_good h s (c ∷ cs) g = read_step h (step look s c) c cs (step_good h s c g) (λ s' g'. read_good h s' cs g')

  -- ---- and can be completed

  abbrev AllNull : List ℕ → Type 0
  AllNull [] = Unit {0}
  AllNull (n ∷ ns) = (word n ≡ []) × AllNull ns

  -- all items taken, and nothing wanted
  abbrev pub Ends : {E I : Type 0} → Run E I → Type 0
  Ends (left ts []) = Unit {0}
  Ends (left ts (f ∷ s)) = ⊥
  Ends (done ts r) = ⊥
  Ends (bad m ts r) = ⊥

  ends_emit : {E I : Type 0} (t : Taken E I) (r : Run E I) → Ends r → Ends (and_taken t r)
  unfolding and_taken
  ends_emit t (left ts []) e = e
  ends_emit t (left ts (f ∷ s)) e = e
  ends_emit t (done ts r) e = e
  ends_emit t (bad m ts r) e = e

  -- whatever was taken before
  pub ends_emits : {E I : Type 0} (ts : List (Taken E I)) (r : Run E I) → Ends r → Ends (all_taken ts r)
  unfolding all_taken
  ends_emits [] r e = e
  ends_emits (t ∷ ts) r e = ends_emit t (all_taken ts r) (ends_emits ts r e)

  under_null : (ns gs : List ℕ) (h : ℕ) → AllNull ns → under (ns ++ gs) h ≡ under gs h
  unfolding under
  under_null [] gs h a = refl
  under_null (n ∷ ns) gs h a = ap (λ (w : List ℕ). top_or w (under (ns ++ gs) h)) a.0 ∙ under_null ns gs h a.1

  nil_eq : (w : List ℕ) → T (nil? w) → w ≡ []
  nil_eq [] t = refl
  nil_eq (c ∷ cs) t = absurd t

  all_null : (ns : List ℕ) → T (every (λ n. nil? (word n)) ns) → AllNull ns
  unfolding every
  all_null [] t = tt
  all_null (n ∷ ns) t = (nil_eq (word n) (and_left (nil? (word n)) (every (λ z. nil? (word z)) ns) t), all_null ns (and_right (nil? (word n)) (every (λ z. nil? (word z)) ns) t))

  all_null_snoc : (ns : List ℕ) (f : ℕ) → AllNull ns → word f ≡ [] → AllNull (ns ++ f ∷ [])
  all_null_snoc [] f a e = (e, tt)
  all_null_snoc (n ∷ ns) f a e = (a.0, all_null_snoc ns f a.1 e)

  leave_eq : {E : Type 0} (a : Act E) → T (leave? a) → a ≡ leave
  leave_eq (take e p) t = absurd t
  leave_eq leave t = refl
  leave_eq (refuse m) t = absurd t

  module _ {E : Type 0} (look : ℕ → ℕ → Act E) (rows_good : (f c : ℕ) → ActGood f (look f c)) (infos_good : T (everyAt (frame_good look) 0 infos)) where
    at_frame : (f : ℕ) → T (frame_good look f (get_or infos f no_info))
    unfolding frame_good frame_test every
    at_frame = everyAt_at (frame_good look) no_info (λ j. tt) infos infos_good

    null_leaves : (f h : ℕ) → word f ≡ [] → T (among h (heads f)) → T (not (eqb h none) && leave? (look f h))
    unfolding frame_good frame_test
    null_leaves f h e m =
        every_member (λ (z : ℕ). not (eqb z none) && leave? (look f z)) (heads f) h (subst (λ (w : List ℕ). T (frame_test look w f (heads f))) e (at_frame f)) m

    -- frames that may be left are passed over-frame
    skip : (h f c : ℕ) (cs ns fs : List ℕ) → word f ≡ c ∷ cs → AllNull ns → Good (ns ++ f ∷ fs) h → step look (ns ++ f ∷ fs) c ≡ step look (f ∷ fs) c
    unfolding under step_act step
    skip h f c cs [] fs e a g = refl
    skip h f c cs (n ∷ ns) fs e a g = ap (λ (x : Act E). step_act x rest (step look rest c)) left_it ∙ skip h f c cs ns fs e a.1 g.1
      where
        rest : List ℕ
        rest = ns ++ f ∷ fs

        first : under rest h ≡ c
        first = under_null ns (f ∷ fs) h a.1 ∙ ap (λ (w : List ℕ). top_or w (under fs h)) e

        left_it : look n c ≡ leave
        left_it =
            leave_eq (look n c) (and_right (not (eqb c none)) (leave? (look n c)) (null_leaves n c a.0 (subst (λ (z : ℕ). T (among z (heads n))) first g.0)))

    good_drop : (h : ℕ) (ns fs : List ℕ) → Good (ns ++ fs) h → Good fs h
    good_drop h [] fs g = g
    good_drop h (n ∷ ns) fs g = good_drop h ns fs g.1

    after_word : (fs : List ℕ) (r : Run E ℕ) → T (rests r) → RunGood none (seq look r fs)
        → ((ns : List ℕ) → AllNull ns → Good (ns ++ fs) none → Ends (read look (ns ++ fs) (completion fs))) → Ends (then look (seq look r fs) (completion fs))
    unfolding every rests seq then all_taken
    after_word fs (left ts ns) t o ih = ends_emits ts (read look (ns ++ fs) (completion fs)) (ih ns (all_null ns t) o)
    after_word fs (done ts r) t o ih = absurd t
    after_word fs (bad m ts r) t o ih = absurd t

    Below : List ℕ → Type 0
    Below fs = (ns : List ℕ) → AllNull ns → Good (ns ++ fs) none → Ends (read look (ns ++ fs) (completion fs))

    over_frame : (f : ℕ) (fs : List ℕ) (w : List ℕ) → word f ≡ w → Below fs → (ns : List ℕ) → AllNull ns → Good (ns ++ f ∷ fs) none → Ends (read look (ns ++ f ∷ fs) (w ++ completion fs))
    unfolding Below frame_good frame_test
    over_frame f fs [] e ih ns a g =
        subst (λ (s : List ℕ). Ends (read look s (completion fs))) (append_assoc ns (f ∷ []) fs)
        (ih (ns ++ f ∷ []) (all_null_snoc ns f a e) (subst (λ (s : List ℕ). Good s none) (sym (append_assoc ns (f ∷ []) fs)) g))
    over_frame f fs (c ∷ cs) e ih ns a g = subst Ends (sym path) (after_word fs one rested (subst (RunGood none) two (read_good look rows_good none (f ∷ fs) (c ∷ cs) (good_drop none ns (f ∷ fs) g))) ih)
      where
        one : Run E ℕ
        one = read look (f ∷ []) (c ∷ cs)

        two : read look (f ∷ fs) (c ∷ cs) ≡ seq look one fs
        two = read_append look (f ∷ []) fs (c ∷ cs)

        rested : T (rests one)
        rested = subst (λ (w : List ℕ). T (frame_test look w f (heads f))) e (at_frame f)

        path : read look (ns ++ f ∷ fs) (c ∷ (cs ++ completion fs)) ≡ then look (seq look one fs) (completion fs)
        path =
            ap (λ (x : Step E). go_on look x c (cs ++ completion fs) (λ s. read look s (cs ++ completion fs))) (skip none f c cs ns fs e a g)
            ∙ read_then look (f ∷ fs) (c ∷ cs) (completion fs)
            ∙ ap (λ (r : Run E ℕ). then look r (completion fs)) two

    all_below : (fs : List ℕ) → Below fs
    unfolding Below completion read under
    all_below [] [] a g = tt
    all_below [] (n ∷ ns) a g = absurd (and_left false (leave? (look n none)) (null_leaves n none a.0 (subst (λ (z : ℕ). T (among z (heads n))) (under_null ns [] none a.1) g.0)))
    all_below (f ∷ fs) ns a g = over_frame f fs (word f) refl (all_below fs) ns a g

    -- every good stack is completed by its frames' words
    pub completes : (s : List ℕ) → Good s none → Ends (read look s (completion s))
    unfolding Below
    completes s g = all_below s [] tt g
