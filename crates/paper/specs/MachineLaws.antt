-- Laws of the stack machine, for every grammar: a stack in two parts, items in two parts.
use Rattle.std.specs.Prelude.{ℕ, ◌≡◌}
use Rattle.std.proofs.Math.Path.{refl, ap}
use Rattle.std.proofs.Common.{sym, ◌∙◌}
use mathlib.Core.List.{List, [], ◌∷◌, ◌++◌, append_assoc}
use Rattle.paper.specs.Machine.{Act, take, leave, refuse, Step, took, over, refused, step_act, Taken, Run, left, done, bad, and_taken, step, go_on, read}

module _ {E : Type 0} where
  -- a stack after fs ++ gs, from what fs did and what gs would do
  unfoldable pub step_seq : Step E → List ℕ → Step E → Step E
  step_seq (took e s) gs r = took e (s ++ gs)
  step_seq over gs r = r
  step_seq (refused k) gs r = refused k

module _ {E I : Type 0} where
  -- some items taken before
  unfoldable pub all_taken : List (Taken E I) → Run E I → Run E I
  all_taken [] r = r
  all_taken (t ∷ ts) r = and_taken t (all_taken ts r)

module _ {E I : Type 0} (look : ℕ → I → Act E) where
  -- ---- the stack in two parts: what the first part does, and then the second

  -- what a run of the first frames came to, gone on with by other frames
  unfoldable pub seq : Run E I → List ℕ → Run E I
  seq (left ts s) gs = left ts (s ++ gs)
  seq (done ts r) gs = all_taken ts (read look gs r)
  seq (bad k ts r) gs = bad k ts r

  act_append : (a : Act E) (fs gs : List ℕ) (r r' s : Step E) → r' ≡ step_seq r gs s → step_act a (fs ++ gs) r' ≡ step_seq (step_act a fs r) gs s
  unfolding step_act step_seq
  act_append (take e p) fs gs r r' s h = ap (took e) (sym (append_assoc p fs gs))
  act_append leave fs gs r r' s h = h
  act_append (refuse k) fs gs r r' s h = refl

  pub step_append : (fs gs : List ℕ) (i : I) → step look (fs ++ gs) i ≡ step_seq (step look fs i) gs (step look gs i)
  unfolding step step_seq
  step_append [] gs i = refl
  step_append (f ∷ fs) gs i = act_append (look f i) fs gs (step look fs i) (step look (fs ++ gs) i) (step look gs i) (step_append fs gs i)

  seq_emit : (t : Taken E I) (r : Run E I) (gs : List ℕ) → and_taken t (seq r gs) ≡ seq (and_taken t r) gs
  unfolding and_taken seq all_taken
  seq_emit t (left ts s) gs = refl
  seq_emit t (done ts r) gs = refl
  seq_emit t (bad k ts r) gs = refl

  read_go : (gs : List ℕ) (i : I) (is : List I) → ((s : List ℕ) → read look (s ++ gs) is ≡ seq (read look s is) gs) → (x : Step E)
      → go_on look (step_seq x gs (step look gs i)) i is (λ s'. read look s' is) ≡ seq (go_on look x i is (λ s'. read look s' is)) gs
  unfolding read seq step_seq go_on all_taken
  read_go gs i is ih (took e s) = ap (and_taken (record { gave = e; from = i })) (ih s) ∙ seq_emit _ (read look s is) gs
  read_go gs i is ih over = refl
  read_go gs i is ih (refused k) = refl

  -- frames fs and then gs read as fs does, and then gs on what is left
  pub read_append : (fs gs : List ℕ) (is : List I) → read look (fs ++ gs) is ≡ seq (read look fs is) gs
  unfolding read seq
  read_append fs gs [] = refl
  read_append fs gs (i ∷ is) =
      ap (λ (x : Step E). go_on look x i is (λ s'. read look s' is)) (step_append fs gs i)
      ∙ read_go gs i is (λ s. read_append s gs is) (step look fs i)

  -- ---- the items in two parts: the verdict on an item depends on the items up to it alone

  -- what a run over the first items came to, gone on with over more items
  unfoldable pub then : Run E I → List I → Run E I
  then (left ts s) js = all_taken ts (read look s js)
  then (done ts r) js = done ts (r ++ js)
  then (bad k ts r) js = bad k ts (r ++ js)

  then_emit : (t : Taken E I) (r : Run E I) (js : List I) → and_taken t (then r js) ≡ then (and_taken t r) js
  unfolding and_taken then all_taken
  then_emit t (left ts s) js = refl
  then_emit t (done ts r) js = refl
  then_emit t (bad k ts r) js = refl

  then_go : (i : I) (is js : List I) → ((s : List ℕ) → read look s (is ++ js) ≡ then (read look s is) js) → (x : Step E)
      → go_on look x i (is ++ js) (λ s'. read look s' (is ++ js)) ≡ then (go_on look x i is (λ s'. read look s' is)) js
  unfolding read then go_on
  then_go i is js ih (took e s) = ap (and_taken (record { gave = e; from = i })) (ih s) ∙ then_emit _ (read look s is) js
  then_go i is js ih over = refl
  then_go i is js ih (refused k) = refl

  -- items `is` and then js are read as `is` are, and then js
  pub read_then : (s : List ℕ) (is js : List I) → read look s (is ++ js) ≡ then (read look s is) js
  unfolding read then all_taken
  read_then s [] js = refl
  read_then s (i ∷ is) js = then_go i is js (λ s'. read_then s' is js) (step look s i)
