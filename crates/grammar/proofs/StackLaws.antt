-- What one act, and a stack, does with an item.
use Rattle.std.proofs.Common.{◌≡◌, ℕ, suc, ◌+◌, ◌-◌, ◌<◌, ◌≤◌, List, Some, None, get_or, sym, ap, ◌∙◌, subst, arith}
use Rattle.paper.specs.Machine.{leave, refuse, took, over, refused, step_act, step}
use Rattle.paper.specs.Grammar.{look}
use Rattle.grammar.specs.declared.Act.TheVariants as Act'
use Rattle.grammar.specs.declared.Taken.{Taken}
use Rattle.grammar.specs.Stack.{stack, gives_of, TakesAt, Acts, Steps}

module _ {old : List ℕ} {at c : ℕ} {new : List ℕ} where
  pub acts_refused : look (get_or old at 0) c ≡ refuse 4 → Acts old at c Act'.Refused new
  acts_refused h = record {
    takes = λ t e. (let z : ◌≡◌ {A = ℕ} 0 1 = cc in absurd (omega arith));
    leaves = λ e. (let z : ◌≡◌ {A = ℕ} 0 1 = cc in absurd (omega arith));
    refuses = λ e. h;
  }

  pub acts_left : look (get_or old at 0) c ≡ leave → new ≡ old → Acts old at c Act'.Left new
  acts_left h k = record {
    takes = λ t e. (let z : ◌≡◌ {A = ℕ} 0 1 = cc in absurd (omega arith));
    leaves = λ e. (h, k);
    refuses = λ e. (let z : ◌≡◌ {A = ℕ} 0 1 = cc in absurd (omega arith));
  }

  pub acts_took : {k : Taken} → TakesAt old at c k.gives k.depth new → Acts old at c (Act'.Took k) new
  acts_took {k} t = record {
    takes = λ k' e. (let x : k ≡ k' = cc in subst (λ (n : Taken). TakesAt old at c n.gives n.depth new) x t);
    leaves = λ e. (let z : ◌≡◌ {A = ℕ} 0 1 = cc in absurd (omega arith));
    refuses = λ e. (let z : ◌≡◌ {A = ℕ} 0 1 = cc in absurd (omega arith));
  }

-- ---- a stack, from its top down

-- the stack of a buffer does with an item what its first d frames do
abbrev pub Down : List ℕ → ℕ → ℕ → ℕ → Type 0
Down l depth c d = step look (stack l depth) c ≡ step look (stack l d) c

module _ (l : List ℕ) (depth c : ℕ) where
  top : (d : ℕ) → 0 < d → step look (stack l d) c ≡ step_act (look (get_or l (d - 1) 0) c) (stack l (d - 1)) (step look (stack l (d - 1)) c)
  unfolding step stack
  top d h = let e : suc (d - 1) ≡ d = omega arith in ap (λ (n : ℕ). step look (stack l n) c) (sym e)

  -- the top frame leaves the item
  pub down_left : (d : ℕ) → 0 < d → Down l depth c d → look (get_or l (d - 1) 0) c ≡ leave → Down l depth c (d - 1)
  unfolding step_act
  down_left d h e k = e ∙ top d h ∙ ap (λ a. step_act a (stack l (d - 1)) (step look (stack l (d - 1)) c)) k

  -- the top frame refuses it
  pub down_refused : {new : List ℕ} (d : ℕ) → 0 < d → Down l depth c d → look (get_or l (d - 1) 0) c ≡ refuse 4 → Steps l depth c None new
  unfolding step_act
  down_refused d h e k =
      let r : step look (stack l depth) c ≡ refused 4 = e ∙ top d h ∙ ap (λ a. step_act a (stack l (d - 1)) (step look (stack l (d - 1)) c)) k in
      record {
        takes = λ t q. (let z : ◌≡◌ {A = ℕ} 0 1 = cc in absurd (omega arith));
        refuses = λ q g gs t. (let z : ◌≡◌ {A = ℕ} 0 1 = cc in absurd (omega arith));
      }

  -- no frame is left
  pub down_over : {new : List ℕ} (d : ℕ) → d ≤ 0 → Down l depth c d → Steps l depth c None new
  unfolding step stack
  down_over d h e =
      let z : d ≡ 0 = omega arith in
      let r : step look (stack l depth) c ≡ over = e ∙ ap (λ (n : ℕ). step look (stack l n) c) z in
      record {
        takes = λ t q. (let z : ◌≡◌ {A = ℕ} 0 1 = cc in absurd (omega arith));
        refuses = λ q g gs t. (let z : ◌≡◌ {A = ℕ} 0 1 = cc in absurd (omega arith));
      }

  -- the top frame takes it
  pub down_took : {new : List ℕ} {t : Taken} (d : ℕ) → 0 < d → d ≤ depth → Down l depth c d → TakesAt l (d - 1) c t.gives t.depth new → Steps l depth c (Some t) new
  unfolding step_act
  down_took {new} {t} d h k e a =
      let r : step look (stack l depth) c ≡ took (gives_of t.gives) (stack new t.depth) =
      e ∙ top d h ∙ ap (λ a. step_act a (stack l (d - 1)) (step look (stack l (d - 1)) c)) a.acts ∙ ap (took (gives_of t.gives)) (sym a.stacked) in
      let m : t.depth ≤ depth + 8 = omega (arith, a.few) in
      record {
        takes = λ t' q.
            (let x : t ≡ t' = cc in
            subst (λ (n : Taken). (step look (stack l depth) c ≡ took (gives_of n.gives) (stack new n.depth)) × (n.depth ≤ depth + 8)) x (r, m));
        refuses = λ q e' gs u. (let z : ◌≡◌ {A = ℕ} 0 1 = cc in absurd (omega arith));
      }
