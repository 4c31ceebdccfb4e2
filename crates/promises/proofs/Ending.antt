-- A run over the items of a text ends in one of two ways: all items are taken and nothing more is wanted, or an item is refused.
use Rattle.std.specs.Prelude.{ℕ, ◌≡◌, refl, Bool, not, ◌&&◌, ◌||◌, List, [], ◌∷◌, ◌++◌, T, eqb}
use Rattle.std.proofs.Common.{arith, subst, sym, ap, ◌∙◌, T_not, eqb→eq}
use Rattle.paper.specs.Bytes.{pick, every, among}
use Rattle.paper.specs.Classes.{unfit}
use Rattle.paper.specs.Tokens.{class}
use Rattle.paper.specs.Items.{Item}
use Rattle.paper.specs.Machine.{Act, take, leave, refuse, Row, Step, took, over, refused, step_act, Taken, Run, left, done, bad, and_taken, step, go_on, read}
use Rattle.paper.specs.Grammar.{Gives, grammar, may_be_empty, look, look_item, start}
use Rattle.paper.specs.Open.{all_Bytes, all_Grammar, all_Machine}
use Rattle.laws.specs.Tests.{and_left, and_right, or_else}
use Rattle.laws.specs.RowTests.{at_rows}
use Rattle.grounds.specs.Viable.{Info, Good, StepGood, none, nil?, top_or, word, heads, under, step_good, every_member}
use Rattle.grounds.proofs.ViableGrammar.{rows_good, start_good}
use Rattle.grounds.specs.FrameTables.{info, infos}
use Rattle.grounds.specs.Place.{by_class, step_class}
use Rattle.grounds.proofs.PlaceGrammar.{class_of, every_at}
use Rattle.grounds.proofs.Closed.{end_class?, StepEnds, step_ends}
use Rattle.promises.proofs.Scanned.{Scanned, Inner, Last, last?}

-- ---- what stands under a frame

-- under a frame that may be empty something stands; no completing word begins with the class that is none
unfoldable stands? : Info → Bool
stands? i = pick (nil? i.word) (not (among none i.heads)) (not (eqb (top_or i.word 0) none))

all_stand : T (every stands? infos)
unfolding stands? info infos all_Bytes
all_stand = tt

stand : (w hs : List ℕ) (h : ℕ) → T (stands? (record { word = w; heads = hs })) → T (among h hs) → top_or w h ≡ none → ⊥
unfolding stands?
stand [] hs h t m e = T_not (among none hs) t (subst (λ (z : ℕ). T (among z hs)) e m)
stand (c ∷ cs) hs h t m e = T_not (eqb c none) t (subst (λ (z : ℕ). T (eqb z none)) (sym e) tt)

-- a stack over which nothing may come is empty
nothing_under : (fs : List ℕ) → Good infos fs none → under infos fs none ≡ none → fs ≡ []
unfolding under stands? among
nothing_under [] g e = refl
nothing_under (f ∷ fs) g e = absurd (stand (word infos f) (heads infos f) (under infos fs none) (every_at stands? infos f tt all_stand) g.0 e)

-- ---- an end empties the stack

-- no row takes what fits nowhere; a row for an end wants nothing, and stands in a frame under which nothing comes
unfoldable row_empties : Row Gives → Bool
row_empties r = not (eqb r.class unfit) && (not (end_class? r.class) || (nil? r.wants && every (λ h. eqb h none) (heads infos r.frame)))

rows_empty : T (every row_empties grammar)
unfolding row_empties end_class? info infos all_Bytes all_Grammar all_Machine
rows_empty = tt

-- the same of what a frame does
record TakeEmpties (f c : ℕ) (p : List ℕ) : Type 0 where
  pub fits : T (not (eqb c unfit))
  pub wants : T (end_class? c) → p ≡ []
  pub last : T (end_class? c) → T (every (λ h. eqb h none) (heads infos f))

abbrev ActEmpties : ℕ → ℕ → Act Gives → Type 0
ActEmpties f c (take e p) = TakeEmpties f c p
ActEmpties f c leave = T (among f may_be_empty)
ActEmpties f c (refuse k) = Unit {0}

nil_is : (p : List ℕ) → T (nil? p) → p ≡ []
nil_is [] t = refl
nil_is (x ∷ p) t = absurd t

empties : (r : Row Gives) → T (row_empties r) → TakeEmpties r.frame r.class r.wants
unfolding row_empties
empties r t =
    let u = and_right (not (eqb r.class unfit)) _ t in
    let both : T (end_class? r.class) → T (nil? r.wants && every (λ h. eqb h none) (heads infos r.frame)) = (λ h. or_else (not (end_class? r.class)) (nil? r.wants && every (λ h. eqb h none) (heads infos r.frame)) u (λ n. absurd (T_not (end_class? r.class) n h)) (λ w. w)) in
    record {
      fits = and_left (not (eqb r.class unfit)) _ t;
      wants = (λ h. nil_is r.wants (and_left (nil? r.wants) _ (both h)));
      last = (λ h. and_right (nil? r.wants) _ (both h));
    }

look_empties : (f c : ℕ) → ActEmpties f c (look f c)
unfolding look
look_empties f c = at_rows ActEmpties row_empties may_be_empty empties (λ f c h. h) (λ f c. tt) grammar f c rows_empty

-- ---- a frame that may be empty is never the last

unfoldable not_last? : ℕ → Bool
not_last? f = not (among none (heads infos f))

none_last : T (every not_last? may_be_empty)
unfolding not_last? info infos all_Bytes all_Grammar
none_last = tt

-- an end taken leaves nothing; a stack that every frame leaves is empty
abbrev StepEmpties : List ℕ → ℕ → Step Gives → Type 0
StepEmpties s c (took e z) = T (not (eqb c unfit)) × (T (end_class? c) → z ≡ [])
StepEmpties s c over = s ≡ []
StepEmpties s c (refused k) = Unit {0}

only_none : (l : List ℕ) (h : ℕ) → T (every (λ z. eqb z none) l) → T (among h l) → h ≡ none
only_none l h t m = eqb→eq h none (every_member (λ z. eqb z none) l h t m)

last_stays : (f : ℕ) (fs : List ℕ) → T (among f may_be_empty) → T (among (under infos fs none) (heads infos f)) → fs ≡ [] → ⊥
unfolding under not_last?
last_stays f fs k m e =
    T_not (among none (heads infos f)) (every_member not_last? may_be_empty f none_last k) (subst (λ (z : List ℕ). T (among (under infos z none) (heads infos f))) e m)

act_empties : (f c : ℕ) (fs : List ℕ) (a : Act Gives) (r : Step Gives) → ActEmpties f c a → Good infos (f ∷ fs) none → StepEmpties fs c r → StepEmpties (f ∷ fs) c (step_act a fs r)
unfolding step_act
act_empties f c fs (take e p) r k g o = (k.fits, (λ h. ap (λ (z : List ℕ). z ++ fs) (k.wants h) ∙ nothing_under fs g.1 (only_none (heads infos f) (under infos fs none) (k.last h) g.0)))
act_empties f c fs leave (took e z) k g o = o
act_empties f c fs leave over k g o = absurd (last_stays f fs k g.0 o)
act_empties f c fs leave (refused k) n g o = tt
act_empties f c fs (refuse n) r k g o = tt

step_empties : (s : List ℕ) (c : ℕ) → Good infos s none → StepEmpties s c (step look s c)
unfolding step
step_empties [] c g = refl
step_empties (f ∷ fs) c g = act_empties f c fs (look f c) (step look fs c) (look_empties f c) g (step_empties fs c g.1)

-- ---- a run over the items of a text

-- all items taken and nothing wanted, or an item refused
abbrev pub Settled : Run Gives Item → Type 0
Settled (left ts []) = Unit {0}
Settled (left ts (f ∷ s)) = ⊥
Settled (done ts r) = ⊥
Settled (bad k ts []) = ⊥
Settled (bad k ts (i ∷ r)) = Unit {0}

settled_and : (t : Taken Gives Item) (r : Run Gives Item) → Settled r → Settled (and_taken t r)
unfolding and_taken
settled_and t (left ts []) s = s
settled_and t (left ts (f ∷ z)) s = s
settled_and t (done ts r) s = s
settled_and t (bad k ts []) s = s
settled_and t (bad k ts (i ∷ r)) s = s

-- what a step from a good stack says
record Stepped (s : List ℕ) (c : ℕ) (x : Step Gives) : Type 0 where
  pub empties : StepEmpties s c x
  pub ends : StepEnds c x
  pub good : StepGood infos none x

stepped : (s : List ℕ) (i : Item) → Good infos s none → Stepped s (class i.token) (step look_item s i)
unfolding look_item by_class class_of
stepped s i g =
    let c : ℕ = class i.token in
    subst (Stepped s c) (sym (step_class look class_of s i)) (record { empties = step_empties s c g; ends = step_ends s c g; good = step_good infos look rows_good none s c g })

last_end : (c : ℕ) → T (last? c) → T (not (eqb c unfit)) → T (end_class? c)
unfolding last?
last_end c l n = or_else (end_class? c) (eqb c unfit) l (λ h. h) (λ h. absurd (T_not (eqb c unfit) n h))

no_cons : (f : ℕ) (s : List ℕ) → f ∷ s ≡ [] → ⊥
no_cons f s e = let z : ◌≡◌ {A = ℕ} 0 1 = cc in omega arith

last_settled : (f : ℕ) (s : List ℕ) (i : Item) → Last i → (x : Step Gives) → Stepped (f ∷ s) (class i.token) x → Settled (go_on look_item x i [] (λ z. read look_item z []))
unfolding go_on read and_taken
last_settled f s i l (took e z) h =
    subst (λ (y : List ℕ). Settled (left (record { gave = e; from = i } ∷ []) y)) (sym (h.empties.1 (last_end (class i.token) l.is_last h.empties.0))) tt
last_settled f s i l over h = let e = h.empties in no_cons f s e
last_settled f s i l (refused k) h = tt

inner_settled : (f : ℕ) (s : List ℕ) (i : Item) (is : List Item) → Inner i → ((f : ℕ) (s : List ℕ) → Good infos (f ∷ s) none → Settled (read look_item (f ∷ s) is)) → (x : Step Gives) → Stepped (f ∷ s) (class i.token) x
    → Settled (go_on look_item x i is (λ z. read look_item z is))
unfolding go_on
inner_settled f s i is n ih (took e []) h = absurd (T_not (end_class? (class i.token)) n.token.no_end h.ends)
inner_settled f s i is n ih (took e (g ∷ z)) h = settled_and _ (read look_item (g ∷ z) is) (ih g z h.good)
inner_settled f s i is n ih over h = let e = h.empties in no_cons f s e
inner_settled f s i is n ih (refused k) h = tt

settled_from : (is : List Item) → Scanned is → (f : ℕ) (s : List ℕ) → Good infos (f ∷ s) none → Settled (read look_item (f ∷ s) is)
unfolding read
settled_from [] n f s g = absurd n
settled_from (i ∷ []) n f s g = last_settled f s i n (step look_item (f ∷ s) i) (stepped (f ∷ s) i g)
settled_from (i ∷ j ∷ is) n f s g = inner_settled f s i (j ∷ is) n.0 (λ h z k. settled_from (j ∷ is) n.1 h z k) (step look_item (f ∷ s) i) (stepped (f ∷ s) i g)

-- a run over the items of a text, from the start
pub settled : (is : List Item) → Scanned is → Settled (read look_item start is)
unfolding start
settled is n = settled_from is n _ [] start_good
