-- The stacks of frames that stand while a statement is read, and what they do with an item.
use Rattle.std.specs.Prelude.{ℕ, ◌≤◌, ◌<◌, ◌≡◌, refl, Bool, true, false, not, ◌&&◌, List, [], ◌∷◌, ◌++◌, T, eqb, leb, ltb}
use Rattle.std.proofs.Common.{arith, subst, sym, ap, ◌∙◌, append-nil, eqb→eq, eq-eqb, ne_eqb, leb-true, le-leb, lt-ltb}
use Rattle.std.proofs.lemmas.Bool.{lt-leb}
use Rattle.paper.specs.Bytes.{pick, same, every, among}
use Rattle.paper.specs.Classes.{line_end, colon, then_word, remark}
use Rattle.paper.specs.Frames.{want_statement, want_after_then, want_end, want_raw_text, want_raw_end, want_let_target, want_then}
use Rattle.paper.specs.Tokens.{out_of_range?, class}
use Rattle.paper.specs.Items.{Item}
use Rattle.paper.specs.Machine.{Act, take, leave, refuse, took, over, refused, step_act, step}
use Rattle.paper.specs.Grammar.{Gives, itself, for_strings, as_prefix, put, grammar, may_be_empty, look, look_item, if_in_range, look_in_range}
use Rattle.paper.specs.Open.{all_Bytes, all_Machine, all_Grammar}
use Rattle.laws.specs.Tests.{and_left, and_right, and_both, is_true, or_else}
use Rattle.laws.specs.Names.{same_eq}
use Rattle.enter_item.specs.TookLaws.{sign?, sign}
use Rattle.laws.specs.RowTests.{at_rows}

-- ---- the tests

-- a frame within a statement: what stands below it comes after it
unfoldable pub inner? : ℕ → Bool
inner? f = not (among f (want_statement ∷ want_after_then ∷ want_end ∷ want_raw_text ∷ want_raw_end ∷ want_let_target ∷ want_then ∷ []))

-- a frame with which a statement ends, alone
unfoldable pub final? : ℕ → Bool
final? f = among f (want_end ∷ want_let_target ∷ [])

-- a stack that ends a statement: inner frames, and then a final one or THEN and what comes after it
unfoldable pub good? : List ℕ → Bool
good? [] = false
good? (f ∷ fs) = pick (inner? f) (good? fs) (pick (final? f) (same fs []) (eqb f want_then && same fs (want_after_then ∷ [])))

-- the item's own token is given
unfoldable pub own? : Gives → Bool
own? itself = true
own? for_strings = false
own? as_prefix = false
own? (put k) = false

-- a class within a statement, and what may be given for it: constants, strings and variables give their own tokens
unfoldable pub fine? : ℕ → Gives → Bool
fine? c e = pick (leb 3 c && leb c 7) (own? e) (sign? c)

-- what is left of a stack after it took an item: after a colon a statement is wanted, after the end nothing, after THEN what comes after it
unfoldable pub stepped? : ℕ → Gives → List ℕ → Bool
stepped? c e gs =
    pick (eqb c colon) (own? e && same gs (want_statement ∷ []))
    (pick (eqb c line_end) (own? e && same gs [])
    (pick (eqb c then_word) (own? e && same gs (want_after_then ∷ [])) (fine? c e && good? gs)))

-- ---- the one test of the grammar's rows

-- an item that an inner frame takes
unfoldable within? : ℕ → Gives → List ℕ → Bool
within? c e ws = not (eqb c colon) && (not (eqb c line_end) && (not (eqb c then_word) && (fine? c e && every inner? ws)))

-- a class that begins a statement: a variable's in statement position, or a statement word's
unfoldable starts? : ℕ → Bool
starts? c = pick (ltb c remark) (leb 8 c && leb c 10) true

-- a statement's first item, and what follows it: raw text after REM and DATA, a good stack after all others
unfoldable begins? : ℕ → Gives → List ℕ → Bool
begins? c e ws = own? e && (starts? c && pick (eqb c remark) (same ws (want_raw_text ∷ want_raw_end ∷ [])) (good? ws))

unfoldable fits? : ℕ → ℕ → Gives → List ℕ → Bool
fits? f c e ws = pick (inner? f) (within? c e ws) (pick (final? f) (stepped? c e ws) (pick (eqb f want_then) (stepped? c e (ws ++ want_after_then ∷ [])) (pick (eqb f want_statement) (begins? c e ws) true)))

all_fit : T (every (λ r. fits? r.frame r.class r.gives r.wants) grammar)
unfolding all_Bytes all_Machine all_Grammar fits? begins? starts? within? stepped? fine? own? good? final? inner?
all_fit = tt

all_inner : T (every inner? may_be_empty)
unfolding all_Bytes all_Grammar inner?
all_inner = tt

-- ---- what a frame does

unfoldable Does : ℕ → ℕ → Act Gives → Type 0
Does f c (take e ws) = T (fits? f c e ws)
Does f c leave = T (inner? f)
Does f c (refuse k) = k ≡ 4

inner_among : (f : ℕ) (l : List ℕ) → T (every inner? l) → T (among f l) → T (inner? f)
unfolding every among
inner_among f [] t h = absurd h
inner_among f (y ∷ ys) t h =
    or_else (eqb f y) (among f ys) h
    (λ b. subst (λ (x : ℕ). T (inner? x)) (sym (eqb→eq f y b)) (and_left (inner? y) (every inner? ys) t))
    (λ b. inner_among f ys (and_right (inner? y) (every inner? ys) t) b)

does : (f c : ℕ) → Does f c (look f c)
unfolding look Does
does f c =
    at_rows Does (λ r. fits? r.frame r.class r.gives r.wants) may_be_empty (λ r t. t) (λ g d t. inner_among g may_be_empty all_inner t) (λ g d. refl) grammar f c all_fit

-- ---- good stacks

-- inner frames upon a good stack
good_over : (ws fs : List ℕ) → T (every inner? ws) → T (good? fs) → T (good? (ws ++ fs))
unfolding every good?
good_over [] fs t g = g
good_over (w ∷ ws) fs t g = go (inner? w) t (λ h. good_over ws fs h g)
  where
    go : (b : Bool) → T (b && every inner? ws) → (T (every inner? ws) → T (good? (ws ++ fs))) → T (pick b (good? (ws ++ fs)) (pick (final? w) (same (ws ++ fs) []) (eqb w want_then && same (ws ++ fs) (want_after_then ∷ []))))
    go true h more = more h
    go false h more = absurd h

-- what stands below an inner frame
pub good_below : (f : ℕ) (fs : List ℕ) → T (inner? f) → T (good? (f ∷ fs)) → T (good? fs)
unfolding good?
good_below f fs = go (inner? f)
  where
    go : (b : Bool) → T b → T (pick b (good? fs) (pick (final? f) (same fs []) (eqb f want_then && same fs (want_after_then ∷ [])))) → T (good? fs)
    go true i g = g
    go false i g = absurd i

within_stepped : (c : ℕ) (e : Gives) (ws fs : List ℕ) → T (within? c e ws) → T (good? fs) → T (stepped? c e (ws ++ fs))
unfolding within? stepped?
within_stepped c e ws fs t g = go (eqb c colon) (eqb c line_end) (eqb c then_word) t
  where
    go : (x y z : Bool) → T (not x && (not y && (not z && (fine? c e && every inner? ws))))
        → T (pick x (own? e && same (ws ++ fs) (want_statement ∷ [])) (pick y (own? e && same (ws ++ fs) []) (pick z (own? e && same (ws ++ fs) (want_after_then ∷ [])) (fine? c e && good? (ws ++ fs)))))
    go false false false h = and_both (fine? c e) (good? (ws ++ fs)) (and_left (fine? c e) (every inner? ws) h) (good_over ws fs (and_right (fine? c e) (every inner? ws) h) g)
    go false false true h = absurd h
    go false true z h = absurd h
    go true y z h = absurd h

-- the top frame of a good stack takes an item
top_takes : (f c : ℕ) (e : Gives) (ws fs : List ℕ) → T (fits? f c e ws) → T (good? (f ∷ fs)) → T (stepped? c e (ws ++ fs))
unfolding fits? good?
top_takes f c e ws fs = go (inner? f) (final? f) (eqb f want_then)
  where
    go : (i z w : Bool) → T (pick i (within? c e ws) (pick z (stepped? c e ws) (pick w (stepped? c e (ws ++ want_after_then ∷ [])) (pick (eqb f want_statement) (begins? c e ws) true))))
        → T (pick i (good? fs) (pick z (same fs []) (w && same fs (want_after_then ∷ [])))) → T (stepped? c e (ws ++ fs))
    go true z w p g = within_stepped c e ws fs p g
    go false true w p g =
        subst (λ (l : List ℕ). T (stepped? c e (ws ++ l))) (sym (same_eq fs [] (is_true (same fs []) g))) (subst (λ (l : List ℕ). T (stepped? c e l)) (sym (append-nil ws)) p)
    go false false true p g =
        subst (λ (l : List ℕ). T (stepped? c e (ws ++ l))) (sym (same_eq fs (want_after_then ∷ []) (is_true (same fs (want_after_then ∷ [])) g))) p
    go false false false p g = absurd g

-- a good stack takes an item, and is then as the test says
pub stepped : (fs : List ℕ) (c : ℕ) (e : Gives) (gs : List ℕ) → T (good? fs) → step look fs c ≡ took e gs → T (stepped? c e gs)
unfolding step step_act good? Does
stepped [] c e gs g h = absurd g
stepped (f ∷ fs) c e gs g h = go (look f c) (does f c) h (λ x k. stepped fs c e gs x k)
  where
    go : (a : Act Gives) → Does f c a → step_act a fs (step look fs c) ≡ took e gs → (T (good? fs) → step look fs c ≡ took e gs → T (stepped? c e gs)) → T (stepped? c e gs)
    go (take d ws) p k below =
        let x : d ≡ e = cc in
        let y : ws ++ fs ≡ gs = cc in
        subst (λ (l : List ℕ). T (stepped? c e l)) y (subst (λ (z : Gives). T (stepped? c z (ws ++ fs))) x (top_takes f c d ws fs p g))
    go leave p k below = below (good_below f fs p g) k
    go (refuse n) p k below = let z : ◌≡◌ {A = ℕ} 0 1 = cc in absurd (omega arith)

-- or refuses it with 4
pub not_taken : (fs : List ℕ) (c : ℕ) → T (good? fs) → ((e : Gives) (gs : List ℕ) → step look fs c ≡ took e gs → ⊥) → step look fs c ≡ refused 4
unfolding step step_act good? Does
not_taken [] c g h = absurd g
not_taken (f ∷ fs) c g h = go (look f c) (does f c) h (λ x k. not_taken fs c x k)
  where
    go : (a : Act Gives) → Does f c a → ((e : Gives) (gs : List ℕ) → step_act a fs (step look fs c) ≡ took e gs → ⊥)
        → (T (good? fs) → ((e : Gives) (gs : List ℕ) → step look fs c ≡ took e gs → ⊥) → step look fs c ≡ refused 4) → step_act a fs (step look fs c) ≡ refused 4
    go (take d ws) p k below = absurd (k d (ws ++ fs) refl)
    go leave p k below = below (good_below f fs p g) k
    go (refuse n) p k below = ap refused p

-- ---- what the tests say

own : (e : Gives) → T (own? e) → e ≡ itself
unfolding own?
own itself t = refl
own for_strings t = absurd t
own as_prefix t = absurd t
own (put k) t = absurd t

left_is : (e : Gives) (gs hs : List ℕ) → T (own? e && same gs hs) → (e ≡ itself) × (gs ≡ hs)
left_is e gs hs t = (own e (and_left (own? e) (same gs hs) t), same_eq gs hs (is_true (same gs hs) (and_right (own? e) (same gs hs) t)))

pub at_colon : (e : Gives) (gs : List ℕ) → T (stepped? colon e gs) → (e ≡ itself) × (gs ≡ want_statement ∷ [])
unfolding stepped?
at_colon e gs t = left_is e gs (want_statement ∷ []) t

pub at_end : (e : Gives) (gs : List ℕ) → T (stepped? line_end e gs) → (e ≡ itself) × (gs ≡ [])
unfolding stepped?
at_end e gs t = left_is e gs [] t

pub at_then : (e : Gives) (gs : List ℕ) → T (stepped? then_word e gs) → (e ≡ itself) × (gs ≡ want_after_then ∷ [])
unfolding stepped?
at_then e gs t = left_is e gs (want_after_then ∷ []) t

pub at_other : (c : ℕ) (e : Gives) (gs : List ℕ) → (c ≡ colon → ⊥) → (c ≡ line_end → ⊥) → (c ≡ then_word → ⊥) → T (stepped? c e gs) → T (fine? c e) × T (good? gs)
unfolding stepped?
at_other c e gs x y z t = let k : T (fine? c e && good? gs) = rw (ne_eqb c colon x, ne_eqb c line_end y, ne_eqb c then_word z) at t in (and_left (fine? c e) (good? gs) k, and_right (fine? c e) (good? gs) k)

-- a constant, a string or a variable
pub fine_own : (c : ℕ) (e : Gives) → T (fine? c e) → c ≤ 7 → (3 ≤ c) × (e ≡ itself)
unfolding fine?
fine_own c e t h = go (leb 3 c) refl t
  where
    go : (b : Bool) → leb 3 c ≡ b → T (pick (b && leb c 7) (own? e) (sign? c)) → (3 ≤ c) × (e ≡ itself)
    go true k x = (leb-true 3 c k, own e (rw (le-leb c 7 h) at x))
    go false k x = let z = sign c (is_true (sign? c) x) in absurd (omega (arith, z.low))

-- a symbol or a word
pub fine_sign : (c : ℕ) (e : Gives) → T (fine? c e) → 7 < c → sign? c ≡ true
unfolding fine?
fine_sign c e t h = is_true (sign? c) (rw (le-leb 3 c (omega arith), lt-leb c 7 h) at t)

-- ---- a statement's first item

pub record Begins (c : ℕ) (e : Gives) (ws : List ℕ) : Type 0 where
  pub own : e ≡ itself
  pub starts : c < remark → (8 ≤ c) × (c ≤ 10)
  pub raw : c ≡ remark → ws ≡ want_raw_text ∷ want_raw_end ∷ []
  pub good : (c ≡ remark → ⊥) → T (good? ws)

begins_so : (c : ℕ) (e : Gives) (ws : List ℕ) → T (begins? c e ws) → Begins c e ws
unfolding begins? starts?
begins_so c e ws t =
    let rest : Bool = pick (eqb c remark) (same ws (want_raw_text ∷ want_raw_end ∷ [])) (good? ws) in
    let k : T (starts? c && rest) = and_right (own? e) (starts? c && rest) t in
    let r : T rest = and_right (starts? c) rest k in
    record {
      own = own e (and_left (own? e) (starts? c && rest) t);
      starts = λ h.
          let n : T (leb 8 c && leb c 10) = rw (lt-ltb c remark h) at (and_left (starts? c) rest k) in
          (leb-true 8 c (is_true (leb 8 c) (and_left (leb 8 c) (leb c 10) n)), leb-true c 10 (is_true (leb c 10) (and_right (leb 8 c) (leb c 10) n)));
      raw = λ h. same_eq ws (want_raw_text ∷ want_raw_end ∷ []) (is_true (same ws (want_raw_text ∷ want_raw_end ∷ [])) (rw (eq-eqb c remark h) at r));
      good = λ h. rw (ne_eqb c remark h) at r;
    }

no_step : {A : Type 0} {e : Gives} {gs : List ℕ} → over ≡ took e gs → A
no_step h = let z : ◌≡◌ {A = ℕ} 0 1 = cc in absurd (omega arith)

-- one that begins a statement
pub begins_with : (c : ℕ) (e : Gives) (gs : List ℕ) → step look (want_statement ∷ []) c ≡ took e gs → (look want_statement c ≡ take e gs) × Begins c e gs
unfolding step step_act Does fits? inner? final? among
begins_with c e gs h = go (look want_statement c) (does want_statement c) h
  where
    go : (a : Act Gives) → Does want_statement c a → step_act a [] over ≡ took e gs → (a ≡ take e gs) × Begins c e gs
    go (take d ws) p k =
        let x : d ≡ e = cc in
        let y : ws ++ [] ≡ gs = cc in
        let z : ws ≡ gs = sym (append-nil ws) ∙ y in
        (ap (λ (w : Gives). take w ws) x ∙ ap (take e) z, begins_so c e gs (subst (λ (l : List ℕ). T (begins? c e l)) z (subst (λ (w : Gives). T (begins? c w ws)) x p)))
    go leave p k = no_step k
    go (refuse n) p k = let z : ◌≡◌ {A = ℕ} 0 1 = cc in absurd (omega arith)

-- one that does not
pub begins_not : (c : ℕ) → ((e : Gives) (gs : List ℕ) → step look (want_statement ∷ []) c ≡ took e gs → ⊥) → step look (want_statement ∷ []) c ≡ refused 4
unfolding step step_act Does inner? among
begins_not c h = go (look want_statement c) (does want_statement c) h
  where
    go : (a : Act Gives) → Does want_statement c a → ((e : Gives) (gs : List ℕ) → step_act a [] over ≡ took e gs → ⊥) → step_act a [] over ≡ refused 4
    go (take d ws) p k = absurd (k d (ws ++ []) refl)
    go leave p k = absurd p
    go (refuse n) p k = ap refused p

-- ---- from classes to items

-- an item in range
pub step_near : (fs : List ℕ) (i : Item) → out_of_range? i.token ≡ false → step look_in_range fs i ≡ step look fs (class i.token)
unfolding step look_in_range look_item if_in_range
step_near [] i h = refl
step_near (f ∷ fs) i h = rw (h, step_near fs i h)

-- one out of range that would be taken
pub step_far : (fs : List ℕ) (i : Item) (e : Gives) (gs : List ℕ) → out_of_range? i.token ≡ true → step look fs (class i.token) ≡ took e gs → step look_in_range fs i ≡ refused 5
unfolding step step_act look_in_range look_item if_in_range
step_far [] i e gs h k = let z : ◌≡◌ {A = ℕ} 0 1 = cc in absurd (omega arith)
step_far (f ∷ fs) i e gs h k = rw h (go (look f (class i.token)) k (λ x. step_far fs i e gs h x))
  where
    go : (a : Act Gives) → step_act a fs (step look fs (class i.token)) ≡ took e gs → (step look fs (class i.token) ≡ took e gs → step look_in_range fs i ≡ refused 5) → step_act (if_in_range false a) fs (step look_in_range fs i) ≡ refused 5
    go (take d ws) x below = refl
    go leave x below = below x
    go (refuse n) x below = let z : ◌≡◌ {A = ℕ} 0 1 = cc in absurd (omega arith)

-- one that is refused, whether it is in range or not
pub step_refused : (fs : List ℕ) (i : Item) (k : ℕ) → step look fs (class i.token) ≡ refused k → step look_in_range fs i ≡ refused k
unfolding step step_act look_in_range look_item if_in_range
step_refused [] i k h = let z : ◌≡◌ {A = ℕ} 0 1 = cc in absurd (omega arith)
step_refused (f ∷ fs) i k h = go (not (out_of_range? i.token)) (look f (class i.token)) h (λ x. step_refused fs i k x)
  where
    go : (b : Bool) (a : Act Gives) → step_act a fs (step look fs (class i.token)) ≡ refused k → (step look fs (class i.token) ≡ refused k → step look_in_range fs i ≡ refused k) → step_act (if_in_range b a) fs (step look_in_range fs i) ≡ refused k
    go b (take d ws) x below = let z : ◌≡◌ {A = ℕ} 0 1 = cc in absurd (omega arith)
    go true leave x below = below x
    go false leave x below = below x
    go true (refuse n) x below = x
    go false (refuse n) x below = x
