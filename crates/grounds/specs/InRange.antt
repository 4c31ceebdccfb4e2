-- The two readings of items: by the grammar alone (`look_item`), and with constants that are out of range refused (`look_in_range`).
-- They are the same run up to the first out-of-range constant that the grammar takes.
use Rattle.std.specs.Prelude.{ℕ, ◌≡◌, refl, Bool, true, false, not, List, [], ◌∷◌, ◌++◌, T}
use Rattle.std.proofs.Common.{subst, sym, ap}
use Rattle.paper.specs.Bytes.{every}
use Rattle.paper.specs.Tokens.{out_of_range?, class}
use Rattle.paper.specs.Items.{Item}
use Rattle.paper.specs.Machine.{Act, take, leave, refuse, Row, Step, took, over, refused, step_act, Taken, Run, left, done, bad, and_taken, step, go_on, read}
use Rattle.paper.specs.Grammar.{Gives, grammar, may_be_empty, look, look_item, if_in_range, look_in_range}
use Rattle.laws.specs.RowTests.{at_rows}
use Rattle.grounds.specs.Place.{sources, Stop, more}

-- an item that is out of range
unfoldable pub out? : Item → Bool
out? i = out_of_range? i.token

-- none of the items taken is out of range
abbrev pub NoneOut : List (Taken Gives Item) → Type 0
NoneOut [] = Unit {0}
NoneOut (t ∷ ts) = (out? t.from ≡ false) × NoneOut ts

-- the items that a run took
unfoldable pub taken_by : Run Gives Item → List (Taken Gives Item)
taken_by (left ts s) = ts
taken_by (done ts r) = ts
taken_by (bad k ts r) = ts

-- ---- one step

-- a step by the grammar, if the item is in range; one that would take it refuses it with 5 if it is not
unfoldable step_in_range : Bool → Step Gives → Step Gives
step_in_range true x = x
step_in_range false (took e s) = refused 5
step_in_range false over = over
step_in_range false (refused k) = refused k

act_in_range : (b : Bool) (a : Act Gives) (fs : List ℕ) (r r' : Step Gives) → r' ≡ step_in_range b r → step_act (if_in_range b a) fs r' ≡ step_in_range b (step_act a fs r)
unfolding step_act if_in_range step_in_range
act_in_range true (take e ws) fs r r' h = refl
act_in_range true leave fs r r' h = h
act_in_range true (refuse k) fs r r' h = refl
act_in_range false (take e ws) fs r r' h = refl
act_in_range false leave fs r r' h = h
act_in_range false (refuse k) fs r r' h = refl

step_is : (s : List ℕ) (i : Item) → step look_in_range s i ≡ step_in_range (not (out? i)) (step look_item s i)
unfolding step look_in_range out? step_in_range
step_is [] i = over_is (not (out? i))
  where
    over_is : (b : Bool) → over ≡ step_in_range b over
    over_is true = refl
    over_is false = refl
step_is (f ∷ fs) i = act_in_range (not (out? i)) (look_item f i) fs (step look_item fs i) (step look_in_range fs i) (step_is fs i)

-- ---- what the reading in range says of the grammar's

-- the grammar refuses with no other number than 4
abbrev Four : Act Gives → Type 0
Four (take e ws) = Unit {0}
Four leave = Unit {0}
Four (refuse k) = k ≡ 4

any_row : (rows : List (Row Gives)) → T (every (λ r. true) rows)
unfolding every
any_row [] = tt
any_row (r ∷ rs) = any_row rs

look_four : (f : ℕ) (i : Item) → Four (look_item f i)
unfolding look_item look
look_four f i = at_rows (λ f c a. Four a) (λ r. true) may_be_empty (λ r t. tt) (λ f c h. tt) (λ f c. refl) grammar f (class i.token) (any_row grammar)

abbrev StepFour : Step Gives → Type 0
StepFour (took e s) = Unit {0}
StepFour over = Unit {0}
StepFour (refused k) = k ≡ 4

act_four : (a : Act Gives) (fs : List ℕ) (r : Step Gives) → Four a → StepFour r → StepFour (step_act a fs r)
unfolding step_act
act_four (take e ws) fs r h k = tt
act_four leave fs r h k = k
act_four (refuse n) fs r h k = h

step_four : (s : List ℕ) (i : Item) → StepFour (step look_item s i)
unfolding step
step_four [] i = tt
step_four (f ∷ fs) i = act_four (look_item f i) fs (step look_item fs i) (look_four f i) (step_four fs i)

-- A refusal of the reading in range, after the items of ts: the grammar's, with 4; or with 5, of an item out of range that the grammar takes
pub data Refused (s : List ℕ) (is : List Item) : ℕ → List (Taken Gives Item) → List Item → Type 0 where
  by_grammar : (ts : List (Taken Gives Item)) (r : List Item) → read look_item s is ≡ bad 4 ts r → Refused s is 4 ts r
  by_range : (ts : List (Taken Gives Item)) (i : Item) (r : List Item) (e : Gives) (next : List ℕ) → is ≡ sources ts ++ i ∷ r → out? i ≡ true → Stop look_item s ts i (took e next)
      → Refused s is 5 ts (i ∷ r)

-- what the reading in range says of the grammar's; and no item that it took is out of range
abbrev pub Agrees : List ℕ → List Item → Run Gives Item → Type 0
Agrees s is (left ts z) = (read look_item s is ≡ left ts z) × NoneOut ts
Agrees s is (done ts r) = (read look_item s is ≡ done ts r) × NoneOut ts
Agrees s is (bad k ts r) = Refused s is k ts r × NoneOut ts

refused_more : (s s' : List ℕ) (e : Gives) (i : Item) (is : List Item) → step look_item s i ≡ took e s' → (k : ℕ) (ts : List (Taken Gives Item)) (r : List Item) → Refused s' is k ts r
    → Refused s (i ∷ is) k (record { gave = e; from = i } ∷ ts) r
unfolding read go_on and_taken sources
refused_more s s' e i is h k ts r (by_grammar us q x) = by_grammar (record { gave = e; from = i } ∷ us) q (rw (h, x))
refused_more s s' e i is h k ts r (by_range us j q d next x o stop) =
    by_range _ j q d next (ap (λ (l : List Item). i ∷ l) x) o (more look_item s s' e i j us (took d next) h stop)

agrees_more : (s s' : List ℕ) (e : Gives) (i : Item) (is : List Item) → step look_item s i ≡ took e s' → out? i ≡ false → (r : Run Gives Item) → Agrees s' is r
    → Agrees s (i ∷ is) (and_taken (record { gave = e; from = i }) r)
unfolding read go_on and_taken
agrees_more s s' e i is h o (left ts z) a = (rw (h, a.0), (o, a.1))
agrees_more s s' e i is h o (done ts r) a = (rw (h, a.0), (o, a.1))
agrees_more s s' e i is h o (bad k ts r) a = (refused_more s s' e i is h k ts r a.0, (o, a.1))

agrees_go : (s : List ℕ) (i : Item) (is : List Item) → ((z : List ℕ) → Agrees z is (read look_in_range z is)) → (b : Bool) → out? i ≡ b → (x : Step Gives) → step look_item s i ≡ x → StepFour x
    → Agrees s (i ∷ is) (go_on look_in_range (step_in_range (not b) x) i is (λ z. read look_in_range z is))
unfolding go_on step_in_range read sources
agrees_go s i is ih false o (took e z) h f = agrees_more s z e i is h o (read look_in_range z is) (ih z)
agrees_go s i is ih true o (took e z) h f = (by_range [] i is e z refl o (record { now = s; ran = refl; does = h }), tt)
agrees_go s i is ih false o over h f = (rw (h), tt)
agrees_go s i is ih true o over h f = (rw (h), tt)
agrees_go s i is ih false o (refused k) h f = (subst (λ (n : ℕ). Refused s (i ∷ is) n [] (i ∷ is)) (sym f) (by_grammar [] (i ∷ is) (rw (h, f))), tt)
agrees_go s i is ih true o (refused k) h f = (subst (λ (n : ℕ). Refused s (i ∷ is) n [] (i ∷ is)) (sym f) (by_grammar [] (i ∷ is) (rw (h, f))), tt)

-- the law between the two readings
pub agrees : (s : List ℕ) (is : List Item) → Agrees s is (read look_in_range s is)
unfolding read
agrees s [] = (refl, tt)
agrees s (i ∷ is) =
    rw (step_is s i) (agrees_go s i is (λ z. agrees z is) (out? i) refl (step look_item s i) refl (step_four s i))

-- ---- and back

taken_and : (t : Taken Gives Item) (r : Run Gives Item) → taken_by (and_taken t r) ≡ t ∷ taken_by r
unfolding taken_by and_taken
taken_and t (left ts s) = refl
taken_and t (done ts r) = refl
taken_and t (bad k ts r) = refl

same_go : (i : Item) (is : List Item) → ((z : List ℕ) → NoneOut (taken_by (read look_item z is)) → read look_in_range z is ≡ read look_item z is) → (b : Bool) → out? i ≡ b → (x : Step Gives)
    → NoneOut (taken_by (go_on look_item x i is (λ z. read look_item z is))) → go_on look_in_range (step_in_range (not b) x) i is (λ z. read look_in_range z is) ≡ go_on look_item x i is (λ z. read look_item z is)
unfolding go_on step_in_range
same_go i is ih false o (took e z) n = ap (and_taken (record { gave = e; from = i })) (ih z (rw (taken_and (record { gave = e; from = i }) (read look_item z is)) at n).1)
same_go i is ih true o (took e z) n = let a : NoneOut (record { gave = e; from = i } ∷ taken_by (read look_item z is)) = rw (taken_and (record { gave = e; from = i }) (read look_item z is)) at n in let f = a.0 in let z : ◌≡◌ {A = Bool} true false = cc in cc
same_go i is ih false o over n = refl
same_go i is ih true o over n = refl
same_go i is ih false o (refused k) n = refl
same_go i is ih true o (refused k) n = refl

-- if the grammar takes no item that is out of range, the two runs are the same
pub same_in_range : (s : List ℕ) (is : List Item) → NoneOut (taken_by (read look_item s is)) → read look_in_range s is ≡ read look_item s is
unfolding read
same_in_range s [] n = refl
same_in_range s (i ∷ is) n = rw (step_is s i) (same_go i is (λ z h. same_in_range z is h) (out? i) refl (step look_item s i) n)
