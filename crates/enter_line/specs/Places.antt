-- Where a refused item stands: in the text or at its end.
use Rattle.std.specs.Prelude.{ℕ, zero, suc, pred, ◌+◌, ◌≤◌, ◌≡◌, Bool, true, false, List, [], ◌∷◌, eqb, length, drop}
use Rattle.std.proofs.Common.{arith, subst, ap, length-drop}
use Rattle.paper.specs.Bytes.{pick, blank?, run}
use Rattle.paper.specs.Classes.{remark}
use Rattle.paper.specs.Tokens.{class}
use Rattle.paper.specs.Items.{Item, item, item_at, raw_byte?, raw_from, raw_at, opens, scan, items}
use Rattle.paper.specs.Machine.{Step, took, over, refused, Taken, Run, left, done, bad, and_taken, step, go_on, read}
use Rattle.paper.specs.Grammar.{Gives, look_in_range, start}
use Rattle.buffers.specs.Runs.{run_within}
use Rattle.enter_scan.proofs.Sound.{shape_sound}
use Rattle.enter_scan.proofs.Shapes.{item_shape}

-- items that stand at most at a place
abbrev Within : ℕ → List Item → Type 0
Within m [] = Unit {0}
Within m (i ∷ is) = (i.place ≤ m) × Within m is

further : {m n : ℕ} (is : List Item) → m ≤ n → Within m is → Within n is
further [] h w = tt
further (i ∷ is) h w = (omega (arith, w.0), further is h w.1)

pick_within : (m : ℕ) (b : Bool) (x y : List Item) → Within m x → Within m y → Within m (pick b x y)
pick_within m true x y h k = h
pick_within m false x y h k = k

raw_from_within : (p : ℕ) (s : List ℕ) → Within (p + length s) (raw_from p s)
unfolding raw_from item
raw_from_within p s =
    let h = run_within raw_byte? s in
    (omega arith, pick_within (p + length s) (eqb (run raw_byte? s) (length s)) _ _ (omega arith, tt) (omega arith, tt))

raw_at_within : (p : ℕ) (s : List ℕ) → Within (p + length s) (raw_at p s)
unfolding raw_at blank?
raw_at_within p [] = raw_from_within p []
raw_at_within p (b ∷ s) = pick_within (p + length (b ∷ s)) (blank? b) _ _ (further (raw_from (suc p) s) (omega arith) (raw_from_within (suc p) s)) (raw_from_within p (b ∷ s))

-- all items of a text
scan_within : (s : List ℕ) (n : ℕ) (first : Bool) (p : ℕ) → Within (p + length s) (scan n first p s)
unfolding scan item
scan_within [] n first p = (omega arith, tt)
scan_within (b ∷ s) (suc n) first p = further (scan n first (suc p) s) (omega arith) (scan_within s n first (suc p))
scan_within (b ∷ s) zero first p =
    let i : Item = item_at first p (b ∷ s) in
    let c : ℕ = class i.token in
    let t : List ℕ = drop i.size (b ∷ s) in
    let same = item_shape first p b s in
    let place : p ≡ i.place = ap (λ (x : Item). x.place) same in
    let fits : i.size ≤ length (b ∷ s) = subst (λ (x : Item). x.size ≤ length (b ∷ s)) same (shape_sound first (b ∷ s)).fits in
    pick_within (p + length (b ∷ s)) (blank? b) _ _ (further (scan zero first (suc p) s) (omega arith) (scan_within s zero first (suc p))) (
      omega arith,
      pick_within (p + length (b ∷ s)) (eqb c remark) _ _ (further (raw_at (p + i.size) t) (omega (arith, length-drop i.size (b ∷ s))) (raw_at_within (p + i.size) t))
          (further (scan (pred i.size) (opens c) (suc p) s) (omega arith) (scan_within s (pred i.size) (opens c) (suc p))),
    )

-- the items that a run leaves from the refused one on
abbrev LeftWithin : ℕ → Run Gives Item → Type 0
LeftWithin m (left ts fs) = Unit {0}
LeftWithin m (done ts is) = Unit {0}
LeftWithin m (bad k ts is) = Within m is

more_within : (m : ℕ) (t : Taken Gives Item) (r : Run Gives Item) → LeftWithin m r → LeftWithin m (and_taken t r)
unfolding and_taken
more_within m t (left ts fs) w = tt
more_within m t (done ts is) w = tt
more_within m t (bad k ts is) w = w

read_within : (m : ℕ) (is : List Item) (fs : List ℕ) → Within m is → LeftWithin m (read look_in_range fs is)
unfolding read go_on
read_within m [] fs w = tt
read_within m (i ∷ is) fs w = go (step look_in_range fs i) (λ z. read_within m is z w.1)
  where
    go : (x : Step Gives) → ((z : List ℕ) → LeftWithin m (read look_in_range z is)) → LeftWithin m (go_on look_in_range x i is (λ z. read look_in_range z is))
    go (took e z) ih = more_within m _ (read look_in_range z is) (ih z)
    go over ih = tt
    go (refused k) ih = w

-- an item of the text s, which begins at place p, that is refused
pub refused_within : (p : ℕ) (s : List ℕ) (k : ℕ) (ts : List (Taken Gives Item)) (i : Item) (rest : List Item) → read look_in_range start (items p s) ≡ bad k ts (i ∷ rest) → i.place ≤ p + length s
unfolding items
refused_within p s k ts i rest e = (subst (LeftWithin (p + length s)) e (read_within (p + length s) (scan 0 true p s) start (scan_within s 0 true p))).0
