-- Bytes still to be written to a buffer, and one entry or name moved down in it.
use Prim.Native.Nat.{ℕ, ◌+◌, ◌*◌, ◌≤◌}
use native.Mathlib.Omega.{arith}
use mathlib.Core.Path.{◌≡◌, refl, sym, ap, ◌∙◌}
use mathlib.Core.List.{List, [], ◌∷◌, ◌++◌, append_assoc}
use lib.ListN.{length, take, drop, set, length-append, length-drop}
use lib.Seq.{sets, sets-eq, length-sets, length-take-le, set_at, append_snoc}
use Rattle.paper.specs.Store.{overwritten}
use Rattle.buffers.specs.Sets.{sets_append, overwrites}
use Rattle.names_left.specs.Marks.{numbered}

-- ---- what is still to be written

-- Some bytes to be written at a place of a buffer: after a while others, at another place, are what is left of them.
pub record Onward (l₀ : List ℕ) (i₀ : ℕ) (xs₀ l : List ℕ) (i : ℕ) (xs : List ℕ) : Type 0 where
  pub whole : sets l₀ i₀ xs₀ ≡ sets l i xs
  pub size : i₀ + length xs₀ ≡ i + length xs
  pub room : length l ≡ length l₀

pub onward_start : (l : List ℕ) (i : ℕ) (xs : List ℕ) → Onward l i xs l i xs
onward_start l i xs = record { whole = refl; size = refl; room = refl }

module _ {l₀ : List ℕ} {i₀ : ℕ} {xs₀ l : List ℕ} {i : ℕ} {xs : List ℕ} (o : Onward l₀ i₀ xs₀ l i xs) where
  -- the first of them are written
  pub onward_step : {after : List ℕ} {next : ℕ} (a b : List ℕ) → xs ≡ a ++ b → after ≡ sets l i a → next ≡ i + length a → Onward l₀ i₀ xs₀ after next b
  onward_step {after} {next} a b e w n = record {
    whole = o.whole ∙ ap (sets l i) e ∙ sets_append l i a b ∙ ap (λ (k : ℕ). sets (sets l i a) k b) (sym n) ∙ ap (λ (z : List ℕ). sets z next b) (sym w);
    size = omega (arith, o.size, ap length e, length-append a b);
    room = ap length w ∙ length-sets l i a ∙ o.room;
  }

  -- the same bytes, said otherwise
  pub onward_as : {ys : List ℕ} → xs ≡ ys → Onward l₀ i₀ xs₀ l i ys
  onward_as e = record { whole = o.whole ∙ ap (sets l i) e; size = o.size ∙ ap (λ (z : List ℕ). i + length z) e; room = o.room }

-- nothing is left
pub onward_end : {l₀ xs₀ l : List ℕ} {i : ℕ} {xs : List ℕ} → Onward l₀ 0 xs₀ l i xs → xs ≡ [] → i ≤ length l → l ≡ overwritten xs₀ l₀
onward_end {l₀} {xs₀} {l} {i} {xs} o e h = sym (o.whole ∙ ap (sets l i) e) ∙ overwrites l₀ xs₀ (omega (arith, o.size, ap length e, o.room))

-- ---- a value moved

regroup : (p : List ℕ) (a b : ℕ) (xs more : List ℕ) → (p ++ a ∷ b ∷ xs) ++ more ≡ (p ++ a ∷ []) ++ b ∷ (xs ++ more)
regroup p a b xs more = append_assoc p (a ∷ b ∷ xs) more ∙ sym (append_snoc p a (b ∷ (xs ++ more)))

-- a value copied, and then its number written
second_set : (d : List ℕ) (i a b x : ℕ) (xs : List ℕ) → i + length (a ∷ b ∷ xs) ≤ length d → set (sets d i (a ∷ b ∷ xs)) (i + 1) x ≡ sets d i (a ∷ x ∷ xs)
second_set d i a b x xs h =
    let more = drop (i + length (a ∷ b ∷ xs)) d in
    let n : length (take i d ++ a ∷ []) ≡ i + 1 = length-append (take i d) (a ∷ []) ∙ ap (λ (k : ℕ). k + 1) (length-take-le i d (omega arith)) in
    ap (λ (l : List ℕ). set l (i + 1) x) (sets-eq (a ∷ b ∷ xs) d i h ∙ regroup (take i d) a b xs more)
    ∙ set_at (take i d ++ a ∷ []) b (xs ++ more) x (i + 1) n
    ∙ sym (sets-eq (a ∷ x ∷ xs) d i h ∙ regroup (take i d) a x xs more)

number_set : (d : List ℕ) (i x : ℕ) (e : List ℕ) → 8 ≤ length e → i + 8 ≤ length d → set (sets d i (take 8 e)) (i + 1) x ≡ sets d i (numbered x e)
unfolding numbered
number_set d i x [] h g = absurd (omega arith)
number_set d i x (a ∷ []) h g = absurd (omega arith)
number_set d i x (a ∷ b ∷ e) h g = second_set d i a b x (take 6 e) (omega (arith, length-take-le 6 e (omega arith)))

pub moved_value : (l d : List ℕ) (to from : ℕ) → to ≤ from → 8 * from + 8 ≤ length d → l ≡ sets d (8 * to) (take 8 (drop (8 * from) d)) → set l (8 * to + 1) to ≡ sets d (8 * to) (numbered to (drop (8 * from) d))
moved_value l d to from h g e = ap (λ (z : List ℕ). set z (8 * to + 1) to) e ∙ number_set d (8 * to) to (drop (8 * from) d) (omega (arith, length-drop (8 * from) d)) (omega arith)
