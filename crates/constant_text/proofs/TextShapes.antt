-- The layouts of a constant's text: zero, plain, and with a power of ten; and their length.
use Prim.Native.Nat.{ℕ, zero, suc, ◌+◌, ◌-◌, ◌*◌, ◌/◌, ◌%◌, ◌≤◌, ◌<◌}
use native.Mathlib.Omega.{arith}
use mathlib.Core.Path.{◌≡◌, refl, sym, ap, subst, ◌∙◌}
use mathlib.Core.Bool.{Bool, true, false, ◌&&◌, and-false}
use mathlib.Core.List.{List, [], ◌∷◌, ◌++◌, append-nil}
use lib.Dec.{leb, ltb, eqb}
use lib.ListN.{length, take, get_or, length-append}
use lib.Seq.{slice, slice-cons, length-slice}
use borrow.Author.Tests.{ne_eqb, eq-eqb, le-leb, lt-leb, ltb-true, ltb-false}
use Rattle.paper.specs.Bytes.{pick}
use Rattle.paper.specs.Constants.{trimmed, whole_part, with_point, plain_text, power_text, power_of_ten_text, text_of, constant_text}
use Rattle.constant_text.specs.declared.layout.Layout.{Layout}
use Rattle.constant_text.specs.Texts.{six_here, digits_here, lead, power_part, laid, laid_at, Trims, part_size, power_size, size_of}
use Rattle.std.specs.Prelude.{Option, Some, None}
use Rattle.constant_text.proofs.TextDigits.{slice_none, ten_here}

-- the text by the first byte and the ten digits
text_here : (s : List ℕ) (p : ℕ) → constant_text (six_here s p) ≡ text_of (get_or s p 0) (digits_here s p)
unfolding constant_text digits_here six_here
text_here s p = refl

-- zeros in front, one at most
zeros_of : List ℕ → ℕ
zeros_of ds = pick (eqb (get_or ds 0 48) 48) 1 0

-- ---- digits before the point, and after it

pub lead_none : (ds : List ℕ) (f p : ℕ) → p ≤ f → lead (slice f p ds) ≡ 48 ∷ []
unfolding lead
lead_none ds f p h = rw (slice_none ds f p h)

pub lead_some : (ds : List ℕ) (f p : ℕ) → f < p → p ≤ length ds → lead (slice f p ds) ≡ slice f p ds
unfolding lead
lead_some ds f p h l = rw (slice-cons f p ds 48 h l)

pub point_none : (ds : List ℕ) (p e : ℕ) → e ≤ p → with_point (slice p e ds) ≡ []
unfolding with_point
point_none ds p e h = rw (slice_none ds p e h)

pub point_some : (ds : List ℕ) (p e : ℕ) → p < e → e ≤ length ds → with_point (slice p e ds) ≡ 46 ∷ slice p e ds
unfolding with_point
point_some ds p e h l = rw (slice-cons p e ds 48 h l)

-- ---- the layouts

-- zero
pub shaped_zero : (s : List ℕ) (p b : ℕ) → b ≡ get_or s p 0 → b ≡ 0 → constant_text (six_here s p) ≡ laid_at 0 0 0 None (digits_here s p)
unfolding laid_at lead with_point power_part text_of
shaped_zero s p b e z = text_here s p ∙ rw (eq-eqb (get_or s p 0) 0 (sym e ∙ z))

-- the digits before the point of a plain number
whole_go : (d e k : ℕ) (r : List ℕ) (b : Bool) → pick b (e ∷ take k r) (d ∷ e ∷ take k r) ≡ lead (slice (pick b 1 0) (suc (suc k)) (d ∷ e ∷ r))
unfolding lead
whole_go d e k r true = refl
whole_go d e k r false = refl

whole_lead : (ds : List ℕ) (n : ℕ) → 1 < n → n ≤ length ds → whole_part (take n ds) ≡ lead (slice (zeros_of ds) n ds)
unfolding whole_part zeros_of
whole_lead [] n h l = absurd (omega arith)
whole_lead (d ∷ []) n h l = absurd (omega arith)
whole_lead (d ∷ e ∷ r) zero h l = absurd (omega arith)
whole_lead (d ∷ e ∷ r) (suc zero) h l = absurd (omega arith)
whole_lead (d ∷ e ∷ r) (suc (suc k)) h l = whole_go d e k r (eqb d 48)

laid_plain : (ds : List ℕ) (f n e : ℕ) → lead (slice f n ds) ≡ whole_part (take n ds) → Trims ds n e → laid_at f n e None ds ≡ plain_text n ds
unfolding laid_at plain_text power_part
laid_plain ds f n e w t = append-nil (lead (slice f n ds) ++ with_point (slice n e ds)) ∙ ap (λ (l : List ℕ). l ++ with_point (slice n e ds)) w ∙ ap (λ (l : List ℕ). whole_part (take n ds) ++ with_point l) t.kept

text_plain : (s : List ℕ) (p b : ℕ) → b ≡ get_or s p 0 → 63 ≤ b → b ≤ 68 → constant_text (six_here s p) ≡ plain_text (2 * (b - 63)) (digits_here s p)
unfolding text_of
text_plain s p b e h l = text_here s p ∙ rw (← e, ne_eqb b 0 (λ z. omega arith), le-leb 63 b h, le-leb b 68 l)

pub shaped_plain : (s : List ℕ) (p b n f e : ℕ) → b ≡ get_or s p 0 → 63 ≤ b → b ≤ 68 → n ≡ 2 * (b - 63) → lead (slice f n (digits_here s p)) ≡ whole_part (take n (digits_here s p)) → Trims (digits_here s p) n e
    → constant_text (six_here s p) ≡ laid_at f n e None (digits_here s p)
shaped_plain s p b n f e eb h l en w t = text_plain s p b eb h l ∙ ap (λ (k : ℕ). plain_text k (digits_here s p)) (sym en) ∙ sym (laid_plain (digits_here s p) f n e w t)

-- no digit before the point
pub plain_none : (ds : List ℕ) (n : ℕ) → n ≡ 0 → lead (slice 0 n ds) ≡ whole_part (take n ds)
unfolding lead whole_part
plain_none ds n z = rw z

pub plain_some : (ds : List ℕ) (n f : ℕ) → length ds ≡ 10 → 1 < n → n ≤ 10 → f ≡ pick (eqb (get_or ds 0 48) 48) 1 0 → lead (slice f n ds) ≡ whole_part (take n ds)
unfolding zeros_of
plain_some ds n f l h t e = ap (λ (k : ℕ). lead (slice k n ds)) e ∙ sym (whole_lead ds n h (omega arith))

pub zeros_most : (d f : ℕ) → f ≡ pick (eqb d 48) 1 0 → f ≤ 1
zeros_most d f e = go (eqb d 48) e
  where
    go : (b : Bool) → f ≡ pick b 1 0 → f ≤ 1
    go true e = omega arith
    go false e = omega arith

-- with a power of ten
powered_go : (d x : ℕ) (r : List ℕ) (b n e w : ℕ) (t : Bool) → suc (suc (length r)) ≡ 10 → n ≡ pick t 1 0 → w ≡ 2 * b + 10 - n → Trims (d ∷ x ∷ r) (n + 1) e
    → laid_at n (n + 1) e (Some w) (d ∷ x ∷ r) ≡ power_of_ten_text b (pick t (x ∷ r) (d ∷ x ∷ r))
unfolding laid_at lead power_part power_of_ten_text
powered_go d x r b n e w true l en ew t =
    let k : w ≡ 2 * b + suc (length r) = omega arith in
    subst (λ (m : ℕ). Trims (d ∷ x ∷ r) (m + 1) e → (lead (slice m (m + 1) (d ∷ x ∷ r)) ++ with_point (slice (m + 1) e (d ∷ x ∷ r))) ++ power_text w ≡ (x ∷ [] ++ with_point (trimmed r)) ++ power_text (2 * b + suc (length r)))
    (sym en) (λ t. rw (t.kept, k)) t
powered_go d x r b n e w false l en ew t =
    let k : w ≡ 2 * b + suc (suc (length r)) = omega arith in
    subst (λ (m : ℕ). Trims (d ∷ x ∷ r) (m + 1) e → (lead (slice m (m + 1) (d ∷ x ∷ r)) ++ with_point (slice (m + 1) e (d ∷ x ∷ r))) ++ power_text w ≡ (d ∷ [] ++ with_point (trimmed (x ∷ r))) ++ power_text (2 * b + suc (suc (length r))))
    (sym en) (λ t. rw (t.kept, k)) t

laid_powered : (ds : List ℕ) (b n e w : ℕ) → length ds ≡ 10 → n ≡ pick (eqb (get_or ds 0 48) 48) 1 0 → w ≡ 2 * b + 10 - n → Trims ds (n + 1) e
    → laid_at n (n + 1) e (Some w) ds ≡ power_of_ten_text b (whole_part ds)
unfolding whole_part
laid_powered [] b n e w l en ew t = absurd (omega arith)
laid_powered (d ∷ []) b n e w l en ew t = absurd (omega arith)
laid_powered (d ∷ x ∷ r) b n e w l en ew t = powered_go d x r b n e w (eqb d 48) l en ew t

pub shaped_powered : (s : List ℕ) (p b n e w : ℕ) → b ≡ get_or s p 0 → (b ≡ 0 → ⊥) → (leb 63 b && leb b 68) ≡ false → n ≡ pick (eqb (get_or (digits_here s p) 0 48) 48) 1 0 → w ≡ 2 * b + 10 - n → Trims (digits_here s p) (n + 1) e
    → constant_text (six_here s p) ≡ laid_at n (n + 1) e (Some w) (digits_here s p)
unfolding text_of
shaped_powered s p b n e w eb z no! en ew t = text_here s p ∙ rw (← eb, ne_eqb b 0 z, no!) (sym (laid_powered (digits_here s p) b n e w (ten_here s p) en ew t))

-- ---- the length

part_lead : (ds : List ℕ) (f p : ℕ) → p ≤ length ds → length (lead (slice f p ds)) ≡ part_size f p 1 0
unfolding part_size
part_lead ds f p l = go (ltb f p) refl
  where
    go : (b : Bool) → ltb f p ≡ b → length (lead (slice f p ds)) ≡ pick b (p - f + 0) 1
    go true e = ap length (lead_some ds f p (ltb-true f p e) l) ∙ length-slice f p ds l ∙ omega arith
    go false e = ap length (lead_none ds f p (ltb-false f p e))

part_point : (ds : List ℕ) (p e : ℕ) → e ≤ length ds → length (with_point (slice p e ds)) ≡ part_size p e 0 1
unfolding part_size
part_point ds p e l = go (ltb p e) refl
  where
    go : (b : Bool) → ltb p e ≡ b → length (with_point (slice p e ds)) ≡ pick b (e - p + 1) 0
    go true h = ap length (point_some ds p e (ltb-true p e h) l) ∙ omega (arith, length-slice p e ds l)
    go false h = ap length (point_none ds p e (ltb-false p e h))

part_power : (x : Option ℕ) → length (power_part x) ≡ power_size x
unfolding power_part power_text power_size
part_power None = refl
part_power (Some x) = go (leb 137 x)
  where
    go : (b : Bool) → length (pick b (69 ∷ 43 ∷ (48 + (x - 137) / 10) ∷ (48 + (x - 137) % 10) ∷ []) (69 ∷ 45 ∷ (48 + (137 - x) / 10) ∷ (48 + (137 - x) % 10) ∷ [])) ≡ 4
    go true = refl
    go false = refl

-- what is laid out has its length
pub laid_size : (x : Layout) (ds : List ℕ) → length ds ≡ 10 → length (laid x ds) ≡ size_of x
unfolding laid laid_at size_of
laid_size x ds l =
    length-append (lead (slice x.from x.point ds) ++ with_point (slice x.point x.end ds)) (power_part x.power)
    ∙ ap (λ (k : ℕ). k + length (power_part x.power)) (length-append (lead (slice x.from x.point ds)) (with_point (slice x.point x.end ds)))
    ∙ rw (part_lead ds x.from x.point (omega (arith, x.fraction, x.ten)), part_point ds x.point x.end (omega (arith, x.ten)), part_power x.power)

-- ---- the tests of the first byte

pub below_plain : (b : ℕ) → b < 63 → (leb 63 b && leb b 68) ≡ false
below_plain b h = rw (lt-leb 63 b h)

pub above_plain : (b : ℕ) → 68 < b → (leb 63 b && leb b 68) ≡ false
above_plain b h = rw (lt-leb b 68 h) (and-false (leb 63 b))
