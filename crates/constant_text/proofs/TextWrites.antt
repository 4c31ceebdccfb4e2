-- Bytes of a text, written one after the other.
use Prim.Native.Nat.{ℕ, suc, ◌+◌, ◌-◌, ◌/◌, ◌%◌, ◌≤◌, ◌<◌}
use native.Mathlib.Nat.{add-zero}
use native.Mathlib.Numerals.{add-one}
use native.Mathlib.Omega.{arith}
use mathlib.Core.Path.{◌≡◌, refl, sym, ap, subst, ◌∙◌}
use mathlib.Core.Bool.{Bool, ◌&&◌, and-true, and_assoc}
use mathlib.Core.List.{List, [], ◌∷◌, ◌++◌}
use lib.Dec.{leb}
use lib.ListN.{length, drop, get_or, set, length-append, drop_of_length-le}
use lib.Seq.{sets, slice, length-slice, drop-cons}
use borrow.Author.Tests.{le-leb, lt-leb}
use Rattle.paper.specs.Bytes.{every}
use Rattle.paper.specs.Constants.{with_point, power_text}
use Rattle.buffers.specs.Sets.{sets_append, sets_out}
use Rattle.std.specs.Prelude.{Some, None}
use Rattle.constant_text.specs.declared.layout.Layout.{Layout}
use Rattle.constant_text.specs.Texts.{digits_most, lead, power_part, laid, laid_at, Shaped, Wrote, size_of}
use Rattle.constant_text.proofs.TextDigits.{slice_more}
use Rattle.constant_text.proofs.TextShapes.{lead_none, lead_some, point_none, point_some, laid_size}

-- ---- every byte of a list, looked at one after the other

-- one byte more: g was found of those before it
pub every_on : (m : ℕ) (s : List ℕ) (i : ℕ) (g : Bool) → i < length s → every (digits_most m) s ≡ (g && every (digits_most m) (drop i s))
    → every (digits_most m) s ≡ (g && leb (get_or s i 0 / 16) m && leb (get_or s i 0 % 16) m && every (digits_most m) (drop (i + 1) s))
unfolding every digits_most
every_on m s i g h e = e ∙ rw (drop-cons s i 0 h, add-one) (simp and_assoc)

-- all of them
pub every_end : (q : ℕ → Bool) (s : List ℕ) (i : ℕ) (g : Bool) → length s ≤ i → every q s ≡ (g && every q (drop i s)) → g ≡ every q s
unfolding every
every_end q s i g h e = sym (e ∙ rw (drop_of_length-le s h, and-true))

-- ---- digits

-- one digit more
pub digit_more : (ds old out new : List ℕ) (n f i b : ℕ) → f ≤ i → i < length ds → out ≡ sets old n (slice f i ds) → b ≡ get_or ds i 48 → new ≡ set out (n + (i - f)) b → new ≡ sets old n (slice f (i + 1) ds)
digit_more ds old out new n f i b h l e eb en =
    let k : length (slice f i ds) ≡ i - f = length-slice f i ds (omega arith) in
    en ∙ ap (λ (o : List ℕ). set o (n + (i - f)) b) e ∙ ap (λ (j : ℕ). set (sets old n (slice f i ds)) (n + j) b) (sym k) ∙ ap (λ (x : ℕ). set (sets old n (slice f i ds)) (n + length (slice f i ds)) x) eb
    ∙ sym (sets_append old n (slice f i ds) (get_or ds i 48 ∷ []))
    ∙ ap (λ (xs : List ℕ). sets old n xs) (sym (slice_more ds f i h l))

-- the last digit was written
pub ends : (i to : ℕ) → i ≤ to → to ≤ i → i ≡ to
ends i to h l = omega arith

-- ---- parts of a text

pub wrote_then : {n : ℕ} {old mid new a b : List ℕ} {p r : ℕ} → Wrote n old mid a p → Wrote p mid new b r → Wrote n old new (a ++ b) r
wrote_then {n} {old} {mid} {new} {a} {b} {p} {r} f g =
    record {
      next = omega (arith, f.next, g.next, length-append a b);
      wrote = g.wrote ∙ ap (λ (o : List ℕ). sets o p b) f.wrote ∙ ap (λ (k : ℕ). sets (sets old n a) k b) f.next ∙ sym (sets_append old n a b);
    }

-- a zero in place of no digits
pub wrote_zero : (ds old new : List ℕ) (n f p : ℕ) → p ≤ f → new ≡ set old n 48 → Wrote n old new (lead (slice f p ds)) (n + 1)
wrote_zero ds old new n f p h e = subst (λ (xs : List ℕ). Wrote n old new xs (n + 1)) (sym (lead_none ds f p h)) (record { next = refl; wrote = e })

pub wrote_whole : (ds old new : List ℕ) (n f p : ℕ) → f < p → p ≤ length ds → new ≡ sets old n (slice f p ds) → Wrote n old new (lead (slice f p ds)) (n + (p - f))
wrote_whole ds old new n f p h l e =
    subst (λ (xs : List ℕ). Wrote n old new xs (n + (p - f))) (sym (lead_some ds f p h l)) (record { next = ap (λ (k : ℕ). n + k) (sym (length-slice f p ds l)); wrote = e })

-- no digits after the point
pub wrote_none : (ds old : List ℕ) (n p e : ℕ) → e ≤ p → Wrote n old old (with_point (slice p e ds)) n
wrote_none ds old n p e h = subst (λ (xs : List ℕ). Wrote n old old xs n) (sym (point_none ds p e h)) (record { next = sym (add-zero n); wrote = refl })

pub wrote_fraction : (ds old mid new : List ℕ) (n p e : ℕ) → p < e → e ≤ length ds → mid ≡ set old n 46 → new ≡ sets mid (n + 1) (slice p e ds) → Wrote n old new (with_point (slice p e ds)) (n + 1 + (e - p))
wrote_fraction ds old mid new n p e h l m w =
    subst (λ (xs : List ℕ). Wrote n old new xs (n + 1 + (e - p))) (sym (point_some ds p e h l))
    (record { next = omega (arith, length-slice p e ds l); wrote = w ∙ ap (λ (o : List ℕ). sets o (n + 1) (slice p e ds)) m ∙ ap (λ (k : ℕ). sets (set old n 46) k (slice p e ds)) (add-one n) })

-- four bytes
pub wrote_four : (l0 l1 l2 l3 l4 : List ℕ) (n a b c d : ℕ) → l1 ≡ set l0 n a → l2 ≡ set l1 (n + 1) b → l3 ≡ set l2 (n + 2) c → l4 ≡ set l3 (n + 3) d → l4 ≡ sets l0 n (a ∷ b ∷ c ∷ d ∷ [])
wrote_four l0 l1 l2 l3 l4 n a b c d e1 e2 e3 e4 =
    let k1 : n + 1 ≡ suc n = omega arith in
    let k2 : n + 2 ≡ suc (suc n) = omega arith in
    let k3 : n + 3 ≡ suc (suc (suc n)) = omega arith in
    e4 ∙ rw (e3, e2, e1, k1, k2, k3)

-- where the next part begins
lead_most : (l : List ℕ) → length l ≤ 10 → length (lead l) ≤ 10
unfolding lead
lead_most [] h = omega arith
lead_most (d ∷ l) h = h

point_most : (l : List ℕ) → length l ≤ 10 → length (with_point l) ≤ 11
unfolding with_point
point_most [] h = omega arith
point_most (d ∷ l) h = omega arith

pub whole_next : (ds : List ℕ) (x : Layout) {old new : List ℕ} {n r : ℕ} → length ds ≡ 10 → Wrote n old new (lead (slice x.from x.point ds)) r → r ≤ n + 10
whole_next ds x l w =
    let k : length (slice x.from x.point ds) ≤ 10 = omega (arith, length-slice x.from x.point ds (omega (arith, x.fraction, x.ten)), x.fraction, x.ten) in
    omega (arith, w.next, lead_most (slice x.from x.point ds) k)

pub fraction_next : (ds : List ℕ) (x : Layout) {old new : List ℕ} {n r : ℕ} → length ds ≡ 10 → Wrote n old new (with_point (slice x.point x.end ds)) r → r ≤ n + 11
fraction_next ds x l w =
    let k : length (slice x.point x.end ds) ≤ 10 = omega (arith, length-slice x.point x.end ds (omega (arith, x.ten)), x.ten) in
    omega (arith, w.next, point_most (slice x.point x.end ds) k)

-- ---- the power of ten

pub wrote_no_power : (old : List ℕ) (n : ℕ) → Wrote n old old (power_part None) n
unfolding power_part
wrote_no_power old n = record { next = sym (add-zero n); wrote = refl }

pub wrote_up : (old new : List ℕ) (n x : ℕ) → 137 ≤ x → new ≡ sets old n (69 ∷ 43 ∷ (48 + (x - 137) / 10) ∷ (48 + (x - 137) % 10) ∷ []) → Wrote n old new (power_part (Some x)) (n + 4)
unfolding power_part power_text
wrote_up old new n x h e = rw (le-leb 137 x h) (record { next = refl; wrote = e })

pub wrote_down : (old new : List ℕ) (n x : ℕ) → x < 137 → new ≡ sets old n (69 ∷ 45 ∷ (48 + (137 - x) / 10) ∷ (48 + (137 - x) % 10) ∷ []) → Wrote n old new (power_part (Some x)) (n + 4)
unfolding power_part power_text
wrote_down old new n x h e = rw (lt-leb 137 x h) (record { next = refl; wrote = e })

-- ---- the whole

-- the length of a text that is laid out
pub text_size : {ds text : List ℕ} {x : Layout} {r : ℕ} → Shaped ds text x → length ds ≡ 10 → r ≡ size_of x → r ≡ length text
text_size {ds} {text} {x} {r} h l e = e ∙ sym (ap length h.text_is ∙ laid_size x ds l)

-- nothing is written past the end
pub text_out : {ds text : List ℕ} {x : Layout} {r n : ℕ} (old : List ℕ) → Shaped ds text x → length ds ≡ 10 → r ≡ size_of x → length old ≤ n → (r ≡ length text) × (old ≡ sets old n text)
text_out {text = text} {n = n} old h l e o = (text_size h l e, sym (sets_out old n text o))

-- all parts are written
pub text_in : {ds text : List ℕ} {x : Layout} {n p w r : ℕ} {old l1 l2 new : List ℕ} → Shaped ds text x
    → Wrote n old l1 (lead (slice x.from x.point ds)) p → Wrote p l1 l2 (with_point (slice x.point x.end ds)) w → Wrote w l2 new (power_part x.power) r
    → (r - n ≡ length text) × (new ≡ sets old n text)
unfolding laid laid_at
text_in {ds} {text} {x} {n} {p} {w} {r} {old} {l1} {l2} {new} h a b c =
    let z : Wrote n old new (laid x ds) r = wrote_then (wrote_then a b) c in
    (subst (λ (t : List ℕ). r - n ≡ length t) (sym h.text_is) (omega (arith, z.next)), z.wrote ∙ ap (λ (t : List ℕ). sets old n t) (sym h.text_is))
