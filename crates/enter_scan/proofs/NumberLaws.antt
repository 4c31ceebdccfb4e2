-- Numbers, as the code finds them in a text.
use Prim.Native.Nat.{ℕ, zero, suc, ◌+◌, ◌-◌, ◌*◌, ◌≤◌, ◌<◌}
use native.Mathlib.Omega.{arith}
use native.Mathlib.Numerals.{add-one}
use mathlib.Core.Path.{◌≡◌, refl, sym, ap, ◌∙◌}
use mathlib.Core.Bool.{Bool, true, false, ◌&&◌, ◌||◌}
use mathlib.Core.List.{List, ◌∷◌}
use lib.Dec.{eqb, leb, ltb}
use lib.ListN.{length, take, drop, get_or}
use lib.Seq.{get_or-drop, drop-drop, drop-cons}
use borrow.Author.Tests.{eqb-true, eq-eqb, ne_eqb, leb-true, lt-ltb}
use Rattle.paper.specs.Bytes.{pick, digit?, run}
use Rattle.paper.specs.Constants.{value}
use Rattle.paper.specs.Items.{sign_size, power_size}
use Rattle.tokens.specs.Same.{no_bool}
use Rattle.enter_scan.specs.declared.Exponent.{Exponent}
use Rattle.enter_scan.specs.declared.Kind.TheVariants.{Number}
use Rattle.enter_scan.specs.Kinds.{fraction_size, digits_size, no_power, power_at, number_with, number_shape, item_with}
use Rattle.enter_scan.proofs.Sound.{in_text, power_fits, digits_fit}

pub begins_point : {b : ℕ} (next : ℕ) → digit? b ≡ false → b ≡ 46 → digit? next ≡ (digit? b || (eqb b 46 && digit? next))
begins_point {b} next d e = sym (rw (d, eq-eqb b 46 e))

pub begins_not : {b : ℕ} (next : ℕ) → digit? b ≡ false → (b ≡ 46 → ⊥) → false ≡ (digit? b || (eqb b 46 && digit? next))
begins_not {b} next d e = sym (rw (d, ne_eqb b 46 e))

pub fraction_point : {r : ℕ} (s : List ℕ) (point : ℕ) → get_or s point 0 ≡ 46 → r ≡ point + 1 + run digit? (drop (point + 1) s) → r ≡ digits_size s point
unfolding digits_size
fraction_point {r} s point e f = f ∙ sym (rw (eq-eqb (get_or s point 0) 46 e) (ap (λ (k : ℕ). k + run digit? (drop k s)) (sym (add-one point))))

pub fraction_none : (s : List ℕ) (point : ℕ) → (get_or s point 0 ≡ 46 → ⊥) → point ≡ digits_size s point
unfolding digits_size
fraction_none s point n = sym (rw (ne_eqb (get_or s point 0) 46 n))

-- ---- exponents

digit_bounds : (b : ℕ) → digit? b ≡ true → (48 ≤ b) × (b ≤ 57)
unfolding digit?
digit_bounds b e = go (leb 48 b) (leb b 57) refl refl e
  where
    go : (u v : Bool) → leb 48 b ≡ u → leb b 57 ≡ v → (u && v) ≡ true → (48 ≤ b) × (b ≤ 57)
    go true true p q e = (leb-true 48 b p, leb-true b 57 q)
    go true false p q e = no_bool e
    go false v p q e = no_bool e

first_of : (s : List ℕ) (at : ℕ) → get_or (drop at s) 0 0 ≡ get_or s at 0
first_of s at = let e : at + 0 ≡ at = omega arith in get_or-drop at s 0 0 ∙ ap (λ (i : ℕ). get_or s i 0) e

pub digit_inside : (s : List ℕ) (at : ℕ) → digit? (get_or s at 0) ≡ true → at < length s
digit_inside s at e = in_text s at (omega (arith, digit_bounds (get_or s at 0) e))

pub power_two : (s : List ℕ) (at : ℕ) → digit? (get_or s at 0) ≡ true → digit? (get_or s (at + 1) 0) ≡ true → 2 ≡ power_size (drop at s)
unfolding power_size
power_two s at d e = sym (rw (first_of s at, get_or-drop at s 1 0, d, e))

pub power_one : (s : List ℕ) (at : ℕ) → digit? (get_or s at 0) ≡ true → digit? (get_or s (at + 1) 0) ≡ false → 1 ≡ power_size (drop at s)
unfolding power_size
power_one s at d e = sym (rw (first_of s at, get_or-drop at s 1 0, d, e))

pub power_none : (s : List ℕ) (at : ℕ) → digit? (get_or s at 0) ≡ false → 0 ≡ power_size (drop at s)
unfolding power_size
power_none s at d = sym (rw (first_of s at, d))

-- the digits that are counted
power_digits : (s : List ℕ) (at count : ℕ) → count ≡ power_size (drop at s) → 0 < count → (digit? (get_or s at 0) ≡ true) × ((count ≡ 1 → ⊥) → (count ≡ 2) × (digit? (get_or s (at + 1) 0) ≡ true))
unfolding power_size
power_digits s at count e h = go (digit? (get_or s at 0)) (digit? (get_or s (at + 1) 0)) refl refl (e ∙ ap (λ (x : ℕ). pick (digit? x) (pick (digit? (get_or (drop at s) 1 0)) 2 1) 0) (first_of s at) ∙ ap (λ (x : ℕ). pick (digit? (get_or s at 0)) (pick (digit? x) 2 1) 0) (get_or-drop at s 1 0))
  where
    go : (u v : Bool) → digit? (get_or s at 0) ≡ u → digit? (get_or s (at + 1) 0) ≡ v → count ≡ pick u (pick v 2 1) 0 → (u ≡ true) × ((count ≡ 1 → ⊥) → (count ≡ 2) × (digit? (get_or s (at + 1) 0) ≡ true))
    go true true p q f = (refl, λ n. (f, q))
    go true false p q f = (refl, λ n. absurd (n f))
    go false v p q f = absurd (omega arith)

module _ (s : List ℕ) (at count : ℕ) (e : count ≡ power_size (drop at s)) (h : 0 < count) where
  pub tens_bounds : (48 ≤ get_or s at 0) × (get_or s at 0 ≤ 57) × (at < length s)
  tens_bounds = let d = (power_digits s at count e h).0 in let b = digit_bounds (get_or s at 0) d in (b.0, b.1, digit_inside s at d)

  pub ones_bounds : (count ≡ 1 → ⊥) → (48 ≤ get_or s (at + 1) 0) × (get_or s (at + 1) 0 ≤ 57)
  ones_bounds n = digit_bounds (get_or s (at + 1) 0) ((power_digits s at count e h).1 n).1

  pub value_one : {b : ℕ} → count ≡ 1 → b ≡ get_or s at 0 → b - 48 ≡ value 0 (take count (drop at s))
  unfolding value
  value_one {b} c f =
      let d : drop at s ≡ get_or s at 0 ∷ drop (suc at) s = drop-cons s at 0 tens_bounds.2 in
      let z : b - 48 ≡ 0 * 10 + (get_or s at 0 - 48) = omega arith in
      z ∙ sym (rw (c, d))

  pub value_two : {b d : ℕ} → (count ≡ 1 → ⊥) → b ≡ get_or s at 0 → d ≡ get_or s (at + 1) 0 → (b - 48) * 10 + (d - 48) ≡ value 0 (take count (drop at s))
  unfolding value
  value_two {b} {d} n f g =
      let w = (power_digits s at count e h).1 n in
      let i : at + 1 < length s = digit_inside s (at + 1) w.1 in
      let k : suc at < length s = omega arith in
      let x : drop at s ≡ get_or s at 0 ∷ drop (suc at) s = drop-cons s at 0 tens_bounds.2 in
      let y : drop (suc at) s ≡ get_or s (suc at) 0 ∷ drop (suc (suc at)) s = drop-cons s (suc at) 0 k in
      let j : get_or s (suc at) 0 ≡ d = sym (g ∙ ap (λ (i : ℕ). get_or s i 0) (add-one at)) in
      let z : (b - 48) * 10 + (d - 48) ≡ (0 * 10 + (get_or s at 0 - 48)) * 10 + (get_or s (suc at) 0 - 48) = omega arith in
      z ∙ sym (rw (w.0, x, y))

-- the exponent at a place, by the bytes there
power_parts : (s : List ℕ) (at : ℕ)
    → power_at s at
    ≡ pick (eqb (get_or s at 0) 69 && ltb 0 (power_size (drop (at + 1 + sign_size (get_or s (at + 1) 0)) s)))
    (record { size = suc (sign_size (get_or s (at + 1) 0)) + power_size (drop (at + 1 + sign_size (get_or s (at + 1) 0)) s); down = eqb (get_or s (at + 1) 0) 45; power = value 0 (take (power_size (drop (at + 1 + sign_size (get_or s (at + 1) 0)) s)) (drop (at + 1 + sign_size (get_or s (at + 1) 0)) s)) })
    no_power
unfolding power_at
power_parts s at = rw (← add-one at, first_of s (at + 1), drop-drop (sign_size (get_or s (at + 1) 0)) (at + 1) s)

pub exponent_no_e : (s : List ℕ) (at : ℕ) → (get_or s at 0 ≡ 69 → ⊥) → no_power ≡ power_at s at
exponent_no_e s at n = sym (power_parts s at ∙ rw (ne_eqb (get_or s at 0) 69 n))

module _ (s : List ℕ) (at : ℕ) {sign g count : ℕ} (e : get_or s at 0 ≡ 69) (f : sign ≡ get_or s (at + 1) 0) (h : g ≡ sign_size sign) (k : count ≡ power_size (drop (at + 1 + g) s)) where
  size_of : g ≡ sign_size (get_or s (at + 1) 0)
  size_of = h ∙ ap sign_size f

  count_of : count ≡ power_size (drop (at + 1 + sign_size (get_or s (at + 1) 0)) s)
  count_of = k ∙ ap (λ (x : ℕ). power_size (drop (at + 1 + x) s)) size_of

  pub exponent_no_digit : count ≡ 0 → no_power ≡ power_at s at
  exponent_no_digit z =
      let y : power_size (drop (at + 1 + sign_size (get_or s (at + 1) 0)) s) ≡ 0 = sym count_of ∙ z in
      sym (power_parts s at ∙ rw (eq-eqb (get_or s at 0) 69 e, y))

  pub exponent_some : {v : ℕ} → (count ≡ 0 → ⊥) → v ≡ value 0 (take count (drop (at + 1 + g) s)) → record { size = at + 1 + g - at + count; down = eqb sign 45; power = v } ≡ power_at s at
  exponent_some {v} n w =
      let p : 0 < power_size (drop (at + 1 + sign_size (get_or s (at + 1) 0)) s) = positive count (λ z. n z) count_of in
      let m : at + 1 + g - at + count ≡ suc (sign_size (get_or s (at + 1) 0)) + power_size (drop (at + 1 + sign_size (get_or s (at + 1) 0)) s) = omega (arith, size_of, count_of) in
      let d : eqb sign 45 ≡ eqb (get_or s (at + 1) 0) 45 = ap (λ (x : ℕ). eqb x 45) f in
      let u : v ≡ value 0 (take (power_size (drop (at + 1 + sign_size (get_or s (at + 1) 0)) s)) (drop (at + 1 + sign_size (get_or s (at + 1) 0)) s)) =
      w ∙ ap (λ (x : ℕ). value 0 (take x (drop (at + 1 + g) s))) count_of ∙ ap (λ (x : ℕ). value 0 (take (power_size (drop (at + 1 + sign_size (get_or s (at + 1) 0)) s)) (drop (at + 1 + x) s))) size_of in
      exponent_of m d u ∙ sym (power_parts s at ∙ rw (eq-eqb (get_or s at 0) 69 e, lt-ltb 0 (power_size (drop (at + 1 + sign_size (get_or s (at + 1) 0)) s)) p))
    where
      positive : (c : ℕ) {k : ℕ} → (c ≡ 0 → ⊥) → c ≡ k → 0 < k
      positive zero n e = absurd (n refl)
      positive (suc c) n e = omega arith

      exponent_of : {a b : ℕ} {x y : Bool} {v w : ℕ} → a ≡ b → x ≡ y → v ≡ w → ◌≡◌ {A = Exponent} (record { size = a; down = x; power = v }) (record { size = b; down = y; power = w })
      exponent_of p q r = cc

-- ---- the whole number

power_shift : (s : List ℕ) (at n : ℕ) → power_at (drop at s) n ≡ power_at s (at + n)
unfolding power_at
power_shift s at n =
    let e : at + suc n ≡ suc (at + n) = omega arith in
    rw (get_or-drop at s n 0, drop-drop (suc n) at s, e)

digits_shift : (s : List ℕ) (at a : ℕ) → digits_size s (at + a) ≡ at + digits_size (drop at s) a
unfolding digits_size
digits_shift s at a =
    let e : at + suc a ≡ suc (at + a) = omega arith in
    sym (rw (get_or-drop at s a 0, drop-drop (suc a) at s, e) (go (eqb (get_or s (at + a) 0) 46) (run digit? (drop (suc (at + a)) s))))
  where
    go : (b : Bool) (n : ℕ) → at + pick b (suc a + n) a ≡ pick b (suc (at + a) + n) (at + a)
    go true n = omega arith
    go false n = refl

fraction_shift : (s : List ℕ) (at a : ℕ) → digits_size s (at + a) - suc (at + a) ≡ fraction_size (drop at s) a
unfolding digits_size fraction_size
fraction_shift s at a =
    let e : at + suc a ≡ suc (at + a) = omega arith in
    sym (rw (get_or-drop at s a 0, drop-drop (suc a) at s, e) (go (eqb (get_or s (at + a) 0) 46) (run digit? (drop (suc (at + a)) s))))
  where
    go : (b : Bool) (n : ℕ) → pick b n 0 ≡ pick b (suc (at + a) + n) (at + a) - suc (at + a)
    go true n = omega arith
    go false n = omega arith

module _ (s : List ℕ) (at : ℕ) {point end fraction : ℕ} {x : Exponent} (e : point ≡ at + run digit? (drop at s)) (f : end ≡ digits_size s point) (g : fraction ≡ end - suc point) (h : x ≡ power_at s end) where
  pub number_bounds : point ≤ length s → (end ≤ length s) × (end + x.size ≤ length s)
  number_bounds l =
      let k : end ≤ length s = omega (arith, digits_fit s point l) in
      (k, omega (arith, power_fits s end k, ap (λ (y : Exponent). y.size) h))

  end_of : end ≡ at + digits_size (drop at s) (run digit? (drop at s))
  end_of = f ∙ ap (digits_size s) e ∙ digits_shift s at (run digit? (drop at s))

  power_of : x ≡ power_at (drop at s) (digits_size (drop at s) (run digit? (drop at s)))
  power_of = h ∙ ap (power_at s) end_of ∙ sym (power_shift s at (digits_size (drop at s) (run digit? (drop at s))))

  fraction_of : fraction ≡ fraction_size (drop at s) (run digit? (drop at s))
  fraction_of = g ∙ ap (λ (y : ℕ). y - suc point) f ∙ ap (λ (y : ℕ). digits_size s y - suc y) e ∙ fraction_shift s at (run digit? (drop at s))

  pub number_code : record { kind = Number (record { whole = point - at; fraction = fraction; down = x.down; power = x.power }); at = at; end = end + x.size } ≡ item_with (number_shape (drop at s)) at
  unfolding item_with number_shape number_with
  number_code =
      let a = run digit? (drop at s) in
      let n = digits_size (drop at s) a in
      let w : point - at ≡ a = omega arith in
      let y = power_at (drop at s) n in
      let z : end + y.size ≡ at + (n + y.size) = omega (arith, end_of) in
      ap (λ (u : Exponent). record { kind = Number (record { whole = point - at; fraction = fraction; down = u.down; power = u.power }); at = at; end = end + u.size }) power_of
      ∙ ap (λ (u : ℕ). record { kind = Number (record { whole = u; fraction = fraction; down = y.down; power = y.power }); at = at; end = end + y.size }) w
      ∙ ap (λ (u : ℕ). record { kind = Number (record { whole = a; fraction = u; down = y.down; power = y.power }); at = at; end = end + y.size }) fraction_of
      ∙ ap (λ (u : ℕ). record { kind = Number (record { whole = a; fraction = fraction_size (drop at s) a; down = y.down; power = y.power }); at = at; end = u }) z

-- a sign is in the text
pub exponent_sign : (s : List ℕ) (at : ℕ) {sign g : ℕ} → sign ≡ get_or s (at + 1) 0 → g ≡ sign_size sign → (g ≤ 1) × (0 < g → at + 1 < length s)
unfolding sign_size
exponent_sign s at {sign} {g} e f = go (eqb sign 43) (eqb sign 45) refl refl f
  where
    go : (u v : Bool) → eqb sign 43 ≡ u → eqb sign 45 ≡ v → g ≡ pick (u || v) 1 0 → (g ≤ 1) × (0 < g → at + 1 < length s)
    go true v p q f = (omega arith, λ h. in_text s (at + 1) (omega (arith, eqb-true sign 43 p)))
    go false true p q f = (omega arith, λ h. in_text s (at + 1) (omega (arith, eqb-true sign 45 q)))
    go false false p q f = (omega arith, λ h. absurd (omega arith))
