-- The text of a constant is read as that constant: six right bytes, to text, and back.
use Rattle.std.specs.Prelude.{ℕ, suc, ◌+◌, ◌-◌, ◌*◌, ◌/◌, ◌%◌, ◌^◌, ◌≤◌, ◌<◌, ◌≡◌, refl, Bool, true, false, not, ◌&&◌, ◌||◌, List, [], ◌∷◌, ◌++◌, T, leb, eqb, length, take, drop, get_or}
use Rattle.std.proofs.Math.Nat.{pow-succ'}
use Rattle.std.proofs.Common.{mul_assoc, mul-one, arith, sym, ap, subst, ◌∙◌, append_assoc, append-nil, leb→le, eqb→eq, length-append, length-take, length-drop, take-append-drop, le-leb, ne_eqb, leb-true, leb-false, eqb-true}
use Rattle.std.proofs.Math.Seq.{take-append_seam}
use Rattle.std.proofs.lemmas.Bool.{lt-leb, eqb-false}
use Rattle.paper.specs.Bytes.{pick, digit?, letter?, same, every}
use Rattle.paper.specs.Tokens.{Token, constant}
use Rattle.paper.specs.Constants.{value, constant_of, five, decimal_byte, decimal?, right_constant?, zero_bytes, digits_of, put_digit, trimmed, whole_part, with_point, plain_text, power_text, power_of_ten_text, text_of, constant_text}
use Rattle.paper.specs.Items.{item, sign_size, power_size, with_power, number_at, item_at}
use Rattle.paper.specs.Open.{all_Constants}
use Rattle.laws.specs.Tests.{and_left, and_right, is_true, is_false, as_T, or_else}
use Rattle.laws.specs.Names.{same_eq}
use Rattle.laws.specs.Constants.{pairs_apart}
use Rattle.laws.specs.Runs.{All, all_take, all_drop, run_all, seam, past}
use Rattle.grounds.specs.ConstantValue.{constant_is}

-- ---- digits

-- the value of digits in two parts
pub value_append : (xs ys : List ℕ) (a : ℕ) → value a (xs ++ ys) ≡ value (value a xs) ys
unfolding value
value_append [] ys a = refl
value_append (x ∷ xs) ys a = value_append xs ys (a * 10 + (x - 48))

-- trimming takes zeros off the end
pub record Trim (ds : List ℕ) : Type 0 where
  pub zeros : ℕ
  pub worth : (a : ℕ) → value a ds ≡ value a (trimmed ds) * 10 ^ zeros
  pub size : length ds ≡ length (trimmed ds) + zeros

trim_zero : (ds : List ℕ) (z : ℕ) → ((a : ℕ) → value a ds ≡ a * 10 ^ z) → (d : ℕ) → d ≡ 48 → (a : ℕ) → value a (d ∷ ds) ≡ a * 10 ^ suc z
unfolding value
trim_zero ds z w d e a =
    let n : a * 10 + (d - 48) ≡ a * 10 = omega arith in
    ap (λ (k : ℕ). value k ds) n ∙ w (a * 10) ∙ mul_assoc a 10 (10 ^ z) ∙ ap (λ (k : ℕ). a * k) (sym (pow-succ' 10 z))

trim_put : (d : ℕ) (ds ts : List ℕ) (z : ℕ) → ((a : ℕ) → value a ds ≡ value a ts * 10 ^ z) → length ds ≡ length ts + z → (b : Bool) → eqb d 48 ≡ b
    → (zs : ℕ) × (((a : ℕ) → value a (d ∷ ds) ≡ value a (put_digit d ts) * 10 ^ zs) × (suc (length ds) ≡ length (put_digit d ts) + zs))
unfolding put_digit value
trim_put d ds [] z w l true e = (suc z, ((λ a. rw e (trim_zero ds z w d (eqb-true d 48 e) a)), rw e (omega arith)))
trim_put d ds [] z w l false e = (z, ((λ a. rw e (w (a * 10 + (d - 48)))), rw e (omega arith)))
trim_put d ds (t ∷ ts) z w l b e = (z, ((λ a. w (a * 10 + (d - 48))), omega arith))

-- what trimming takes away is zeros
pub trim : (ds : List ℕ) → Trim ds
unfolding trimmed value
trim [] = record { zeros = 0; worth = (λ a. sym (mul-one a)); size = refl }
trim (d ∷ ds) =
    let t : Trim ds = trim ds in
    let p = trim_put d ds (trimmed ds) t.zeros t.worth t.size (eqb d 48) refl in
    record { zeros = p.0; worth = p.1.0; size = p.1.1 }

put_digits : (d : ℕ) (ts : List ℕ) → digit? d ≡ true → All digit? ts → (b : Bool) → eqb d 48 ≡ b → All digit? (put_digit d ts)
unfolding put_digit
put_digits d [] h a true e = rw e tt
put_digits d [] h a false e = rw e (h, tt)
put_digits d (t ∷ ts) h a b e = (h, a)

trimmed_digits : (ds : List ℕ) → All digit? ds → All digit? (trimmed ds)
unfolding trimmed
trimmed_digits [] a = tt
trimmed_digits (d ∷ ds) a = put_digits d (trimmed ds) a.0 (trimmed_digits ds a.1) (eqb d 48) refl

-- the whole part has the digits' value, with whatever comes after
whole_go : (d : ℕ) (ds ys : List ℕ) (b : Bool) → eqb d 48 ≡ b → value 0 (pick b ds (d ∷ ds) ++ ys) ≡ value 0 ((d ∷ ds) ++ ys)
unfolding value
whole_go d ds ys true e = let n : 0 ≡ 0 * 10 + (d - 48) = zero_digit d (eqb-true d 48 e) in ap (λ (k : ℕ). value k (ds ++ ys)) n
  where
    zero_digit : (d : ℕ) → d ≡ 48 → 0 ≡ 0 * 10 + (d - 48)
    zero_digit d e = omega arith
whole_go d ds ys false e = refl

whole_worth : (ds ys : List ℕ) → value 0 (whole_part ds ++ ys) ≡ value 0 (ds ++ ys)
unfolding whole_part value
whole_worth [] ys = refl
whole_worth (d ∷ ds) ys = whole_go d ds ys (eqb d 48) refl

whole_digits_go : (d : ℕ) (ds : List ℕ) (b : Bool) → All digit? (d ∷ ds) → All digit? (pick b ds (d ∷ ds))
whole_digits_go d ds true a = a.1
whole_digits_go d ds false a = a

whole_digits : (ds : List ℕ) → All digit? ds → All digit? (whole_part ds)
unfolding whole_part digit?
whole_digits [] a = (refl, tt)
whole_digits (d ∷ ds) a = whole_digits_go d ds (eqb d 48) a

-- ---- reading digits, point, power

-- a byte that ends a number
unfoldable pub ends_number : ℕ → Bool
ends_number b = not (digit? b) && (not (eqb b 46) && not (eqb b 69))

no_power : (p : ℕ) (m ys : List ℕ) (v f : ℕ) → eqb (get_or ys 0 0) 69 ≡ false → with_power p (m ++ ys) (length m) v f ≡ item p (length m) (constant_of v 0 f)
unfolding with_power
no_power p m ys v f h = rw (seam m ys, h)

-- E, a sign and two digits
a_power : (p : ℕ) (m : List ℕ) (v f g x y : ℕ) (ys : List ℕ) → eqb g 43 || eqb g 45 ≡ true → digit? x ≡ true → digit? y ≡ true
    → with_power p (m ++ 69 ∷ g ∷ x ∷ y ∷ ys) (length m) v f
    ≡ pick (eqb g 45) (item p (suc (length m) + 1 + 2) (constant_of v 0 (f + value 0 (x ∷ y ∷ [])))) (item p (suc (length m) + 1 + 2) (constant_of v (value 0 (x ∷ y ∷ [])) f))
unfolding with_power sign_size power_size
a_power p m v f g x y ys hg hx hy = rw (seam m (69 ∷ g ∷ x ∷ y ∷ ys), past m 69 (g ∷ x ∷ y ∷ ys), hg, hx, hy)

-- digits a, a point and digits b if there are any, before what is no digit, nor a point
mantissa : (p : ℕ) (a b ys : List ℕ) → All digit? a → All digit? b → digit? (get_or ys 0 0) ≡ false → eqb (get_or ys 0 0) 46 ≡ false
    → number_at p ((a ++ with_point b) ++ ys) ≡ with_power p ((a ++ with_point b) ++ ys) (length (a ++ with_point b)) (value 0 (a ++ b)) (length b)
unfolding number_at with_point digit?
mantissa p a [] ys ha hb h n =
    rw (append-nil a, run_all digit? a ys ha h, seam a ys, n, take-append_seam a ys)
mantissa p a (b ∷ bs) ys ha hb h n =
    let l : length (a ++ 46 ∷ b ∷ bs) ≡ suc (length a) + length (b ∷ bs) = omega (arith, length-append a (46 ∷ b ∷ bs)) in
    rw (append_assoc a (46 ∷ b ∷ bs) ys, run_all digit? a (46 ∷ ((b ∷ bs) ++ ys)) ha refl, seam a (46 ∷ ((b ∷ bs) ++ ys)), past a 46 ((b ∷ bs) ++ ys), run_all digit? (b ∷ bs) ys hb h, take-append_seam a (46 ∷ ((b ∷ bs) ++ ys)), take-append_seam (b ∷ bs) ys, l)

-- ---- the six bytes

decimal_digits : (b : ℕ) → T (decimal? b) → (digit? (48 + b / 16) ≡ true) × (digit? (48 + b % 16) ≡ true)
unfolding decimal? digit?
decimal_digits b t =
    let h : b / 16 ≤ 9 = leb→le (b / 16) 9 (and_left (leb (b / 16) 9) (leb (b % 16) 9) t) in
    let l : b % 16 ≤ 9 = leb→le (b % 16) 9 (and_right (leb (b / 16) 9) (leb (b % 16) 9) t) in
    (rw (le-leb 48 (48 + b / 16) (omega arith), le-leb (48 + b / 16) 57 (omega arith)), rw (le-leb 48 (48 + b % 16) (omega arith), le-leb (48 + b % 16) 57 (omega arith)))

digits_digits : (bs : List ℕ) → T (every decimal? bs) → All digit? (digits_of bs)
unfolding digits_of every
digits_digits [] t = tt
digits_digits (b ∷ bs) t =
    let d = decimal_digits b (and_left (decimal? b) (every decimal? bs) t) in
    (d.0, (d.1, digits_digits bs (and_right (decimal? b) (every decimal? bs) t)))

-- two digits of a byte, as they stand in a number
pair : (b : ℕ) → T (decimal? b) → decimal_byte (b / 16 * 10 + b % 16) ≡ b
unfolding decimal? decimal_byte
pair b t =
    let h : b / 16 ≤ 9 = leb→le (b / 16) 9 (and_left (leb (b / 16) 9) (leb (b % 16) 9) t) in
    let l : b % 16 ≤ 9 = leb→le (b % 16) 9 (and_right (leb (b / 16) 9) (leb (b % 16) 9) t) in
    omega arith

pair_below : (b : ℕ) → T (decimal? b) → b / 16 * 10 + b % 16 < 100
unfolding decimal?
pair_below b t =
    let h : b / 16 ≤ 9 = leb→le (b / 16) 9 (and_left (leb (b / 16) 9) (leb (b % 16) 9) t) in
    let l : b % 16 ≤ 9 = leb→le (b % 16) 9 (and_right (leb (b / 16) 9) (leb (b % 16) 9) t) in
    omega arith

value_pair : (a x y : ℕ) (r : List ℕ) → value a ((48 + x) ∷ (48 + y) ∷ r) ≡ value (a * 100 + (x * 10 + y)) r
unfolding value
value_pair a x y r = let e : (a * 10 + (48 + x - 48)) * 10 + (48 + y - 48) ≡ a * 100 + (x * 10 + y) = omega arith in ap (λ (k : ℕ). value k r) e

last : (m1 m2 m3 m4 m5 : ℕ) → value ((((((0 * 100 + m1) * 100 + m2) * 100 + m3) * 100 + m4) * 100) + m5) [] ≡ (((m1 * 100 + m2) * 100 + m3) * 100 + m4) * 100 + m5
unfolding value
last m1 m2 m3 m4 m5 = omega arith

ten_value : (b1 b2 b3 b4 b5 : ℕ) → value 0 (digits_of (b1 ∷ b2 ∷ b3 ∷ b4 ∷ b5 ∷ []))
    ≡ ((((b1 / 16 * 10 + b1 % 16) * 100 + (b2 / 16 * 10 + b2 % 16)) * 100 + (b3 / 16 * 10 + b3 % 16)) * 100 + (b4 / 16 * 10 + b4 % 16)) * 100 + (b5 / 16 * 10 + b5 % 16)
unfolding digits_of
ten_value b1 b2 b3 b4 b5 =
    value_pair 0 (b1 / 16) (b1 % 16) _
    ∙ value_pair (0 * 100 + (b1 / 16 * 10 + b1 % 16)) (b2 / 16) (b2 % 16) _
    ∙ value_pair ((0 * 100 + (b1 / 16 * 10 + b1 % 16)) * 100 + (b2 / 16 * 10 + b2 % 16)) (b3 / 16) (b3 % 16) _
    ∙ value_pair (((0 * 100 + (b1 / 16 * 10 + b1 % 16)) * 100 + (b2 / 16 * 10 + b2 % 16)) * 100 + (b3 / 16 * 10 + b3 % 16)) (b4 / 16) (b4 % 16) _
    ∙ value_pair ((((0 * 100 + (b1 / 16 * 10 + b1 % 16)) * 100 + (b2 / 16 * 10 + b2 % 16)) * 100 + (b3 / 16 * 10 + b3 % 16)) * 100 + (b4 / 16 * 10 + b4 % 16)) (b5 / 16) (b5 % 16) []
    ∙ last (b1 / 16 * 10 + b1 % 16) (b2 / 16 * 10 + b2 % 16) (b3 / 16 * 10 + b3 % 16) (b4 / 16 * 10 + b4 % 16) (b5 / 16 * 10 + b5 % 16)

-- what is known of the five bytes of a right constant that is not zero
record Five (b1 b2 b3 b4 b5 : ℕ) : Type 0 where
  pub digits : List ℕ
  pub are : digits_of (b1 ∷ b2 ∷ b3 ∷ b4 ∷ b5 ∷ []) ≡ digits
  pub all : All digit? digits
  pub ten : length digits ≡ 10
  pub bytes : five (value 0 digits) ≡ b1 ∷ b2 ∷ b3 ∷ b4 ∷ b5 ∷ []
  pub least : 100000000 ≤ value 0 digits
  pub most : value 0 digits < 10000000000

five_of : (b1 b2 b3 b4 b5 : ℕ) → T (every decimal? (b1 ∷ b2 ∷ b3 ∷ b4 ∷ b5 ∷ [])) → (b1 ≡ 0 → ⊥) → Five b1 b2 b3 b4 b5
unfolding five digits_of every
five_of b1 b2 b3 b4 b5 t n =
    let ds : List ℕ = digits_of (b1 ∷ b2 ∷ b3 ∷ b4 ∷ b5 ∷ []) in
    let v = ten_value b1 b2 b3 b4 b5 in
    let t1 : T (decimal? b1) = and_left (decimal? b1) _ t in
    let r1 : T (every decimal? (b2 ∷ b3 ∷ b4 ∷ b5 ∷ [])) = and_right (decimal? b1) _ t in
    let t2 : T (decimal? b2) = and_left (decimal? b2) _ r1 in
    let r2 : T (every decimal? (b3 ∷ b4 ∷ b5 ∷ [])) = and_right (decimal? b2) _ r1 in
    let t3 : T (decimal? b3) = and_left (decimal? b3) _ r2 in
    let r3 : T (every decimal? (b4 ∷ b5 ∷ [])) = and_right (decimal? b3) _ r2 in
    let t4 : T (decimal? b4) = and_left (decimal? b4) _ r3 in
    let r4 : T (every decimal? (b5 ∷ [])) = and_right (decimal? b4) _ r3 in
    let t5 : T (decimal? b5) = and_left (decimal? b5) _ r4 in
    let a = pairs_apart (b1 / 16 * 10 + b1 % 16) (b2 / 16 * 10 + b2 % 16) (b3 / 16 * 10 + b3 % 16) (b4 / 16 * 10 + b4 % 16) (b5 / 16 * 10 + b5 % 16) (value 0 ds) (pair_below b1 t1) (pair_below b2 t2) (pair_below b3 t3) (pair_below b4 t4) (pair_below b5 t5) v in
    record {
      digits = ds;
      are = refl;
      all = digits_digits (b1 ∷ b2 ∷ b3 ∷ b4 ∷ b5 ∷ []) t;
      ten = refl;
      bytes = rw (a.0, a.1, a.2, a.3, a.4, pair b1 t1, pair b2 t2, pair b3 t3, pair b4 t4, pair b5 t5);
      least = least_of b1 (b2 / 16 * 10 + b2 % 16) (b3 / 16 * 10 + b3 % 16) (b4 / 16 * 10 + b4 % 16) (b5 / 16 * 10 + b5 % 16) (value 0 ds) n v;
      most = most_of (b1 / 16 * 10 + b1 % 16) (b2 / 16 * 10 + b2 % 16) (b3 / 16 * 10 + b3 % 16) (b4 / 16 * 10 + b4 % 16) (b5 / 16 * 10 + b5 % 16) (value 0 ds) (pair_below b1 t1) (pair_below b2 t2) (pair_below b3 t3) (pair_below b4 t4) (pair_below b5 t5) v;
    }
  where
    least_of : (b m2 m3 m4 m5 q : ℕ) → (b ≡ 0 → ⊥) → q ≡ ((((b / 16 * 10 + b % 16) * 100 + m2) * 100 + m3) * 100 + m4) * 100 + m5 → 100000000 ≤ q
    least_of b m2 m3 m4 m5 q n e = omega arith

    most_of : (m1 m2 m3 m4 m5 q : ℕ) → m1 < 100 → m2 < 100 → m3 < 100 → m4 < 100 → m5 < 100 → q ≡ (((m1 * 100 + m2) * 100 + m3) * 100 + m4) * 100 + m5 → q < 10000000000
    most_of m1 m2 m3 m4 m5 q h1 h2 h3 h4 h5 e = omega arith

-- ---- the texts

digit_most : (x : ℕ) → digit? x ≡ true → x ≤ 57
unfolding digit?
digit_most x h = leb→le x 57 (and_right (leb 48 x) (leb x 57) (as_T (leb 48 x && leb x 57) h))

no_letter : (x : ℕ) → digit? x ≡ true → letter? x ≡ false
unfolding letter?
no_letter x h = rw (lt-leb 65 x (omega (arith, digit_most x h)))

-- where the first byte is a digit, the item is a number
pub number_item : (first : Bool) (p : ℕ) (a s : List ℕ) → All digit? a → (a ≡ [] → ⊥) → item_at first p (a ++ s) ≡ number_at p (a ++ s)
unfolding item_at
number_item first p [] s h n = absurd (n refl)
number_item first p (x ∷ xs) s h n = rw (no_letter x h.0, h.0)

some : (x : ℕ) (xs : List ℕ) → x ∷ xs ≡ [] → ⊥
some x xs e = let n : suc (length xs) ≡ 0 = ap length e in omega arith

whole_some : (l : List ℕ) → (length l ≡ 1 → ⊥) → whole_part l ≡ [] → ⊥
unfolding whole_part
whole_some [] n e = some 48 [] e
whole_some (x ∷ []) n e = n refl
whole_some (x ∷ y ∷ r) n e = go (eqb x 48) e
  where
    go : (b : Bool) → pick b (y ∷ r) (x ∷ y ∷ r) ≡ [] → ⊥
    go true e = some y r e
    go false e = some x (y ∷ r) e

-- the value of a mantissa: digits a, and the digits r that are left of ds after trimming
trim_worth : (a ds : List ℕ) (t : Trim ds) → value 0 (a ++ ds) ≡ value 0 (a ++ trimmed ds) * 10 ^ t.zeros
trim_worth a ds t = value_append a ds 0 ∙ t.worth (value 0 a) ∙ ap (λ (n : ℕ). n * 10 ^ t.zeros) (sym (value_append a (trimmed ds) 0))

-- after a mantissa that ends the number
plain_number : (first : Bool) (p : ℕ) (a r ys : List ℕ) → All digit? a → All digit? r → (a ≡ [] → ⊥) → T (ends_number (get_or ys 0 0))
    → item_at first p ((a ++ with_point r) ++ ys) ≡ item p (length (a ++ with_point r)) (constant_of (value 0 (a ++ r)) 0 (length r))
unfolding ends_number
plain_number first p a r ys ha hr n t =
    let d : digit? (get_or ys 0 0) ≡ false = is_false (digit? (get_or ys 0 0)) (and_left (not (digit? (get_or ys 0 0))) _ t) in
    let o = and_right (not (digit? (get_or ys 0 0))) _ t in
    let pt : eqb (get_or ys 0 0) 46 ≡ false = is_false (eqb (get_or ys 0 0) 46) (and_left (not (eqb (get_or ys 0 0) 46)) _ o) in
    let ee : eqb (get_or ys 0 0) 69 ≡ false = is_false (eqb (get_or ys 0 0) 69) (and_right (not (eqb (get_or ys 0 0) 46)) _ o) in
    let seq : (a ++ with_point r) ++ ys ≡ a ++ (with_point r ++ ys) = append_assoc a (with_point r) ys in
    ap (λ (l : List ℕ). item_at first p l) seq ∙ number_item first p a (with_point r ++ ys) ha n ∙ ap (λ (l : List ℕ). number_at p l) (sym seq)
    ∙ mantissa p a r ys ha hr d pt
    ∙ no_power p (a ++ with_point r) ys (value 0 (a ++ r)) (length r) ee

two_digits : (x : ℕ) → x < 100 → (digit? (48 + x / 10) ≡ true) × (digit? (48 + x % 10) ≡ true) × (value 0 ((48 + x / 10) ∷ (48 + x % 10) ∷ []) ≡ x)
unfolding digit? value
two_digits x h = (
  rw (le-leb 48 (48 + x / 10) (omega arith), le-leb (48 + x / 10) 57 (omega arith)),
  rw (le-leb 48 (48 + x % 10) (omega arith), le-leb (48 + x % 10) 57 (omega arith)),
  omega arith,
)

-- before a power of ten
power_number : (first : Bool) (p : ℕ) (a r : List ℕ) (g x : ℕ) (ys : List ℕ) → All digit? a → All digit? r → (a ≡ [] → ⊥) → eqb g 43 || eqb g 45 ≡ true → x < 100
    → item_at first p ((a ++ with_point r) ++ 69 ∷ g ∷ (48 + x / 10) ∷ (48 + x % 10) ∷ ys)
    ≡ pick (eqb g 45) (item p (suc (length (a ++ with_point r)) + 1 + 2) (constant_of (value 0 (a ++ r)) 0 (length r + x))) (item p (suc (length (a ++ with_point r)) + 1 + 2) (constant_of (value 0 (a ++ r)) x (length r)))
unfolding digit?
power_number first p a r g x ys ha hr n hg h =
    let zs : List ℕ = 69 ∷ g ∷ (48 + x / 10) ∷ (48 + x % 10) ∷ ys in
    let seq : (a ++ with_point r) ++ zs ≡ a ++ (with_point r ++ zs) = append_assoc a (with_point r) zs in
    let two = two_digits x h in
    ap (λ (l : List ℕ). item_at first p l) seq ∙ number_item first p a (with_point r ++ zs) ha n ∙ ap (λ (l : List ℕ). number_at p l) (sym seq)
    ∙ mantissa p a r zs ha hr refl refl
    ∙ a_power p (a ++ with_point r) (value 0 (a ++ r)) (length r) g (48 + x / 10) (48 + x % 10) ys hg two.0 two.1
    ∙ ap (λ (z : ℕ). pick (eqb g 45) (item p (suc (length (a ++ with_point r)) + 1 + 2) (constant_of (value 0 (a ++ r)) 0 (length r + z))) (item p (suc (length (a ++ with_point r)) + 1 + 2) (constant_of (value 0 (a ++ r)) z (length r)))) two.2

-- what is left of a right constant's text: the token, once the digits' worth and count fit
token_is : (b v u d z : ℕ) (b1 b2 b3 b4 b5 : ℕ) (f : Five b1 b2 b3 b4 b5) → 15 ≤ b → b ≤ 112 → value 0 f.digits ≡ v * 10 ^ z → u + 106 ≡ z + d + 2 * (b - 15)
    → constant_of v u d ≡ constant (b ∷ b1 ∷ b2 ∷ b3 ∷ b4 ∷ b5 ∷ [])
token_is b v u d z b1 b2 b3 b4 b5 f lo hi worth power =
    let k : b - 15 + 15 ≡ b = omega arith in
    constant_is v u d (b - 15) z (value 0 f.digits) worth power (omega arith) f.least f.most
    ∙ ap (λ (n : ℕ). constant (n ∷ five (value 0 f.digits))) k
    ∙ ap (λ (l : List ℕ). constant (b ∷ l)) f.bytes

min_ten : (n : ℕ) (l : List ℕ) → length l ≡ 10 → n ≤ 10 → (length (take n l) ≡ n) × (length (drop n l) ≡ 10 - n)
min_ten n l e h = (length-take n l ∙ omega arith, length-drop n l ∙ omega arith)

-- from 3F to 44: plain
plain_reads : (first : Bool) (p b b1 b2 b3 b4 b5 : ℕ) (f : Five b1 b2 b3 b4 b5) (ys : List ℕ) → 63 ≤ b → b ≤ 68 → T (ends_number (get_or ys 0 0))
    → item_at first p (plain_text (2 * (b - 63)) f.digits ++ ys) ≡ item p (length (plain_text (2 * (b - 63)) f.digits)) (constant (b ∷ b1 ∷ b2 ∷ b3 ∷ b4 ∷ b5 ∷ []))
unfolding plain_text
plain_reads first p b b1 b2 b3 b4 b5 f ys lo hi t =
    let n : ℕ = 2 * (b - 63) in
    let ds : List ℕ = f.digits in
    let a : List ℕ = whole_part (take n ds) in
    let tr : Trim (drop n ds) = trim (drop n ds) in
    let r : List ℕ = trimmed (drop n ds) in
    let l : (length (take n ds) ≡ n) × (length (drop n ds) ≡ 10 - n) = min_ten n ds f.ten (omega arith) in
    let worth : value 0 ds ≡ value 0 (a ++ r) * 10 ^ tr.zeros =
    ap (value 0) (sym (take-append-drop n ds)) ∙ sym (whole_worth (take n ds) (drop n ds)) ∙ trim_worth a (drop n ds) tr in
    plain_number first p a r ys (whole_digits (take n ds) (all_take digit? n ds f.all)) (trimmed_digits (drop n ds) (all_drop digit? n ds f.all))
    (whole_some (take n ds) (λ e. omega arith)) t
    ∙ ap (item p (length (a ++ with_point r)))
    (token_is b (value 0 (a ++ r)) 0 (length r) tr.zeros b1 b2 b3 b4 b5 f (omega arith) (omega arith) worth (omega (arith, tr.size)))

-- with a power of ten: m is the ten digits, or nine after a zero
power_reads : (first : Bool) (p b b1 b2 b3 b4 b5 : ℕ) (f : Five b1 b2 b3 b4 b5) (m ys : List ℕ) → 15 ≤ b → b ≤ 112 → All digit? m → 9 ≤ length m → length m ≤ 10 → value 0 m ≡ value 0 f.digits
    → item_at first p (power_of_ten_text b m ++ ys) ≡ item p (length (power_of_ten_text b m)) (constant (b ∷ b1 ∷ b2 ∷ b3 ∷ b4 ∷ b5 ∷ []))
unfolding power_of_ten_text power_text
power_reads first p b b1 b2 b3 b4 b5 f m ys lo hi dm least most same_value = go (leb 137 (2 * b + length m)) refl
  where
    a : List ℕ
    a = take 1 m

    r : List ℕ
    r = trimmed (drop 1 m)

    tr : Trim (drop 1 m)
    tr = trim (drop 1 m)

    worth : value 0 f.digits ≡ value 0 (a ++ r) * 10 ^ tr.zeros
    worth = sym same_value ∙ ap (value 0) (sym (take-append-drop 1 m)) ∙ trim_worth a (drop 1 m) tr

    count : length r + tr.zeros + 1 ≡ length m
    count = omega (arith, tr.size, length-drop 1 m)

    full : a ≡ [] → ⊥
    full e = let n : length a ≡ 0 = ap length e in let k : length a ≡ 1 = length-take 1 m ∙ omega arith in omega arith

    da : All digit? a
    da = all_take digit? 1 m dm

    dr : All digit? r
    dr = trimmed_digits (drop 1 m) (all_drop digit? 1 m dm)

    long : (g x y : ℕ) → suc (length (a ++ with_point r)) + 1 + 2 ≡ length ((a ++ with_point r) ++ 69 ∷ g ∷ x ∷ y ∷ [])
    long g x y = omega (arith, length-append (a ++ with_point r) (69 ∷ g ∷ x ∷ y ∷ []))

    x : ℕ
    x = 2 * b + length m

    go : (t : Bool) → leb 137 x ≡ t
        → item_at first p (((a ++ with_point r) ++ pick t (69 ∷ 43 ∷ (48 + (x - 137) / 10) ∷ (48 + (x - 137) % 10) ∷ []) (69 ∷ 45 ∷ (48 + (137 - x) / 10) ∷ (48 + (137 - x) % 10) ∷ [])) ++ ys)
        ≡ item p (length ((a ++ with_point r) ++ pick t (69 ∷ 43 ∷ (48 + (x - 137) / 10) ∷ (48 + (x - 137) % 10) ∷ []) (69 ∷ 45 ∷ (48 + (137 - x) / 10) ∷ (48 + (137 - x) % 10) ∷ []))) (constant (b ∷ b1 ∷ b2 ∷ b3 ∷ b4 ∷ b5 ∷ []))
    go true e =
        let g : 137 ≤ x = leb-true 137 x e in
        ap (λ (l : List ℕ). item_at first p l) (append_assoc (a ++ with_point r) (69 ∷ 43 ∷ (48 + (x - 137) / 10) ∷ (48 + (x - 137) % 10) ∷ []) ys)
        ∙ power_number first p a r 43 (x - 137) ys da dr full refl (omega arith)
        ∙ ap (λ (t : Token). item p (suc (length (a ++ with_point r)) + 1 + 2) t) (token_is b (value 0 (a ++ r)) (x - 137) (length r) tr.zeros b1 b2 b3 b4 b5 f lo hi worth (omega (arith, count)))
        ∙ ap (λ (n : ℕ). item p n (constant (b ∷ b1 ∷ b2 ∷ b3 ∷ b4 ∷ b5 ∷ []))) (long 43 (48 + (x - 137) / 10) (48 + (x - 137) % 10))
    go false e =
        let g : x < 137 = leb-false 137 x e in
        ap (λ (l : List ℕ). item_at first p l) (append_assoc (a ++ with_point r) (69 ∷ 45 ∷ (48 + (137 - x) / 10) ∷ (48 + (137 - x) % 10) ∷ []) ys)
        ∙ power_number first p a r 45 (137 - x) ys da dr full refl (omega arith)
        ∙ ap (λ (t : Token). item p (suc (length (a ++ with_point r)) + 1 + 2) t) (token_is b (value 0 (a ++ r)) 0 (length r + (137 - x)) tr.zeros b1 b2 b3 b4 b5 f lo hi worth (omega (arith, count)))
        ∙ ap (λ (n : ℕ). item p n (constant (b ∷ b1 ∷ b2 ∷ b3 ∷ b4 ∷ b5 ∷ []))) (long 45 (48 + (137 - x) / 10) (48 + (137 - x) % 10))

-- ---- the whole

-- the digits of a whole part: no more than there are, and one less if the first is zero
pub whole_size : (ds : List ℕ) → length ds ≡ 10 → (9 ≤ length (whole_part ds)) × (length (whole_part ds) ≤ 10)
unfolding whole_part
whole_size [] e = absurd (omega arith)
whole_size (d ∷ ds) e = go (eqb d 48)
  where
    go : (b : Bool) → (9 ≤ length (pick b ds (d ∷ ds))) × (length (pick b ds (d ∷ ds)) ≤ 10)
    go true = (omega arith, omega arith)
    go false = (omega arith, omega arith)

-- a right constant that is not zero
some_reads : (first : Bool) (p b b1 b2 b3 b4 b5 : ℕ) (f : Five b1 b2 b3 b4 b5) (ys : List ℕ) → 15 ≤ b → b ≤ 112 → T (ends_number (get_or ys 0 0))
    → item_at first p (text_of b f.digits ++ ys) ≡ item p (length (text_of b f.digits)) (constant (b ∷ b1 ∷ b2 ∷ b3 ∷ b4 ∷ b5 ∷ []))
unfolding text_of
some_reads first p b b1 b2 b3 b4 b5 f ys lo hi t = rw (ne_eqb b 0 (λ e. omega arith)) (go (leb 63 b) refl (leb b 68) refl)
  where
    ds : List ℕ
    ds = f.digits

    with_power_of_ten : item_at first p (power_of_ten_text b (whole_part ds) ++ ys) ≡ item p (length (power_of_ten_text b (whole_part ds))) (constant (b ∷ b1 ∷ b2 ∷ b3 ∷ b4 ∷ b5 ∷ []))
    with_power_of_ten =
        power_reads first p b b1 b2 b3 b4 b5 f (whole_part ds) ys lo hi (whole_digits ds f.all) (whole_size ds f.ten).0 (whole_size ds f.ten).1
        (ap (value 0) (sym (append-nil (whole_part ds))) ∙ whole_worth ds [] ∙ ap (value 0) (append-nil ds))

    go : (x : Bool) → leb 63 b ≡ x → (y : Bool) → leb b 68 ≡ y
        → item_at first p (pick (x && y) (plain_text (2 * (b - 63)) ds) (power_of_ten_text b (whole_part ds)) ++ ys)
        ≡ item p (length (pick (x && y) (plain_text (2 * (b - 63)) ds) (power_of_ten_text b (whole_part ds)))) (constant (b ∷ b1 ∷ b2 ∷ b3 ∷ b4 ∷ b5 ∷ []))
    go true e true g = plain_reads first p b b1 b2 b3 b4 b5 f ys (leb-true 63 b e) (leb-true b 68 g) t
    go true e false g = with_power_of_ten
    go false e y g = with_power_of_ten

zero_reads : (first : Bool) (p : ℕ) (ys : List ℕ) → T (ends_number (get_or ys 0 0)) → item_at first p (48 ∷ ys) ≡ item p 1 (constant zero_bytes)
unfolding all_Constants digit?
zero_reads first p ys t = plain_number first p (48 ∷ []) [] ys (refl, tt) tt (some 48 []) t

-- (e) The text of six right bytes, before a byte that ends a number, is read as one item: the constant with those six bytes.
pub constant_reads : (s : List ℕ) → T (right_constant? s) → (first : Bool) (p : ℕ) (ys : List ℕ) → T (ends_number (get_or ys 0 0))
    → item_at first p (constant_text s ++ ys) ≡ item p (length (constant_text s)) (constant s)
unfolding right_constant? constant_text text_of zero_bytes digits_of five_of
constant_reads s t first p ys h =
    or_else (same s zero_bytes) _ (and_right (eqb (length s) 6) _ t)
    (λ z. subst (λ (l : List ℕ). item_at first p (text_of (get_or l 0 0) (digits_of (drop 1 l)) ++ ys) ≡ item p (length (text_of (get_or l 0 0) (digits_of (drop 1 l)))) (constant l)) (sym (same_eq s zero_bytes (is_true (same s zero_bytes) z))) (zero_case h))
    (λ n. other s (eqb→eq (length s) 6 (and_left (eqb (length s) 6) _ t)) n)
  where
    zero_case : T (ends_number (get_or ys 0 0)) → item_at first p (text_of (get_or zero_bytes 0 0) (digits_of (drop 1 zero_bytes)) ++ ys) ≡ item p (length (text_of (get_or zero_bytes 0 0) (digits_of (drop 1 zero_bytes)))) (constant zero_bytes)
    zero_case h = zero_reads first p ys h

    other : (s : List ℕ) → length s ≡ 6 → T (leb 0x0f (get_or s 0 0) && (leb (get_or s 0 0) 0x70 && (every decimal? (drop 1 s) && not (eqb (get_or s 1 0) 0))))
        → item_at first p (text_of (get_or s 0 0) (digits_of (drop 1 s)) ++ ys) ≡ item p (length (text_of (get_or s 0 0) (digits_of (drop 1 s)))) (constant s)
    other (b ∷ b1 ∷ b2 ∷ b3 ∷ b4 ∷ b5 ∷ []) e n =
        let n2 = and_right (leb 0x0f b) _ n in
        let n3 = and_right (leb b 0x70) _ n2 in
        let nz : eqb b1 0 ≡ false = is_false (eqb b1 0) (and_right (every decimal? (b1 ∷ b2 ∷ b3 ∷ b4 ∷ b5 ∷ [])) _ n3) in
        some_reads first p b b1 b2 b3 b4 b5 (five_of b1 b2 b3 b4 b5 (and_left (every decimal? (b1 ∷ b2 ∷ b3 ∷ b4 ∷ b5 ∷ [])) _ n3) (eqb-false b1 0 nz)) ys (leb→le 0x0f b (and_left (leb 0x0f b) _ n)) (leb→le b 0x70 (and_left (leb b 0x70) _ n2)) h
    other [] e n = absurd (omega arith)
    other (b ∷ []) e n = absurd (omega arith)
    other (b ∷ b1 ∷ []) e n = absurd (omega arith)
    other (b ∷ b1 ∷ b2 ∷ []) e n = absurd (omega arith)
    other (b ∷ b1 ∷ b2 ∷ b3 ∷ []) e n = absurd (omega arith)
    other (b ∷ b1 ∷ b2 ∷ b3 ∷ b4 ∷ []) e n = absurd (omega arith)
    other (b ∷ b1 ∷ b2 ∷ b3 ∷ b4 ∷ b5 ∷ b6 ∷ r) e n = absurd (omega arith)

-- ---- a constant's text starts with a digit

abbrev Starts : List ℕ → Type 0
Starts l = digit? (get_or l 0 0) ≡ true

no_digit : digit? 0 ≡ true → ⊥
unfolding digit?
no_digit e = let z : ◌≡◌ {A = ℕ} 0 1 = cc in omega arith

forty_eight : digit? 48 ≡ true
unfolding digit?
forty_eight = refl

starts_append : (l ys : List ℕ) → Starts l → Starts (l ++ ys)
starts_append [] ys h = absurd (no_digit h)
starts_append (x ∷ l) ys h = h

starts_all : (l : List ℕ) → All digit? l → (l ≡ [] → ⊥) → Starts l
starts_all [] a n = absurd (n refl)
starts_all (x ∷ l) a n = a.0

starts_take : (l : List ℕ) → Starts l → Starts (take 1 l)
starts_take [] h = h
starts_take (x ∷ l) h = h

text_starts : (b b1 b2 b3 b4 b5 : ℕ) (f : Five b1 b2 b3 b4 b5) → Starts (text_of b f.digits)
unfolding text_of plain_text power_of_ten_text
text_starts b b1 b2 b3 b4 b5 f = go (eqb b 0) (leb 63 b) refl (leb b 68) refl
  where
    ds : List ℕ
    ds = f.digits

    power_starts : Starts (power_of_ten_text b (whole_part ds))
    power_starts = starts_append (take 1 (whole_part ds) ++ with_point (trimmed (drop 1 (whole_part ds)))) _ (starts_append (take 1 (whole_part ds)) _ (starts_take (whole_part ds) (starts_all (whole_part ds) (whole_digits ds f.all) (whole_some ds (λ e. omega (arith, f.ten))))))

    go : (z x : Bool) → leb 63 b ≡ x → (y : Bool) → leb b 68 ≡ y → Starts (pick z (48 ∷ []) (pick (x && y) (plain_text (2 * (b - 63)) ds) (power_of_ten_text b (whole_part ds))))
    go true x e y g = forty_eight
    go false true e true g =
        let lo : 63 ≤ b = leb-true 63 b e in
        let hi : b ≤ 68 = leb-true b 68 g in
        let l : length (take (2 * (b - 63)) ds) ≡ 2 * (b - 63) = (min_ten (2 * (b - 63)) ds f.ten (omega arith)).0 in
        starts_append (whole_part (take (2 * (b - 63)) ds)) _ (starts_all (whole_part (take (2 * (b - 63)) ds)) (whole_digits (take (2 * (b - 63)) ds) (all_take digit? (2 * (b - 63)) ds f.all)) (whole_some (take (2 * (b - 63)) ds) (λ k. omega arith)))
    go false true e false g = power_starts
    go false false e y g = power_starts

-- a constant's text begins with a digit
pub constant_starts : (s : List ℕ) → T (right_constant? s) → digit? (get_or (constant_text s) 0 0) ≡ true
unfolding right_constant? constant_text text_of zero_bytes digits_of five_of
constant_starts s t =
    or_else (same s zero_bytes) _ (and_right (eqb (length s) 6) _ t)
    (λ z. subst (λ (l : List ℕ). Starts (text_of (get_or l 0 0) (digits_of (drop 1 l)))) (sym (same_eq s zero_bytes (is_true (same s zero_bytes) z))) forty_eight)
    (λ n. other s (eqb→eq (length s) 6 (and_left (eqb (length s) 6) _ t)) n)
  where
    other : (s : List ℕ) → length s ≡ 6 → T (leb 0x0f (get_or s 0 0) && (leb (get_or s 0 0) 0x70 && (every decimal? (drop 1 s) && not (eqb (get_or s 1 0) 0)))) → Starts (text_of (get_or s 0 0) (digits_of (drop 1 s)))
    other (b ∷ b1 ∷ b2 ∷ b3 ∷ b4 ∷ b5 ∷ []) e n =
        let n3 = and_right (leb b 0x70) _ (and_right (leb 0x0f b) _ n) in
        let nz : eqb b1 0 ≡ false = is_false (eqb b1 0) (and_right (every decimal? (b1 ∷ b2 ∷ b3 ∷ b4 ∷ b5 ∷ [])) _ n3) in
        text_starts b b1 b2 b3 b4 b5 (five_of b1 b2 b3 b4 b5 (and_left (every decimal? (b1 ∷ b2 ∷ b3 ∷ b4 ∷ b5 ∷ [])) _ n3) (eqb-false b1 0 nz))
    other [] e n = absurd (omega arith)
    other (b ∷ []) e n = absurd (omega arith)
    other (b ∷ b1 ∷ []) e n = absurd (omega arith)
    other (b ∷ b1 ∷ b2 ∷ []) e n = absurd (omega arith)
    other (b ∷ b1 ∷ b2 ∷ b3 ∷ []) e n = absurd (omega arith)
    other (b ∷ b1 ∷ b2 ∷ b3 ∷ b4 ∷ []) e n = absurd (omega arith)
    other (b ∷ b1 ∷ b2 ∷ b3 ∷ b4 ∷ b5 ∷ b6 ∷ r) e n = absurd (omega arith)
