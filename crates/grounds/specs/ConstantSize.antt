-- A constant lists in at most 15 bytes, and its listing is read as that constant.
use Rattle.std.specs.Prelude.{ℕ, ◌+◌, ◌-◌, ◌*◌, ◌/◌, ◌%◌, ◌≤◌, ◌≡◌, refl, Bool, true, false, ◌&&◌, List, [], ◌∷◌, ◌++◌, T, leb, eqb, length, take, drop, get_or}
use Rattle.std.proofs.Common.{arith, sym, ap, ◌∙◌, append-nil, eqb→eq, length-append, length-take, length-drop}
use Rattle.paper.specs.Bytes.{pick}
use Rattle.paper.specs.Tokens.{constant}
use Rattle.paper.specs.Constants.{right_constant?, digits_of, trimmed, whole_part, with_point, plain_text, power_text, power_of_ten_text, text_of, constant_text}
use Rattle.paper.specs.Items.{item, item_at}
use Rattle.paper.specs.Open.{all_Bytes}
use Rattle.laws.specs.Tests.{and_left}
use Rattle.grounds.specs.ConstantText.{trim, whole_size, ends_number, constant_reads}

digits_size : (bs : List ℕ) → length (digits_of bs) ≡ 2 * length bs
unfolding digits_of
digits_size [] = refl
digits_size (b ∷ bs) = let e = digits_size bs in omega arith

whole_most : (ds : List ℕ) → length (whole_part ds) ≤ 1 + length ds
unfolding whole_part
whole_most [] = omega arith
whole_most (d ∷ ds) = go (eqb d 48)
  where
    go : (b : Bool) → length (pick b ds (d ∷ ds)) ≤ 1 + length (d ∷ ds)
    go true = omega arith
    go false = omega arith

point_most : (ds : List ℕ) → length (with_point ds) ≤ 1 + length ds
unfolding with_point
point_most [] = omega arith
point_most (d ∷ ds) = omega arith

plain_most : (n : ℕ) (ds : List ℕ) → length ds ≡ 10 → length (plain_text n ds) ≤ 15
unfolding plain_text
plain_most n ds e =
    omega (arith, length-append (whole_part (take n ds)) (with_point (trimmed (drop n ds))), whole_most (take n ds), point_most (trimmed (drop n ds)), (trim (drop n ds)).size, length-take n ds, length-drop n ds)

power_four : (x : ℕ) → length (power_text x) ≡ 4
unfolding power_text
power_four x = go (leb 137 x)
  where
    go : (b : Bool) → length (pick b (69 ∷ 43 ∷ (48 + (x - 137) / 10) ∷ (48 + (x - 137) % 10) ∷ []) (69 ∷ 45 ∷ (48 + (137 - x) / 10) ∷ (48 + (137 - x) % 10) ∷ [])) ≡ 4
    go true = refl
    go false = refl

power_most : (b : ℕ) (m : List ℕ) → length m ≤ 10 → length (power_of_ten_text b m) ≤ 15
unfolding power_of_ten_text
power_most b m h =
    let p : List ℕ = with_point (trimmed (drop 1 m)) in
    omega (arith, length-append (take 1 m ++ p) (power_text (2 * b + length m)), length-append (take 1 m) p, length-take 1 m, point_most (trimmed (drop 1 m)), (trim (drop 1 m)).size, length-drop 1 m, power_four (2 * b + length m))

text_most : (b : ℕ) (ds : List ℕ) → length ds ≡ 10 → length (text_of b ds) ≤ 15
unfolding text_of
text_most b ds e = go (eqb b 0) (leb 0x3f b && leb b 0x44)
  where
    go : (x y : Bool) → length (pick x (48 ∷ []) (pick y (plain_text (2 * (b - 0x3f)) ds) (power_of_ten_text b (whole_part ds)))) ≤ 15
    go true y = omega arith
    go false true = plain_most (2 * (b - 0x3f)) ds e
    go false false = power_most b (whole_part ds) (whole_size ds e).1

-- a constant lists in at most 15 bytes
pub fifteen : (b : List ℕ) → T (right_constant? b) → length (constant_text b) ≤ 15
unfolding right_constant? constant_text
fifteen b t =
    let six : length b ≡ 6 = eqb→eq (length b) 6 (and_left (eqb (length b) 6) _ t) in
    let ten : length (digits_of (drop 1 b)) ≡ 10 = omega (arith, digits_size (drop 1 b), length-drop 1 b) in
    text_most (get_or b 0 0) (digits_of (drop 1 b)) ten

-- the listing of a constant, standing alone, is read as that constant
pub reads_back : (b : List ℕ) → T (right_constant? b) → (first : Bool) (p : ℕ) → item_at first p (constant_text b) ≡ item p (length (constant_text b)) (constant b)
unfolding ends_number all_Bytes
reads_back b t first p = ap (item_at first p) (sym (append-nil (constant_text b))) ∙ constant_reads b t first p [] tt
