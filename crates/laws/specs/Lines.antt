-- Laws of the store's lines: bytes cut into lines and joined again, and the lines on both sides of a number.
use Rattle.std.specs.Prelude.{ℕ, zero, suc, pred, ◌+◌, ◌≤◌, ◌<◌, ◌≡◌, refl, Bool, true, false, List, [], ◌∷◌, ◌++◌, T, eqb, leb, ltb, length, take, drop, get_or}
use Rattle.std.proofs.Common.{arith, sym, ap, ap₂, ◌∙◌, append_assoc, eqb→eq, leb→le, length-append, take-append-drop, length-take-le, leb-true, leb-false}
use Rattle.std.proofs.Math.Seq.{take-append_seam}
use Rattle.paper.specs.Bytes.{pick, every, joined}
use Rattle.paper.specs.Line.{line_number}
use Rattle.paper.specs.Store.{lines_from, lines_in, whole_line?, rising, sound_lines, room, sound_store, lines_below, lines_not_below, first_is?, stored?, first_line, line_at, lines_above}
use Rattle.laws.specs.Tests.{and_left, and_right}

-- ---- lists of lines

-- two lists of lines end to end
pub joined_append : (a b : List (List ℕ)) → joined (a ++ b) ≡ joined a ++ joined b
unfolding joined
joined_append [] b = refl
joined_append (l ∷ a) b = ap (λ (z : List ℕ). l ++ z) (joined_append a b) ∙ sym (append_assoc l (joined a) (joined b))

-- what passes in the whole passes in its second part
pub every_second : (p : List ℕ → Bool) (a b : List (List ℕ)) → T (every p (a ++ b)) → T (every p b)
unfolding every
every_second p [] b t = t
every_second p (l ∷ a) b t = every_second p a b (and_right (p l) (every p (a ++ b)) t)

-- ---- bytes as lines

-- bytes that are to be passed over are dropped
pub lines_past : (n : ℕ) (s : List ℕ) → lines_from n s ≡ lines_in (drop n s)
unfolding lines_from lines_in
lines_past zero s = refl
lines_past (suc n) [] = refl
lines_past (suc n) (b ∷ s) = lines_past n s

next_go : (n b : ℕ) (s : List ℕ) → 0 < n → take n (b ∷ s) ∷ lines_from (pred n) s ≡ take n (b ∷ s) ∷ lines_in (drop n (b ∷ s))
next_go zero b s h = absurd (omega arith)
next_go (suc n) b s h = ap (λ (z : List (List ℕ)). take (suc n) (b ∷ s) ∷ z) (lines_past n s)

-- the first line is as long as its length byte says; the others follow
pub lines_next : (s : List ℕ) → 0 < get_or s 2 0 → lines_in s ≡ take (get_or s 2 0) s ∷ lines_in (drop (get_or s 2 0) s)
unfolding lines_in lines_from
lines_next [] h = absurd (omega arith)
lines_next (b ∷ s) h = next_go (get_or s 1 0) b s h

-- ---- lines end to end come apart again

lines_skip : (xs ys : List ℕ) → lines_from (length xs) (xs ++ ys) ≡ lines_from 0 ys
unfolding lines_from
lines_skip [] ys = refl
lines_skip (x ∷ xs) ys = lines_skip xs ys

line_split : (l rest : List ℕ) → T (whole_line? l) → lines_from 0 (l ++ rest) ≡ l ∷ lines_from 0 rest
unfolding whole_line? lines_from
line_split [] rest t = absurd t
line_split (a ∷ []) rest t = absurd t
line_split (a ∷ b ∷ []) rest t = absurd t
line_split (a ∷ b ∷ c ∷ r) rest t =
    let e : c ≡ length (a ∷ b ∷ c ∷ r) = eqb→eq c (length (a ∷ b ∷ c ∷ r)) (and_left (eqb c (length (a ∷ b ∷ c ∷ r))) _ (and_right (leb 6 (length (a ∷ b ∷ c ∷ r))) _ t)) in
    ap (λ (n : ℕ). take n (a ∷ b ∷ c ∷ r ++ rest) ∷ lines_from (pred n) (b ∷ c ∷ r ++ rest)) e
    ∙ ap₂ (λ (x : List ℕ) (y : List (List ℕ)). x ∷ y) (take-append_seam (a ∷ b ∷ c ∷ r) rest) (lines_skip (b ∷ c ∷ r) rest)

-- whole lines end to end are these lines
pub lines_back : (ls : List (List ℕ)) → T (every whole_line? ls) → lines_in (joined ls) ≡ ls
unfolding lines_in joined every lines_from
lines_back [] t = refl
lines_back (l ∷ ls) t =
    line_split l (joined ls) (and_left (whole_line? l) (every whole_line? ls) t) ∙ ap (λ (z : List (List ℕ)). l ∷ z) (lines_back ls (and_right (whole_line? l) (every whole_line? ls) t))

back_go : (b : ℕ) (s : List ℕ) (m : ℕ) → T (whole_line? (take m (b ∷ s))) → joined (lines_from (pred m) s) ≡ drop (pred m) s → take m (b ∷ s) ++ joined (lines_from (pred m) s) ≡ b ∷ s
unfolding whole_line?
back_go b s zero t e = absurd t
back_go b s (suc m) t e = ap (λ (z : List ℕ). b ∷ (take m s ++ z)) e ∙ ap (λ (z : List ℕ). b ∷ z) (take-append-drop m s)

bytes_from : (s : List ℕ) (n : ℕ) → T (every whole_line? (lines_from n s)) → joined (lines_from n s) ≡ drop n s
unfolding lines_from joined every
bytes_from [] zero t = refl
bytes_from [] (suc n) t = refl
bytes_from (b ∷ s) (suc n) t = bytes_from s n t
bytes_from (b ∷ s) zero t =
    let m : ℕ = get_or s 1 0 in
    back_go b s m (and_left (whole_line? (take m (b ∷ s))) (every whole_line? (lines_from (pred m) s)) t)
    (bytes_from s (pred m) (and_right (whole_line? (take m (b ∷ s))) (every whole_line? (lines_from (pred m) s)) t))

-- bytes that are whole lines are these lines end to end
pub bytes_back : (s : List ℕ) → T (every whole_line? (lines_in s)) → joined (lines_in s) ≡ s
unfolding lines_in
bytes_back s t = bytes_from s 0 t

-- ---- the lines on both sides of a number

-- the lines below a number, and the others
pub both_sides : (n : ℕ) (ls : List (List ℕ)) → lines_below n ls ++ lines_not_below n ls ≡ ls
unfolding lines_below lines_not_below
both_sides n [] = refl
both_sides n (l ∷ ls) = go l ls (ltb (line_number l) n) (both_sides n ls)
  where
    go : (l : List ℕ) (ls : List (List ℕ)) (b : Bool) → lines_below n ls ++ lines_not_below n ls ≡ ls → pick b (l ∷ lines_below n ls) [] ++ pick b (lines_not_below n ls) (l ∷ ls) ≡ l ∷ ls
    go l ls true e = ap (λ (z : List (List ℕ)). l ∷ z) e
    go l ls false e = refl

-- the line that an edit replaces or takes out: the one with this number, none if it is not stored
unfoldable pub old_line : ℕ → List (List ℕ) → List ℕ
old_line n ls = pick (stored? n ls) (line_at n ls) []

old_go : (n : ℕ) (ls : List (List ℕ)) → pick (first_is? n ls) (first_line ls) [] ++ joined (pick (first_is? n ls) (drop 1 ls) ls) ≡ joined ls
unfolding first_is? first_line joined
old_go n [] = refl
old_go n (l ∷ ls) = go (eqb (line_number l) n)
  where
    go : (b : Bool) → pick b l [] ++ joined (pick b ls (l ∷ ls)) ≡ l ++ joined ls
    go true = refl
    go false = refl

-- the bytes of the lines below a number, of the line with it, and of those above
pub three_parts : (n : ℕ) (ls : List (List ℕ)) → joined (lines_below n ls) ++ (old_line n ls ++ joined (lines_above n ls)) ≡ joined ls
unfolding old_line stored? line_at lines_above
three_parts n ls =
    ap (λ (z : List ℕ). joined (lines_below n ls) ++ z) (old_go n (lines_not_below n ls))
    ∙ sym (joined_append (lines_below n ls) (lines_not_below n ls))
    ∙ ap joined (both_sides n ls)

-- ---- a sound store

least_go : (n : ℕ) (b : Bool) → leb n 65535 ≡ b → (pick b n 65535 ≤ n) × (pick b n 65535 ≤ 65535)
least_go n true e = let h = leb-true n 65535 e in (omega arith, omega arith)
least_go n false e = let h = leb-false n 65535 e in (omega arith, omega arith)

-- the room is at most the lent length
pub room_lent : (store : List ℕ) → room store ≤ length store
unfolding room
room_lent store = (least_go (length store) (leb (length store) 65535) refl).0

-- the room is at most 65,535
pub room_most : (store : List ℕ) → room store ≤ 65535
unfolding room
room_most store = (least_go (length store) (leb (length store) 65535) refl).1

-- what soundness says of the used count and the used bytes
pub record Used (store : List ℕ) (used : ℕ) : Type 0 where
  pub within : used ≤ room store
  pub lent : used ≤ length store
  pub most : used ≤ 65535
  pub whole : T (every whole_line? (lines_in (take used store)))

pub used_of : (store : List ℕ) (used : ℕ) → T (sound_store store used) → Used store used
unfolding sound_store sound_lines
used_of store used t =
    let ls : List (List ℕ) = lines_in (take used store) in
    let h : used ≤ room store = leb→le used (room store) (and_left (leb used (room store)) (sound_lines ls) t) in
    record {
      within = h;
      lent = omega (arith, h, room_lent store);
      most = omega (arith, h, room_most store);
      whole = and_left (every whole_line? ls) (rising ls) (and_right (leb used (room store)) (sound_lines ls) t);
    }

module _ (store : List ℕ) (used n : ℕ) (sound : T (sound_store store used)) where
  -- its used bytes, parted at a number
  pub parts_of : joined (lines_below n (lines_in (take used store))) ++ (old_line n (lines_in (take used store)) ++ joined (lines_above n (lines_in (take used store)))) ≡ take used store
  parts_of = three_parts n (lines_in (take used store)) ∙ bytes_back (take used store) (used_of store used sound).whole

  -- the lengths of the parts
  pub sizes_of :
      length (joined (lines_below n (lines_in (take used store)))) + (length (old_line n (lines_in (take used store))) + length (joined (lines_above n (lines_in (take used store))))) ≡ used
  sizes_of =
      let ls : List (List ℕ) = lines_in (take used store) in
      omega (arith, length-append (joined (lines_below n ls)) (old_line n ls ++ joined (lines_above n ls)), length-append (old_line n ls) (joined (lines_above n ls)), ap length parts_of, length-take-le used store (used_of store used sound).lent)
