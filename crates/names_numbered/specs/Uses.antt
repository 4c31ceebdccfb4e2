-- What follows from what the functions answer, for their callers.
use Rattle.std.specs.Prelude.{ℕ, suc, ◌+◌, ◌-◌, ◌*◌, ◌≤◌, ◌≡◌, refl, Bool, true, false, ◌||◌, List, [], ◌∷◌, ◌++◌, leb, ltb, length, drop}
use Rattle.std.proofs.Common.{arith, sym, ap, ◌∙◌, length-append, ltb-true, ltb-false, lt-ltb, le-ltb}
use Rattle.std.proofs.Math.Seq.{drop-append_seam}
use Rattle.paper.specs.Bytes.{pick}
use Rattle.paper.specs.Names.{in_front, names_in, name_bytes, marked, most_names}
use Rattle.paper.specs.Calls.{State, names_of, lacks_room}
use Rattle.laws.specs.Names.{closed?, names_some, length_marked}
use Rattle.names_numbered.specs.Answers.{lacks, Room}

-- the names in some bytes have as many bytes
pub length_bytes : (bs : List ℕ) → length (name_bytes (names_in bs)) ≡ length bs
unfolding names_in name_bytes marked in_front
length_bytes [] = refl
length_bytes (b ∷ bs) = go (leb 128 b) (names_in bs) (length_bytes bs)
  where
    go : (t : Bool) (r : List (List ℕ)) → length (name_bytes r) ≡ length bs → length (name_bytes (pick t (((b - 128) ∷ []) ∷ r) (in_front b r))) ≡ suc (length bs)
    go true r h = ap suc h
    go false [] h = ap suc h
    go false (n ∷ ns) h =
        let a : length (marked (b ∷ n) ++ name_bytes ns) ≡ suc (length n) + length (name_bytes ns) = length-append (marked (b ∷ n)) (name_bytes ns) ∙ ap (λ (k : ℕ). k + length (name_bytes ns)) (length_marked (b ∷ n)) in
        let c : length (marked n ++ name_bytes ns) ≡ length n + length (name_bytes ns) = length-append (marked n) (name_bytes ns) ∙ ap (λ (k : ℕ). k + length (name_bytes ns)) (length_marked n) in
        omega arith

-- ---- the rooms

-- Of a state whose count of names is right this is the paper's test.
pub lacks_is : (s : State) (new : List (List ℕ)) → length (names_of s) ≡ s.name_count
    → lacks (length s.names) s.name_size (length s.values) s.name_count new ≡ lacks_room s (names_of s ++ new)
unfolding lacks lacks_room
lacks_is s new e =
    let old = names_of s in
    let seam : drop (length old) (old ++ new) ≡ new = drop-append_seam old new in
    let size : length (old ++ new) ≡ s.name_count + length new = length-append old new ∙ ap (λ (k : ℕ). k + length new) e in
    let some : ltb (length old) (length (old ++ new)) ≡ ltb 0 (length new) = more (length old) (length new) (length (old ++ new)) (length-append old new) in
    sym (rw (some, seam, size))
  where
    more : (a b c : ℕ) → c ≡ a + b → ltb a c ≡ ltb 0 b
    more a b c h = go (ltb 0 b) refl
      where
        go : (t : Bool) → ltb 0 b ≡ t → ltb a c ≡ t
        go true k = lt-ltb a c (omega (arith, ltb-true 0 b k))
        go false k = le-ltb a c (omega (arith, ltb-false 0 b k))

or_first : (a b : Bool) → a || b ≡ false → a ≡ false
or_first true b h = h
or_first false b h = refl

or_second : (a b : Bool) → a || b ≡ false → b ≡ false
or_second true b h = let z : ◌≡◌ {A = ℕ} 0 1 = cc in absurd (omega arith)
or_second false b h = h

-- Where nothing is lacking there is room; where no name is new the table itself must have it.
pub room_left : (names : List ℕ) (size : ℕ) (values : List ℕ) (count : ℕ) (fresh : List ℕ) → lacks (length names) size (length values) count (names_in fresh) ≡ false
    → closed? fresh ≡ true → count ≤ most_names → size ≤ length names → 8 * count ≤ length values → Room names size values count fresh
unfolding lacks names_in
room_left names size values count [] h c k l m = record { whole = c; few = omega arith; name_room = omega arith; value_room = omega arith }
room_left names size values count (b ∷ bs) h c k l m =
    let ns = names_in (b ∷ bs) in
    let many = ltb most_names (count + length ns) in
    let long = ltb (length names) (size + length (name_bytes ns)) in
    let wide = ltb (length values) (8 * (count + length ns)) in
    let some : ltb 0 (length ns) ≡ true = lt-ltb 0 (length ns) (names_some b bs) in
    let none : many || (long || wide) ≡ false = sym (rw (some)) ∙ h in
    record {
      whole = c;
      few = ltb-false most_names (count + length ns) (or_first many (long || wide) none);
      name_room = omega (arith, length_bytes (b ∷ bs), ltb-false (length names) (size + length (name_bytes ns)) (or_first long wide (or_second many (long || wide) none)));
      value_room = ltb-false (length values) (8 * (count + length ns)) (or_second long wide (or_second many (long || wide) none));
    }
