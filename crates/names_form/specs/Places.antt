-- The first name of some bytes: where it ends, and what it is.
use Rattle.std.specs.Prelude.{ℕ, zero, suc, ◌+◌, ◌-◌, ◌≤◌, ◌<◌, ◌≡◌, refl, Bool, true, false, List, [], ◌∷◌, ◌++◌, leb, length, take, drop, get_or}
use Rattle.std.proofs.Common.{arith, sym, ap, ◌∙◌, length-drop, drop_of_length-le, take-suc, take-take, take-add, drop-drop, get_or-drop, length-take-le}
use Rattle.paper.specs.Bytes.{pick}
use Rattle.paper.specs.Names.{in_front, names_in}
use Rattle.laws.specs.Names.{closed?, closed_append, names_append}
use Rattle.names_form.specs.Tables.{cleared, unmarked, first_size}

pub first_most : (bs : List ℕ) → first_size bs ≤ length bs
unfolding first_size
first_most [] = omega arith
first_most (b ∷ bs) = go (leb 128 b) (first_most bs)
  where
    go : (t : Bool) → first_size bs ≤ length bs → pick t 1 (suc (first_size bs)) ≤ suc (length bs)
    go true h = omega arith
    go false h = omega arith

pub first_some : (bs : List ℕ) → 0 < length bs → 0 < first_size bs
unfolding first_size
first_some [] h = absurd (omega arith)
first_some (b ∷ bs) h = go (leb 128 b)
  where
    go : (t : Bool) → 0 < pick t 1 (suc (first_size bs))
    go true = omega arith
    go false = omega arith

behind : (x : ℕ) (xs : List ℕ) → 0 < length xs → closed? (x ∷ xs) ≡ closed? xs
unfolding closed?
behind x [] h = absurd (omega arith)
behind x (y ∷ ys) h = refl

pub unmarked_more : (x : ℕ) (xs : List ℕ) → 0 < length xs → unmarked (x ∷ xs) ≡ x ∷ unmarked xs
unfolding unmarked
unmarked_more x [] h = absurd (omega arith)
unmarked_more x (y ∷ ys) h = refl

pub unmarked_last : (xs : List ℕ) (x : ℕ) → unmarked (xs ++ x ∷ []) ≡ xs ++ cleared x ∷ []
unfolding unmarked
unmarked_last [] x = refl
unmarked_last (y ∷ []) x = refl
unmarked_last (y ∷ z ∷ zs) x = ap (λ (l : List ℕ). y ∷ l) (unmarked_last (z ∷ zs) x)

pub length_unmarked : (xs : List ℕ) → length (unmarked xs) ≡ length xs
unfolding unmarked
length_unmarked [] = refl
length_unmarked (x ∷ []) = refl
length_unmarked (x ∷ y ∷ ys) = ap suc (length_unmarked (y ∷ ys))

front_name : (b : ℕ) (bs n : List ℕ) (ns : List (List ℕ)) → names_in bs ≡ n ∷ ns → in_front b (names_in bs) ≡ (b ∷ n) ∷ ns
unfolding in_front
front_name b bs n ns e = rw (e)

-- some bytes are their first name, and the names after it
pub first_name : (bs : List ℕ) → 0 < length bs → names_in bs ≡ unmarked (take (first_size bs) bs) ∷ names_in (drop (first_size bs) bs)
unfolding names_in first_size unmarked cleared in_front
first_name [] h = absurd (omega arith)
first_name (b ∷ []) h = go (leb 128 b) refl
  where
    go : (t : Bool) → leb 128 b ≡ t → pick t (((b - 128) ∷ []) ∷ []) (in_front b []) ≡ unmarked (take (pick t 1 1) (b ∷ [])) ∷ names_in (drop (pick t 1 1) (b ∷ []))
    go true e = rw (e)
    go false e = rw (e)
first_name (b ∷ c ∷ cs) h = go (leb 128 b) refl (first_name (c ∷ cs) (omega arith))
  where
    go : (t : Bool) → leb 128 b ≡ t → names_in (c ∷ cs) ≡ unmarked (take (first_size (c ∷ cs)) (c ∷ cs)) ∷ names_in (drop (first_size (c ∷ cs)) (c ∷ cs))
        → pick t (((b - 128) ∷ []) ∷ names_in (c ∷ cs)) (in_front b (names_in (c ∷ cs)))
        ≡ unmarked (take (pick t 1 (suc (first_size (c ∷ cs)))) (b ∷ c ∷ cs)) ∷ names_in (drop (pick t 1 (suc (first_size (c ∷ cs)))) (b ∷ c ∷ cs))
    go true e k = rw (e)
    go false e k =
        let some : 0 < first_size (c ∷ cs) = first_some (c ∷ cs) (omega arith) in
        let size : length (take (first_size (c ∷ cs)) (c ∷ cs)) ≡ first_size (c ∷ cs) = length-take-le (first_size (c ∷ cs)) (c ∷ cs) (first_most (c ∷ cs)) in
        front_name b (c ∷ cs) (unmarked (take (first_size (c ∷ cs)) (c ∷ cs))) (names_in (drop (first_size (c ∷ cs)) (c ∷ cs))) k
        ∙ ap (λ (l : List ℕ). l ∷ names_in (drop (first_size (c ∷ cs)) (c ∷ cs))) (sym (unmarked_more b (take (first_size (c ∷ cs)) (c ∷ cs)) (omega arith)))

last_byte : (k : ℕ) (s : List ℕ) → 0 < k → k ≤ length s → take k s ≡ take (k - 1) s ++ get_or s (k - 1) 0 ∷ []
last_byte zero s h l = absurd (omega arith)
last_byte (suc k) s h l = let z : k ≡ suc k - 1 = omega arith in take-suc s k 0 l ∙ ap (λ (j : ℕ). take j s ++ get_or s j 0 ∷ []) z

-- In the table t a name stands at i, and ends at `end`.
module _ (t : List ℕ) (i end : ℕ) (inside : i < length t) (ends : end ≡ i + first_size (drop i t)) where
  pub name_bounds : (i < end) × (end ≤ length t)
  name_bounds = (omega (arith, first_some (drop i t) (omega (arith, length-drop i t))), omega (arith, first_most (drop i t), length-drop i t))

  -- its bytes but the last, and the last
  pub name_parts : unmarked (take (end - i) (drop i t)) ≡ take (end - 1 - i) (drop i t) ++ cleared (get_or t (end - 1) 0) ∷ []
  name_parts =
      let b = name_bounds in
      let l : end - i - 1 ≡ end - 1 - i = omega arith in
      let g : get_or (drop i t) (end - i - 1) 0 ≡ get_or t (end - 1) 0 = get_or-drop i t (end - i - 1) 0 ∙ (let z : i + (end - i - 1) ≡ end - 1 = omega arith in ap (λ (j : ℕ). get_or t j 0) z) in
      ap unmarked (last_byte (end - i) (drop i t) (omega arith) (omega (arith, length-drop i t)))
      ∙ unmarked_last (take (end - i - 1) (drop i t)) (get_or (drop i t) (end - i - 1) 0)
      ∙ ap (λ (x : ℕ). take (end - i - 1) (drop i t) ++ cleared x ∷ []) g
      ∙ ap (λ (j : ℕ). take j (drop i t) ++ cleared (get_or t (end - 1) 0) ∷ []) l

  -- it is the first of the names from i on
  pub name_here : names_in (drop i t) ≡ unmarked (take (end - i) (drop i t)) ∷ names_in (drop end t)
  name_here =
      let k : first_size (drop i t) ≡ end - i = omega arith in
      let d : drop (end - i) (drop i t) ≡ drop end t = drop-drop (end - i) i t ∙ (let z : i + (end - i) ≡ end = omega (arith, name_bounds) in ap (λ (j : ℕ). drop j t) z) in
      first_name (drop i t) (omega (arith, length-drop i t))
      ∙ ap (λ (j : ℕ). unmarked (take j (drop i t)) ∷ names_in (drop j (drop i t))) k
      ∙ ap (λ (l : List ℕ). unmarked (take (end - i) (drop i t)) ∷ names_in l) d

-- the first name of its own bytes, alone
first_alone : (bs : List ℕ) → first_size (take (first_size bs) bs) ≡ first_size bs
unfolding first_size
first_alone [] = refl
first_alone (b ∷ bs) = go (leb 128 b) refl (first_alone bs)
  where
    go : (t : Bool) → leb 128 b ≡ t → first_size (take (first_size bs) bs) ≡ first_size bs → first_size (take (pick t 1 (suc (first_size bs))) (b ∷ bs)) ≡ pick t 1 (suc (first_size bs))
    go true e k = rw (e)
    go false e k = rw (e) (ap suc k)

one_name : (bs : List ℕ) → 0 < length bs → names_in (take (first_size bs) bs) ≡ unmarked (take (first_size bs) bs) ∷ []
unfolding names_in
one_name bs h =
    let s = first_size bs in
    let size : length (take s bs) ≡ s = length-take-le s bs (first_most bs) in
    let none : names_in (drop s (take s bs)) ≡ [] = ap names_in (drop_of_length-le (take s bs) {i = s} (omega arith)) in
    first_name (take s bs) (omega (arith, first_some bs h))
    ∙ ap (λ (j : ℕ). unmarked (take j (take s bs)) ∷ names_in (drop j (take s bs))) (first_alone bs)
    ∙ ap (λ (l : List ℕ). unmarked l ∷ names_in (drop s (take s bs))) (take-take s s bs (omega arith))
    ∙ ap (λ (ns : List (List ℕ)). unmarked (take s bs) ∷ ns) none

-- bytes that end with a name's end: so do their first name's, and those after it
first_closed : (bs : List ℕ) → closed? bs ≡ true → (closed? (take (first_size bs) bs) ≡ true) × (closed? (drop (first_size bs) bs) ≡ true)
unfolding closed? first_size
first_closed [] h = (refl, refl)
first_closed (b ∷ []) h = rw (h) (h, refl)
first_closed (b ∷ c ∷ cs) h = go (leb 128 b) refl (first_closed (c ∷ cs) h)
  where
    go : (t : Bool) → leb 128 b ≡ t → (closed? (take (first_size (c ∷ cs)) (c ∷ cs)) ≡ true) × (closed? (drop (first_size (c ∷ cs)) (c ∷ cs)) ≡ true)
        → (closed? (take (pick t 1 (suc (first_size (c ∷ cs)))) (b ∷ c ∷ cs)) ≡ true) × (closed? (drop (pick t 1 (suc (first_size (c ∷ cs)))) (b ∷ c ∷ cs)) ≡ true)
    go true e k = (e, h)
    go false e k = (behind b (take (first_size (c ∷ cs)) (c ∷ cs)) (omega (arith, length-take-le (first_size (c ∷ cs)) (c ∷ cs) (first_most (c ∷ cs)), first_some (c ∷ cs) (omega arith))) ∙ k.0, k.1)

-- past the end there is none
pub none_left : (t : List ℕ) (at : ℕ) → length t ≤ at → names_in (drop at t) ≡ []
unfolding names_in
none_left t at h = ap names_in (drop_of_length-le t h)

-- bytes have no more names than there are bytes
pub names_few : (bs : List ℕ) → length (names_in bs) ≤ length bs
unfolding names_in in_front
names_few [] = omega arith
names_few (b ∷ bs) = go (leb 128 b) (names_in bs) (names_few bs)
  where
    go : (t : Bool) (r : List (List ℕ)) → length r ≤ length bs → length (pick t (((b - 128) ∷ []) ∷ r) (in_front b r)) ≤ suc (length bs)
    go true r h = omega arith
    go false [] h = omega arith
    go false (n ∷ ns) h = omega arith

-- In the table t, whose bytes end with a name's end, a name stands at i, and ends at `end`.
module _ (t : List ℕ) (i end : ℕ) (inside : i < length t) (ends : end ≡ i + first_size (drop i t)) (before : closed? (take i t) ≡ true) (after : closed? (drop i t) ≡ true) where
  -- so does the part before its end
  pub closed_before : closed? (take end t) ≡ true
  closed_before =
      ap (λ (j : ℕ). closed? (take j t)) ends ∙ ap closed? (take-add i (first_size (drop i t)) t)
      ∙ closed_append (take i t) (take (first_size (drop i t)) (drop i t)) before (first_closed (drop i t) after).0

  -- and the part behind it
  pub closed_after : closed? (drop end t) ≡ true
  closed_after = ap (λ (j : ℕ). closed? (drop j t)) ends ∙ ap closed? (sym (drop-drop (first_size (drop i t)) i t)) ∙ (first_closed (drop i t) after).1

  -- the names before its end are those before it, and the name
  pub names_before : names_in (take end t) ≡ names_in (take i t) ++ unmarked (take (end - i) (drop i t)) ∷ []
  names_before =
      let k : first_size (drop i t) ≡ end - i = omega arith in
      ap (λ (j : ℕ). names_in (take j t)) ends ∙ ap names_in (take-add i (first_size (drop i t)) t)
      ∙ names_append (take i t) (take (first_size (drop i t)) (drop i t)) before
      ∙ ap (λ (ns : List (List ℕ)). names_in (take i t) ++ ns) (one_name (drop i t) (omega (arith, length-drop i t)))
      ∙ ap (λ (j : ℕ). names_in (take i t) ++ unmarked (take j (drop i t)) ∷ []) k
