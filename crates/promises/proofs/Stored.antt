-- The store after an edit: its lines are the old ones with one put in, replaced or taken out; it is sound.
use Rattle.std.specs.Prelude.{ℕ, ◌+◌, ◌≤◌, ◌<◌, ◌≡◌, refl, Bool, true, false, List, [], ◌∷◌, ◌++◌, T, eqb, leb, ltb, length, take, drop}
use Rattle.std.proofs.Common.{arith, subst, sym, ap, ◌∙◌, append_assoc, append-nil, le→leb, ltb→lt, lt→ltb, length-append, length-drop, take_at, drop_at, length-take-le, ltb-true, ltb-false, eqb-true}
use Rattle.std.proofs.Math.Seq.{take-append_seam, drop-append_seam}
use Rattle.std.proofs.lemmas.Bool.{eqb-false}
use Rattle.paper.specs.Bytes.{pick, every, joined}
use Rattle.paper.specs.Line.{line_number}
use Rattle.paper.specs.Store.{lines_in, whole_line?, rising_above, rising, sound_lines, room, sound_store, lines_below, lines_not_below, first_is?, lines_above, put_line, take_out, overwritten}
use Rattle.laws.specs.Tests.{and_left, and_right, and_both}
use Rattle.laws.specs.Lines.{lines_back, room_lent}
use Rattle.promises.specs.Terms.{AtFront}
use Rattle.grounds.specs.Lists.{every_append}

-- ---- an edit, line by line

module _ (n : ℕ) where
  -- the lines with x in the place of a line with number n
  unfoldable pub edited_lines : List (List ℕ) → List (List ℕ) → List (List ℕ)
  edited_lines x ls = lines_below n ls ++ (x ++ lines_above n ls)

  -- one line at a time: below the number
  pub step_below : (x : List (List ℕ)) (l : List ℕ) (ls : List (List ℕ)) → ltb (line_number l) n ≡ true → edited_lines x (l ∷ ls) ≡ l ∷ edited_lines x ls
  unfolding edited_lines lines_below lines_above lines_not_below
  step_below x l ls h = rw (h)

  -- at the number
  pub step_same : (x : List (List ℕ)) (l : List ℕ) (ls : List (List ℕ)) → ltb (line_number l) n ≡ false → eqb (line_number l) n ≡ true → edited_lines x (l ∷ ls) ≡ x ++ ls
  unfolding edited_lines lines_below lines_above lines_not_below first_is?
  step_same x l ls h e = rw (h, e)

  -- above it
  pub step_above : (x : List (List ℕ)) (l : List ℕ) (ls : List (List ℕ)) → ltb (line_number l) n ≡ false → eqb (line_number l) n ≡ false → edited_lines x (l ∷ ls) ≡ x ++ l ∷ ls
  unfolding edited_lines lines_below lines_above lines_not_below first_is?
  step_above x l ls h e = rw (h, e)

-- ---- whole lines, rising

-- an edit of no lines
pub empty_edit : (n : ℕ) (x : List (List ℕ)) → edited_lines n x [] ≡ x
unfolding edited_lines lines_below lines_above lines_not_below first_is?
empty_edit n x = append-nil x

every_go : (n : ℕ) (p : List ℕ → Bool) (x : List (List ℕ)) (l : List ℕ) (ls : List (List ℕ)) → T (every p x) → T (p l) → T (every p ls) → T (every p (edited_lines n x ls)) → (b : Bool) → ltb (line_number l) n ≡ b → (c : Bool) → eqb (line_number l) n ≡ c → T (every p (edited_lines n x (l ∷ ls)))
unfolding every
every_go n p x l ls a h t ih true e c g = subst (λ (z : List (List ℕ)). T (every p z)) (sym (step_below n x l ls e)) (and_both (p l) (every p (edited_lines n x ls)) h ih)
every_go n p x l ls a h t ih false e true g = subst (λ (z : List (List ℕ)). T (every p z)) (sym (step_same n x l ls e g)) (every_append p x ls a t)
every_go n p x l ls a h t ih false e false g = subst (λ (z : List (List ℕ)). T (every p z)) (sym (step_above n x l ls e g)) (every_append p x (l ∷ ls) a (and_both (p l) (every p ls) h t))

every_edit : (n : ℕ) (p : List ℕ → Bool) (x ls : List (List ℕ)) → T (every p x) → T (every p ls) → T (every p (edited_lines n x ls))
unfolding every
every_edit n p x [] a b = subst (λ (z : List (List ℕ)). T (every p z)) (sym (empty_edit n x)) a
every_edit n p x (l ∷ ls) a b =
    every_go n p x l ls a (and_left (p l) (every p ls) b) (and_right (p l) (every p ls) b) (every_edit n p x ls a (and_right (p l) (every p ls) b)) (ltb (line_number l) n) refl (eqb (line_number l) n) refl

-- x may stand between lines below n and lines above n
pub record Between (n : ℕ) (x : List (List ℕ)) : Type 0 where
  pub above : (k : ℕ) (ys : List (List ℕ)) → k < n → T (rising_above n ys) → T (rising_above k (x ++ ys))
  pub first : (ys : List (List ℕ)) → T (rising_above n ys) → T (rising (x ++ ys))

rising_go : (n : ℕ) (x : List (List ℕ)) (b : Between n x) (k : ℕ) (l : List ℕ) (ls : List (List ℕ)) → k < n → T (ltb k (line_number l)) → T (rising_above (line_number l) ls) → (line_number l < n → T (rising_above (line_number l) (edited_lines n x ls)))
    → (c : Bool) → ltb (line_number l) n ≡ c → (d : Bool) → eqb (line_number l) n ≡ d → T (rising_above k (edited_lines n x (l ∷ ls)))
unfolding rising_above
rising_go n x b k l ls h t u ih true e d g = subst (λ (z : List (List ℕ)). T (rising_above k z)) (sym (step_below n x l ls e)) (and_both (ltb k (line_number l)) _ t (ih (ltb-true (line_number l) n e)))
rising_go n x b k l ls h t u ih false e true g =
    subst (λ (z : List (List ℕ)). T (rising_above k z)) (sym (step_same n x l ls e g)) (b.above k ls h (subst (λ (z : ℕ). T (rising_above z ls)) (eqb-true (line_number l) n g) u))
rising_go n x b k l ls h t u ih false e false g =
    let m : n ≤ line_number l = ltb-false (line_number l) n e in
    let ne : line_number l ≡ n → ⊥ = eqb-false (line_number l) n g in
    subst (λ (z : List (List ℕ)). T (rising_above k z)) (sym (step_above n x l ls e g)) (b.above k (l ∷ ls) h (and_both (ltb n (line_number l)) _ (lt→ltb n (line_number l) (omega arith)) u))

-- an edit above a number leaves lines that rise above it
pub rising_edit : (n : ℕ) (x : List (List ℕ)) → Between n x → (k : ℕ) (ls : List (List ℕ)) → k < n → T (rising_above k ls) → T (rising_above k (edited_lines n x ls))
unfolding rising_above
rising_edit n x b k [] h t = subst (λ (z : List (List ℕ)). T (rising_above k z)) (append-nil x ∙ sym (empty_edit n x)) (b.above k [] h tt)
rising_edit n x b k (l ∷ ls) h t =
    let u = and_right (ltb k (line_number l)) (rising_above (line_number l) ls) t in
    rising_go n x b k l ls h (and_left (ltb k (line_number l)) (rising_above (line_number l) ls) t) u (λ m. rising_edit n x b (line_number l) ls m u) (ltb (line_number l) n) refl (eqb (line_number l) n) refl

first_go : (n : ℕ) (x : List (List ℕ)) (b : Between n x) (l : List ℕ) (ls : List (List ℕ)) → T (rising_above (line_number l) ls) → (c : Bool) → ltb (line_number l) n ≡ c → (d : Bool) → eqb (line_number l) n ≡ d → T (rising (edited_lines n x (l ∷ ls)))
unfolding rising rising_above
first_go n x b l ls u true e d g = subst (λ (z : List (List ℕ)). T (rising z)) (sym (step_below n x l ls e)) (rising_edit n x b (line_number l) ls (ltb-true (line_number l) n e) u)
first_go n x b l ls u false e true g = subst (λ (z : List (List ℕ)). T (rising z)) (sym (step_same n x l ls e g)) (b.first ls (subst (λ (z : ℕ). T (rising_above z ls)) (eqb-true (line_number l) n g) u))
first_go n x b l ls u false e false g =
    let m : n ≤ line_number l = ltb-false (line_number l) n e in
    let ne : line_number l ≡ n → ⊥ = eqb-false (line_number l) n g in
    subst (λ (z : List (List ℕ)). T (rising z)) (sym (step_above n x l ls e g)) (b.first (l ∷ ls) (and_both (ltb n (line_number l)) _ (lt→ltb n (line_number l) (omega arith)) u))

-- and lines that rise
pub rising_first : (n : ℕ) (x : List (List ℕ)) → Between n x → (ls : List (List ℕ)) → T (rising ls) → T (rising (edited_lines n x ls))
unfolding rising rising_above
rising_first n x b [] t = subst (λ (z : List (List ℕ)). T (rising z)) (append-nil x ∙ sym (empty_edit n x)) (b.first [] tt)
rising_first n x b (l ∷ ls) t = first_go n x b l ls t (ltb (line_number l) n) refl (eqb (line_number l) n) refl

-- an edit of sound lines leaves sound lines
pub sound_edit : (n : ℕ) (x ls : List (List ℕ)) → Between n x → T (every whole_line? x) → T (sound_lines ls) → T (sound_lines (edited_lines n x ls))
unfolding sound_lines
sound_edit n x ls b w s =
    and_both (every whole_line? (edited_lines n x ls)) (rising (edited_lines n x ls)) (every_edit n whole_line? x ls w (and_left (every whole_line? ls) (rising ls) s)) (rising_first n x b ls (and_right (every whole_line? ls) (rising ls) s))

-- ---- one line, or none

lower : (k n : ℕ) (ys : List (List ℕ)) → k < n → T (rising_above n ys) → T (rising_above k ys)
unfolding rising_above
lower k n [] h t = tt
lower k n (y ∷ ys) h t =
    let m : n < line_number y = ltb→lt n (line_number y) (and_left (ltb n (line_number y)) (rising_above (line_number y) ys) t) in
    and_both (ltb k (line_number y)) _ (lt→ltb k (line_number y) (omega arith)) (and_right (ltb n (line_number y)) (rising_above (line_number y) ys) t)

-- so do they rise
pub no_lower : (n : ℕ) (ys : List (List ℕ)) → T (rising_above n ys) → T (rising ys)
unfolding rising_above rising
no_lower n [] t = tt
no_lower n (y ∷ ys) t = and_right (ltb n (line_number y)) (rising_above (line_number y) ys) t

-- no line may stand there
pub none_between : (n : ℕ) → Between n []
none_between n = record { above = (λ k ys h t. lower k n ys h t); first = (λ ys t. no_lower n ys t) }

-- and one with the number
pub one_between : (l : List ℕ) → Between (line_number l) (l ∷ [])
unfolding rising_above rising
one_between l = record { above = (λ k ys h t. and_both (ltb k (line_number l)) (rising_above (line_number l) ys) (lt→ltb k (line_number l) h) t); first = (λ ys t. t) }

-- a line put in is such an edit
pub put_is : (l : List ℕ) (ls : List (List ℕ)) → put_line l ls ≡ edited_lines (line_number l) (l ∷ []) ls
unfolding put_line edited_lines
put_is l ls = refl

-- and so is one taken out
pub out_is : (n : ℕ) (ls : List (List ℕ)) → take_out n ls ≡ edited_lines n [] ls
unfolding take_out edited_lines
out_is n ls = refl

-- a whole line put in, or the line with a number taken out, leaves sound lines
pub put_sound : (l : List ℕ) (ls : List (List ℕ)) → T (whole_line? l) → T (sound_lines ls) → T (sound_lines (put_line l ls))
unfolding every
put_sound l ls w s = subst (λ (z : List (List ℕ)). T (sound_lines z)) (sym (put_is l ls)) (sound_edit (line_number l) (l ∷ []) ls (one_between l) (and_both (whole_line? l) true w tt) s)

-- the same for a line taken out
pub out_sound : (n : ℕ) (ls : List (List ℕ)) → T (sound_lines ls) → T (sound_lines (take_out n ls))
unfolding every
out_sound n ls s = subst (λ (z : List (List ℕ)). T (sound_lines z)) (sym (out_is n ls)) (sound_edit n [] ls (none_between n) tt s)

-- ---- the buffer

-- written bytes that fit leave the length as it was
pub over_length : (new old : List ℕ) → length new ≤ length old → length (overwritten new old) ≡ length old
unfolding overwritten
over_length new old h = length-append new (drop (length new) old) ∙ ap (λ (z : ℕ). length new + z) (length-drop (length new) old) ∙ omega arith

-- what is written is there
pub over_take : (new old : List ℕ) → take (length new) (overwritten new old) ≡ new
unfolding overwritten
over_take new old = take-append_seam new (drop (length new) old)

-- from the end of what is new on a buffer is as it was
pub over_past : (new old : List ℕ) → drop (length new) (overwritten new old) ≡ drop (length new) old
unfolding overwritten
over_past new old = drop-append_seam new (drop (length new) old)

-- bytes that fit stand at the front, and every other byte is as it was
pub at_front : (new old : List ℕ) → length new ≤ length old → AtFront new old (overwritten new old)
at_front new old h = record { front = over_take new old; past = over_past new old; same_size = over_length new old h }

-- A buffer whose first k bytes are stays, with new bytes after them
pub record Extended (k : ℕ) (new old : List ℕ) : Type 0 where
  pub stays : take k (overwritten (take k old ++ new) old) ≡ take k old
  pub there : take (length new) (drop k (overwritten (take k old ++ new) old)) ≡ new
  pub both : take (k + length new) (overwritten (take k old ++ new) old) ≡ take k old ++ new
  pub past : drop (k + length new) (overwritten (take k old ++ new) old) ≡ drop (k + length new) old
  pub same_size : length (overwritten (take k old ++ new) old) ≡ length old

-- if there is room for the new bytes
pub extended : (k : ℕ) (new old : List ℕ) → k + length new ≤ length old → Extended k new old
unfolding overwritten
extended k new old h =
    let front : length (take k old) ≡ k = length-take-le k old (omega arith) in
    let x : List ℕ = take k old ++ new in
    let size : length x ≡ k + length new = length-append (take k old) new ∙ ap (λ (z : ℕ). z + length new) front in
    let more : List ℕ = drop (length x) old in
    let parts : x ++ more ≡ take k old ++ (new ++ more) = append_assoc (take k old) new more in
    record {
      stays = ap (take k) parts ∙ take_at (take k old) (new ++ more) k front;
      there = ap (λ (z : List ℕ). take (length new) (drop k z)) parts ∙ ap (take (length new)) (drop_at (take k old) (new ++ more) k front) ∙ take-append_seam new more;
      both = take_at x more (k + length new) size;
      past = drop_at x more (k + length new) size ∙ ap (λ (z : ℕ). drop z old) size;
      same_size = over_length x old (subst (λ (z : ℕ). z ≤ length old) (sym size) h);
    }

-- Sound lines that fit the room, written over a store: it is sound, and holds these lines; the bytes after them are as they were.
pub record Holds (ls : List (List ℕ)) (old : List ℕ) : Type 0 where
  pub lines : lines_in (take (length (joined ls)) (overwritten (joined ls) old)) ≡ ls
  pub sound : T (sound_store (overwritten (joined ls) old) (length (joined ls)))
  pub same_size : length (overwritten (joined ls) old) ≡ length old

-- sound lines, written over any store, are its lines
pub written_lines : (ls : List (List ℕ)) (old : List ℕ) → T (sound_lines ls) → lines_in (take (length (joined ls)) (overwritten (joined ls) old)) ≡ ls
unfolding sound_lines
written_lines ls old s = ap lines_in (over_take (joined ls) old) ∙ lines_back ls (and_left (every whole_line? ls) (rising ls) s)

-- sound lines that fit are held
pub holds : (ls : List (List ℕ)) (old : List ℕ) → T (sound_lines ls) → length (joined ls) ≤ room old → Holds ls old
unfolding sound_store room
holds ls old s h =
    let fits : length (joined ls) ≤ length old = fit (length (joined ls)) h in
    let e : lines_in (take (length (joined ls)) (overwritten (joined ls) old)) ≡ ls = written_lines ls old s in
    let r : room (overwritten (joined ls) old) ≡ room old = ap (λ (z : ℕ). pick (leb z 65535) z 65535) (over_length (joined ls) old fits) in
    record {
      lines = e;
      sound =
          and_both (leb (length (joined ls)) (room (overwritten (joined ls) old))) _ (le→leb _ _ (subst (λ (z : ℕ). length (joined ls) ≤ z) (sym r) h))
          (subst (λ (z : List (List ℕ)). T (sound_lines z)) (sym e) s);
      same_size = over_length (joined ls) old fits;
    }
  where
    fit : (n : ℕ) → n ≤ room old → n ≤ length old
    fit n h = omega (arith, room_lent old)

-- ---- a line taken out

-- taking a line out needs no room
less_go : (n : ℕ) (l : List ℕ) (ls : List (List ℕ)) → length (joined (edited_lines n [] ls)) ≤ length (joined ls) → (b : Bool) → ltb (line_number l) n ≡ b → (c : Bool) → eqb (line_number l) n ≡ c → length (joined (edited_lines n [] (l ∷ ls))) ≤ length (joined (l ∷ ls))
unfolding joined
less_go n l ls ih true e c g = subst (λ (z : List (List ℕ)). length (joined z) ≤ length (l ++ joined ls)) (sym (step_below n [] l ls e)) (omega (arith, length-append l (joined (edited_lines n [] ls)), length-append l (joined ls), ih))
less_go n l ls ih false e true g = subst (λ (z : List (List ℕ)). length (joined z) ≤ length (l ++ joined ls)) (sym (step_same n [] l ls e g)) (omega (arith, length-append l (joined ls)))
less_go n l ls ih false e false g = subst (λ (z : List (List ℕ)). length (joined z) ≤ length (l ++ joined ls)) (sym (step_above n [] l ls e g)) (omega arith)

less_out : (n : ℕ) (ls : List (List ℕ)) → length (joined (edited_lines n [] ls)) ≤ length (joined ls)
unfolding joined
less_out n [] = subst (λ (z : List (List ℕ)). length (joined z) ≤ 0) (sym (empty_edit n [])) (omega arith)
less_out n (l ∷ ls) = less_go n l ls (less_out n ls) (ltb (line_number l) n) refl (eqb (line_number l) n) refl

-- a line taken out makes the store no longer
pub out_less : (n : ℕ) (ls : List (List ℕ)) → length (joined (take_out n ls)) ≤ length (joined ls)
out_less n ls = subst (λ (z : List (List ℕ)). length (joined z) ≤ length (joined ls)) (sym (out_is n ls)) (less_out n ls)
