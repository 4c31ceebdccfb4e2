-- The walk over the names: what holds at each name, and one turn of it, for a name that stays and for one that goes.
use Prim.Native.Nat.{ℕ, ◌+◌, ◌-◌, ◌*◌, ◌≤◌, ◌<◌}
use native.Mathlib.Numerals.{add-one}
use native.Mathlib.Omega.{arith}
use mathlib.Core.Path.{◌≡◌, refl, sym, ap, ◌∙◌}
use mathlib.Core.Bool.{Bool, true, false}
use lib.Dec.{ltb}
use mathlib.Core.List.{List, [], ◌∷◌, ◌++◌, append-nil}
use lib.ListN.{length, take, drop, get_or, set, length-set, length-drop}
use lib.Seq.{sets, length-sets, take-take, drop-drop, drop-cons, set-get_or, drop-set-lt, length-take-le}
use borrow.Author.Tests.{eq-eqb, ne_eqb, ltb-true, ltb-false}
use Rattle.paper.specs.Names.{names_in, marked, name_bytes, most_names}
use Rattle.laws.specs.Parts.{drop_take, drop_sets}
use Rattle.laws.specs.Names.{closed?, bytes_of_names}
use Rattle.names_form.specs.Tables.{unmarked, first_size}
use Rattle.names_form.specs.Places.{name_bounds, name_here, names_before, closed_before, closed_after, none_left}
use Rattle.names_left.specs.Marks.{stays?, left_by, numbered, values_by, numbers_by}
use Rattle.names_left.specs.Answers.{Tabled, Leaves}
use Rattle.names_left.proofs.Writing.{Onward, onward_start, onward_step, onward_as, onward_end}

-- the names from a place of a table of `size` bytes on
unfoldable pub names_on : List ℕ → ℕ → ℕ → List (List ℕ)
names_on names size at = names_in (drop at (take size names))

-- At the name with a number, at the place `at`: so many names stay of those before it, and they end at `to`.
pub record Walk (names₀ : List ℕ) (size : ℕ) (values₀ marks₀ names values marks : List ℕ) (at number to kept : ℕ) : Type 0 where
  pub reads : at ≤ size
  pub writes : to ≤ at
  pub fewer : kept ≤ number
  pub within : size ≤ length names
  pub whole : closed? (drop at (take size names)) ≡ true
  pub few : number + length (names_on names size at) ≤ most_names
  pub all : length marks ≡ most_names
  pub valued : 8 * (number + length (names_on names size at)) ≤ length values
  pub named : Onward names₀ 0 (name_bytes (left_by marks₀ (names_on names₀ size 0))) names to (name_bytes (left_by (drop number marks) (names_on names size at)))
  pub entered : Onward values₀ 0 (values_by 0 marks₀ (names_on names₀ size 0) values₀) values (8 * kept) (values_by kept (drop number marks) (names_on names size at) (drop (8 * number) values))
  pub renumbered : Onward marks₀ 0 (numbers_by 0 marks₀ (names_on names₀ size 0)) marks number (numbers_by kept (drop number marks) (names_on names size at))
  pub counted : length (left_by marks₀ (names_on names₀ size 0)) ≡ kept + length (left_by (drop number marks) (names_on names size at))

-- at the first name
pub walk_start : (names : List ℕ) (size : ℕ) (values marks : List ℕ) → Tabled names size values → length marks ≡ most_names → Walk names size values marks names values marks 0 0 0 0
unfolding names_on
walk_start names size values marks t h = record {
  reads = omega arith;
  writes = omega arith;
  fewer = omega arith;
  within = t.within;
  whole = t.whole;
  few = omega (arith, t.few);
  all = h;
  valued = omega (arith, t.valued);
  named = onward_start _ _ _;
  entered = onward_start _ _ _;
  renumbered = onward_start _ _ _;
  counted = let z : length (left_by marks (names_in (take size names))) ≡ 0 + length (left_by marks (names_in (take size names))) = omega arith in z;
}

-- the same walk, said otherwise
pub walk_as : {names₀ : List ℕ} {size : ℕ} {values₀ marks₀ names values marks names₁ values₁ marks₁ : List ℕ} {at number to kept to₁ kept₁ : ℕ}
    → Walk names₀ size values₀ marks₀ names values marks at number to kept → names₁ ≡ names → values₁ ≡ values → marks₁ ≡ marks → to₁ ≡ to → kept₁ ≡ kept
    → Walk names₀ size values₀ marks₀ names₁ values₁ marks₁ at number to₁ kept₁
walk_as w a b c d e = rw (a, b, c, d, e) w

-- ---- the names that stay, and those that go

module _ (m : ℕ) (ms n : List ℕ) (ns : List (List ℕ)) (some : m ≡ 0 → ⊥) where
  stays : stays? m ≡ true
  unfolding stays?
  stays = rw (ne_eqb m 0 some)

  left_stays : left_by (m ∷ ms) (n ∷ ns) ≡ n ∷ left_by ms ns
  unfolding left_by
  left_stays = rw (stays)

  values_stay : (i : ℕ) (vs : List ℕ) → values_by i (m ∷ ms) (n ∷ ns) vs ≡ numbered i vs ++ values_by (i + 1) ms ns (drop 8 vs)
  unfolding values_by
  values_stay i vs = rw (stays, add-one)

  numbers_stay : (i : ℕ) → numbers_by i (m ∷ ms) (n ∷ ns) ≡ i ∷ numbers_by (i + 1) ms ns
  unfolding numbers_by
  numbers_stay i = rw (stays, add-one)

module _ (m : ℕ) (ms n : List ℕ) (ns : List (List ℕ)) (none : m ≡ 0) where
  goes : stays? m ≡ false
  unfolding stays?
  goes = rw (eq-eqb m 0 none)

  left_goes : left_by (m ∷ ms) (n ∷ ns) ≡ left_by ms ns
  unfolding left_by
  left_goes = rw (goes)

  values_go : (i : ℕ) (vs : List ℕ) → values_by i (m ∷ ms) (n ∷ ns) vs ≡ values_by i ms ns (drop 8 vs)
  unfolding values_by
  values_go i vs = rw (goes)

  numbers_go : (i : ℕ) → numbers_by i (m ∷ ms) (n ∷ ns) ≡ 0 ∷ numbers_by i ms ns
  unfolding numbers_by
  numbers_go i = rw (goes)

pub length_numbered : (i : ℕ) (vs : List ℕ) → 8 ≤ length vs → length (numbered i vs) ≡ 8
unfolding numbered
length_numbered i [] h = absurd (omega arith)
length_numbered i (a ∷ []) h = absurd (omega arith)
length_numbered i (a ∷ b ∷ vs) h = omega (arith, length-take-le 6 vs (omega arith))

-- the first name of whole bytes, as it lies there
first_marked : (bs : List ℕ) (k : ℕ) → 0 < length bs → k ≡ first_size bs → closed? bs ≡ true → marked (unmarked (take k bs)) ≡ take k bs
unfolding names_in name_bytes closed?
first_marked bs k h e c =
    let f : k ≡ 0 + first_size (drop 0 bs) = omega arith in
    let z : k - 0 ≡ k = omega arith in
    let one : names_in (take k bs) ≡ unmarked (take k bs) ∷ [] = names_before bs 0 k h f refl c ∙ ap (λ (j : ℕ). unmarked (take j bs) ∷ []) z in
    sym (append-nil (marked (unmarked (take k bs)))) ∙ ap name_bytes (sym one) ∙ bytes_of_names (take k bs) (closed_before bs 0 k h f refl c)

later_names : (names : List ℕ) (size end to : ℕ) (xs : List ℕ) {after : List ℕ} → to + length xs ≤ end → after ≡ sets names to xs → drop end (take size after) ≡ drop end (take size names)
later_names names size end to xs {after} h e =
    drop_take end size after ∙ ap (take (size - end)) (ap (drop end) e ∙ drop_sets end names to xs h) ∙ sym (drop_take end size names)

-- ---- a turn

module _ {names₀ : List ℕ} {size : ℕ} {values₀ marks₀ names values marks : List ℕ} {at number to kept : ℕ} (w : Walk names₀ size values₀ marks₀ names values marks at number to kept)
    (end : ℕ) (inside : at < size) (ends : end ≡ at + first_size (drop at (take size names))) where
  long : length (take size names) ≡ size
  long = length-take-le size names w.within

  bounds : (at < end) × (end ≤ size)
  bounds = let b = name_bounds (take size names) at end (omega (arith, long)) ends in (b.0, omega (arith, b.1, long))

  name : List ℕ
  name = unmarked (take (end - at) (drop at (take size names)))

  here : names_on names size at ≡ name ∷ names_on names size end
  unfolding names_on name
  here = name_here (take size names) at end (omega (arith, long)) ends

  places : (number < length marks) × (8 * number + 8 ≤ length values)
  places = (omega (arith, w.few, w.all, ap length here), omega (arith, w.valued, ap length here))

  marks_here : drop number marks ≡ get_or marks number 0 ∷ drop (number + 1) marks
  marks_here = rw (add-one) (drop-cons marks number 0 places.0)

  rest : List ℕ
  rest = drop at (take size names)

  size_here : end - at ≡ first_size rest
  unfolding rest
  size_here = omega arith

  some_left : 0 < length rest
  unfolding rest
  some_left = omega (arith, length-drop at (take size names), long)

  still_whole : closed? (drop end (take size names)) ≡ true
  unfolding rest closed?
  still_whole =
      let z : at + (end - at) ≡ end = omega (arith, bounds) in
      ap (λ (k : ℕ). closed? (drop k (take size names))) (sym z) ∙ ap closed? (sym (drop-drop (end - at) at (take size names)))
      ∙ closed_after rest 0 (end - at) some_left (omega (arith, size_here)) refl w.whole

  -- the name's bytes are those that stand there
  name_there : marked name ≡ take (end - at) (drop at names)
  unfolding rest name
  name_there =
      first_marked rest (end - at) some_left size_here w.whole ∙ ap (take (end - at)) (drop_take at size names)
      ∙ take-take (end - at) (size - at) (drop at names) (omega (arith, bounds))

  next_value : drop 8 (drop (8 * number) values) ≡ drop (8 * (number + 1)) values
  next_value = let z : 8 * number + 8 ≡ 8 * (number + 1) = omega arith in drop-drop 8 (8 * number) values ∙ ap (λ (k : ℕ). drop k values) z

  -- what is left before the turn: the mark and the name, and then the others
  left_now : left_by (drop number marks) (names_on names size at) ≡ left_by (get_or marks number 0 ∷ drop (number + 1) marks) (name ∷ names_on names size end)
  left_now = rw (here, marks_here)

  values_now : values_by kept (drop number marks) (names_on names size at) (drop (8 * number) values)
      ≡ values_by kept (get_or marks number 0 ∷ drop (number + 1) marks) (name ∷ names_on names size end) (drop (8 * number) values)
  values_now = rw (here, marks_here)

  numbers_now : numbers_by kept (drop number marks) (names_on names size at) ≡ numbers_by kept (get_or marks number 0 ∷ drop (number + 1) marks) (name ∷ names_on names size end)
  numbers_now = rw (here, marks_here)

  -- the numbers of a turn are within their bounds
  pub turn_fits : (at < end) × (end ≤ size) × (size ≤ length names) × (to ≤ at) × (kept ≤ number) × (number < length marks) × (length marks ≡ most_names) × (8 * number + 8 ≤ length values)
  turn_fits = (bounds.0, bounds.1, w.within, w.writes, w.fewer, places.0, w.all, places.1)

  -- a name that stays, with its value
  pub turn_kept : {names₁ values₁ marks₁ : List ℕ} → (get_or marks number 0 ≡ 0 → ⊥) → names₁ ≡ sets names to (take (end - at) (drop at names))
      → values₁ ≡ sets values (8 * kept) (numbered kept (drop (8 * number) values)) → marks₁ ≡ set marks number kept
      → Walk names₀ size values₀ marks₀ names₁ values₁ marks₁ end (number + 1) (to + (end - at)) (kept + 1)
  unfolding names_on name_bytes
  turn_kept {names₁} {values₁} {marks₁} m f v g =
      let mark = get_or marks number 0 in
      let ms = drop (number + 1) marks in
      let ns = names_on names size end in
      let moved = take (end - at) (drop at names) in
      let entry = numbered kept (drop (8 * number) values) in
      let moved_size : length moved ≡ end - at = length-take-le (end - at) (drop at names) (omega (arith, length-drop at names, bounds, w.within)) in
      let entry_size : length entry ≡ 8 = length_numbered kept (drop (8 * number) values) (omega (arith, length-drop (8 * number) values, places)) in
      let bytes : drop end (take size names₁) ≡ drop end (take size names) = later_names names size end to moved (omega (arith, w.writes, bounds)) f in
      let later : names_on names₁ size end ≡ ns = ap names_in bytes in
      let later_marks : drop (number + 1) marks₁ ≡ ms = ap (drop (number + 1)) g ∙ drop-set-lt (number + 1) marks number kept (omega arith) in
      let later_values : drop (8 * (number + 1)) values₁ ≡ drop 8 (drop (8 * number) values) =
      ap (drop (8 * (number + 1))) v ∙ drop_sets (8 * (number + 1)) values (8 * kept) entry (omega (arith, w.fewer)) ∙ sym next_value in
      let left : left_by (drop number marks) (names_on names size at) ≡ name ∷ left_by ms ns = left_now ∙ left_stays mark ms name ns m in
      let left_after : left_by ms ns ≡ left_by (drop (number + 1) marks₁) (names_on names₁ size end) = rw (later_marks, later) in
      let size₁ : length names₁ ≡ length names = ap length f ∙ length-sets names to moved in
      let size₂ : length values₁ ≡ length values = ap length v ∙ length-sets values (8 * kept) entry in
      let size₃ : length marks₁ ≡ length marks = ap length g ∙ length-set marks number kept in
      let count : length (names_on names₁ size end) + 1 ≡ length (names_on names size at) = omega (arith, ap length here, ap length later) in
      record {
        reads = bounds.1;
        writes = omega (arith, w.writes, bounds);
        fewer = omega (arith, w.fewer);
        within = omega (arith, w.within);
        whole = ap closed? bytes ∙ still_whole;
        few = omega (arith, w.few);
        all = size₃ ∙ w.all;
        valued = omega (arith, w.valued);
        named = onward_as (onward_step w.named moved (name_bytes (left_by ms ns)) (ap name_bytes left ∙ ap (λ (l : List ℕ). l ++ name_bytes (left_by ms ns)) name_there) f (ap (λ (k : ℕ). to + k) (sym moved_size))) (ap name_bytes left_after);
        entered = onward_as (onward_step w.entered entry (values_by (kept + 1) ms ns (drop 8 (drop (8 * number) values))) (values_now ∙ values_stay mark ms name ns m kept (drop (8 * number) values)) v (omega arith)) (rw (later_marks, later, later_values));
        renumbered = onward_as (onward_step w.renumbered (kept ∷ []) (numbers_by (kept + 1) ms ns) (numbers_now ∙ numbers_stay mark ms name ns m kept) g refl) (rw (later_marks, later));
        counted = omega (arith, w.counted, ap length left, ap length left_after);
      }

  -- a name that goes
  pub turn_gone : get_or marks number 0 ≡ 0 → Walk names₀ size values₀ marks₀ names values marks end (number + 1) to kept
  unfolding names_on
  turn_gone m =
      let mark = get_or marks number 0 in
      let ms = drop (number + 1) marks in
      let ns = names_on names size end in
      let left : left_by (drop number marks) (names_on names size at) ≡ left_by ms ns = left_now ∙ left_goes mark ms name ns m in
      let stands : marks ≡ set marks number 0 = sym (ap (set marks number) (sym m) ∙ set-get_or marks number 0) in
      record {
        reads = bounds.1;
        writes = omega (arith, w.writes, bounds);
        fewer = omega (arith, w.fewer);
        within = w.within;
        whole = still_whole;
        few = omega (arith, w.few, ap length here);
        all = w.all;
        valued = omega (arith, w.valued, ap length here);
        named = onward_as w.named (ap name_bytes left);
        entered = onward_as w.entered (values_now ∙ values_go mark ms name ns m kept (drop (8 * number) values) ∙ ap (values_by kept ms ns) next_value);
        renumbered = onward_step w.renumbered (0 ∷ []) (numbers_by kept ms ns) (numbers_now ∙ numbers_go mark ms name ns m kept) stands refl;
        counted = w.counted ∙ ap (λ (l : List (List ℕ)). kept + length l) left;
      }

-- ---- the end

module _ {names₀ : List ℕ} {size : ℕ} {values₀ marks₀ names values marks : List ℕ} {at number to kept : ℕ} (w : Walk names₀ size values₀ marks₀ names values marks at number to kept) (past : size ≤ at) where
  none : names_on names size at ≡ []
  unfolding names_on
  none = none_left (take size names) at (omega (arith, length-take-le size names w.within))

  none_by : (ms : List ℕ) → left_by ms [] ≡ []
  unfolding left_by
  none_by [] = refl
  none_by (m ∷ ms) = refl

  none_left_by : left_by (drop number marks) (names_on names size at) ≡ []
  none_left_by = ap (left_by (drop number marks)) none ∙ none_by (drop number marks)

  no_values : values_by kept (drop number marks) (names_on names size at) (drop (8 * number) values) ≡ []
  unfolding values_by
  no_values = rw (none) (go (drop number marks))
    where
      go : (ms : List ℕ) → values_by kept ms [] (drop (8 * number) values) ≡ []
      go [] = refl
      go (m ∷ ms) = refl

  no_numbers : numbers_by kept (drop number marks) (names_on names size at) ≡ []
  unfolding numbers_by
  no_numbers = rw (none) (go (drop number marks))
    where
      go : (ms : List ℕ) → numbers_by kept ms [] ≡ []
      go [] = refl
      go (m ∷ ms) = refl

  pub walk_end : Leaves names₀ size values₀ marks₀ (record { name_bytes = to; name_count = kept }) names values marks
  unfolding names_on name_bytes
  walk_end = record {
    bytes = omega (arith, w.named.size, ap (λ (l : List (List ℕ)). length (name_bytes l)) none_left_by);
    count = omega (arith, w.counted, ap length none_left_by);
    named = onward_end w.named (ap name_bytes none_left_by) (omega (arith, w.writes, w.reads, w.within));
    valued = onward_end w.entered no_values (omega (arith, w.fewer, w.valued));
    renumbered = onward_end w.renumbered no_numbers (omega (arith, w.few, w.all));
  }

-- past the last mark no name is left
pub walk_out : {names₀ : List ℕ} {size : ℕ} {values₀ marks₀ names values marks : List ℕ} {at number to kept : ℕ} → Walk names₀ size values₀ marks₀ names values marks at number to kept → length marks ≤ number → size ≤ at
walk_out {names₀} {size} {values₀} {marks₀} {names} {values} {marks} {at} {number} {to} {kept} w h = go (ltb at size) refl
  where
    go : (t : Bool) → ltb at size ≡ t → size ≤ at
    go true e = let f = turn_fits w (at + first_size (drop at (take size names))) (ltb-true at size e) refl in absurd (omega arith)
    go false e = ltb-false at size e

-- the first name's bytes, in the part of a table from a place on
pub sized : {s : ℕ} (names : List ℕ) (size at : ℕ) → s ≡ first_size (take (size - at) (drop at names)) → at + s ≡ at + first_size (drop at (take size names))
sized names size at e = ap (λ (k : ℕ). at + k) (e ∙ ap first_size (sym (drop_take at size names)))

pub moved : {names₁ : List ℕ} (names : List ℕ) (to at s : ℕ) → names₁ ≡ sets names to (take s (drop at names)) → names₁ ≡ sets names to (take (at + s - at) (drop at names))
moved names to at s e = e ∙ ap (λ (k : ℕ). sets names to (take k (drop at names))) (let z : s ≡ at + s - at = omega arith in z)
