-- What accepting a line that was read gives, in the words of `paper`.
use Prim.Native.Nat.{ℕ, ◌+◌, ◌-◌, ◌*◌, ◌≤◌}
use native.Mathlib.Omega.{arith}
use mathlib.Core.Path.{◌≡◌, refl, sym, ap, ◌∙◌}
use mathlib.Core.Bool.{Bool, true, false}
use mathlib.Core.List.{List, ◌++◌}
use lib.Dec.{ltb}
use lib.ListN.{length, take, length-append}
use lib.Seq.{drop-append_seam}
use borrow.Author.Tests.{ltb-false}
use Rattle.paper.specs.Bytes.{pick, joined}
use Rattle.paper.specs.Tokens.{Token}
use Rattle.paper.specs.Items.{no_span}
use Rattle.paper.specs.Names.{names_in, name_bytes, add_names, value_entries}
use Rattle.paper.specs.Line.{line_bytes, line_number, direct_number}
use Rattle.paper.specs.Store.{greatest_number, put_line, overwritten}
use Rattle.paper.specs.Calls.{State, names_of, lines_of, refusal, with_names, stored, lacks_room, unless_short, accept}
use Rattle.paper.specs.Calls.{Entered as Outcome}
use Rattle.paper.specs.Direct.{Typed, same_buffer, accept_direct}
use Rattle.laws.specs.Names.{closed?, adds_front, Sound}
use Rattle.names_numbered.specs.Answers.{lacks, Room}
use Rattle.names_numbered.specs.Uses.{length_bytes, lacks_is, room_left}
use Rattle.std.specs.Prelude.{Some, None}
use Rattle.refusals.specs.Numbers.{number_of}
use Rattle.refusals.specs.declared.Refusal.{Refusal}
use Rattle.refusals.specs.declared.Refusal.TheVariants.{NoNameRoom, LongLine}
use Rattle.store_edit.specs.Answers.{too_long}
use Rattle.editor_names.specs.Answers.{short_of}
use Rattle.editor_accept.specs.Lines.{Written}

-- the names of the line are those before and the new ones
names_are : {ns : List (List ℕ)} {n : ℕ} {ts : List Token} {line : List ℕ} {size : ℕ} {fresh : List ℕ} → Written ns n ts line size fresh → add_names ns ts ≡ ns ++ names_in fresh
names_are {ns} {n} {ts} w = adds_front ns ts ∙ ap (λ (l : List (List ℕ)). ns ++ l) (sym w.new)

line_number_of : (ns : List (List ℕ)) (n : ℕ) (ts : List Token) → line_number (line_bytes ns n ts) ≡ n
unfolding line_number line_bytes
line_number_of ns n ts = omega arith

-- ---- refusals 6 and 7, which come before the line's place is looked at

module _ (lack : Bool) (size : ℕ) where
  nothing_short : short_of lack size ≡ None → (lack ≡ false) × (ltb 255 size ≡ false)
  unfolding short_of
  nothing_short h = go lack (ltb 255 size) h
    where
      go : (a b : Bool) → pick a (Some NoNameRoom) (pick b (Some LongLine) None) ≡ None → (a ≡ false) × (b ≡ false)
      go true b h = let z : ◌≡◌ {A = ℕ} 0 1 = cc in absurd (omega arith)
      go false true h = let z : ◌≡◌ {A = ℕ} 0 1 = cc in absurd (omega arith)
      go false false h = (refl, refl)

  -- where neither holds there is room for the names, and the line is short
  not_lacking : short_of lack size ≡ None → lack ≡ false
  not_lacking h = (nothing_short h).0

  not_long : short_of lack size ≡ None → size ≤ 255
  not_long h = ltb-false 255 size (nothing_short h).1

  module _ {A : Type 0} (refuse : ℕ → A) (line : List ℕ) (is : size ≡ length line) (unfitting : Bool) (a : A) where
    -- a refusal
    refused_short : (k : Refusal) → short_of lack size ≡ Some k → refuse (number_of k) ≡ unless_short refuse lack line unfitting a
    unfolding short_of unless_short
    refused_short k h = go lack (ltb 255 (length line)) (rw (is) at h)
      where
        go : (x y : Bool) → pick x (Some NoNameRoom) (pick y (Some LongLine) None) ≡ Some k → refuse (number_of k) ≡ pick x (refuse 6) (pick y (refuse 7) (pick unfitting (refuse 8) a))
        go true y h = let same : k ≡ NoNameRoom = cc in ap (λ (r : Refusal). refuse (number_of r)) same
        go false true h = let same : k ≡ LongLine = cc in ap (λ (r : Refusal). refuse (number_of r)) same
        go false false h = let z : ◌≡◌ {A = ℕ} 0 1 = cc in absurd (omega arith)

    -- the place decides
    place_decides : short_of lack size ≡ None → pick unfitting (refuse 8) a ≡ unless_short refuse lack line unfitting a
    unfolding unless_short
    place_decides h = let f = nothing_short h in sym (rw (f.0, ← is, f.1))

-- ---- a line that was read, over sound names and values

module _ (s : State) (t : Sound s.names s.name_size s.name_count) (v : 8 * s.name_count ≤ length s.values) (n : ℕ) (line : List ℕ) (size : ℕ) (fresh : List ℕ) where
  abbrev lack : Bool
  lack = lacks (length s.names) s.name_size (length s.values) s.name_count (names_in fresh)

  counted : length (names_of s) ≡ s.name_count
  unfolding names_of
  counted = t.counted

  -- there is room for the names
  pub roomy : short_of lack size ≡ None → closed? fresh ≡ true → Room s.names s.name_size s.values s.name_count fresh
  roomy h c = room_left s.names s.name_size s.values s.name_count fresh (not_lacking lack size h) c t.few t.within v

  -- the state with the new names
  abbrev named : State
  named = record {
    names = overwritten (take s.name_size s.names ++ name_bytes (names_in fresh)) s.names;
    name_size = s.name_size + length fresh;
    name_count = s.name_count + length (names_in fresh);
    values = overwritten (take (8 * s.name_count) s.values ++ value_entries s.name_count (names_in fresh)) s.values;
    store = s.store;
    used = s.used;
    line_count = s.line_count;
    greatest = s.greatest;
  }

  with_names_is : with_names s (names_of s ++ names_in fresh) ≡ named
  unfolding with_names
  with_names_is =
      let e : length (names_of s ++ names_in fresh) ≡ s.name_count + length (names_in fresh) = length-append (names_of s) (names_in fresh) ∙ ap (λ (k : ℕ). k + length (names_in fresh)) counted in
      rw (drop-append_seam (names_of s) (names_in fresh), e, length_bytes fresh)

  -- the state with lines too
  abbrev made : List (List ℕ) → State
  made ls = record {
    names = named.names;
    name_size = named.name_size;
    name_count = named.name_count;
    values = named.values;
    store = overwritten (joined ls) s.store;
    used = length (joined ls);
    line_count = length ls;
    greatest = greatest_number ls;
  }

  stored_is : (ls : List (List ℕ)) → stored s (names_of s ++ names_in fresh) ls ≡ made ls
  unfolding stored
  stored_is ls = rw (with_names_is)

  module _ (ts : List Token) (w : Written (names_of s) n ts line size fresh) where
    abbrev ns : List (List ℕ)
    ns = add_names (names_of s) ts

    lack_is : lacks_room s ns ≡ lack
    lack_is = ap (lacks_room s) (names_are w) ∙ sym (lacks_is s (names_in fresh) counted)

    added_is : length ns - length (names_of s) ≡ length (names_in fresh)
    added_is = omega (arith, ap length (names_are w), length-append (names_of s) (names_in fresh))

    -- the line is written out where it is short and its names are few
    line_is : short_of lack size ≡ None → take size line ≡ line_bytes ns n ts
    line_is h = w.bytes (not_long lack size h) (omega (arith, (roomy h w.closed).few, ap length (names_are w), length-append (names_of s) (names_in fresh), counted))

    -- its number
    pub number_is : short_of lack size ≡ None → line_number (take size line) ≡ n
    number_is h = ap line_number (line_is h) ∙ line_number_of ns n ts

    -- ---- stored

    -- 6, 7
    pub short_stored : (k : Refusal) → short_of lack size ≡ Some k → refusal (number_of k) no_span s ≡ accept s n ts
    unfolding accept
    short_stored k h = rw (lack_is) (refused_short lack size (λ i. refusal i no_span s) (line_bytes ns n ts) w.length_is _ _ k h)

    module _ (h : short_of lack size ≡ None) where
      abbrev lines : List (List ℕ)
      lines = put_line (take size line) (lines_of s)

      abbrev entered_so : Outcome
      entered_so = record { number = 0; place = no_span; added = length (names_in fresh); after = made lines }

      -- 8, or 0
      pub room_decides : pick (too_long s.store lines) (refusal 8 no_span s) entered_so ≡ accept s n ts
      unfolding accept too_long
      room_decides =
          rw (lack_is, ← line_is h, added_is, names_are w, stored_is lines)
          (place_decides lack size (λ k. refusal k no_span s) (take size line) (w.length_is ∙ ap length (sym (line_is h))) _ _ h)

-- ---- in a line buffer

module _ (s : State) (t : Sound s.names s.name_size s.name_count) (v : 8 * s.name_count ≤ length s.values) (line : List ℕ) (size : ℕ) (fresh : List ℕ)
    (ts : List Token) (w : Written (names_of s) direct_number ts line size fresh) (buffer : List ℕ) where
  abbrev lacking : Bool
  lacking = lack s t v direct_number line size fresh

  -- 6, 7
  pub short_direct : (k : Refusal) → short_of lacking size ≡ Some k → same_buffer buffer (refusal (number_of k) no_span s) ≡ accept_direct s buffer ts
  unfolding accept_direct
  short_direct k h = rw (lack_is s t v direct_number line size fresh ts w)
      (refused_short lacking size (λ i. same_buffer buffer (refusal i no_span s)) (line_bytes (add_names (names_of s) ts) direct_number ts) w.length_is _ _ k h)

  module _ (h : short_of lacking size ≡ None) where
    abbrev typed_so : Typed
    typed_so = record {
      entered = record { number = 0; place = no_span; added = length (names_in fresh); after = named s t v direct_number line size fresh };
      line = overwritten (take size line) buffer;
    }

    size_is : length (take size line) ≡ size
    size_is = ap length (line_is s t v direct_number line size fresh ts w h) ∙ sym w.length_is

    -- 8, or 0
    pub buffer_decides : pick (ltb (length buffer) size) (same_buffer buffer (refusal 8 no_span s)) typed_so ≡ accept_direct s buffer ts
    unfolding accept_direct
    buffer_decides =
        rw (lack_is s t v direct_number line size fresh ts w, ← line_is s t v direct_number line size fresh ts w h, added_is s t v direct_number line size fresh ts w, names_are w, with_names_is s t v direct_number line size fresh, size_is)
        (place_decides lacking size (λ k. same_buffer buffer (refusal k no_span s)) (take size line) (sym size_is) _ _ h)
