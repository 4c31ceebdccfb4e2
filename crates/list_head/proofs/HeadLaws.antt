-- Whether the head of a line is right, told in the order in which its parts are looked at.
use Prim.Native.Nat.{ℕ, ◌≤◌, ◌<◌}
use mathlib.Core.Path.{◌≡◌, sym, ◌∙◌}
use mathlib.Core.Bool.{Bool, false}
use mathlib.Core.List.{List}
use lib.ListN.{length, get_or}
use borrow.Author.Tests.{le-leb, lt-leb, eq-eqb, ne_eqb}
use Rattle.paper.specs.Line.{line_number}
use Rattle.list_head.specs.Heads.{right_head?}

module _ (lawful? : ℕ → Bool) (l : List ℕ) where
  -- shorter than a head
  pub head_short : length l < 3 → false ≡ right_head? lawful? l
  unfolding right_head?
  head_short h = sym (rw (lt-leb 3 (length l) h))

  module _ (long : 3 ≤ length l) where
    -- another length
    pub head_sized : (get_or l 2 0 ≡ length l → ⊥) → false ≡ right_head? lawful? l
    unfolding right_head?
    head_sized n = sym (rw (le-leb 3 (length l) long, ne_eqb (get_or l 2 0) (length l) n))

    -- the number decides
    pub head_numbered : get_or l 2 0 ≡ length l → (r : Bool) → r ≡ lawful? (line_number l) → r ≡ right_head? lawful? l
    unfolding right_head?
    head_numbered e r h = h ∙ sym (rw (le-leb 3 (length l) long, eq-eqb (get_or l 2 0) (length l) e))
