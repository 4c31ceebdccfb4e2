-- From the check of a piece to how a walk goes on after it.
use Prim.Native.Nat.{ℕ, ◌%◌, ◌<◌}
use native.Mathlib.Omega.{arith}
use mathlib.Core.Path.{◌≡◌, refl, subst, sym, ap, ◌∙◌}
use mathlib.Core.Bool.{Bool, true, false}
use mathlib.Core.List.{List}
use lib.Dec.{eqb}
use borrow.Author.Tests.{eqb-true, eqb-false}
use lib.ListN.{length, drop}
use Rattle.names_kinds.specs.Kinds.{kind_at, kind_there, kind_some}
use Rattle.list_pieces.specs.declared.Piece.{Piece}
use Rattle.list_pieces.specs.Pieces.{piece_at, size_of, end_after}
use Rattle.std.specs.Prelude.{Option, Some, None}
use Rattle.list_check.specs.Passes.{Passes, Checked}
use Rattle.list_check.specs.Walks.{Goes}

-- ---- kinds

module _ (ns : List (List ℕ)) (i : ℕ) where
  -- no class, no kind
  class_zero : kind_at ns i % 8 ≡ 0 → kind_at ns i ≡ 0
  class_zero e = go (eqb (kind_at ns i) 0) refl
    where
      go : (b : Bool) → eqb (kind_at ns i) 0 ≡ b → kind_at ns i ≡ 0
      go true q = eqb-true (kind_at ns i) 0 q
      go false q = absurd (kind_some ns i (kind_there ns i (eqb-false (kind_at ns i) 0 q)) e)

  pub class_none : (i < length ns → ⊥) → 0 ≡ kind_at ns i % 8
  class_none n = go (eqb (kind_at ns i) 0) refl
    where
      go : (b : Bool) → eqb (kind_at ns i) 0 ≡ b → 0 ≡ kind_at ns i % 8
      go true q = ap (λ (k : ℕ). k % 8) (sym (eqb-true (kind_at ns i) 0 q))
      go false q = absurd (n (kind_there ns i (eqb-false (kind_at ns i) 0 q)))

  pub kind_none : {k : ℕ} → k ≡ kind_at ns i % 8 → k ≡ 0 → 0 ≡ kind_at ns i
  kind_none e z = sym (class_zero (sym e ∙ z))

  -- a name with a class is there
  pub kind_known : {k : ℕ} → k ≡ kind_at ns i % 8 → (k ≡ 0 → ⊥) → i < length ns
  kind_known e n = kind_there ns i (λ z. n (e ∙ ap (λ (k : ℕ). k % 8) z))

-- ---- how a walk goes on

module _ (ns : List (List ℕ)) (l : List ℕ) (at end : ℕ) (c : Piece) (old : List ℕ) (depth : ℕ) (f : Option ℕ) (new : List ℕ) (here : c ≡ piece_at at end (drop at l)) (a : Checked ns l at c old depth f new) where
  passes : Passes ns l at end (piece_at at end (drop at l)) old depth f new
  passes = subst (λ (p : Piece). Passes ns l at end p old depth f new) here (a end (sym here))

  -- the walk goes on as the check says
  pub goes_on : (d : ℕ) → f ≡ Some d → {n e : ℕ} → n ≡ size_of c → e ≡ end_after end (drop at l) c → Goes ns l at end old depth (Some (record { size = n; end = e; depth = d })) new
  goes_on d q {n} {e} p r = record {
    on = λ k z.
        (let s : k ≡ record { size = n; end = e; depth = d } = cc in
        rw s (p ∙ ap size_of here, r ∙ ap (end_after end (drop at l)) here, passes.fits d q));
    stops = λ z. (let m : ◌≡◌ {A = ℕ} 0 1 = cc in absurd (omega arith));
  }

  -- or it stops
  pub goes_off : f ≡ None → Goes ns l at end old depth None new
  goes_off q = record {
    on = λ k z. (let m : ◌≡◌ {A = ℕ} 0 1 = cc in absurd (omega arith));
    stops = λ z. passes.fails q;
  }
