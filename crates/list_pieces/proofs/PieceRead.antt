-- A piece told by the bytes at a place of a line.
use Prim.Native.Nat.{ℕ, ◌+◌, ◌-◌, ◌≤◌, ◌<◌}
use native.Mathlib.Omega.{arith}
use native.Mathlib.Nat.{add-zero}
use mathlib.Core.Path.{◌≡◌, refl, sym, ap, ◌∙◌}
use mathlib.Core.Bool.{Bool, true, false}
use mathlib.Core.List.{List}
use mathlib.Core.Logic.{◌⊎◌, inl, inr}
use Rattle.list_pieces.specs.declared.Piece.{Piece}
use lib.Dec.{eqb}
use lib.ListN.{drop, get_or}
use lib.Seq.{drop-drop, get_or-drop}
use borrow.Author.Tests.{eq-eqb, ne_eqb, le-leb, lt-leb, eqb-true, eqb-false}
use Rattle.paper.specs.Bytes.{pick, run}
use Rattle.paper.specs.Items.{raw_byte?}
use Rattle.paper.specs.Line.{variable_byte?, variable_size, variable_number, raw_statement?}
use Rattle.list_pieces.specs.declared.VariableToken.{VariableToken}
use Rattle.list_pieces.specs.declared.Piece.TheVariants.{Word, Text, Target, NoTarget, Variable, Constant, Quoted, Operator}
use Rattle.std.specs.Prelude.{Some, None}
use Rattle.list_pieces.specs.Variables.{variable_at, told}
use Rattle.list_pieces.specs.Pieces.{piece_at, end_after}

-- a variable's token that stands there, or none
pub told_some : (v x : VariableToken) → Some x ≡ told v → (x ≡ v) × (v.size ≡ 0 → ⊥)
told_some v x e = go (eqb v.size 0) refl e
  where
    go : (b : Bool) → eqb v.size 0 ≡ b → Some x ≡ pick b None (Some v) → (x ≡ v) × (v.size ≡ 0 → ⊥)
    go true q f = absurd (let z : ◌≡◌ {A = ℕ} 0 1 = cc in omega arith)
    go false q f = (cc, eqb-false v.size 0 q)

pub told_none : (v : VariableToken) → None ≡ told v → v.size ≡ 0
told_none v e = go (eqb v.size 0) refl e
  where
    go : (b : Bool) → eqb v.size 0 ≡ b → None ≡ pick b None (Some v) → v.size ≡ 0
    go true q f = eqb-true v.size 0 q
    go false q f = absurd (let z : ◌≡◌ {A = ℕ} 0 1 = cc in omega arith)

module _ (l : List ℕ) (at : ℕ) where
  pub byte_0 : get_or (drop at l) 0 0 ≡ get_or l at 0
  byte_0 = get_or-drop at l 0 0 ∙ ap (λ (i : ℕ). get_or l i 0) (add-zero at)

  byte_1 : get_or (drop at l) 1 0 ≡ get_or l (at + 1) 0
  byte_1 = get_or-drop at l 1 0

  -- ---- a variable's token

  pub long_read : (b : ℕ) → b ≡ get_or l at 0 → b ≡ 0 → (c : ℕ) → c ≡ get_or l (at + 1) 0 → record { number = 128 + c; size = 2 } ≡ variable_at (drop at l)
  unfolding variable_at variable_byte? variable_size variable_number
  long_read b e h c f = let z : get_or l at 0 ≡ 0 = sym e ∙ h in rw (byte_0, z, byte_1, ← f)

  pub low_read : (b : ℕ) → b ≡ get_or l at 0 → (b ≡ 0 → ⊥) → b < 0x80 → record { number = 0; size = 0 } ≡ variable_at (drop at l)
  unfolding variable_at variable_byte? variable_size variable_number
  low_read b e n h = let z : 0 ≡ b - 0x80 = omega arith in rw (byte_0, ← e, ne_eqb b 0 n, lt-leb 0x80 b h) (ap (λ (i : ℕ). record { number = i; size = 0 }) z)

  pub high_read : (b : ℕ) → b ≡ get_or l at 0 → (b ≡ 0 → ⊥) → 0x80 ≤ b → record { number = b - 0x80; size = 1 } ≡ variable_at (drop at l)
  unfolding variable_at variable_byte? variable_size variable_number
  high_read b e n h = rw (byte_0, ← e, ne_eqb b 0 n, le-leb 0x80 b h)

  -- ---- where the statement after a piece ends

  -- as the offset of a piece that begins a statement says
  pub ends_told : (end : ℕ) (c : Piece) → ((x : ℕ) × c ≡ Word x) ⊎ ((x : ℕ) × (y : ℕ) × c ≡ Text x y) ⊎ ((x : VariableToken) × c ≡ Target x) ⊎ (c ≡ NoTarget) → get_or l at 0 ≡ end_after end (drop at l) c
  unfolding end_after
  ends_told end c (inl w) = rw w.1 (sym byte_0)
  ends_told end c (inr (inl w)) = rw w.2 (sym byte_0)
  ends_told end c (inr (inr (inl w))) = rw w.1 (sym byte_0)
  ends_told end c (inr (inr (inr w))) = rw w (sym byte_0)

  -- or as before
  pub ends_so : (end : ℕ) (c : Piece) → ((x : ℕ) → c ≡ Word x → ⊥) → ((x y : ℕ) → c ≡ Text x y → ⊥) → ((x : VariableToken) → c ≡ Target x → ⊥) → (c ≡ NoTarget → ⊥) → end ≡ end_after end (drop at l) c
  unfolding end_after
  ends_so end (Word t) w x y z = absurd (w t refl)
  ends_so end (Text t n) w x y z = absurd (x t n refl)
  ends_so end (Target v) w x y z = absurd (y v refl)
  ends_so end NoTarget w x y z = absurd (z refl)
  ends_so end (Variable v) w x y z = refl
  ends_so end Constant w x y z = refl
  ends_so end (Quoted n) w x y z = refl
  ends_so end (Operator t) w x y z = refl

  -- ---- at a statement's beginning

  begun : (t : ℕ) → t ≡ get_or l (at + 1) 0 → (v : VariableToken) → v ≡ variable_at (drop (at + 2) l)
      → piece_at at at (drop at l) ≡ pick (eqb t 0x36) (pick (eqb v.size 0) NoTarget (Target v)) (pick (raw_statement? t) (Text t (run raw_byte? (drop (at + 2) l))) (Word t))
  unfolding piece_at
  begun t e v f =
      let d : drop 2 (drop at l) ≡ drop (at + 2) l = drop-drop 2 at l in
      rw (eq-eqb at at refl, byte_1, d, ← e, ← f)

  pub target_read : (t : ℕ) → t ≡ get_or l (at + 1) 0 → t ≡ 0x36 → (v : VariableToken) → v ≡ variable_at (drop (at + 2) l) → (v.size ≡ 0 → ⊥) → Target v ≡ piece_at at at (drop at l)
  target_read t e h v f n = sym (begun t e v f ∙ rw (eq-eqb t 0x36 h, ne_eqb v.size 0 n))

  pub no_target_read : (t : ℕ) → t ≡ get_or l (at + 1) 0 → t ≡ 0x36 → (v : VariableToken) → v ≡ variable_at (drop (at + 2) l) → v.size ≡ 0 → NoTarget ≡ piece_at at at (drop at l)
  no_target_read t e h v f n = sym (begun t e v f ∙ rw (eq-eqb t 0x36 h, eq-eqb v.size 0 n))

  pub text_read : (t : ℕ) → t ≡ get_or l (at + 1) 0 → (t ≡ 0x36 → ⊥) → raw_statement? t ≡ true → (e : ℕ) → e ≡ at + 2 + run raw_byte? (drop (at + 2) l) → Text t (e - (at + 2)) ≡ piece_at at at (drop at l)
  text_read t e h r n f =
      let z : n - (at + 2) ≡ run raw_byte? (drop (at + 2) l) = omega arith in
      ap (Text t) z ∙ sym (begun t e _ refl ∙ rw (ne_eqb t 0x36 h, r))

  pub word_read : (t : ℕ) → t ≡ get_or l (at + 1) 0 → (t ≡ 0x36 → ⊥) → raw_statement? t ≡ false → Word t ≡ piece_at at at (drop at l)
  word_read t e h r = sym (begun t e _ refl ∙ rw (ne_eqb t 0x36 h, r))

  -- ---- elsewhere

  module _ (end : ℕ) (n : at ≡ end → ⊥) (v : VariableToken) (f : v ≡ variable_at (drop at l)) where
    within : piece_at at end (drop at l)
        ≡ (let b = get_or l at 0 in pick (eqb v.size 0) (pick (eqb b 0x0e) Constant (pick (eqb b 0x0f) (Quoted (get_or l (at + 1) 0)) (Operator b))) (Variable v))
    unfolding piece_at
    within = rw (ne_eqb at end n, byte_0, byte_1, ← f)

    pub variable_read : (v.size ≡ 0 → ⊥) → Variable v ≡ piece_at at end (drop at l)
    variable_read h = sym (within ∙ rw (ne_eqb v.size 0 h))

    module _ (h : v.size ≡ 0) where
      pub constant_read : get_or l at 0 ≡ 0x0e → Constant ≡ piece_at at end (drop at l)
      constant_read e = sym (within ∙ rw (eq-eqb v.size 0 h, eq-eqb (get_or l at 0) 0x0e e))

      pub quoted_read : (get_or l at 0 ≡ 0x0e → ⊥) → get_or l at 0 ≡ 0x0f → (k : ℕ) → k ≡ get_or l (at + 1) 0 → Quoted k ≡ piece_at at end (drop at l)
      quoted_read m e k g = ap Quoted g ∙ sym (within ∙ rw (eq-eqb v.size 0 h, ne_eqb (get_or l at 0) 0x0e m, eq-eqb (get_or l at 0) 0x0f e))

      pub operator_read : (get_or l at 0 ≡ 0x0e → ⊥) → (get_or l at 0 ≡ 0x0f → ⊥) → Operator (get_or l at 0) ≡ piece_at at end (drop at l)
      operator_read m e = sym (within ∙ rw (eq-eqb v.size 0 h, ne_eqb (get_or l at 0) 0x0e m, ne_eqb (get_or l at 0) 0x0f e))
