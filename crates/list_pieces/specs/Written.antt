-- Tokens that are written at the front of some bytes: one more, one less.
use Prim.Native.Nat.{ℕ, suc, ◌+◌}
use Rattle.std.proofs.Common.{arith, ◌∙◌}
use Rattle.std.specs.Prelude.{◌≡◌, true, false, T}
use Rattle.std.proofs.Math.Path.{sym, ap, ap₂}
use mathlib.Core.List.{List, ◌∷◌, ◌++◌}
use Rattle.std.proofs.Math.ListN.{length, drop}
use Rattle.std.proofs.Math.Seq.{drop-append_seam}
use Rattle.paper.specs.Bytes.{every}
use Rattle.paper.specs.Tokens.{Token}
use Rattle.paper.specs.Line.{own_bytes, begins?, to_next, token_bytes}
use Rattle.paper.specs.WellFormed.{right_token?}
use Rattle.laws.specs.Tests.{and_left, and_right, and_both}
use Rattle.list_pieces.specs.Rest.{Written}

-- the tail of a list that begins as another does
pub head_is : {x y : ℕ} {xs ys : List ℕ} → x ∷ xs ≡ y ∷ ys → x ≡ y
head_is e = cc

pub tail_is : {x y : ℕ} {xs ys : List ℕ} → x ∷ xs ≡ y ∷ ys → xs ≡ ys
tail_is e = cc

module _ (ns : List (List ℕ)) (t : Token) (ts : List Token) where
  -- ---- a token within a statement

  bytes_within : (p : ℕ) → begins? t ≡ false → token_bytes ns p (t ∷ ts) ≡ own_bytes ns t ++ token_bytes ns (p + length (own_bytes ns t)) ts
  unfolding token_bytes
  bytes_within p h = rw h

  next_within : begins? t ≡ false → to_next ns (t ∷ ts) ≡ length (own_bytes ns t) + to_next ns ts
  unfolding to_next
  next_within h = rw h

  -- its bytes stand at the front, and the others are written after them
  pub record Within (p end : ℕ) (s : List ℕ) : Type 0 where
    pub is_right : T (right_token? ns t)
    pub front : own_bytes ns t ++ drop (length (own_bytes ns t)) s ≡ s
    pub others : Written ns (p + length (own_bytes ns t)) end (drop (length (own_bytes ns t)) s) ts

  pub within : (p end : ℕ) (s : List ℕ) → begins? t ≡ false → Written ns p end s (t ∷ ts) → Within p end s
  unfolding every
  within p end s h w =
      let o : List ℕ = own_bytes ns t in
      let q : ℕ = p + length o in
      let e : o ++ token_bytes ns q ts ≡ s = sym (bytes_within p h) ∙ w.bytes in
      let d : token_bytes ns q ts ≡ drop (length o) s = sym (drop-append_seam o (token_bytes ns q ts)) ∙ ap (drop (length o)) e in
      let n = next_within h in
      record {
        is_right = and_left (right_token? ns t) _ w.right;
        front = ap (λ (z : List ℕ). o ++ z) (sym d) ∙ e;
        others = record { right = and_right (right_token? ns t) _ w.right; bytes = d; next = omega (arith, n, w.next) };
      }

  pub within_up : (p end : ℕ) (s : List ℕ) → begins? t ≡ false → Within p end s → Written ns p end s (t ∷ ts)
  unfolding every
  within_up p end s h w =
      let o : List ℕ = own_bytes ns t in
      let n = next_within h in
      record {
        right = and_both (right_token? ns t) _ w.is_right w.others.right;
        bytes = bytes_within p h ∙ ap (λ (z : List ℕ). o ++ z) w.others.bytes ∙ w.front;
        next = omega (arith, n, w.others.next);
      }

  -- ---- a token that begins a statement

  bytes_begun : (p : ℕ) → begins? t ≡ true
      → token_bytes ns p (t ∷ ts) ≡ (suc p + length (own_bytes ns t) + to_next ns ts) ∷ (own_bytes ns t ++ token_bytes ns (suc p + length (own_bytes ns t)) ts)
  unfolding token_bytes
  bytes_begun p h = rw h

  next_begun : begins? t ≡ true → to_next ns (t ∷ ts) ≡ 0
  unfolding to_next
  next_begun h = rw h

  -- its bytes stand after the offset b, and the others are written after them in a statement that ends at b
  pub record Begun (p b : ℕ) (s : List ℕ) : Type 0 where
    pub is_right : T (right_token? ns t)
    pub front : own_bytes ns t ++ drop (length (own_bytes ns t)) s ≡ s
    pub others : Written ns (suc p + length (own_bytes ns t)) b (drop (length (own_bytes ns t)) s) ts

  pub begun : (p end b : ℕ) (s : List ℕ) → begins? t ≡ true → Written ns p end (b ∷ s) (t ∷ ts) → Begun p b s
  unfolding every
  begun p end b s h w =
      let o : List ℕ = own_bytes ns t in
      let q : ℕ = suc p + length o in
      let e : (q + to_next ns ts) ∷ (o ++ token_bytes ns q ts) ≡ b ∷ s = sym (bytes_begun p h) ∙ w.bytes in
      let f : o ++ token_bytes ns q ts ≡ s = tail_is e in
      let d : token_bytes ns q ts ≡ drop (length o) s = sym (drop-append_seam o (token_bytes ns q ts)) ∙ ap (drop (length o)) f in
      record {
        is_right = and_left (right_token? ns t) _ w.right;
        front = ap (λ (z : List ℕ). o ++ z) (sym d) ∙ f;
        others = record { right = and_right (right_token? ns t) _ w.right; bytes = d; next = head_is e };
      }

  pub begun_up : (p b : ℕ) (s : List ℕ) → begins? t ≡ true → Begun p b s → Written ns p p (b ∷ s) (t ∷ ts)
  unfolding every
  begun_up p b s h w =
      let o : List ℕ = own_bytes ns t in
      let n = next_begun h in
      record {
        right = and_both (right_token? ns t) _ w.is_right w.others.right;
        bytes = bytes_begun p h ∙ ap₂ (λ (x : ℕ) (z : List ℕ). x ∷ (o ++ z)) w.others.next w.others.bytes ∙ ap (λ (z : List ℕ). b ∷ z) w.front;
        next = omega (arith, n);
      }
