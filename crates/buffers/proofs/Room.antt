-- What is written when the bytes that fit are.
use Prim.Native.Nat.{ℕ, ◌+◌, ◌-◌, ◌≤◌, min}
use native.Mathlib.Omega.{arith}
use mathlib.Core.Path.{◌≡◌, refl, sym, ap, ◌∙◌}
use mathlib.Core.List.{List, ◌++◌, append_assoc}
use lib.ListN.{length, take, drop}
use borrow.Rule.Slice.PartMut.{put_mid}
use Rattle.std.proofs.lemmas.Slice.{put_mid-paste}
use Rattle.std.proofs.lemmas.List.Edits.{sets, sets-eq, paste_all}
use Rattle.buffers.specs.Sets.{sets_cut}

-- bytes put over those from a place on, where they are there
pub put_over : (out ys : List ℕ) (a k : ℕ) → k ≡ length ys → a + k ≤ length out → put_mid a k out ys ≡ sets out a ys
put_over out ys a k e h =
    let whole : sets out a ys ≡ take a out ++ (ys ++ drop (a + length ys) out) = sets-eq ys out a (omega arith) ∙ append_assoc (take a out) ys (drop (a + length ys) out) in
    put_mid-paste a k out ys ys k refl refl e ∙ paste_all out a ys k e ∙ ap (λ (n : ℕ). take a out ++ (ys ++ drop (a + n) out)) e ∙ sym whole

-- once those that fit are written, all are
pub copied : {new : List ℕ} {n : ℕ} (out : List ℕ) (at i : ℕ) (src : List ℕ) → n ≡ min (length src) (length out - at) → i ≤ n → n ≤ i → new ≡ sets out at (take i src) → new ≡ sets out at src
copied out at i src f a b e = e ∙ sets_cut out at i src (λ h. omega arith)
