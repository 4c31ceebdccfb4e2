-- Texts written one after the other.
use Rattle.std.specs.Prelude.{ℕ, ◌+◌, ◌≡◌, refl, List, [], ◌∷◌, ◌++◌, length, set}
use Rattle.std.proofs.Common.{sym, ap, ap₂, ◌∙◌, length-append}
use Rattle.std.proofs.lemmas.List.Edits.{sets}
use Rattle.buffers.specs.Sets.{sets_append}
use Rattle.list_text.specs.Texts.{Writes}

module _ {a : List ℕ} {n : ℕ} {old : List ℕ} {r : ℕ} {mid : List ℕ} (w : Writes a n old r mid) where
  pub then : (b : List ℕ) {new : List ℕ} {k : ℕ} → new ≡ sets mid (n + r) b → k ≡ r + length b → Writes (a ++ b) n old k new
  then b e f = record {
    size = f ∙ ap (λ (z : ℕ). z + length b) w.size ∙ sym (length-append a b);
    bytes = e ∙ ap₂ (λ (m : List ℕ) (z : ℕ). sets m (n + z) b) w.bytes w.size ∙ sym (sets_append old n a b);
  }

  pub as_text : {b : List ℕ} → a ≡ b → Writes b n old r mid
  as_text e = record { size = w.size ∙ ap length e; bytes = w.bytes ∙ ap (sets old n) e }

pub one_text : {b n : ℕ} {old new : List ℕ} → new ≡ set old n b → Writes (b ∷ []) n old 1 new
one_text e = record { size = refl; bytes = e }

pub writes_then : {a b : List ℕ} {n r s k : ℕ} {old mid new : List ℕ} → Writes a n old r mid → Writes b (n + r) mid s new → k ≡ r + s → Writes (a ++ b) n old k new
writes_then {a} {b} {n} {r} w v e = then w b v.bytes (e ∙ ap (λ (z : ℕ). r + z) v.size)
