-- How many bytes an edit of the store moves (document 02, §5).
use Rattle.std.specs.Prelude.{ℕ, ◌+◌, ◌-◌, ◌≡◌, eqb}
use Rattle.std.proofs.Common.{eq-eqb, ne_eqb}
use Rattle.paper.specs.Bytes.{pick}

-- a gap of `old` bytes at a place made one of `new` bytes: all that stands after it, once; nothing when the two are equal
unfoldable pub bytes_moved : ℕ → ℕ → ℕ → ℕ → ℕ
bytes_moved at old new used = pick (eqb old new) 0 (used - (at + old))

pub moves_none : (at old new used : ℕ) → old ≡ new → bytes_moved at old new used ≡ 0
unfolding bytes_moved
moves_none at old new used e = rw (eq-eqb old new e)

pub moves_tail : (at old new used : ℕ) → (old ≡ new → ⊥) → bytes_moved at old new used ≡ used - (at + old)
unfolding bytes_moved
moves_tail at old new used e = rw (ne_eqb old new e)
