-- How far it is to the next statement: what holds before each piece while that is counted.
use Rattle.std.specs.Prelude.{ℕ, ◌+◌, ◌≤◌, ◌<◌, ◌≡◌, List, length, drop}
use Rattle.std.proofs.Common.{arith, subst, sym, ◌∙◌}
use Rattle.std.proofs.Math.Path.{ap}
use Rattle.paper.specs.Line.{to_next}
use Rattle.list_pieces.specs.declared.Piece.{Piece}
use Rattle.list_pieces.specs.Pieces.{piece_at, size_of, end_after}
use Rattle.list_measure.specs.Numbers.{new_size, Passing}
use Rattle.list_mark.specs.Walks.{tokens_at, none_past}
use Rattle.list_measure.proofs.SizeLaws.{next_begins}
use Rattle.list_measure.proofs.PassingLaws.{passing_next, passing_far, passing_within}

-- before the piece at a place: so many bytes are counted, and so many are left
pub record Counting (ns new : List (List ℕ)) (numbers l : List ℕ) (from end at n : ℕ) : Type 0 where
  pub passing : Passing ns new numbers at end (drop at l)
  pub count : n + to_next new (tokens_at ns l at end) ≡ to_next new (tokens_at ns l from end)

pub counting_first : {ns new : List (List ℕ)} {numbers : List ℕ} {from end : ℕ} (l : List ℕ) → Passing ns new numbers from end (drop from l) → Counting ns new numbers l from end from 0
counting_first l k = record { passing = k; count = omega arith }

module _ {ns new : List (List ℕ)} {numbers l : List ℕ} {from end at n : ℕ} (k : Counting ns new numbers l from end at n) where
  pub counting_next : {c : Piece} → at < length l → piece_at at end (drop at l) ≡ c → (at ≡ end → ⊥) → {more to : ℕ} → more ≡ new_size numbers c → to ≡ at + size_of c → Counting ns new numbers l from end to (n + more)
  counting_next {c} h e f {more} {to} m g =
      let s : end_after end (drop at l) c ≡ end = passing_within l k.passing c h e f in
      let p : Passing ns new numbers (at + size_of c) end (drop (at + size_of c) l) = subst (λ (z : ℕ). Passing ns new numbers (at + size_of c) z (drop (at + size_of c) l)) s (passing_next l k.passing c h e) in
      let t : to_next new (tokens_at ns l at end) ≡ new_size numbers c + to_next new (tokens_at ns l (at + size_of c) end) = passing_far l k.passing c h e f ∙ ap (λ (z : ℕ). new_size numbers c + to_next new (tokens_at ns l (at + size_of c) z)) s in
      let next : Counting ns new numbers l from end (at + size_of c) (n + more) = record { passing = p; count = omega (arith, k.count, t, m) } in
      subst (λ (z : ℕ). Counting ns new numbers l from end z (n + more)) (sym g) next

  -- the statement ends there still
  pub counting_so : {c : Piece} → at < length l → piece_at at end (drop at l) ≡ c → (at ≡ end → ⊥) → end_after end (drop at l) c ≡ end
  counting_so {c} h e f = passing_within l k.passing c h e f

  -- the next statement begins here
  pub counting_begins : at ≡ end → n ≡ to_next new (tokens_at ns l from end)
  counting_begins e = omega (arith, k.count, next_begins ns new at end (drop at l) e)

  -- the line ends here
  pub counting_ends : length l ≤ at → n ≡ to_next new (tokens_at ns l from end)
  unfolding to_next
  counting_ends h = let z : to_next new (tokens_at ns l at end) ≡ 0 = ap (to_next new) (none_past ns l at end h) in omega (arith, k.count, z)
