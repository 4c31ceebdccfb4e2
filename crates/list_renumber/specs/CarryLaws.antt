-- A line carried down: an error line as it is, any other rewritten.
use Rattle.std.specs.Prelude.{ℕ, ◌+◌, ◌-◌, ◌≤◌, ◌≡◌, Bool, List, take, drop}
use Rattle.std.proofs.Common.{arith, ap, ◌∙◌}
use Rattle.std.proofs.Math.Path.{sym}
use Rattle.std.proofs.Math.Bool.{true, false}
use Rattle.std.proofs.Math.ListN.{length, length-drop}
use Rattle.std.proofs.lemmas.List.Edits.{sets}
use Rattle.std.proofs.Math.Seq.{length-take-le}
use Rattle.paper.specs.Errors.{error_line?}
use Rattle.paper.specs.Collect.{renumbered}
use Rattle.buffers.specs.Sets.{overwrites}
use Rattle.list_renumber.specs.Lines.{Movable, Rewritten, Portable, Carried}

module _ (numbers room : List ℕ) (from size : ℕ) (there : from + size ≤ length room) {found : Bool} (is : found ≡ error_line? (take (from + size - from) (drop from room))) where
  found_so : found ≡ error_line? (take size (drop from room))
  found_so = let z : from + size - from ≡ size = omega arith in is ∙ ap (λ (k : ℕ). error_line? (take k (drop from room))) z

  -- an error line
  pub error_carried : found ≡ true → {after : List ℕ} → after ≡ sets room 0 (take size (drop from room)) → Carried numbers (take size (drop from room)) room size after
  unfolding renumbered
  error_carried t {after} w ns new r =
      let n : length (take size (drop from room)) ≡ size = length-take-le size (drop from room) (omega (arith, length-drop from room)) in
      let e : error_line? (take size (drop from room)) ≡ true = sym found_so ∙ t in
      (rw e (sym n), rw e (w ∙ overwrites room (take size (drop from room)) (omega arith)))

  -- any other
  pub other_movable : found ≡ false → Portable numbers (take size (drop from room)) → Movable numbers (take size (drop from room))
  other_movable f p = record { names = p.names; new = p.new; moving = p.ready (sym found_so ∙ f) }

  pub other_carried : found ≡ false → {n : ℕ} {after : List ℕ} → Rewritten numbers (take size (drop from room)) room n after → Carried numbers (take size (drop from room)) room n after
  unfolding renumbered
  other_carried f {n} {after} w ns new r = let e : error_line? (take size (drop from room)) ≡ false = sym found_so ∙ f in rw e (w ns new (r e))
