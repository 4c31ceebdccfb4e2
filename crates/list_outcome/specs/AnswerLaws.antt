-- What is answered, 10, 11 or the listing, by whether a line can be listed, and its listing.
use Rattle.std.specs.Prelude.{ℕ, ◌≤◌, ◌<◌, ◌≡◌, Bool, true, false, Ok, Err, length}
use Rattle.std.proofs.Common.{ap₂, ◌∙◌}
use mathlib.Core.List.{List}
use Rattle.std.proofs.lemmas.List.Edits.{sets}
use borrow.Author.Tests.{lt-ltb, le-ltb}
use Rattle.paper.specs.Calls.{not_listed, listed_if}
use Rattle.buffers.specs.Sets.{overwrites}
use Rattle.refusals.specs.declared.Refusal.TheVariants.{NotWellFormed, LongListing}
use Rattle.list_outcome.specs.Outcomes.{answer}

module _ (listable : Bool) (text out : List ℕ) where
  -- it cannot
  pub refused : listable ≡ false → answer (Err NotWellFormed) out ≡ listed_if listable text out
  unfolding answer listed_if not_listed
  refused e = rw e

  -- longer than the buffer
  pub too_long : listable ≡ true → length out < length text → answer (Err LongListing) out ≡ listed_if listable text out
  unfolding answer listed_if not_listed
  too_long e h = rw (e, lt-ltb (length out) (length text) h)

  -- written
  pub written : (n : ℕ) (new : List ℕ) → listable ≡ true → length text ≤ length out → n ≡ length text → new ≡ sets out 0 text → answer (Ok n) new ≡ listed_if listable text out
  unfolding answer listed_if
  written n new e h k f = rw (e, le-ltb (length out) (length text) h) (ap₂ (λ (i : ℕ) (o : List ℕ). record { number = 0; written = i; output = o }) k (f ∙ overwrites out text h))
