-- One answer for an even power of ten, and one for an odd one.
use borrow.Author.Tests.{eq-eqb, ne_eqb}
use Rattle.constant_bytes.specs.Numerals.{six_from}
use Rattle.constant_bytes.proofs.digits.Digits.six_from.Goals as goal

pub returns-then-place-eq0 : goal.returns-then-place-eq0
unfolding six_from
returns-then-place-eq0 c = rw (eq-eqb _ _ c.if-place-eq0.true, ← c.at.ensures.0) c.bytes_with.ensures

pub returns-else-place-eq0 : goal.returns-else-place-eq0
unfolding six_from
returns-else-place-eq0 c = rw (ne_eqb _ _ c.if-place-eq0.false, ← c.pair_at.ensures.0) c.bytes_with-else-place-eq0.ensures
