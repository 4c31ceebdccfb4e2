-- With and without a power of ten.
use native.Mathlib.Omega.{arith}
use Rattle.constant_text.specs.Texts.{power_size, size_of}
use Rattle.constant_text.proofs.texts.size.Goals as goal

pub returns-in-Some : goal.returns-in-Some
unfolding size_of power_size
returns-in-Some c = rw (c.in-Some.is, ← c.part_size.ensures.0, ← c.part_size-2.ensures.0)

pub returns-in-None : goal.returns-in-None
unfolding size_of power_size
returns-in-None c = rw (c.in-None.is, ← c.part_size.ensures.0, ← c.part_size-2.ensures.0) (omega arith)
