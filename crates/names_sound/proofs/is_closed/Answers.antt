use Rattle.std.proofs.Common.{arith, ap, ◌∙◌}
use Rattle.std.specs.Prelude.{leb}
use Rattle.names_sound.proofs.Soundness.{closed_none, closed_last}
use Rattle.names_sound.proofs.is_closed.Goals as goal

pub returns-in-Some : goal.returns-in-Some
returns-in-Some c = ap (leb 128) (c.in-Some.ensures.item.3.1 0) ∙ closed_last _ c.in-Some.ensures.item.3.0

pub returns-in-None : goal.returns-in-None
returns-in-None c = closed_none _ (omega (arith, c.in-None.ensures.item.3))
