use Rattle.constant_text.specs.Texts.{six_here}
use Rattle.constant_text.proofs.Sixes.{six_past}
use Rattle.constant_text.proofs.six_at.Goals as goal

pub returns-then-s-at : goal.returns-then-s-at
returns-then-s-at c = six_past c.args.s.now c.args.at c.if-s-at.true

pub returns : goal.returns
unfolding six_here
returns c = cc
