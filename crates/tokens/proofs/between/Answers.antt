use Rattle.tokens.proofs.Cuts.{cut_same}
use Rattle.tokens.proofs.between.Goals as goal

pub returns : goal.returns
returns c = let a = c.args in cut_same a.s.now a.from a.end c.min-last.ensures c.min-first.ensures
