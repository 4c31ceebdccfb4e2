use Rattle.store_gap.specs.MoveLaws.{gap_closed}
use Rattle.store_gap.proofs.carry_down.Goals as goal

pub returns : goal.returns
returns c = gap_closed c.args.s.now _ c.args.to c.args.from c.args.n _ c.requires.0 c.requires.1 c.resize.ensures
