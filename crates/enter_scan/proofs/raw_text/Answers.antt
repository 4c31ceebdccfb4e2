use Rattle.enter_scan.proofs.PlaceLaws.{raw_code}
use Rattle.enter_scan.proofs.raw_text.Goals as goal

pub returns : goal.returns
returns c = raw_code c.args.part.now c.args.at c.past_blank-from.ensures c.run_end.ensures.0
