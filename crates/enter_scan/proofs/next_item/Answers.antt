use Rattle.enter_scan.proofs.PlaceLaws.{next_seen}
use Rattle.enter_scan.proofs.next_item.Goals as goal

pub returns : goal.returns
returns c = next_seen c.args.first c.args.part.now c.args.at c.run_end-start.ensures.0 c.item_at.ensures
