use Rattle.list_line.proofs.PassLaws.{over_room, past_room, in_room}
use Rattle.list_line.proofs.first.longer.Goals as goal

pub returns-then-room-total : goal.returns-then-room-total
returns-then-room-total c = over_room c.args.room c.args.total c.args.more c.requires.1 c.if-room-total.true

pub returns-then-room-total-2 : goal.returns-then-room-total-2
returns-then-room-total-2 c = past_room c.args.room c.args.total c.args.more c.if-room-total.false c.if-room-total-2.true

pub returns-else-room-total-2 : goal.returns-else-room-total-2
returns-else-room-total-2 c = in_room c.args.room c.args.total c.args.more c.if-room-total.false c.if-room-total-2.false
