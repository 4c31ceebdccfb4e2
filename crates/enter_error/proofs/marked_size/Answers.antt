use Rattle.enter_error.specs.ErrorLaws.{size_within, size_past}
use Rattle.enter_error.proofs.marked_size.Goals as goal

pub returns-then-place-text : goal.returns-then-place-text
returns-then-place-text c = size_within c.args.place c.args.text.now c.if-place-text.true

pub returns-else-place-text : goal.returns-else-place-text
returns-else-place-text c = size_past c.args.place c.args.text.now c.requires c.if-place-text.false
