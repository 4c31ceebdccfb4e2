use native.Mathlib.Omega.{arith}
use Rattle.list_renumber.specs.CarryLaws.{error_carried, other_movable, other_carried}
use Rattle.list_renumber.proofs.carry_line.Goals as goal

pub returns-then-is_error_line : goal.returns-then-is_error_line
returns-then-is_error_line c = (omega arith, error_carried c.args.numbers.now c.args.room.now c.args.from c.args.size c.requires.2 c.is_error_line.ensures c.if-is_error_line.true c.carry_down.ensures)

pub renumber_line-requires : goal.renumber_line-requires
renumber_line-requires c = (c.requires.0, c.requires.1, c.requires.2, other_movable c.args.numbers.now c.args.room.now c.args.from c.args.size c.requires.2 c.is_error_line.ensures c.if-is_error_line.false c.requires.3)

pub returns : goal.returns
returns c = (c.renumber_line.ensures.0, other_carried c.args.numbers.now c.args.room.now c.args.from c.args.size c.requires.2 c.is_error_line.ensures c.if-is_error_line.false c.renumber_line.ensures.1)
