use mathlib.Core.Path.{ap, ◌∙◌}
use Rattle.std.specs.Prelude.{Some}
use Rattle.enter_scan.proofs.NameLaws.{reserved_operator, reserved_function, reserved_other}
use Rattle.paper.specs.Words.{operators, find_word}
use Rattle.enter_scan.proofs.names.reserved_or.Goals as goal

pub returns-in-Some-Operator : goal.returns-in-Some-Operator
returns-in-Some-Operator c = let arm = c.in-Some-Operator in rw arm.t-is (reserved_operator (find_word operators c.args.name.now) c.args.other c.reserved_word.ensures (arm.is ∙ ap Some arm.field-0-is))

pub returns-in-Some-Function : goal.returns-in-Some-Function
returns-in-Some-Function c = let arm = c.in-Some-Function in rw arm.t-is (reserved_function (find_word operators c.args.name.now) c.args.other c.reserved_word.ensures (arm.is ∙ ap Some arm.field-0-is))

pub returns-in-None : goal.returns-in-None
returns-in-None c = reserved_other (find_word operators c.args.name.now) c.args.other c.reserved_word.ensures c.in-None.is
