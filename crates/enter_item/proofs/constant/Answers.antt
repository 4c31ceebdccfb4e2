use mathlib.Core.Path.{refl}
use Rattle.enter_item.specs.LeafLaws.{counts_inside, counts_outside, number_written, six_part}
use Rattle.enter_item.proofs.constant.Goals as goal

pub six_bytes-requires : goal.six_bytes-requires
six_bytes-requires c = number_written c.requires.1.1.0 c.requires.1.1.1 c.numeral_of.ensures

pub returns-in_default : goal.returns-in_default
returns-in_default c = λ b v h. rw c.refuse.ensures (counts_outside b _ v h (six_part c.args.text.part.now c.args.it c.numeral_of.ensures c.six_bytes.ensures) c.in_default.is refl)

pub returns : goal.returns
returns c = λ b v h. counts_inside b c.requires.0 v h (six_part c.args.text.part.now c.args.it c.numeral_of.ensures c.six_bytes.ensures) c.in-Some.is c.put.ensures c.copy.ensures
