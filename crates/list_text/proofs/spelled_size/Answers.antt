use Rattle.list_text.proofs.TextLaws.{fixed_size, names_size}
use Rattle.list_text.proofs.spelled_size.Goals as goal

pub returns-in-Fixed : goal.returns-in-Fixed
returns-in-Fixed c = fixed_size c.args.names.now c.args.part c.in-Fixed.is c.size_between.ensures

pub returns-in-Names : goal.returns-in-Names
returns-in-Names c = names_size c.args.names.now c.args.part c.in-Names.is c.size_between-in-Names.ensures
