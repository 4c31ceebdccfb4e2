use Rattle.tokens.specs.Parts.{source_of, bytes_at}
use Rattle.tokens.proofs.spelling.Goals as goal

pub returns-in-Fixed : goal.returns-in-Fixed
unfolding bytes_at source_of
returns-in-Fixed c = rw c.in-Fixed.is c.between.ensures

pub returns-in-Names : goal.returns-in-Names
unfolding bytes_at source_of
returns-in-Names c = rw c.in-Names.is c.between-in-Names.ensures
