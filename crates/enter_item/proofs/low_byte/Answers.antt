use mathlib.Core.Path.{refl}
use Rattle.enter_item.specs.Draft.{low}
use Rattle.enter_item.proofs.low_byte.Goals as goal

pub returns : goal.returns
unfolding low
returns c = refl
