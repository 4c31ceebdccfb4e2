use Prim.Native.Nat.{ℕ}
use mathlib.Core.Path.{◌≡◌, sym, subst}
use mathlib.Core.Bool.{true}
use mathlib.Core.List.{List}
use Rattle.laws.specs.Names.{plain_name}
use Rattle.enter_item.specs.LeafLaws.{name_facts, name_part}
use Rattle.enter_item.proofs.name_number.Goals as goal

pub number_of-requires : goal.number_of-requires
number_of-requires c = (c.requires.1, subst (λ (l : List ℕ). plain_name l ≡ true) (sym (name_part c.args.text.part.now c.args.it c.name_length.ensures c.is_array.ensures)) (name_facts c.requires.0).plain)
