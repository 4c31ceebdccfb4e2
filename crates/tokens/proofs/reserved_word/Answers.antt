use mathlib.Core.Path.{◌∙◌}
use Rattle.tokens.specs.Tables.{read_words}
use Rattle.tokens.proofs.First.{first_found, reserved_nowhere}
use Rattle.tokens.proofs.reserved_word.Goals as goal

pub returns-in_err-first_reserved : goal.returns-in_err-first_reserved
returns-in_err-first_reserved c = c.from_residual.ensures ∙ reserved_nowhere c.args.name.now c.byte_at.ensures c.in_err-first_reserved.ensures

pub find_reserved-requires : goal.find_reserved-requires
find_reserved-requires c = first_found read_words c.args.name.now c.byte_at.ensures c.in_ok-first_reserved.ensures
