use Rattle.std.proofs.Common.{length, ap, sym, ◌∙◌}
use Rattle.names_form.proofs.Shapes.{bare_array, bare_other}
use Rattle.names_form.proofs.shape.Spelling.bare_size.Goals as goal

pub returns-in-40 : goal.returns-in-40
returns-in-40 c = ap length (sym (bare_array _ _ c.in-40.is))

pub returns-in_default : goal.returns-in_default
returns-in_default c = c.size.ensures ∙ ap length (sym (bare_other _ _ c.in_default.in_default-own.rest.1))
