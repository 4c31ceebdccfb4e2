use mathlib.Core.Path.{sym, ◌∙◌}
use Rattle.tokens.specs.Same.{pointwise_same}
use Rattle.tokens.proofs.tables.is_word.Goals as goal

pub returns-then-not-is_empty : goal.returns-then-not-is_empty
returns-then-not-is_empty c = c.eq.ensures ∙ pointwise_same c.args.word.now c.args.name.now ∙ sym (rw (sym c.if-not-is_empty.ensures))
