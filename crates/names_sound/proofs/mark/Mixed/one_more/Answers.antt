use mathlib.Core.Path.{sym, ◌∙◌}
use borrow.Author.Tests.{eq-eqb, ne_eqb}
use Rattle.names_sound.specs.Marks.{one_more}
use Rattle.names_sound.proofs.mark.Mixed.one_more.Goals as goal

pub returns-then-mark-eq0 : goal.returns-then-mark-eq0
unfolding one_more
returns-then-mark-eq0 c = c.sign.ensures ∙ sym (rw (eq-eqb c.args.mark 0 c.if-mark-eq0.true))

pub returns-else-mark-eq0 : goal.returns-else-mark-eq0
unfolding one_more
returns-else-mark-eq0 c = sym (rw (ne_eqb c.args.mark 0 c.if-mark-eq0.false))
