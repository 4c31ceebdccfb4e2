use mathlib.Core.Path.{sym}
use borrow.Author.Tests.{eq-eqb, ne_eqb}
use Rattle.enter_scan.specs.Kinds.{variable_kind}
use Rattle.enter_scan.proofs.names.variable.Goals as goal

pub returns-then-last-eq36 : goal.returns-then-last-eq36
unfolding variable_kind
returns-then-last-eq36 c = sym (rw (eq-eqb c.args.last 36 c.if-last-eq36.true))

pub returns-then-next-eq40 : goal.returns-then-next-eq40
unfolding variable_kind
returns-then-next-eq40 c = sym (rw (ne_eqb c.args.last 36 c.if-last-eq36.false, eq-eqb c.args.next 40 c.if-next-eq40.true))

pub returns-else-next-eq40 : goal.returns-else-next-eq40
unfolding variable_kind
returns-else-next-eq40 c = sym (rw (ne_eqb c.args.last 36 c.if-last-eq36.false, ne_eqb c.args.next 40 c.if-next-eq40.false))
