use mathlib.Core.Path.{sym, ◌∙◌}
use native.Mathlib.Numerals.{add-one}
use native.Mathlib.Omega.{arith}
use borrow.Author.Tests.{eq-eqb, ne_eqb}
use lib.ListN.{get_or}
use Rattle.enter_scan.proofs.Sound.{in_text}
use Rattle.enter_scan.proofs.names.past_dollar.Goals as goal

pub overflow_add-result : goal.overflow_add-result
overflow_add-result c = omega (arith, in_text c.args.part.now c.args.at (omega (arith, c.byte_at.ensures, c.if-byte_at-eq36.true)))

pub returns-then-byte_at-eq36 : goal.returns-then-byte_at-eq36
returns-then-byte_at-eq36 c = rw (eq-eqb (get_or c.args.part.now c.args.at 0) 36 (sym c.byte_at.ensures ∙ c.if-byte_at-eq36.true)) (add-one c.args.at)

pub returns-else-byte_at-eq36 : goal.returns-else-byte_at-eq36
returns-else-byte_at-eq36 c = rw (ne_eqb (get_or c.args.part.now c.args.at 0) 36 (λ z. c.if-byte_at-eq36.false (c.byte_at.ensures ∙ z)))
