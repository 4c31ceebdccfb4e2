use mathlib.Core.Path.{sym, ◌∙◌}
use native.Mathlib.Numerals.{add-one}
use native.Mathlib.Omega.{arith}
use borrow.Author.Tests.{eq-eqb, ne_eqb}
use lib.ListN.{get_or}
use Rattle.enter_scan.specs.Kinds.{raw_start}
use Rattle.enter_scan.proofs.Sound.{in_text}
use Rattle.paper.specs.Bytes.{blank?}
use Rattle.enter_scan.proofs.past_blank.Goals as goal

pub overflow_add-result : goal.overflow_add-result
unfolding raw_start blank?
overflow_add-result c = omega (arith, in_text c.args.part.now c.args.at (omega (arith, c.byte_at.ensures, c.if-byte_at-eq32.true)))

pub returns-then-byte_at-eq32 : goal.returns-then-byte_at-eq32
unfolding raw_start blank?
returns-then-byte_at-eq32 c = rw (eq-eqb (get_or c.args.part.now c.args.at 0) 32 (sym c.byte_at.ensures ∙ c.if-byte_at-eq32.true)) (add-one c.args.at)

pub returns-else-byte_at-eq32 : goal.returns-else-byte_at-eq32
unfolding raw_start blank?
returns-else-byte_at-eq32 c = rw (ne_eqb (get_or c.args.part.now c.args.at 0) 32 (λ z. c.if-byte_at-eq32.false (c.byte_at.ensures ∙ z)))
