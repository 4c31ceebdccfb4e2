use Rattle.std.proofs.Common.{arith, length, ap, ◌+◌, ◌∙◌}
use Rattle.names_numbered.proofs.Values.{value_more, value_end}
use Rattle.names_numbered.proofs.put_values.Goals as goal

pub loop-i-preserved : goal.loop-i-preserved
loop-i-preserved c =
    let h = c.in-Some.ensures.steps in
    let l = c.loop-i.invariant in
    (c.put_value.auto.values ∙ l.0, omega (arith, l.1, ap length h.0, h.2), value_more _ _ _ _ l.2 h.0 (ap (λ k. c.args.count + k) h.1) (omega (arith, h.2)) c.put_value.ensures)

pub returns : goal.returns
returns c = value_end _ _ c.loop-i.invariant.2 c.in-None.ensures.steps.0.0
