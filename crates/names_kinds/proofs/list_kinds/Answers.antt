use Rattle.std.proofs.Common.{arith, length, ap, ◌∙◌}
use mathlib.Core.Logic.{inl}
use Rattle.std.specs.Iterator.Adapters.{enumerate_source, enumerate_count}
use Rattle.names_form.specs.Names.{coming}
use Rattle.names_form.specs.Places.{names_few}
use Rattle.names_kinds.proofs.Listing.{kind_more, kind_end}
use Rattle.names_kinds.proofs.list_kinds.Goals as goal

pub loop-number-init-derived : goal.loop-number-init-derived
loop-number-init-derived c =
    let k = c.into_iter-number-iterator.ensures.into_iter_gives in
    let none = ap enumerate_count k ∙ c.enumerate-number-items.ensures.count in
    let all = ap (λ s. length (coming (enumerate_source s))) k ∙ ap (λ s. length (coming s)) c.enumerate-number-items.ensures.source ∙ ap length c.names_in.ensures in
    ((tt, tt, inl (omega (arith, none, all, names_few c.args.names.now, c.well_formed))), tt)

pub loop-number-preserved : goal.loop-number-preserved
loop-number-preserved c = let h = c.in-Some.ensures.steps in (c.put.auto.out ∙ c.loop-number.invariant.0, kind_more _ _ _ _ c.loop-number.invariant.1 h.0 h.1 h.2 c.kind_of.ensures c.put.ensures)

pub returns : goal.returns
returns c = kind_end _ _ c.loop-number.invariant.1 c.in-None.ensures.steps.0.0
