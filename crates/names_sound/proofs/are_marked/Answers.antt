use Rattle.std.proofs.Common.{◌∷◌, arith, take, length, subst, sym, ap, ◌∙◌}
use mathlib.Core.Logic.{inl}
use Rattle.std.specs.Iterator.Adapters.{enumerate_source, enumerate_count}
use Rattle.paper.specs.Names.{names_in}
use Rattle.names_form.specs.Names.{spelling, coming}
use Rattle.names_form.specs.Places.{names_few}
use Rattle.names_sound.specs.Marks.{Marks}
use Rattle.names_sound.proofs.Soundness.{none_passed, all_wanted, none_wanted, one_unlawful, one_passed}
use Rattle.names_sound.proofs.are_marked.Goals as goal

pub loop-number-init-derived : goal.loop-number-init-derived
loop-number-init-derived c =
    let k = c.into_iter-number-iterator.ensures.into_iter_gives in
    let none = ap enumerate_count k ∙ c.enumerate-number-items.ensures.count in
    let all = ap (λ s. coming (enumerate_source s)) k ∙ ap coming c.enumerate-number-items.ensures.source ∙ c.names_in.ensures in
    ((tt, tt, inl (omega (arith, none, ap length all, names_few c.args.bytes.now, c.well_formed))), tt)

pub loop-number-init : goal.loop-number-init
loop-number-init c =
    let k = c.into_iter-number-iterator.ensures.into_iter_gives in
    none_passed _ _ _ c.told-marks (ap enumerate_count k ∙ c.enumerate-number-items.ensures.count) (ap (λ s. coming (enumerate_source s)) k ∙ ap coming c.enumerate-number-items.ensures.source ∙ c.names_in.ensures)

pub returns-then-left-eq0 : goal.returns-then-left-eq0
returns-then-left-eq0 c = none_wanted c.loop-number.invariant _ _ c.in-Some.ensures.steps.0 c.if-left-eq0.true

pub is_lawful-requires : goal.is_lawful-requires
is_lawful-requires c = subst (λ k. Marks c.loop-number.marks (take k (names_in c.args.bytes.now))) (sym c.in-Some.ensures.steps.1) c.loop-number.invariant.marked

pub returns-then-not-is_lawful : goal.returns-then-not-is_lawful
returns-then-not-is_lawful c =
    let h = c.in-Some.ensures.steps in
    let here = h.0 ∙ ap (λ n. spelling n ∷ coming (enumerate_source c.next.new.self)) (sym c.of-mixed.ensures) in
    one_unlawful c.loop-number.invariant _ _ here h.1 c.is_lawful.ensures c.if-not-is_lawful.true

pub loop-number-preserved : goal.loop-number-preserved
loop-number-preserved c =
    let h = c.in-Some.ensures.steps in
    let here = h.0 ∙ ap (λ n. spelling n ∷ coming (enumerate_source c.next.new.self)) (sym c.of-mixed.ensures) in
    one_passed c.loop-number.invariant _ _ here c.if-left-eq0.false h.1 h.2 c.place-place.ensures c.one_more.ensures c.is_lawful.ensures c.if-not-is_lawful.false

pub returns : goal.returns
returns c = all_wanted c.loop-number.invariant c.in-None.ensures.steps.0.0
