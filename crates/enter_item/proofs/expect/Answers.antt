use native.Mathlib.Omega.{arith}
use mathlib.Core.Path.{refl, sym, ap, ◌∙◌}
use Rattle.std.specs.Prelude.{List, ℕ}
use Rattle.enter_item.specs.Says.{mem}
use Rattle.enter_item.specs.ExpectLaws.{expect_hit, expect_miss}
use Rattle.enter_item.proofs.expect.Goals as goal

pub see-seen-requires : goal.see-seen-requires
see-seen-requires c = c.requires.0

pub refuse-requires : goal.refuse-requires
refuse-requires c = let sees = c.see-seen.ensures.sees in (omega (arith, sees.spans, sees.within), c.requires.1)

pub token-requires : goal.token-requires
token-requires c = c.requires.2

pub returns-then-seen-wanted : goal.returns-then-seen-wanted
returns-then-seen-wanted c = let see = c.see-seen.ensures in λ n _. rw c.refuse.ensures (expect_miss (see.next _ n) (λ e. c.if-seen-wanted.true (see.class ∙ e)) refl)

pub returns : goal.returns
returns c =
    let see = c.see-seen.ensures in
    λ n f. expect_hit (see.next _ n) (sym see.class ∙ c.if-seen-wanted.false) (ap (λ (l : List ℕ). mem l f) c.token.ensures.0) c.token.ensures.1
