use mathlib.Core.Path.{◌≡◌, sym, ◌∙◌}
use lib.ListN.{drop}
use Rattle.paper.specs.Store.{lines_in}
use Rattle.store.proofs.Walk.{on_from_start}
use Rattle.store.proofs.Programs.{ends_well, none_follow, some_follow, program_so, program_not_so}
use Rattle.store.proofs.program_counts.Goals.{then-is_empty, else-is_empty}
use Rattle.store.proofs.program_counts.Goals as goal

pub returns-then-is_direct : goal.returns-then-is_direct
returns-then-is_direct c =
    let s = c.args.lines.now in
    let walk = c.first_not_below-walk.result in
    let value = c.if-is_empty.value in
    let ends : value ≡ ends_well (lines_in (drop walk.at s)) = elim c.if-is_empty.branch [
      | then-is_empty w ↦ none_follow s walk.at value _ w.value-is w.if-is_empty.true c.is_empty.ensures
      | else-is_empty w ↦ some_follow s walk.at value _ w.value-is w.is_direct.ensures (sym c.is_empty.ensures ∙ w.if-is_empty.false)
    ] in
    program_so s walk (on_from_start 32768 s _ walk c.default.ensures c.first_not_below-walk.ensures.0) (sym ends ∙ c.if-is_direct.true) _ c.from.ensures

pub returns-else-is_direct : goal.returns-else-is_direct
returns-else-is_direct c =
    let s = c.args.lines.now in
    let walk = c.first_not_below-walk.result in
    let value = c.if-is_empty.value in
    let ends : value ≡ ends_well (lines_in (drop walk.at s)) = elim c.if-is_empty.branch [
      | then-is_empty w ↦ none_follow s walk.at value _ w.value-is w.if-is_empty.true c.is_empty.ensures
      | else-is_empty w ↦ some_follow s walk.at value _ w.value-is w.is_direct.ensures (sym c.is_empty.ensures ∙ w.if-is_empty.false)
    ] in
    program_not_so s walk (on_from_start 32768 s _ walk c.default.ensures c.first_not_below-walk.ensures.0) (sym ends ∙ c.if-is_direct.false)
