-- A name more: the sums with its columns are no more than a file has for each.
use Rattle.std.proofs.Common.{ℕ, ◌≡◌, ◌+◌, ◌*◌, subst, arith}
use Rattle.file_weigh.specs.Answers.{Sized}
use Rattle.file_weigh.specs.Sizes.{sized_added}
use Rattle.report.proofs.report_all.Goals as goal

pub loop-count-preserved : goal.loop-count-preserved
loop-count-preserved g c =
    let e : 65535 * c.loop-count.count + 65535 ≡ 65535 * (c.loop-count.count + 1) = omega arith in
    subst (λ (k : ℕ). Sized k c.added-total.result) e (sized_added (65535 * c.loop-count.count) 65535 c.loop-count.total c.report_file.result c.added-total.result c.added-total.ensures c.loop-count.invariant c.report_file.ensures)
