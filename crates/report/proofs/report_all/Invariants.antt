-- Each name adds no more than a file has.
use Rattle.std.proofs.Common.{◌*◌}
use Rattle.file_weigh.specs.Answers.{Sized}
use Rattle.report.proofs.report_all.Given as goal

abbrev pub invariant-loop-count : goal.invariant-loop-count
invariant-loop-count g l = Sized (65535 * l.count) l.total
