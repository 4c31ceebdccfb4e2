-- `read_file` is safe and ends: the room that is left in the buffer falls.
use Rattle.std.proofs.Common.{◌≡◌, ◌-◌, ◌≤◌, length}
use Rattle.report.proofs.read_file.Given as goal

abbrev pub invariant-loop-size : goal.invariant-loop-size
invariant-loop-size g l = (l.size ≤ length l.file) × (length l.file ≡ length l.initial.file)

abbrev pub decreases-loop-size : goal.decreases-loop-size
decreases-loop-size g l = length l.file - l.size
