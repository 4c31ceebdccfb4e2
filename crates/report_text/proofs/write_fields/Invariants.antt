-- The numbers so far stand behind their tabs.
use Rattle.std.proofs.Common.{◌≡◌, ◌*◌, ◌≤◌, length, take}
use Rattle.list_text.specs.Texts.{Writes}
use Rattle.report_text.specs.Fields.{fields}
use Rattle.report_text.proofs.write_fields.Given as goal

abbrev pub invariant-loop-number : goal.invariant-loop-number
invariant-loop-number l = (l.written ≤ 21 * l.number-index) × (length l.out ≡ length l.initial.out) × Writes (fields (take l.number-index l.numbers)) l.n l.initial.out l.written l.out
