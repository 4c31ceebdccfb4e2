-- The digits that are put, after those that are still to be, are the number's.
use Rattle.report_text.proofs.DigitLaws.{Left}
use Rattle.report_text.proofs.put_digits.Given as goal

abbrev pub invariant-loop-at : goal.invariant-loop-at
invariant-loop-at l = Left l.number l.at l.rest l.digits
