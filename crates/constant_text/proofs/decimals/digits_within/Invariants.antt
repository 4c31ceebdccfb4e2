-- The test of all bytes is what was found so far, and that of those from here on.
use mathlib.Core.Path.{◌≡◌}
use mathlib.Core.Bool.{◌&&◌}
use lib.ListN.{drop}
use Rattle.paper.specs.Bytes.{every}
use Rattle.constant_text.specs.Texts.{digits_most}
use Rattle.constant_text.proofs.decimals.digits_within.Given as goal

abbrev pub invariant-loop-b : goal.invariant-loop-b
invariant-loop-b l = every (digits_most l.most) l.bytes ≡ (l.good && every (digits_most l.most) (drop l.b-index l.bytes))
