use mathlib.Core.Path.{ap₂, ◌∙◌}
use mathlib.Core.List.{List}
use Prim.Native.Nat.{ℕ, ◌-◌}
use native.Mathlib.Numerals.{add-one}
use lib.ListN.{set}
use borrow.Author.Tests.{lt-ltb, le-ltb}
use Rattle.paper.specs.Line.{number_bytes}
use Rattle.list_write.proofs.write_number.Goals as goal

pub returns-then-number-lt-FIRST_LONG : goal.returns-then-number-lt-FIRST_LONG
unfolding number_bytes
returns-then-number-lt-FIRST_LONG c = c.put.ensures ∙ rw (lt-ltb _ 128 c.if-number-lt-FIRST_LONG.true)

pub returns-else-number-lt-FIRST_LONG : goal.returns-else-number-lt-FIRST_LONG
unfolding number_bytes
returns-else-number-lt-FIRST_LONG c = c.put-else-number-lt-FIRST_LONG-2.ensures ∙ ap₂ (λ (x : List ℕ) (i : ℕ). set x i (c.args.number - 128)) c.put-else-number-lt-FIRST_LONG.ensures (add-one c.args.at) ∙ rw (le-ltb _ 128 c.if-number-lt-FIRST_LONG.false)
