use Prim.Native.Nat.{ℕ}
use native.Mathlib.Omega.{arith}
use mathlib.Core.Path.{refl}
use lib.ListN.{take, length-replicate}
use Rattle.paper.specs.Names.{names_in}
use Rattle.list_head.specs.Heads.{lawful_for}
use Rattle.list_alone.specs.FitLaws.{head_right, head_wrong}
use Rattle.list_line.proofs.PassLaws.{not_measured}
use Rattle.list_line.proofs.first.measure_line.Goals as goal

pub returns-then-not-is_right : goal.returns-then-not-is_right
returns-then-not-is_right c = not_measured c.args.direct (names_in (take c.args.size c.args.names.now)) c.args.line.now c.args.room (head_wrong (lawful_for c.args.direct) c.args.line.now (names_in (take c.args.size c.args.names.now)) _ c.is_right.ensures (c.if-not-is_right.true))

pub measure_body-requires : goal.measure_body-requires
measure_body-requires c = (head_right (lawful_for c.args.direct) c.args.line.now _ c.is_right.ensures (c.if-not-is_right.false), c.requires.0, c.requires.1, omega (arith, length-replicate {A = ℕ} 2056 0), refl)
