-- A walk over the lines of a text gives the first of those that it has still to give.
use Prim.Native.Nat.{◌≤◌, ◌<◌}
use native.Mathlib.Omega.{arith}
use mathlib.Core.Path.{ap}
use lib.ListN.{length}
use Rattle.std.proofs.Common.{rules}
use Rattle.editor_batch.proofs.TurnLaws.{no_line, within, lines_so}
use Rattle.editor_batch.proofs.TextLinesIterator.next.Goals as goal

pub split_at-requires : goal.split_at-requires
split_at-requires c = within c.args.self.now.rest.now _ c.run_end.ensures.0

pub returns-then-is_empty-clause-steps : goal.returns-then-is_empty-clause-steps
returns-then-is_empty-clause-steps c =
    let none : length c.args.self.now.rest.now ≤ 0 = grind arith in
    (no_line c.args.self.now.rest.now none, no_line c.args.self.now.rest.now none)

pub returns-clause-steps : goal.returns-clause-steps
returns-clause-steps c =
    let some : 0 < length c.args.self.now.rest.now = grind arith in
    lines_so c.args.self.now.rest.now _ c.run_end.ensures.0 some _ _ _ c.split_at.ensures.front c.split_at.ensures.back c.past_end-self.ensures

pub returns-clause-goes : goal.returns-clause-goes
returns-clause-goes c =
    let some : 0 < length c.args.self.now.rest.now = grind arith in
    let e = lines_so c.args.self.now.rest.now _ c.run_end.ensures.0 some _ _ _ c.split_at.ensures.front c.split_at.ensures.back c.past_end-self.ensures in
    record { on = λ f. (search rules, search rules, omega (arith, ap length e)); keeps = search rules; rests = search rules }
