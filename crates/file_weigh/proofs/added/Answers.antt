use Prim.Native.Nat.{◌+◌}
use mathlib.Core.Path.{ap}
use Rattle.paper.specs.Weigh.{added_up}
use Rattle.list_weigh.specs.declared.Weight.{Weight}
use Rattle.list_weigh.specs.Weights.{plus}
use Rattle.file_weigh.specs.declared.Columns.{Columns}
use Rattle.file_weigh.specs.Answers.{columns}
use Rattle.file_weigh.proofs.added.Goals as goal

pub returns : goal.returns
unfolding added_up plus
returns c = let a = c.args.a in let b = c.args.b in ap (λ (w : Weight). (let x : Columns = record { lines = a.lines + b.lines; names = a.names + b.names; used = a.used + b.used; weight = w } in columns x)) c.added.ensures
