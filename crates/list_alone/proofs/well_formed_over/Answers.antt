use native.Mathlib.Omega.{arith}
use mathlib.Core.Path.{sym, ◌∙◌}
use lib.ListN.{length-set}
use lib.Seq.{get_or-set_same}
use Rattle.paper.specs.Line.{lawful_number?}
use Rattle.list_alone.specs.FitLaws.{head_right, head_wrong}
use Rattle.list_alone.proofs.well_formed_over.Goals as goal

pub returns-then-not-is_right : goal.returns-then-not-is_right
returns-then-not-is_right c = λ ns nd ks. sym (head_wrong lawful_number? c.args.line.now ns _ c.is_right.ensures (c.if-not-is_right.true))

pub is_formed-requires : goal.is_formed-requires
is_formed-requires c = (head_right lawful_number? c.args.line.now _ c.is_right.ensures (c.if-not-is_right.false), c.requires.0, simp length-set (omega (arith, c.requires.1)), get_or-set_same c.args.frames.now 0 0 0 (omega (arith, c.requires.1)))

pub shape_of-frames : goal.shape_of-frames
shape_of-frames c = c.is_formed.auto.frames ∙ simp length-set
