use Rattle.std.proofs.Common.{refl, arith, sym, ◌∙◌}
use Rattle.grammar.specs.Joining.{more_row, more_else}
use Rattle.grammar.proofs.StackLaws.{down_over}
use Rattle.grammar.proofs.Common.{joined_steps, left_steps}
use Rattle.grammar.proofs.take_next.Goals as goal

pub returns-then-depth-eq0 : goal.returns-then-depth-eq0
returns-then-depth-eq0 c = let a = c.args in down_over a.frames.now a.depth a.class a.depth (omega arith) refl

pub returns-then-joins_terms : goal.returns-then-joins_terms
returns-then-joins_terms c = let a = c.args in joined_steps a.frames.now a.depth a.class _ (omega arith) (omega (arith, c.requires.0)) c.if-frames-top-ne-MORE_TERMS.false (more_row a.class (sym c.joins_terms.ensures ∙ c.if-joins_terms.true))

pub returns : goal.returns
returns c = let a = c.args in left_steps a.frames.now a.depth a.class _ (omega arith) c.if-frames-top-ne-MORE_TERMS.false (more_else a.class (sym c.joins_terms.ensures ∙ c.if-joins_terms.false)) c.take_last-2.ensures
