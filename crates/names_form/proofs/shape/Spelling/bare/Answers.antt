use Rattle.std.proofs.Common.{arith, length}
use Rattle.names_form.proofs.Shapes.{array_written, other_written, bare_long, bare_other}
use Rattle.std.proofs.Common.{length-append, ap, ◌∷◌, []}
use Rattle.names_form.proofs.shape.Spelling.bare.Goals as goal

pub returns-then-size-gt-LONGEST_WORD : goal.returns-then-size-gt-LONGEST_WORD
returns-then-size-gt-LONGEST_WORD c = omega (arith, bare_long c.args.self.front.now c.args.self.last)

pub returns-then-self-eq40 : goal.returns-then-self-eq40
returns-then-self-eq40 c = array_written _ _ _ c.copy.ensures (omega arith) c.if-self-eq40.true

pub returns-then-size-eq-LONGEST_WORD : goal.returns-then-size-eq-LONGEST_WORD
returns-then-size-eq-LONGEST_WORD c =
    omega (arith, ap length (bare_other c.args.self.front.now c.args.self.last c.if-self-eq40.false), length-append c.args.self.front.now (c.args.self.last ∷ []))

pub returns : goal.returns
returns c = other_written _ _ _ c.copy.ensures (omega arith) c.if-self-eq40.false
