use Rattle.std.proofs.Common.{arith}
use Rattle.names_sound.proofs.Marking.{mix_small}
use Rattle.names_sound.proofs.mark.Mixed.sign.Goals as goal

pub overflow_cast-result : goal.overflow_cast-result
overflow_cast-result c = omega (arith, mix_small _ c.args.self.own)
