use Rattle.std.proofs.Common.{arith, refl}
use Rattle.grammar.proofs.Frames.{nine_put}
use Rattle.grammar.proofs.put_frames.Goals as goal

pub returns : goal.returns
returns c = nine_put c.args.frames.now c.args.at c.args.word c.args.ninth c.to_le_bytes.ensures c.copy_from_slice.ensures.after (omega arith) c.requires refl refl
