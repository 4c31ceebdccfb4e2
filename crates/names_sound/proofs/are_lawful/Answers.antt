use Rattle.names_sound.proofs.Soundness.{none_lawful}
use Rattle.names_sound.proofs.are_lawful.Goals as goal

pub returns-then-bytes-eq0 : goal.returns-then-bytes-eq0
returns-then-bytes-eq0 c = none_lawful c.args.bytes.now _ c.if-bytes-eq0.true
