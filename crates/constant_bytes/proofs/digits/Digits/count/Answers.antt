use mathlib.Core.Path.{sym}
use Rattle.constant_bytes.proofs.Places.{count}
use Rattle.constant_bytes.proofs.digits.Digits.count.Goals as goal

pub returns : goal.returns
returns c = let d = c.args.self in sym (count d.text.now d.numeral d.written)
