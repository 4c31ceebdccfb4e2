use native.Mathlib.Omega.{arith}
use Rattle.constant_bytes.specs.Numerals.{pair_at}
use Rattle.constant_bytes.proofs.digits.Digits.pair_at.Goals as goal

pub returns : goal.returns
unfolding pair_at
returns c = (omega arith, omega arith)
