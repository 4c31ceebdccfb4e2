-- `write_exponent` meets its contract: four bytes, one after the other.
use Rattle.constant_text.proofs.TextWrites.{wrote_four}
use Rattle.constant_text.proofs.texts.write_exponent.Goals as goal

pub returns : goal.returns
returns c = let a = c.args in wrote_four a.out.now c.put.new.out c.put-2.new.out c.put-3.new.out c.put-4.new.out a.n 69 a.sign _ _ c.put.ensures c.put-2.ensures c.put-3.ensures c.put-4.ensures
