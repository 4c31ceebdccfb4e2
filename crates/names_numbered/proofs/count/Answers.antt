use Rattle.std.proofs.Common.{arith, length, ap}
use mathlib.Core.Logic.{inl}
use Rattle.names_form.specs.Places.{names_few}
use Rattle.names_numbered.proofs.count.Goals as goal

pub count-requires-clause-fits : goal.count-requires-clause-fits
count-requires-clause-fits c = inl (omega (arith, ap length c.names_in.ensures, names_few c.args.bytes.now, c.well_formed))
