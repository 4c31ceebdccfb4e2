use Rattle.std.proofs.Common.{arith, take, length-take-le}
use Rattle.paper.specs.Names.{names_in}
use Rattle.laws.specs.Names.{number_most}
use Rattle.names_form.specs.Places.{names_few}
use Rattle.names_form.specs.Names.{spelling}
use Rattle.names_numbered.proofs.Numbers.{in_fresh, in_table, new_name}
use Rattle.names_numbered.proofs.look_up.Goals as goal

pub returns-in-Ok : goal.returns-in-Ok
returns-in-Ok c = in_table _ _ _ _ _ c.in-Ok.ensures

pub overflow_add-result : goal.overflow_add-result
overflow_add-result c = omega (arith, c.in-Err.ensures.0, names_few c.args.names.now, c.in-Ok-find.ensures.0, number_most (names_in (take c.args.f c.args.fresh.now)) (spelling c.args.name), names_few (take c.args.f c.args.fresh.now), length-take-le c.args.f c.args.fresh.now c.requires.0, c.well_formed)

pub returns-in-Ok-find : goal.returns-in-Ok-find
returns-in-Ok-find c = in_fresh _ _ _ _ c.in-Err.ensures _ _ c.in-Ok-find.ensures

pub overflow_add-result-2 : goal.overflow_add-result-2
overflow_add-result-2 c = omega (arith, c.in-Err.ensures.0, names_few c.args.names.now, c.in-Err-find.ensures.0, names_few (take c.args.f c.args.fresh.now), length-take-le c.args.f c.args.fresh.now c.requires.0, c.well_formed)

pub returns : goal.returns
returns c = new_name _ _ _ _ _ _ c.in-Err.ensures c.in-Err-find.ensures c.copy.ensures c.put.ensures
