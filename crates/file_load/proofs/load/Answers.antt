use mathlib.Core.Path.{sym, ◌∙◌}
use Rattle.std.proofs.lemmas.Result.{err_from_is_err_and}
use Rattle.file_load.specs.Lies.{lies}
use Rattle.file_load.proofs.PlaceLaws.{loads_held, loads_refused}
use Rattle.file_load.proofs.load.Goals as goal

pub returns-in_err-held : goal.returns-in_err-held
returns-in_err-held c =
    let p = err_from_is_err_and c.from_residual.result c.from_residual.ensures.1 in
    λ e. rw (p.1, p.2) (loads_refused c.args.file.now c.args.names.now c.args.values.now c.args.store.now e _ (sym c.«open».ensures ∙ c.in_err-held.was))

pub returns : goal.returns
returns c =
    λ e. loads_held c.args.file.now c.args.names.now c.args.values.now c.args.store.now e _ (lies c.args.file.now _ (sym c.«open».ensures ∙ c.in_ok-held.was)) (sym c.«open».ensures ∙ c.in_ok-held.was) _ (c.place.ensures e)
