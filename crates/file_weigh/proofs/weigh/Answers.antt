use mathlib.Core.Path.{sym, ◌∙◌}
use Rattle.std.proofs.lemmas.Result.{err_from_is_err_and}
use Rattle.file_weigh.proofs.FileLaws.{too_long, not_opened}
use Rattle.file_weigh.proofs.weigh.Goals as goal

pub returns-then-file-gt-MOST : goal.returns-then-file-gt-MOST
returns-then-file-gt-MOST c = too_long c.args.file.now c.if-file-gt-MOST.true

pub returns-in_err-held : goal.returns-in_err-held
returns-in_err-held c =
    let p = err_from_is_err_and c.from_residual.result c.from_residual.ensures.1 in
    rw (p.1, p.2) (not_opened c.args.file.now c.if-file-gt-MOST.false _ (sym c.«open».ensures ∙ c.in_err-held.was))

pub returns : goal.returns
returns c = c.weigh_held.ensures
