use mathlib.Core.Path.{sym, ap, ◌∙◌}
use Rattle.list_mark.specs.Marks.{marked_piece}
use Rattle.list_mark.specs.MarkLaws.{unmarked}
use Rattle.list_mark.proofs.mark_piece.Goals as goal

pub returns-in-Target : goal.returns-in-Target
unfolding marked_piece
returns-in-Target c = c.put.ensures ∙ sym (ap (λ z. marked_piece z c.args.marks.now) c.in-Target.is)

pub returns-in-Variable : goal.returns-in-Variable
unfolding marked_piece
returns-in-Variable c = c.put-in-Variable.ensures ∙ sym (ap (λ z. marked_piece z c.args.marks.now) c.in-Variable.is)

pub returns-in_default : goal.returns-in_default
returns-in_default c = unmarked c.args.piece c.args.marks.now c.in_default.not-Target c.in_default.not-Variable
