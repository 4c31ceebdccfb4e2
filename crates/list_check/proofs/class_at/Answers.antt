use mathlib.Core.Path.{sym, ◌∙◌}
use lib.ListN.{take}
use Rattle.paper.specs.Names.{names_in}
use Rattle.names_kinds.specs.Kinds.{kind_class}
use Rattle.list_pieces.specs.NameLaws.{there, not_there}
use Rattle.list_check.proofs.Walking.{class_none}
use Rattle.list_check.proofs.class_at.Goals as goal

pub returns-then-name : goal.returns-then-name
returns-then-name c = class_none (names_in (take c.args.size c.args.names.now)) c.args.number (not_there c.args.names.now c.args.size c.requires c.name_at-name.ensures c.if-name.true)

pub returns : goal.returns
returns c = c.name_at-name.ensures.class ∙ sym (kind_class (names_in (take c.args.size c.args.names.now)) c.args.number (there c.args.names.now c.args.size c.requires c.name_at-name.ensures c.if-name.false))
