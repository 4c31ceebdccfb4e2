use Rattle.list_pieces.specs.NameLaws.{sound_numbered}
use Rattle.list_check.proofs.check_piece.Goals as goal

pub returns : goal.returns
returns c = c.check_kind.ensures _ (sound_numbered c.args.names.now c.args.size c.requires.2) c.kind_among-kind.ensures
