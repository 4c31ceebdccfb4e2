use lib.ListN.{take}
use Rattle.paper.specs.Names.{names_in}
use Rattle.editor_list.proofs.ListLaws.{shown_so}
use Rattle.editor_list.proofs.show_sound.Goals as goal

pub returns : goal.returns
returns c =
    let args = c.args in
    shown_so args.line.now (names_in (take args.size args.names.now)) _ args.out.now _ _ _ c.size.ensures c.front-own.ensures c.list.ensures
