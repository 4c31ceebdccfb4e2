use mathlib.Core.Path.{sym, ◌∙◌}
use Rattle.enter_scan.proofs.ScanLaws.{sees}
use Rattle.enter_item.specs.KindLaws.{own_seen}
use Rattle.enter_item.specs.SeesLaws.{next_of}
use Rattle.enter_item.proofs.see.Goals as goal

pub returns : goal.returns
returns c = let next-item = c.next_item-item in record { sees = (sees c.args.part.now c.args.at c.args.first c.requires next-item.ensures); next = λ o n. next_of (sees c.args.part.now c.args.at c.args.first c.requires next-item.ensures) o n; class = c.class_of-class.ensures ∙ sym (sees c.args.part.now c.args.at c.args.first c.requires next-item.ensures).classed; own = c.own_token-own.ensures ∙ sym (own_seen next-item.result.kind _ c.args.first) }
