use Rattle.enter_scan.proofs.ScanLaws.{rest_part}
use mathlib.Core.Path.{refl, sym, ap, ◌∙◌}
use Rattle.enter_error.specs.Keeps.{keeps?}
use Rattle.enter_line.specs.ReadingLaws.{ends_seen}
use Rattle.enter_line.specs.RefusedLaws.{not_kept, is_kept}
use Rattle.enter_line.proofs.refused.Goals as goal

pub returns-then-not-keeps : goal.returns-then-not-keeps
returns-then-not-keeps c = not_kept (ends_seen c.args.text.now c.item_at-item.ensures refl) (ap (λ k. keeps? c.args.keep c.args.text.now c.args.numbered.number k c.args.at.place) (sym c.number.ensures) ∙ sym c.keeps.ensures ∙ c.if-not-keeps.true)

pub returns : goal.returns
returns c = is_kept (ends_seen c.args.text.now c.item_at-item.ensures refl) (ap (λ k. keeps? c.args.keep c.args.text.now c.args.numbered.number k c.args.at.place) (sym c.number.ensures) ∙ sym c.keeps.ensures ∙ c.if-not-keeps.false) c.requires.1 c.requires.2 (rest_part c.args.text.now c.args.numbered.from) c.write_error_line-size.ensures
