use Rattle.names_sound.proofs.Soundness.{all_sound, no_end, too_many, too_short}
use Rattle.names_sound.proofs.sound_table.Goals as goal

pub returns-then-names-size : goal.returns-then-names-size
returns-then-names-size c = too_short c.args.names.now c.args.size _ c.if-names-size.true

pub returns-then-count-gt-MOST_NAMES : goal.returns-then-count-gt-MOST_NAMES
returns-then-count-gt-MOST_NAMES c = too_many c.args.names.now c.args.size _ c.if-count-gt-MOST_NAMES.true

pub returns-then-not-is_closed : goal.returns-then-not-is_closed
returns-then-not-is_closed c = no_end c.args.names.now c.args.size _ c.if-names-size.false c.if-count-gt-MOST_NAMES.false c.is_closed.ensures (c.if-not-is_closed.true)

pub returns : goal.returns
returns c = all_sound c.args.names.now c.args.size _ c.if-names-size.false c.if-count-gt-MOST_NAMES.false c.is_closed.ensures (c.if-not-is_closed.false) c.are_lawful.ensures
