use Rattle.std.proofs.Common.{Err}
use mathlib.Core.Path.{ap, ◌∙◌}
use Rattle.enter_line.specs.ReadingLaws.{start_alone, start_number, start_great, start_blanks, start_without}
use Rattle.enter_line.proofs.start_of.Goals as goal

pub returns-then-run_end-text : goal.returns-then-run_end-text
returns-then-run_end-text c = start_alone c.args.direct c.args.text.now c.head_of.ensures c.in-Ok.is c.run_end.ensures.0 c.if-run_end-text.true

pub returns-else-run_end-text : goal.returns-else-run_end-text
returns-else-run_end-text c = start_number c.args.direct c.args.text.now c.head_of.ensures c.in-Ok.is c.run_end.ensures.0 c.if-run_end-text.false

pub returns-in-Err-TooGreat : goal.returns-in-Err-TooGreat
returns-in-Err-TooGreat c = start_great c.args.direct c.args.text.now c.head_of.ensures (c.in-Err-TooGreat.is ∙ ap Err c.in-Err-TooGreat.field-0-is)

pub returns-in-Err-OnlyBlanks : goal.returns-in-Err-OnlyBlanks
returns-in-Err-OnlyBlanks c = start_blanks c.args.direct c.args.text.now c.head_of.ensures (c.in-Err-OnlyBlanks.is ∙ ap Err c.in-Err-OnlyBlanks.field-0-is)

pub returns-in-Err-Unnumbered : goal.returns-in-Err-Unnumbered
returns-in-Err-Unnumbered c = start_without c.args.direct c.args.text.now c.head_of.ensures (c.in-Err-Unnumbered.is ∙ ap Err c.in-Err-Unnumbered.field-0-is) c.then_some.ensures
