use mathlib.Core.Path.{sym, ap, ◌∙◌}
use Rattle.buffers.specs.Runs.{test_of}
use Rattle.buffers.specs.declared.Run.{Run}
use Rattle.paper.specs.Bytes.{blank?}
use Rattle.paper.specs.Items.{raw_byte?}
use Rattle.buffers.proofs.passes.Goals as goal

pub returns-in-Blanks : goal.returns-in-Blanks
unfolding blank? raw_byte?
returns-in-Blanks c = sym (ap (λ (w : Run). test_of w c.args.b) c.in-Blanks.is)

pub returns-in-Digits : goal.returns-in-Digits
unfolding blank? raw_byte?
returns-in-Digits c = c.is_digit.ensures ∙ sym (ap (λ (w : Run). test_of w c.args.b) c.in-Digits.is)

pub returns-in-NameBytes : goal.returns-in-NameBytes
unfolding blank? raw_byte?
returns-in-NameBytes c = c.is_letter_or_digit.ensures ∙ sym (ap (λ (w : Run). test_of w c.args.b) c.in-NameBytes.is)

pub returns-in-StringBytes : goal.returns-in-StringBytes
unfolding blank? raw_byte?
returns-in-StringBytes c = c.is_string_byte.ensures ∙ sym (ap (λ (w : Run). test_of w c.args.b) c.in-StringBytes.is)

pub returns-in-RawBytes : goal.returns-in-RawBytes
unfolding blank? raw_byte?
returns-in-RawBytes c = sym (ap (λ (w : Run). test_of w c.args.b) c.in-RawBytes.is)
