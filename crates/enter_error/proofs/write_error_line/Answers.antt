use native.Mathlib.Omega.{arith}
use mathlib.Core.Path.{refl, ap, ◌∙◌}
use Rattle.std.proofs.Math.Seq.{sets}
use Rattle.paper.specs.Errors.{flipped}
use Rattle.enter_error.specs.ErrorLaws.{sized, two_bytes, error_written}
use Rattle.enter_error.proofs.write_error_line.Goals as goal

pub overflow_add-size : goal.overflow_add-size
overflow_add-size c = omega (arith, sized c.args.line.now c.args.text.now c.args.number c.args.place c.requires.0 c.requires.1 c.requires.2 _ c.marked_size-size.ensures)

pub overflow_add-place : goal.overflow_add-place
overflow_add-place c = omega (arith, c.requires.1, c.requires.2)

pub returns : goal.returns
returns c = error_written c.args.line.now c.args.text.now c.args.number c.args.place c.requires.0 c.requires.1 c.requires.2 (omega (arith, c.put-arg-1.given)) c.marked_size-size.ensures (c.flip-mark.ensures ∙ ap flipped c.byte_or_blank.ensures) refl refl (c.copy.ensures ∙ ap (sets c.args.line.now 0) (c.to_le_bytes.ensures ∙ two_bytes c.args.number)) refl c.put.ensures c.low_byte.ensures c.put-2.ensures c.low_byte-2.ensures c.put-3.ensures c.copy-2.ensures c.put-4.ensures c.put-5.ensures
