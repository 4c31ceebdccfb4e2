-- The numbers that fit are all that are written.
use Rattle.std.proofs.Common.{ap, ◌∙◌, ◌≡◌, length, length-take-le, arith}
use Rattle.std.proofs.lemmas.List.Edits.{sets}
use Rattle.buffers.specs.Sets.{sets_cut}
use Rattle.buffers.proofs.Room.{put_over}
use Rattle.tag_numbers.proofs.write_numbers.Goals as goal

pub returns : goal.returns
returns c =
    let a = c.args in
    let size = c.min-size.result in
    let written = c.copy_from_slice.ensures.after in
    let sized : length c.copy_from_slice.new.self ≡ size = ap length written ∙ length-take-le size a.numbers.now (omega (arith, c.min-size.ensures)) in
    put_over a.out.now c.copy_from_slice.new.self 0 size (omega (arith, sized)) (omega (arith, c.min-size.ensures))
    ∙ ap (sets a.out.now 0) written ∙ sets_cut a.out.now 0 size a.numbers.now (λ l. omega (arith, c.min-size.ensures))
