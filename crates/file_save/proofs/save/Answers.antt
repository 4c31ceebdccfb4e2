use Rattle.laws.specs.Tests.{as_T}
use Prim.Native.Nat.{◌+◌, ◌*◌}
use native.Mathlib.Omega.{arith}
use mathlib.Core.Path.{◌≡◌, sym, ◌∙◌}
use Rattle.file_save.proofs.WriteLaws.{saved_1, counts_within, fitting, saved_8_words, saved_8_buffer, saved_0}
use Rattle.file_save.proofs.save.Goals as goal
use Rattle.file_save.proofs.save.Goals.{then-size-gt-MOST-via-then-size-gt-MOST, then-size-gt-MOST-via-else-size-gt-MOST+then-out-size}

pub returns-then-not-sound : goal.returns-then-not-sound
returns-then-not-sound c = saved_1 c.args.names.now c.args.values.now c.args.store.now c.args.e c.args.out.now (sym (c.if-not-sound.true) ∙ c.sound.ensures)

pub overflow_mul-e : goal.overflow_mul-e
overflow_mul-e c = omega (arith, counts_within c.args.names.now c.args.values.now c.args.store.now c.args.e c.args.out.now (as_T _ (sym c.sound.ensures ∙ c.if-not-sound.false)))

pub overflow_add-e : goal.overflow_add-e
overflow_add-e c = omega (arith, counts_within c.args.names.now c.args.values.now c.args.store.now c.args.e c.args.out.now (as_T _ (sym c.sound.ensures ∙ c.if-not-sound.false)))

pub returns-then-size-gt-MOST : goal.returns-then-size-gt-MOST
returns-then-size-gt-MOST c =
    let sound = as_T _ (sym c.sound.ensures ∙ c.if-not-sound.false) in
    elim c.then-size-gt-MOST.branch [
      | then-size-gt-MOST-via-then-size-gt-MOST w ↦ saved_8_words c.args.names.now c.args.values.now c.args.store.now c.args.e c.args.out.now sound (omega (arith, c.saturating_add-size.ensures))
      | then-size-gt-MOST-via-else-size-gt-MOST+then-out-size w ↦
          let fits = fitting c.args.names.now c.args.values.now c.args.store.now c.args.e c.args.out.now sound (omega (arith, c.saturating_add-size.ensures)) in
          saved_8_buffer c.args.names.now c.args.values.now c.args.store.now c.args.e c.args.out.now sound fits (omega (arith, c.saturating_add-size.ensures))
    ]

pub put_block-requires : goal.put_block-requires
put_block-requires c = fitting c.args.names.now c.args.values.now c.args.store.now c.args.e c.args.out.now (as_T _ (sym c.sound.ensures ∙ c.if-not-sound.false)) (omega (arith, c.saturating_add-size.ensures))

pub returns : goal.returns
returns c =
    let sound = as_T _ (sym c.sound.ensures ∙ c.if-not-sound.false) in
    let fits = fitting c.args.names.now c.args.values.now c.args.store.now c.args.e c.args.out.now sound (omega (arith, c.saturating_add-size.ensures)) in
    let size : c.saturating_add-size.result ≡ c.args.e.name_bytes + 8 * c.args.e.name_count + c.args.e.used = omega (arith, c.saturating_add-size.ensures) in
    rw size (saved_0 c.args.names.now c.args.values.now c.args.store.now c.args.e c.args.out.now sound fits (omega (arith, size)) _ _ c.put_words.ensures c.put_block.ensures)
