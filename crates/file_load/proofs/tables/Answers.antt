use mathlib.Core.Path.{◌≡◌, ap, ap₂, ◌∙◌}
use Rattle.std.specs.Prelude.{Some, None, Ok}
use Rattle.std.proofs.lemmas.Result.{err_from_is_err_and}
use Rattle.refusals.specs.declared.Refusal.TheVariants.{Unsound}
use Prim.Native.Nat.{ℕ, ◌-◌}
use Rattle.file_load.specs.TableLaws.{within, refused_uneven, refused_names, refused_lines, held}
use native.Mathlib.Omega.{arith}
use Rattle.file_load.specs.TableLaws.{within, refused_uneven}
use Rattle.file_load.specs.WordLaws.{right}
use Rattle.file_load.proofs.tables.Goals as goal

pub overflow_sub-name_bytes : goal.overflow_sub-name_bytes
overflow_sub-name_bytes c = omega (arith, (right c.args.file.now c.requires.1).rise.names, c.word.ensures.0, c.word-2.ensures.0)

pub overflow_sub-value_bytes : goal.overflow_sub-value_bytes
overflow_sub-value_bytes c = omega (arith, (right c.args.file.now c.requires.1).rise.values, c.word-3.ensures.0, c.word-4.ensures.0)

pub returns-then-value_bytes-name_count : goal.returns-then-value_bytes-name_count
returns-then-value_bytes-name_count c = refused_uneven c.args.file.now (right c.args.file.now c.requires.1) (c.word.result - c.word-2.result) (c.word-3.result - c.word-4.result) (ap₂ (λ (x y : ℕ). x - y) c.word.ensures.0 c.word-2.ensures.0) (ap₂ (λ (x y : ℕ). x - y) c.word-3.ensures.0 c.word-4.ensures.0) c.if-value_bytes-name_count.true

pub slice_bounds-sound-end : goal.slice_bounds-sound-end
slice_bounds-sound-end c = omega (arith, within c.args.file.now (right c.args.file.now c.requires.1) c.requires.0, c.word.ensures.0, c.word-2.ensures.0)

pub returns-then-not-sound : goal.returns-then-not-sound
returns-then-not-sound c = refused_names c.args.file.now (right c.args.file.now c.requires.1) (c.word.result - c.word-2.result) (c.word-3.result - c.word-4.result) (ap₂ (λ (x y : ℕ). x - y) c.word.ensures.0 c.word-2.ensures.0) (ap₂ (λ (x y : ℕ). x - y) c.word-3.ensures.0 c.word-4.ensures.0) c.if-value_bytes-name_count.false _ c.sound.ensures (c.if-not-sound.true)

pub slice_bounds-program_counts-count : goal.slice_bounds-program_counts-count
slice_bounds-program_counts-count c = omega (arith, within c.args.file.now (right c.args.file.now c.requires.1) c.requires.0, c.word.ensures.0, c.word-2.ensures.0, c.word-3.ensures.0, c.word-4.ensures.0)

pub slice_bounds-program_counts-start : goal.slice_bounds-program_counts-start
slice_bounds-program_counts-start c = omega (arith, within c.args.file.now (right c.args.file.now c.requires.1) c.requires.0, c.word.ensures.0, c.word-2.ensures.0, c.word-3.ensures.0, c.word-4.ensures.0)

pub returns-in_err-counts : goal.returns-in_err-counts
returns-in_err-counts c =
    let p = err_from_is_err_and c.from_residual.result c.from_residual.ensures.1 in
    let none : c.program_counts.result ≡ None = grind arith in
    let why : c.in_err-counts.field-0.0 ≡ Unsound = grind arith in
    rw (p.1, p.2, why) (refused_lines c.args.file.now (right c.args.file.now c.requires.1) (c.word.result - c.word-2.result) (c.word-3.result - c.word-4.result) (ap₂ (λ (x y : ℕ). x - y) c.word.ensures.0 c.word-2.ensures.0) (ap₂ (λ (x y : ℕ). x - y) c.word-3.ensures.0 c.word-4.ensures.0) c.if-value_bytes-name_count.false _ c.sound.ensures _ c.program_counts.ensures none)

pub returns : goal.returns
returns c =
    let some : c.program_counts.result ≡ Some c.in_ok-counts.counts = grind arith in
    ap Ok c.with_counts.ensures ∙ held c.args.file.now (right c.args.file.now c.requires.1) (c.word.result - c.word-2.result) (c.word-3.result - c.word-4.result) (ap₂ (λ (x y : ℕ). x - y) c.word.ensures.0 c.word-2.ensures.0) (ap₂ (λ (x y : ℕ). x - y) c.word-3.ensures.0 c.word-4.ensures.0) c.if-value_bytes-name_count.false _ c.sound.ensures _ c.program_counts.ensures (c.if-not-sound.false) c.in_ok-counts.counts some
