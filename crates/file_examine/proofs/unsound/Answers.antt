-- `unsound` meets its contract: names, and then values, are tested as the parts of the file.
use Prim.Native.Nat.{ℕ, ◌-◌}
use native.Mathlib.Omega.{arith}
use mathlib.Core.Path.{ap₂}
use Rattle.editor_examine.specs.Verdicts.{verdict}
use Rattle.file_examine.specs.ExamineLaws.{words, inside, tells_names, tells_values, tells_lines}
use Rattle.file_examine.proofs.unsound.Goals as goal

pub overflow_sub-name_bytes : goal.overflow_sub-name_bytes
overflow_sub-name_bytes c = omega (arith, (words c.args.file.now c.requires).rise.names, c.word.ensures.0, c.word-2.ensures.0)

pub overflow_sub-value_bytes : goal.overflow_sub-value_bytes
overflow_sub-value_bytes c = omega (arith, (words c.args.file.now c.requires).rise.values, c.word-3.ensures.0, c.word-4.ensures.0)

pub slice_bounds-names-end : goal.slice_bounds-names-end
slice_bounds-names-end c = omega (arith, inside c.args.file.now c.requires, c.word.ensures.0, c.word-2.ensures.0)

pub returns-then-not-sound_table : goal.returns-then-not-sound_table
unfolding verdict
returns-then-not-sound_table c = tells_names c.args.file.now c.requires (c.word.result - c.word-2.result) (c.word-3.result - c.word-4.result) c.ends-count.result (ap₂ (λ (x y : ℕ). x - y) c.word.ensures.0 c.word-2.ensures.0) (ap₂ (λ (x y : ℕ). x - y) c.word-3.ensures.0 c.word-4.ensures.0) c.ends-count.ensures.0 _ c.sound_table.ensures (c.if-not-sound_table.true)

pub returns-then-value_bytes-count : goal.returns-then-value_bytes-count
unfolding verdict
returns-then-value_bytes-count c = tells_values c.args.file.now c.requires (c.word.result - c.word-2.result) (c.word-3.result - c.word-4.result) c.ends-count.result (ap₂ (λ (x y : ℕ). x - y) c.word.ensures.0 c.word-2.ensures.0) (ap₂ (λ (x y : ℕ). x - y) c.word-3.ensures.0 c.word-4.ensures.0) c.ends-count.ensures.0 _ c.sound_table.ensures (c.if-not-sound_table.false) c.if-value_bytes-count.true

pub returns : goal.returns
unfolding verdict
returns c = tells_lines c.args.file.now c.requires (c.word.result - c.word-2.result) (c.word-3.result - c.word-4.result) c.ends-count.result (ap₂ (λ (x y : ℕ). x - y) c.word.ensures.0 c.word-2.ensures.0) (ap₂ (λ (x y : ℕ). x - y) c.word-3.ensures.0 c.word-4.ensures.0) c.ends-count.ensures.0 _ c.sound_table.ensures (c.if-not-sound_table.false) c.if-value_bytes-count.false
