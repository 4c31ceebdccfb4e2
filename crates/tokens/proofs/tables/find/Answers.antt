use mathlib.Core.Path.{sym, ◌∙◌}
use native.Mathlib.Omega.{arith}
use lib.ListN.{drop, get_or}
use Rattle.tokens.proofs.Search.{total_step, stands_is, hit, miss, done}
use Rattle.tokens.proofs.tables.find.Goals as goal

pub slice_bounds-is_word-end : goal.slice_bounds-is_word-end
slice_bounds-is_word-end c =
    let a = c.args in
    let l = c.loop-size in
    omega (arith, total_step a.lengths.now a.words.now a.name.now l.size-index l.from l.token c.loop-size-test.true)

pub returns-then-is_word : goal.returns-then-is_word
returns-then-is_word c =
    let a = c.args in
    let l = c.loop-size in
    let w = rw c.from.ensures at c.is_word.ensures in
    hit a.lengths.now a.words.now a.name.now l.size-index l.from l.token c.loop-size-test.true l.invariant.3
    (sym (stands_is a.words.now a.name.now l.from (get_or a.lengths.now l.size-index 0) (omega (arith, total_step a.lengths.now a.words.now a.name.now l.size-index l.from l.token c.loop-size-test.true)) w) ∙ c.if-is_word.true)

pub loop-size-preserved : goal.loop-size-preserved
loop-size-preserved c =
    let a = c.args in
    let l = c.loop-size in
    let w = rw c.from.ensures at c.is_word.ensures in
    let step = total_step a.lengths.now a.words.now a.name.now l.size-index l.from l.token c.loop-size-test.true in
    rw c.from.ensures (
      omega arith,
      omega (arith, step),
      omega arith,
      miss a.lengths.now a.words.now a.name.now l.size-index l.from l.token c.loop-size-test.true l.invariant.3
          (sym (stands_is a.words.now a.name.now l.from (get_or a.lengths.now l.size-index 0) (omega (arith, step)) w) ∙ c.if-is_word.false),
    )

pub returns : goal.returns
returns c = done c.args.lengths.now (drop c.loop-size.from c.args.words.now) c.args.name.now c.loop-size.size-index c.loop-size.token (omega arith) c.loop-size.invariant.3
