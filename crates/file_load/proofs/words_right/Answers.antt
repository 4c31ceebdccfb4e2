use lib.ListN.{length, get_or}
use lib.Dec.{eqb}
use mathlib.Core.List.{List}
use mathlib.Core.Path.{sym, ap, ap₂, ◌∙◌}
use Prim.Native.Nat.{ℕ, ◌+◌, ◌-◌}
use native.Mathlib.Omega.{arith}
use Rattle.file_load.specs.WordLaws.{rising, block_is, not_rising, not_long, not_past, zero_decides}
use Rattle.file_load.proofs.words_right.Goals as goal

pub returns-then-not-words_never_fall : goal.returns-then-not-words_never_fall
returns-then-not-words_never_fall c = not_rising c.args.file.now (sym c.words_never_fall.ensures ∙ c.if-not-words_never_fall.true)

pub overflow_sub-word : goal.overflow_sub-word
overflow_sub-word c = let r = rising c.args.file.now (sym c.words_never_fall.ensures ∙ c.if-not-words_never_fall.false) in omega (arith, r.names, r.names_end, r.values, r.statements, r.current, c.word-from.ensures.0, c.word.ensures.0)

pub returns-then-block-word : goal.returns-then-block-word
returns-then-block-word c = not_long c.args.file.now (λ z. c.if-block-word.true (ap length (block_is c.args.file.now) ∙ z ∙ ap₂ (λ (x y : ℕ). x - y) (sym c.word.ensures.0) (sym c.word-from.ensures.0)))

pub returns-then-word-names_end : goal.returns-then-word-names_end
returns-then-word-names_end c = not_past c.args.file.now (λ z. c.if-word-names_end.true (c.word-2.ensures.0 ∙ z ∙ ap (λ (x : ℕ). x + 1) (sym c.word-names_end.ensures.0)))

pub overflow_sub-result : goal.overflow_sub-result
overflow_sub-result c = let r = rising c.args.file.now (sym c.words_never_fall.ensures ∙ c.if-not-words_never_fall.false) in omega (arith, r.names, c.word-from.ensures.0, c.word-names_end.ensures.0)

pub bounds-block-names_end : goal.bounds-block-names_end
bounds-block-names_end c = let r = rising c.args.file.now (sym c.words_never_fall.ensures ∙ c.if-not-words_never_fall.false) in omega (arith, r.names, r.names_end, r.values, r.statements, r.current, c.word-from.ensures.0, c.word-names_end.ensures.0, c.word.ensures.0, c.word-2.ensures.0, c.if-block-word.false, c.if-word-names_end.false)

pub returns : goal.returns
returns c = ap₂ (λ (l : List ℕ) (k : ℕ). eqb (get_or l k 0) 0) (block_is c.args.file.now) (ap₂ (λ (x y : ℕ). x - y) c.word-names_end.ensures.0 c.word-from.ensures.0) ∙ zero_decides c.args.file.now (sym c.words_never_fall.ensures ∙ c.if-not-words_never_fall.false) (sym (ap length (block_is c.args.file.now)) ∙ c.if-block-word.false ∙ ap₂ (λ (x y : ℕ). x - y) c.word.ensures.0 c.word-from.ensures.0) (sym c.word-2.ensures.0 ∙ c.if-word-names_end.false ∙ ap (λ (x : ℕ). x + 1) c.word-names_end.ensures.0)
