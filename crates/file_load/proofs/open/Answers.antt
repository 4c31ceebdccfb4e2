use mathlib.Core.Path.{sym, ◌∙◌}
use native.Mathlib.Omega.{arith}
use Rattle.file_load.specs.WordLaws.{opened_short, opened_first, opened_wrong, opened_right}
use Rattle.file_load.proofs.open.Goals as goal
use Rattle.file_load.proofs.open.Goals.{then-file-lt-HEAD-via-then-file-lt-HEAD, then-file-lt-HEAD-via-else-file-lt-HEAD+then-word-ne0}

pub returns-then-file-lt-HEAD : goal.returns-then-file-lt-HEAD
returns-then-file-lt-HEAD c =
    elim c.then-file-lt-HEAD.branch [
      | then-file-lt-HEAD-via-then-file-lt-HEAD w ↦ opened_short c.args.file.now (omega arith)
      | then-file-lt-HEAD-via-else-file-lt-HEAD+then-word-ne0 w ↦ opened_first c.args.file.now (λ z. w.if-word-ne0.true (w.word.ensures.0 ∙ z)) (omega arith)
    ]

pub returns-then-not-words_right : goal.returns-then-not-words_right
returns-then-not-words_right c = opened_wrong c.args.file.now (sym c.word.ensures.0 ∙ c.if-word-ne0.false) (omega arith) (sym c.words_right.ensures ∙ c.if-not-words_right.true)

pub returns : goal.returns
returns c = opened_right c.args.file.now (sym c.word.ensures.0 ∙ c.if-word-ne0.false) (omega arith) (sym c.words_right.ensures ∙ c.if-not-words_right.false) _ c.tables.ensures
